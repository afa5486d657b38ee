-- HTML standard, section 13.2.6.4.10, the "in table text" insertion mode: each of its rows is lawful.
use Rattle.std.proofs.Common.{◌∙◌, ◌∷◌, ◌≡◌, ◌≢◌, Bool, List, Some, [], ap, false, if◌then◌else◌, refl, subst, sym, true, unwrap_or, ℕ}
use Rattle.h5_names.specs.declared.known_name.KnownName.TheVariants.{Col, Html, Table, Tr}
use Rattle.h5_token.specs.declared.tag.TagKind.{TagKind}
use Rattle.h5_token.specs.declared.tag.TagKind.TheVariants.{EndTag, StartTag}
use Rattle.h5_interface.specs.SinkChoices.{SinkChoices}
use Rattle.h5_tables.specs.TagSets.{cell_names, is_one_of}
use Rattle.h5_tables.specs.TurnText.{CommentTurn, EofTurn, NullTurn, TagTurn, TextTurn, TurnText}
use Rattle.h5_tables.specs.declared.modes.InsertionMode.{InsertionMode}
use Rattle.h5_tables.specs.declared.modes.InsertionMode.TheVariants.{InTable, InTableText}
use Rattle.h5_tables.specs.declared.modes.SplitStatus.TheVariants.{NotSplit}
use Rattle.h5_builder_spec.specs.Blanks.{all_blank}
use Rattle.h5_builder_spec.specs.ByName.{named}
use Rattle.h5_builder_spec.specs.Changes.{append_pending_text, append_text, set_foster, set_frameset_ok_by_text, take_pending_text}
use Rattle.h5_builder_spec.specs.Rows.{AppendText, IsDone, ReconstructActiveFormattingElements, Row, SetFoster, SetFramesetOkByText, apply_all, choose, row}
use Rattle.h5_builder_spec.specs.Sound.{situation_of}
use Rattle.h5_builder_spec.specs.World.{World, names_of}
use Rattle.h5_builder_spec.specs.formatting.Formatting.{reconstruct_active_formatting_elements}
use Rattle.h5_builder_spec.specs.modes.InBody.{in_body}
use Rattle.h5_builder_spec.specs.modes.InTableText.{in_table_text, in_table_text_else, pending_text, saved_mode}
use Rattle.h5_builder_spec.specs.modes.Tables.{foster}
use Rattle.h5_builder_spec.proofs.changes.ListsLaws.{IsSteady, steady_changes}
use Rattle.h5_builder_spec.proofs.changes.NameLaws.{names-append}
use Rattle.h5_builder_spec.proofs.changes.SituationLaws.{situation_frameset, situation_reconstruct, situation_text}
use Rattle.h5_builder_spec.proofs.fitting.NamesFitLaws.{names_table_text_ended}
use Rattle.h5_builder_spec.proofs.modes.ReadyInLaws.{ReadyIn, in_foster, in_frameset_text, in_reconstruct, in_text, ready_in}
use Rattle.h5_builder_spec.proofs.rows.ByNameLaws.{holds_chosen}
use Rattle.h5_builder_spec.proofs.rows.KeptLaws.{FitsAs, as_before}
use Rattle.h5_builder_spec.proofs.rows.ListedLaws.{AllListable}
use Rattle.h5_builder_spec.proofs.rows.RowTexts.{NoText}
use Rattle.h5_builder_laws.proofs.LawfulRow.{IsLawfulFor, fostered_told, lawful_ignored, lawful_row}
use Rattle.h5_builder_spec.proofs.fitting.NamesBodyLaws.{table_goes}
use Rattle.h5_builder_laws.proofs.turns.AgainLaws.{kind_of_end, kind_of_start, kind_of_tag, kind_of_turn, part_end_names, part_names}
use Rattle.h5_builder_laws.proofs.turns.Ranks.{CellTurns, ColTurns, EndHtmlTurns, EndPartTurns, OtherTurns, PartTurns, RowTurns, StartTableTurns}
use Rattle.h5_builder_laws.proofs.turns.RowEdges.{TakesPending}
use Rattle.h5_builder_laws.proofs.turns.RankWeightLaws.{is_text}

tag_no_text : (k : TagKind) (name : List ℕ) → is_text (kind_of_tag k name) ≡ false
unfolding kind_of_start kind_of_end
tag_no_text StartTag name = at (named Table name) (is_one_of cell_names name) (named Tr name) (named Col name) (is_one_of part_names name)
  where
    at : (a b c d e : Bool) → is_text (if a then StartTableTurns else (if b then CellTurns else (if c then RowTurns else (if d then ColTurns else (if e then PartTurns else OtherTurns))))) ≡ false
    at true b c d e = refl
    at false true c d e = refl
    at false false true d e = refl
    at false false false true e = refl
    at false false false false true = refl
    at false false false false false = refl
tag_no_text EndTag name = at (named Html name) (is_one_of part_end_names name)
  where
    at : (a b : Bool) → is_text (if a then EndHtmlTurns else (if b then EndPartTurns else OtherTurns)) ≡ false
    at true b = refl
    at false true = refl
    at false false = refl

module _ (choices : SinkChoices) (w : World) (k : IsSteady w) where
  -- the text is put where it came
  pending : (p : List ℕ) → FitsAs InTableText w → IsSteady (apply_all choices (pending_text p w).changes (take_pending_text w))
  unfolding pending_text
  pending [] h = record { sound = k.sound; lists = k.lists }
  pending (b ∷ x) h =
      let u = take_pending_text w in
      let text : List ℕ = b ∷ x in
      let some : text ≢ [] = λ e. cc in
      let steady : IsSteady u = record { sound = k.sound; lists = k.lists } in
      holds_chosen (λ r. IsSteady (apply_all choices r.changes (take_pending_text w))) (all_blank text) (row (AppendText text ∷ []) IsDone) (foster in_body (TextTurn NotSplit text) w)
      (λ e. steady_changes choices (AppendText text ∷ []) u (some, tt) steady)
      (λ e. steady_changes choices (SetFoster true ∷ ReconstructActiveFormattingElements ∷ SetFramesetOkByText text ∷ AppendText text ∷ SetFoster false ∷ []) u (tt, (tt, (tt, (some, (tt, tt))))) steady)

  abbrev Back : Row → Type 0
  Back r = FitsAs (saved_mode (apply_all choices r.changes (take_pending_text w))) (apply_all choices r.changes (take_pending_text w))

  by_saved : (k : InsertionMode) (v : World) → v.saved_mode ≡ Some k → FitsAs k v → FitsAs (saved_mode v) v
  by_saved k v e f = subst (λ j. FitsAs j v) (sym (ap (λ o. unwrap_or o InTable) e)) f

  -- the text is put where it came, and the mode that was left fits again
  back : (p : List ℕ) → FitsAs InTableText w → Back (pending_text p w)
  unfolding pending_text names_of
  back [] h = let t = names_table_text_ended (situation_of w) (names_of w) h in by_saved t.mode (take_pending_text w) t.saved t.fit
  back (b ∷ x) h =
      let text : List ℕ = b ∷ x in
      let t = names_table_text_ended (situation_of w) (names_of w) h in
      let u = take_pending_text w in
      let on = set_foster true u in
      let new = reconstruct_active_formatting_elements choices on in
      let flag = set_frameset_ok_by_text text new in
      let some : text ≢ [] = λ e. cc in
      let goes = table_goes t.mode t.is_table in
      let first : ReadyIn t.mode on = in_foster t.mode goes true u (ready_in t.mode goes u (record { sound = k.sound; lists = k.lists }) t.fit) in
      let second : ReadyIn t.mode flag = in_frameset_text t.mode goes text new (in_reconstruct choices t.mode goes on first) in
      let third : ReadyIn t.mode (set_foster false (append_text text flag)) = in_foster t.mode goes false (append_text text flag) (in_text t.mode goes text flag some second) in
      holds_chosen Back (all_blank text) (row (AppendText text ∷ []) IsDone) (foster in_body (TextTurn NotSplit text) w)
      (λ e. by_saved t.mode (append_text text u) ((situation_text u text some k.sound).saved ∙ t.saved) (as_before t.mode u (append_text text u) k.sound (situation_text u text some k.sound) (names-append text u some k.sound) t.fit))
      (λ e. by_saved t.mode (set_foster false (append_text text flag))
      ((situation_text flag text some second.ready.sound).saved ∙ (situation_frameset new text).saved ∙ (situation_reconstruct choices on k.sound).saved ∙ t.saved) third.fit)

-- buffered text doesn't lead to the mode "text"
pending_rows : (p : List ℕ) (w : World) → AllListable (pending_text p w).changes × NoText (pending_text p w).changes
unfolding pending_text
pending_rows [] w = (tt, tt)
pending_rows (b ∷ t) w = at (all_blank (b ∷ t))
  where
    at : (c : Bool) → AllListable (choose c (row (AppendText (b ∷ t) ∷ []) IsDone) (foster in_body (TextTurn NotSplit (b ∷ t)) w)).changes × NoText (choose c (row (AppendText (b ∷ t) ∷ []) IsDone) (foster in_body (TextTurn NotSplit (b ∷ t)) w)).changes
    at true = (tt, tt)
    at false = fostered_told in_body (TextTurn NotSplit (b ∷ t)) w (tt, tt)

else_lawful : (t : TurnText) (w : World) → is_text (kind_of_turn t) ≡ false → IsLawfulFor t InTableText w (in_table_text_else t w)
unfolding in_table_text_else
else_lawful t w other = record {
  steady = λ choices s same some h. pending choices w s w.pending h;
  fits = λ choices s same some h. back choices w s w.pending h;
  told = λ n. let p = pending_rows w.pending w in (p.0, (p.1, (λ v h. h.0)));
  silent = λ n h. tt;
  leads = TakesPending refl other refl refl;
}

pub lawful_in_table_text : (t : TurnText) (w : World) → IsLawfulFor t InTableText w (in_table_text t w)
unfolding append_pending_text names_of
lawful_in_table_text (TagTurn tag) w = else_lawful (TagTurn tag) w (tag_no_text tag.kind tag.name)
lawful_in_table_text (CommentTurn x) w = else_lawful (CommentTurn x) w refl
lawful_in_table_text (TextTurn status x) w = lawful_row _ (tt, tt) (λ choices s h. h) (tt, tt) tt tt
lawful_in_table_text NullTurn w = lawful_ignored
lawful_in_table_text EofTurn w = else_lawful EofTurn w refl

-- HTML standard, section 13.2.6.4.8, the "text" insertion mode: each of its rows is lawful.
use Rattle.std.proofs.Common.{◌++◌, ◌∙◌, ◌∷◌, ◌≡◌, Bool, [], ap, codes, false, if◌then◌else◌, refl, subst, sym, true, unwrap_or}
use Rattle.h5_names.specs.AttributeText.{is_same_text}
use Rattle.h5_token.specs.Reply.{RunsScript}
use Rattle.h5_token.specs.TokenText.{TagText}
use Rattle.h5_token.specs.declared.tag.TagKind.{TagKind}
use Rattle.h5_token.specs.declared.tag.TagKind.TheVariants.{EndTag, StartTag}
use Rattle.h5_interface.proofs.MakingLaws.{mark_rearranges}
use Rattle.h5_interface.specs.SinkChoices.{SinkChoices}
use Rattle.h5_tables.specs.TurnText.{CommentTurn, EofTurn, NullTurn, TagTurn, TextTurn, TurnText}
use Rattle.h5_tables.specs.declared.modes.InsertionMode.TheVariants.{InTable, Text}
use Rattle.h5_builder_spec.specs.ByName.{by_kind}
use Rattle.h5_builder_spec.specs.Changes.{mark_started, pop}
use Rattle.h5_builder_spec.specs.Rows.{AgainBy, Answers, IsDone, MarkStarted, Pop, SetMode, errs, ignored, row}
use Rattle.h5_builder_spec.specs.Sound.{Sound, situation_of}
use Rattle.h5_builder_spec.specs.World.{World, current, names_of}
use Rattle.h5_builder_spec.specs.inner.NamesFit.{NamesFit}
use Rattle.h5_builder_spec.specs.modes.InTableText.{saved_mode}
use Rattle.h5_builder_spec.specs.modes.Shared.{current_is}
use Rattle.h5_builder_spec.specs.modes.TextMode.{text_end, text_mode}
use Rattle.h5_builder_spec.specs.stack.Scope.{later_names}
use Rattle.h5_builder_spec.proofs.changes.ListsLaws.{NeedsOfAll, steady_changes}
use Rattle.h5_builder_spec.proofs.changes.NameLaws.{names_kept}
use Rattle.h5_builder_spec.proofs.changes.PopLaws.{names-pop}
use Rattle.h5_builder_spec.proofs.changes.SituationLaws.{KeepsSituation, situation_forest, situation_pop, situation_then}
use Rattle.h5_builder_spec.proofs.fitting.NamesFitLaws.{names_text_popped}
use Rattle.h5_builder_spec.proofs.rows.EndingLaws.{Stops}
use Rattle.h5_builder_spec.proofs.rows.KeptLaws.{FitsAs, Kept, fits_at}
use Rattle.h5_builder_laws.proofs.LawfulRow.{IsLawfulFor, IsLawfulTag, lawful_ignored}
use Rattle.h5_builder_laws.proofs.modes.SharedRows.{text_row_lawful}
use Rattle.h5_builder_laws.proofs.turns.AgainLaws.{kind_of_end}
use Rattle.h5_builder_laws.proofs.turns.RowEdges.{EndsText, stops}

module _ (choices : SinkChoices) (w : World) (sound : Sound w) where
  -- the element is left: the mode that was left for it fits again
  text_left : (v : World) → KeepsSituation w v → names_of v ≡ later_names (names_of w) → FitsAs Text w → FitsAs (saved_mode w) v
  text_left v s e h =
      let below = names_text_popped (situation_of w) (names_of w) h in
      subst (λ k. FitsAs k v) (sym (ap (λ o. unwrap_or o InTable) below.saved)) (fits_at below.mode w v sound s (subst (NamesFit (situation_of w) below.mode) (sym e) below.fit))

  -- a script is marked: names and situation stay
  started_names : names_of (mark_started choices w) ≡ names_of w
  unfolding mark_started names_of
  started_names = names_kept w _ sound (mark_rearranges w.forest (choices.marks_after_started w.forest (current w)) sound.stands.is_forest)

  started_situation : KeepsSituation w (mark_started choices w)
  unfolding mark_started
  started_situation = situation_forest w _ (mark_rearranges w.forest (choices.marks_after_started w.forest (current w)) sound.stands.is_forest)

  popped : FitsAs Text w → FitsAs (saved_mode w) (pop choices w)
  popped = text_left (pop choices w) (situation_pop choices w) (names-pop choices w)

  started_popped : FitsAs Text w → FitsAs (saved_mode w) (pop choices (mark_started choices w))
  started_popped =
      let v = mark_started choices w in
      text_left (pop choices v) (situation_then w v (pop choices v) started_situation (situation_pop choices v)) (names-pop choices v ∙ ap later_names started_names)

  -- an end tag, whatever it answers
  kept_text_end : (tag : TagText) → Kept choices w Text (text_end tag w)
  unfolding names_of
  kept_text_end tag = at (is_same_text tag.name (codes "script"))
    where
      at : (b : Bool) → Kept choices w Text (row (Pop ∷ SetMode (saved_mode w) ∷ []) (if b then Answers (RunsScript (current w)) else IsDone))
      at true h = popped h
      at false h = popped h

  -- the end of the input
  kept_text_eof : Kept choices w Text (text_mode EofTurn w)
  unfolding pop mark_started
  kept_text_eof = at (current_is (codes "script") w)
    where
      at : (b : Bool) → Kept choices w Text (errs ((if b then MarkStarted ∷ [] else []) ++ Pop ∷ []) (AgainBy saved_mode))
      at true h = started_popped h
      at false h = popped h

-- an end tag
end_lawful : (tag : TagText) (w : World) → IsLawfulTag EndTag tag Text w (text_end tag w)
end_lawful tag w = record {
  steady = λ choices s same some h. steady_changes choices (text_end tag w).changes w (tt, (tt, tt)) s;
  fits = λ choices s same some. kept_text_end choices w s.sound tag;
  told = λ n. absurd (cc);
  silent = λ n h. absurd (cc);
  leads = stops (kind_of_end tag.name) Text w (text_end tag w) (at (is_same_text tag.name (codes "script")));
}
  where
    at : (b : Bool) → Stops (if b then Answers (RunsScript (current w)) else IsDone)
    at true = tt
    at false = tt

tag_lawful : (k : TagKind) (tag : TagText) (w : World) → IsLawfulTag k tag Text w (by_kind k ignored (text_end tag w))
tag_lawful StartTag tag w = lawful_ignored
tag_lawful EndTag tag w = end_lawful tag w

-- and the end of the input
eof_lawful : (w : World) → IsLawfulFor EofTurn Text w (text_mode EofTurn w)
eof_lawful w = record {
  steady = λ choices s same some h. steady_changes choices (text_mode EofTurn w).changes w (at (current_is (codes "script") w)) s;
  fits = λ choices s same some. kept_text_eof choices w s.sound;
  told = λ n. absurd (cc);
  silent = λ n h. tt;
  leads = EndsText refl refl refl refl;
}
  where
    at : (b : Bool) → NeedsOfAll ((if b then MarkStarted ∷ [] else []) ++ Pop ∷ [])
    at true = (tt, (tt, tt))
    at false = (tt, tt)

pub lawful_text_mode : (t : TurnText) (w : World) → IsLawfulFor t Text w (text_mode t w)
lawful_text_mode (TagTurn tag) w = tag_lawful tag.kind tag w
lawful_text_mode (CommentTurn x) w = lawful_ignored
lawful_text_mode (TextTurn status x) w = text_row_lawful Text w status x
lawful_text_mode NullTurn w = lawful_ignored
lawful_text_mode EofTurn w = eof_lawful w

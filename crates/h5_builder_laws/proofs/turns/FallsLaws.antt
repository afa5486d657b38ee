-- The number of turns that a token can still take: each other turn has a lower rank.
use Rattle.std.proofs.Common.{◌≡◌, ◌≢◌, inl, inr, ◌⊎◌, ℕ, ◌+◌, ◌*◌, ◌<◌, ◌≤◌, Bool, true, false, cond, if◌then◌else◌, ◌++◌, List, [], ◌∷◌, length, map, Option, Some, None, codes, refl, ap, sym, subst, ◌∙◌, arith}
use Rattle.h5_names.specs.declared.qualified.QualName.{QualName}
use Rattle.h5_token.specs.declared.tag.TagKind.{TagKind}
use Rattle.h5_token.specs.declared.tag.TagKind.TheVariants.{StartTag, EndTag}
use Rattle.h5_interface.specs.SinkChoices.{SinkChoices}
use Rattle.std.specs.Prelude.{unwrap_or}
use Rattle.h5_interface.specs.declared.marks.QuirksMode.TheVariants.{Quirks}
use Rattle.h5_tables.specs.TagSets.{html_namespace, is_html_named}
use Rattle.h5_builder_spec.specs.formatting.FormattingList.{ElementEntry, Entry, MarkerEntry, closed_front}
use Rattle.h5_builder_spec.specs.formatting.FormattingNames.{AllFormatting, html_name}
use Rattle.h5_builder_spec.specs.stack.Scope.{first_passes, has_template, later_names}
use Rattle.h5_tables.specs.TurnText.{CommentTurn, EofTurn, NullTurn, TagTurn, TextTurn, TurnText}
use Rattle.h5_tables.specs.declared.modes.InsertionMode.{InsertionMode}
use Rattle.h5_tables.specs.declared.modes.InsertionMode.TheVariants.{AfterAfterBody, AfterAfterFrameset, AfterBody, AfterFrameset, BeforeHtml, InCell, InColumnGroup, InFrameset, InTable, InTableText, Initial, Text}
use Rattle.h5_tables.specs.declared.modes.SplitStatus.TheVariants.{NotSplit}
use Rattle.h5_builder_spec.specs.inner.Fits.{Placed, is_table_mode, is_whole, may_be_left}
use Rattle.h5_builder_spec.specs.reset.Situation.{Situation}
use Rattle.h5_builder_spec.specs.inner.NamesFit.{NamesFit}
use Rattle.h5_builder_spec.specs.reset.ResetByRoles.{reset}
use Rattle.h5_builder_spec.specs.reset.Roles.{PlainRole, Role, TableRole, count_roles, has_role, is_template, later_roles, role_of, role_of_local, roles}
use Rattle.h5_builder_spec.proofs.fitting.ChangeLaws.{later_kinds}
use Rattle.h5_builder_spec.proofs.fitting.CutNameLaws.{cut_root}
use Rattle.h5_builder_spec.proofs.fitting.HeadLaws.{text_pop}
use Rattle.h5_builder_spec.proofs.fitting.NamesFitLaws.{names_table_text_ended, roles_later}
use Rattle.h5_builder_spec.proofs.fitting.NamesTableLaws.{table_cut, template_cut}
use Rattle.h5_builder_laws.proofs.turns.RankLaws.{again_falls}
use Rattle.h5_builder_laws.proofs.turns.RankWeightLaws.{closes_templates, colgroup_falls, eof_falls, is_text, names_rank_bound, rank_usual, table_falls, table_text_falls, template_again_falls, weight_pop, weight_push}
use Rattle.h5_builder_laws.proofs.turns.RankWeightLaws as weights
use Rattle.h5_builder_laws.proofs.turns.Ranks as edges
use Rattle.h5_builder_laws.proofs.turns.Ranks.{CellTurns, ColTurns, EndHtmlTurns, EndPartTurns, EofTurns, OtherTurns, PartTurns, RowTurns, StartTableTurns, TextTurns, TurnKind, early_below, eof_weight, is_eof, is_table_like, rank, rank_in, rank_saved}
use Rattle.h5_builder_spec.proofs.roles.RoleLaws.{role_named}
use Rattle.h5_builder_spec.specs.Changes.{append_text, create_root, insert_element, insert_head, mark_started, pop, pop_until_named, set_foster, set_frameset_ok_by_text, set_mode, set_quirks_mode, take_pending_text}
use Rattle.h5_builder_spec.specs.Blanks.{all_blank}
use Rattle.h5_builder_spec.specs.formatting.Formatting.{clear_active_formatting_to_marker, insert_anew, reconstruct_active_formatting_elements}
use Rattle.h5_builder_spec.specs.modes.InBody.{in_body}
use Rattle.h5_builder_spec.specs.modes.Shared.{current_is}
use Rattle.h5_builder_spec.specs.modes.InTableText.{pending_text, saved_mode}
use Rattle.h5_builder_spec.specs.modes.InitialMode.{initial_else}
use Rattle.h5_builder_spec.specs.modes.Modes.{rule}
use Rattle.h5_builder_spec.specs.reset.Reset.{reset_mode}
use Rattle.h5_builder_spec.specs.Rows.{Again, AgainBy, AppendText, Change, ClearActiveFormattingToMarker, Ending, IsDone, MarkStarted, Pop, PopTemplateMode, PopUntilNamed, ResetMode, Row, SetQuirksMode, TakePendingText, apply_all, changed_by, choose, errs, next_mode, row}
use Rattle.h5_builder_spec.specs.inner.Kept.{Fits}
use Rattle.h5_builder_spec.specs.Sound.{Sound, situation_of}
use Rattle.h5_builder_spec.specs.modes.Tables.{foster, named_in_table_scope}
use Rattle.h5_builder_spec.specs.insertion.Templates.{pop_template_mode}
use Rattle.h5_builder_spec.specs.modes.TextMode.{marks_script}
use Rattle.h5_builder_spec.specs.World.{World, name_in, names_of}
use Rattle.h5_builder_laws.proofs.turns.AgainLaws.{end_no_eof, kind_of_tag, kind_of_turn, leads_next, start_no_eof}
use Rattle.h5_builder_spec.proofs.changes.FormattingLaws.{sound_anew, sound_reconstruct}
use Rattle.h5_builder_spec.proofs.changes.NameLaws.{names-append, names-cut, names-insert, names-insert_head, names-insert_root}
use Rattle.h5_builder_spec.proofs.changes.PopLaws.{names-mark_started, names-pop, names_length}
use Rattle.h5_builder_laws.proofs.ModeRuleLaws.{lawful}
use Rattle.h5_builder_laws.proofs.turns.RowEdges.{ByEdge, ClosesColumnGroup, ClosesTable, ClosesTemplate, EndsText, RowLeads, TakesPending}
use Rattle.h5_builder_laws.proofs.cuts.TableTextLaws.{formatting_role}
use Rattle.h5_builder_spec.proofs.changes.TreeLaws.{tree_reconstruct}
use Rattle.h5_builder_spec.proofs.modes.ReadyInLaws.{front_formatting}

-- how many turns a token can still take at most
abbrev pub rank_of : TurnText → World → ℕ
rank_of t w = rank (kind_of_turn t) (situation_of w) w.mode (roles (names_of w))

-- WHAT WEIGHS no more: at the end of the file, and for a start tag `table`
record Lighter (old new : List Role) : Type 0 where
  weight : eof_weight new ≤ eof_weight old
  tables : count_roles is_table_like new ≤ count_roles is_table_like old

lighter_same : (ns : List Role) → Lighter ns ns
lighter_same ns = record { weight = omega arith; tables = omega arith }

lighter_plain : (old new : List Role) (n : Role) → n ≡ PlainRole → Lighter old new → Lighter old (n ∷ new)
lighter_plain old new n e l = subst (λ x. Lighter old (x ∷ new)) (sym e) (record { weight = l.weight; tables = l.tables })

lighter_anew : (choices : SinkChoices) (l : List Entry) (w : World) (old : List Role) → AllFormatting l → Sound w → Lighter old (roles (names_of w)) → Lighter old (roles (names_of (insert_anew choices l w)))
lighter_anew choices [] w old f k h = h
lighter_anew choices (MarkerEntry ∷ l) w old f k h = lighter_anew choices l w old f k h
lighter_anew choices (ElementEntry n tag ∷ l) w old f k h =
    let v = insert_anew choices l w in
    subst (λ ns. Lighter old (roles ns)) (sym (names-insert choices tag.name tag.attrs tag.had_duplicate_attributes v (sound_anew choices l w k)))
    (lighter_plain old (roles (names_of v)) (role_of (html_name tag.name)) (formatting_role tag.name f.0) (lighter_anew choices l w old f.1 k h))

lighter_reconstruct : (choices : SinkChoices) (w : World) → Sound w → Lighter (roles (names_of w)) (roles (names_of (reconstruct_active_formatting_elements choices w)))
unfolding names_of reconstruct_active_formatting_elements
lighter_reconstruct choices w k =
    lighter_anew choices (closed_front w.stack w.formatting) w (roles (names_of w)) (front_formatting w.stack w.formatting k.formatting) k (lighter_same (roles (names_of w)))

-- buffered text is inserted
record Put (choices : SinkChoices) (w v : World) : Type 0 where
  lighter : Lighter (roles (names_of w)) (roles (names_of v))
  saved : v.saved_mode ≡ w.saved_mode

put_blank : (choices : SinkChoices) (t : List ℕ) (w : World) → t ≢ [] → Sound w → Put choices w (append_text t w)
unfolding append_text
put_blank choices t w some k = record { lighter = subst (λ ns. Lighter (roles (names_of w)) (roles ns)) (sym (names-append t w some k)) (lighter_same (roles (names_of w))); saved = refl }

put_fostered : (choices : SinkChoices) (t : List ℕ) (w : World) → t ≢ [] → Sound w
    → Put choices w (set_foster false (append_text t (set_frameset_ok_by_text t (reconstruct_active_formatting_elements choices (set_foster true w)))))
unfolding names_of append_text set_frameset_ok_by_text
put_fostered choices t w some k =
    let x = set_foster true w in
    let v = set_frameset_ok_by_text t (reconstruct_active_formatting_elements choices x) in
    record {
      lighter = subst (λ ns. Lighter (roles (names_of w)) (roles ns)) (sym (names-append t v some (sound_reconstruct choices x k))) (lighter_reconstruct choices x k);
      saved = ap (λ (y : World). y.saved_mode) (tree_reconstruct choices x);
    }

put_pending : (choices : SinkChoices) (p : List ℕ) (x w : World) → Sound w → Put choices w (apply_all choices (pending_text p x).changes w)
unfolding pending_text
put_pending choices [] x w k = record { lighter = lighter_same (roles (names_of w)); saved = refl }
put_pending choices (b ∷ t) x w k = at (all_blank (b ∷ t))
  where
    some : (b ∷ t) ≢ []
    some e = absurd (cc)

    at : (o : Bool) → Put choices w (apply_all choices (choose o (row (AppendText (b ∷ t) ∷ []) IsDone) (foster in_body (TextTurn NotSplit (b ∷ t)) x)).changes w)
    at true = put_blank choices (b ∷ t) w some k
    at false = put_fostered choices (b ∷ t) w some k

-- THE RANK FALLS, by what a row leads to
abbrev Falling : TurnKind → SinkChoices → World → List Change → Ending → Type 0
Falling c choices w changes x =
    (k : InsertionMode) → next_mode x (apply_all choices changes w) ≡ Some k
    → rank c (situation_of (apply_all choices changes w)) k (roles (names_of (apply_all choices changes w))) < rank c (situation_of w) w.mode (roles (names_of w))

-- of another row with the same changes and the same ending
falling_as : (c : TurnKind) (choices : SinkChoices) (w : World) (r : Row) (changes : List Change) (x : Ending) → r.changes ≡ changes → r.ending ≡ x → Falling c choices w changes x → Falling c choices w r.changes r.ending
falling_as c choices w r changes x e f h = subst (λ ys. Falling c choices w ys r.ending) (sym e) (subst (λ y. Falling c choices w changes y) (sym f) h)

-- a start tag `table` closes a table
falling_table : (choices : SinkChoices) (w : World) → Fits w → is_table_mode w.mode ≡ true → named_in_table_scope (codes "table") w ≡ true → Falling StartTableTurns choices w (PopUntilNamed (codes "table") ∷ []) (AgainBy reset_mode)
unfolding reset_mode role_of_local pop_until_named
falling_table choices w f i h k e =
    let u = pop_until_named (codes "table") w in
    let s = situation_of u in
    let same : reset s (roles (names_of u)) ≡ k = cc in
    let cut = table_cut TableRole (codes "table") (names_of w) refl h in
    subst (λ j. rank StartTableTurns s j (roles (names_of u)) < rank StartTableTurns (situation_of w) w.mode (roles (names_of w))) same
    (subst (λ ns. rank StartTableTurns s (reset s (roles ns)) (roles ns) < rank StartTableTurns (situation_of w) w.mode (roles (names_of w))) (sym (names-cut (codes "table") w))
    (table_falls s s (situation_of w) w.mode cut f.mode.fits.known.kinds (cut_root cut f.mode.fits.known.root) i))

-- or a column group
column_falls : (s t : Situation) (ns : List QualName) → first_passes (is_html_named (codes "colgroup")) ns ≡ true → rank StartTableTurns t InTable (roles (later_names ns)) < rank StartTableTurns s InColumnGroup (roles ns)
unfolding role_of_local
column_falls s t [] h = absurd (cc)
column_falls s t (n ∷ ns) h = colgroup_falls t s (role_of n) (roles ns) (ap is_table_like (role_named (codes "colgroup") n h))

falling_column : (choices : SinkChoices) (w : World) → w.mode ≡ InColumnGroup → current_is (codes "colgroup") w ≡ true → Falling StartTableTurns choices w (Pop ∷ []) (Again InTable)
falling_column choices w i h k e =
    let u = pop choices w in
    let same : InTable ≡ k = cc in
    subst (λ j. rank StartTableTurns (situation_of u) j (roles (names_of u)) < rank StartTableTurns (situation_of w) w.mode (roles (names_of w))) same
    (subst (λ m. rank StartTableTurns (situation_of u) InTable (roles (names_of u)) < rank StartTableTurns (situation_of w) m (roles (names_of w))) (sym i)
    (subst (λ ns. rank StartTableTurns (situation_of u) InTable (roles ns) < rank StartTableTurns (situation_of w) InColumnGroup (roles (names_of w))) (sym (names-pop choices w))
    (column_falls (situation_of w) (situation_of u) (names_of w) h)))

-- the end of the file closes a template
falling_template : (choices : SinkChoices) (w : World) → Fits w → closes_templates w.mode ≡ true → has_template (names_of w) ≡ true
    → Falling EofTurns choices w (PopUntilNamed (codes "template") ∷ ClearActiveFormattingToMarker ∷ PopTemplateMode ∷ ResetMode ∷ []) (AgainBy reset_mode)
unfolding reset_mode pop_until_named clear_active_formatting_to_marker names_of
falling_template choices w f i h k e =
    let u = pop_template_mode (clear_active_formatting_to_marker (pop_until_named (codes "template") w)) in
    let v = set_mode (reset_mode u) u in
    let s = situation_of v in
    let same : reset s (roles (names_of v)) ≡ k = cc in
    let cut = template_cut (names_of w) h in
    subst (λ j. rank EofTurns s j (roles (names_of v)) < rank EofTurns (situation_of w) w.mode (roles (names_of w))) same
    (subst (λ ns. rank EofTurns s (reset s (roles ns)) (roles ns) < rank EofTurns (situation_of w) w.mode (roles (names_of w))) (sym (names-cut (codes "template") w))
    (template_again_falls s s (situation_of w) w.mode cut (later_kinds w.template_modes f.mode.fits.known.kinds) (cut_root cut f.mode.fits.known.root) i))

-- the mode that was left is taken up again
back_to : (w v : World) (m k : InsertionMode) → v.saved_mode ≡ w.saved_mode → w.saved_mode ≡ Some m → Some (saved_mode v) ≡ Some k → m ≡ k
back_to w v m k s t e = ap (λ o. unwrap_or o InTable) (sym (s ∙ t)) ∙ some_is (saved_mode v) k e
  where
    some_is : (a b : InsertionMode) → Some a ≡ Some b → a ≡ b
    some_is a b e = cc

-- buffered text is inserted, and the mode is the one that was left
falling_pending : (c : TurnKind) (choices : SinkChoices) (w : World) → Sound w → Fits w → w.mode ≡ InTableText → is_text c ≡ false → Falling c choices w (TakePendingText ∷ (pending_text w.pending w).changes) (AgainBy saved_mode)
unfolding names_of
falling_pending c choices w s f i h k e =
    let p = put_pending choices w.pending w (take_pending_text w) s in
    let v = apply_all choices (pending_text w.pending w).changes (take_pending_text w) in
    let left = names_table_text_ended (situation_of w) (names_of w) (subst (λ m. NamesFit (situation_of w) m (names_of w)) i f.mode) in
    let same : left.mode ≡ k = back_to w v left.mode k p.saved left.saved e in
    subst (λ j. rank c (situation_of v) j (roles (names_of v)) < rank c (situation_of w) w.mode (roles (names_of w))) same
    (subst (λ m. rank c (situation_of v) left.mode (roles (names_of v)) < rank c (situation_of w) m (roles (names_of w))) (sym i)
    (table_text_falls c (situation_of w) (situation_of v) left.mode (roles (names_of w)) (roles (names_of v)) h left.is_table left.saved p.lighter.weight p.lighter.tables))

-- the element of a text is popped at the end of the file
record TextEnds (w v : World) : Type 0 where
  names : names_of v ≡ later_names (names_of w)
  saved : v.saved_mode ≡ w.saved_mode

text_ended : (choices : SinkChoices) (w : World) → TextEnds w (apply_all choices (marks_script w ++ Pop ∷ []) w)
unfolding pop mark_started
text_ended choices w = at (current_is (codes "script") w)
  where
    at : (b : Bool) → TextEnds w (apply_all choices ((if b then MarkStarted ∷ [] else []) ++ Pop ∷ []) w)
    at true = record { names = names-pop choices (mark_started choices w) ∙ ap later_names (names-mark_started choices w); saved = refl }
    at false = record { names = names-pop choices w; saved = refl }

placed_left : (b : Bool) (s : Situation) (m : InsertionMode) (ns : List Role) → Placed b s m ns → may_be_left m ≡ true
placed_left b s Initial ns p = elim p [ ]
placed_left b s BeforeHtml ns p = elim p [ ]
placed_left b s Text ns p = elim p [ ]
placed_left b s InTableText ns p = elim p [ ]
placed_left b s _ ns p = refl

-- and the mode is the one that was left for it
falling_text : (choices : SinkChoices) (w : World) → Fits w → w.mode ≡ Text → Falling EofTurns choices w (marks_script w ++ Pop ∷ []) (AgainBy saved_mode)
falling_text choices w f i k e =
    let v = apply_all choices (marks_script w ++ Pop ∷ []) w in
    let d = text_ended choices w in
    let s = situation_of w in
    let left = text_pop s (roles (names_of w)) (subst (λ m. NamesFit s m (names_of w)) i f.mode).fits in
    let same : left.mode ≡ k = back_to w v left.mode k d.saved left.saved e in
    let below : later_roles (roles (names_of w)) ≡ roles (names_of v) = roles_later (names_of w) ∙ ap roles (sym d.names) in
    subst (λ j. rank EofTurns (situation_of v) j (roles (names_of v)) < rank EofTurns s w.mode (roles (names_of w))) same
    (subst (λ m. rank EofTurns (situation_of v) left.mode (roles (names_of v)) < rank EofTurns s m (roles (names_of w))) (sym i)
    (subst (λ ns. rank EofTurns (situation_of v) left.mode ns < rank EofTurns s Text (roles (names_of w))) below
    (weights.text_falls s (situation_of v) left.mode (roles (names_of w)) (placed_left (is_whole s.context) s left.mode (later_roles (roles (names_of w))) left.placed) left.saved)))

-- at the end of the file, from mode to mode before the body
weight_of : (old new : List QualName) → new ≡ old → eof_weight (roles new) ≤ eof_weight (roles old)
weight_of old new e = subst (λ ns. eof_weight (roles ns) ≤ eof_weight (roles old)) (sym e) (omega arith)

weight_pushed : (n : QualName) (old new : List QualName) → is_template (role_of n) ≡ false → new ≡ n ∷ old → eof_weight (roles new) ≤ eof_weight (roles old)
weight_pushed n old new h e = subst (λ ns. eof_weight (roles ns) ≤ eof_weight (roles old)) (sym e) (let p = weight_push (role_of n) (roles old) h in omega (arith, p))

weight_popped : (old new : List QualName) → new ≡ later_names old → eof_weight (roles new) ≤ eof_weight (roles old)
weight_popped [] new e = weight_of [] new e
weight_popped (n ∷ old) new e = subst (λ ns. eof_weight (roles ns) ≤ eof_weight (roles (n ∷ old))) (sym e) (weight_pop (role_of n) (roles old))

initial_names : (choices : SinkChoices) (w : World) → names_of (changed_by choices (initial_else EofTurn w) w) ≡ names_of w
unfolding names_of set_quirks_mode initial_else
initial_names choices w = at w.options.iframe_srcdoc
  where
    at : (b : Bool) → map (name_in (changed_by choices (choose b (row [] (Again BeforeHtml)) (errs (SetQuirksMode Quirks ∷ []) (Again BeforeHtml))) w).forest) (changed_by choices (choose b (row [] (Again BeforeHtml)) (errs (SetQuirksMode Quirks ∷ []) (Again BeforeHtml))) w).stack ≡ map (name_in w.forest) w.stack
    at true = refl
    at false = refl

eof_lighter : (choices : SinkChoices) (m k : InsertionMode) (w : World) → edges.Again EofTurns m k → Sound w → eof_weight (roles (names_of (changed_by choices (rule m EofTurn w) w))) ≤ eof_weight (roles (names_of w))
unfolding role_of role_of_local html_namespace
eof_lighter choices m k w (edges.initial _) s = weight_of (names_of w) (names_of (changed_by choices (initial_else EofTurn w) w)) (initial_names choices w)
eof_lighter choices m k w (edges.before_html _) s = weight_pushed (html_name (codes "html")) (names_of w) (names_of (create_root choices [] w)) refl (names-insert_root choices [] w s)
eof_lighter choices m k w (edges.before_head _) s = weight_pushed (html_name (codes "head")) (names_of w) (names_of (insert_head choices [] false w)) refl (names-insert_head choices [] false w s)
eof_lighter choices m k w (edges.in_head_noscript _) s = weight_popped (names_of w) (names_of (pop choices w)) (names-pop choices w)
eof_lighter choices m k w (edges.in_head _) s = weight_popped (names_of w) (names_of (pop choices w)) (names-pop choices w)
eof_lighter choices m k w (edges.after_head _) s = weight_pushed (html_name (codes "body")) (names_of w) (names_of (insert_element choices (codes "body") [] false w)) refl (names-insert choices (codes "body") [] false w s)
eof_lighter choices m k w (edges.after_body _ l) s = absurd (cc)
eof_lighter choices m k w (edges.after_after_body _ l) s = absurd (cc)

-- only the end of the file is of its kind
pub turn_eof : (t : TurnText) → (is_eof (kind_of_turn t) ≡ false) ⊎ (t ≡ EofTurn)
turn_eof (TagTurn tag) = inl (at tag.kind)
  where
    at : (k : TagKind) → is_eof (kind_of_tag k tag.name) ≡ false
    at StartTag = start_no_eof tag.name
    at EndTag = end_no_eof tag.name
turn_eof (CommentTurn text) = inl refl
turn_eof (TextTurn status text) = inl refl
turn_eof NullTurn = inl refl
turn_eof EofTurn = inr refl

-- after the rule of a turn
abbrev FallsTo : SinkChoices → World → InsertionMode → TurnText → Type 0
FallsTo choices w k t = let v = changed_by choices (rule w.mode t w) w in rank (kind_of_turn t) (situation_of v) k (roles (names_of v)) < rank_of t w

falling_edge : (t : TurnText) (choices : SinkChoices) (w : World) (k : InsertionMode) → Sound w → edges.Again (kind_of_turn t) w.mode k → FallsTo choices w k t
falling_edge t choices w k s a = at (turn_eof t)
  where
    end : edges.Again EofTurns w.mode k → FallsTo choices w k EofTurn
    end a =
        let v = changed_by choices (rule w.mode EofTurn w) w in
        eof_falls (situation_of w) (situation_of v) (roles (names_of w)) (roles (names_of v)) w.mode k a (eof_lighter choices w.mode k w a s)

    at : (is_eof (kind_of_turn t) ≡ false) ⊎ (t ≡ EofTurn) → FallsTo choices w k t
    at (inl h) = let v = changed_by choices (rule w.mode t w) w in again_falls (situation_of w) (situation_of v) (roles (names_of w)) (roles (names_of v)) (kind_of_turn t) w.mode k h a
    at (inr e) = subst (FallsTo choices w k) (sym e) (end (subst (λ x. edges.Again (kind_of_turn x) w.mode k) e a))

falling_row : (t : TurnText) (choices : SinkChoices) (w : World) → Sound w → Fits w → RowLeads (kind_of_turn t) w.mode w (rule w.mode t w) → Falling (kind_of_turn t) choices w (rule w.mode t w).changes (rule w.mode t w).ending
falling_row t choices w s f (ByEdge l) = λ k e. let r = rule w.mode t w in falling_edge t choices w k s (leads_next (kind_of_turn t) w.mode r.ending (changed_by choices r w) k l e)
falling_row t choices w s f (ClosesTable i q h e x) =
    let r = rule w.mode t w in
    subst (λ y. Falling y choices w r.changes r.ending) (sym q) (falling_as StartTableTurns choices w r (PopUntilNamed (codes "table") ∷ []) (AgainBy reset_mode) e x (falling_table choices w f i h))
falling_row t choices w s f (ClosesColumnGroup i q h e x) =
    let r = rule w.mode t w in
    subst (λ y. Falling y choices w r.changes r.ending) (sym q) (falling_as StartTableTurns choices w r (Pop ∷ []) (Again InTable) e x (falling_column choices w i h))
falling_row t choices w s f (TakesPending i h e x) =
    falling_as (kind_of_turn t) choices w (rule w.mode t w) (TakePendingText ∷ (pending_text w.pending w).changes) (AgainBy saved_mode) e x (falling_pending (kind_of_turn t) choices w s f i h)
falling_row t choices w s f (ClosesTemplate i q h e x) =
    let r = rule w.mode t w in
    subst (λ y. Falling y choices w r.changes r.ending) (sym q)
    (falling_as EofTurns choices w r (PopUntilNamed (codes "template") ∷ ClearActiveFormattingToMarker ∷ PopTemplateMode ∷ ResetMode ∷ []) (AgainBy reset_mode) e x (falling_template choices w f i h))
falling_row t choices w s f (EndsText i q e x) =
    let r = rule w.mode t w in
    subst (λ y. Falling y choices w r.changes r.ending) (sym q) (falling_as EofTurns choices w r (marks_script w ++ Pop ∷ []) (AgainBy saved_mode) e x (falling_text choices w f i))

-- another turn is taken in a world of a lower rank
pub falls : (choices : SinkChoices) (t : TurnText) (w : World) (k : InsertionMode) → Sound w → Fits w → let v = changed_by choices (rule w.mode t w) w in
    next_mode (rule w.mode t w).ending v ≡ Some k → rank_of t (set_mode k v) < rank_of t w
unfolding names_of
falls choices t w k s f e = falling_row t choices w s f ((lawful w.mode).leads t w) k e

-- a text needs nothing for it: no rank of a text weighs open elements
pub text_falls : (choices : SinkChoices) (t : TurnText) (w : World) (k : InsertionMode) → kind_of_turn t ≡ TextTurns → let v = changed_by choices (rule w.mode t w) w in
    next_mode (rule w.mode t w).ending v ≡ Some k → rank_of t (set_mode k v) < rank_of t w
text_falls choices t w k i e = at ((lawful w.mode).leads t w)
  where
    at : RowLeads (kind_of_turn t) w.mode w (rule w.mode t w) → rank_of t (set_mode k (changed_by choices (rule w.mode t w) w)) < rank_of t w
    at (ByEdge l) =
        let r = rule w.mode t w in
        let v = changed_by choices r w in
        again_falls (situation_of w) (situation_of v) (roles (names_of w)) (roles (names_of (set_mode k v))) (kind_of_turn t) w.mode k (ap is_eof i) (leads_next (kind_of_turn t) w.mode r.ending v k l e)
    at (ClosesTable j q h d x) = absurd (let n = sym i ∙ q in cc)
    at (ClosesColumnGroup j q h d x) = absurd (let n = sym i ∙ q in cc)
    at (TakesPending j h d x) = absurd (let n = ap is_text (sym i) ∙ h in cc)
    at (ClosesTemplate j q h d x) = absurd (let n = sym i ∙ q in cc)
    at (EndsText j q d x) = absurd (let n = sym i ∙ q in cc)

-- THE RANK is some
weight_some : (ns : List Role) → 0 < eof_weight ns
weight_some ns = at (has_role is_template ns)
  where
    at : (b : Bool) → 0 < cond b (count_roles is_template ns + 3 * early_below ns + 1) 1
    at true = omega arith
    at false = omega arith

some_in : (c : TurnKind) (m : InsertionMode) (ns : List Role) → 0 < rank_in c m ns
some_in EofTurns AfterBody ns = omega arith
some_in EofTurns AfterAfterBody ns = omega arith
some_in EofTurns InFrameset ns = omega arith
some_in EofTurns AfterFrameset ns = omega arith
some_in EofTurns AfterAfterFrameset ns = omega arith
some_in EofTurns _ ns = let h = weight_some ns in omega (arith, h)
some_in TextTurns InCell ns = omega arith
some_in TextTurns _ ns = omega arith
some_in EndHtmlTurns InCell ns = omega arith
some_in EndHtmlTurns _ ns = omega arith
some_in StartTableTurns InCell ns = omega arith
some_in StartTableTurns _ ns = omega arith
some_in CellTurns InCell ns = omega arith
some_in CellTurns _ ns = omega arith
some_in RowTurns InCell ns = omega arith
some_in RowTurns _ ns = omega arith
some_in ColTurns InCell ns = omega arith
some_in ColTurns _ ns = omega arith
some_in PartTurns InCell ns = omega arith
some_in PartTurns _ ns = omega arith
some_in EndPartTurns InCell ns = omega arith
some_in EndPartTurns _ ns = omega arith
some_in OtherTurns InCell ns = omega arith
some_in OtherTurns _ ns = omega arith

some_saved : (c : TurnKind) (o : Option InsertionMode) (ns : List Role) → 0 < rank_saved c o ns
some_saved c None ns = omega arith
some_saved c (Some m) ns = omega arith

some_turns : (c : TurnKind) (s : Situation) (m : InsertionMode) (ns : List Role) → 0 < rank c s m ns
some_turns EofTurns s Text ns = some_saved EofTurns s.saved_mode (later_roles ns)
some_turns _ s Text ns = omega arith
some_turns TextTurns s InTableText ns = omega arith
some_turns EofTurns s InTableText ns = some_saved EofTurns s.saved_mode ns
some_turns c s InTableText ns = some_saved c s.saved_mode ns
some_turns c s m ns = let e = rank_usual c s m ns refl in let h = some_in c m ns in omega (arith, e, h)

pub rank_some : (t : TurnText) (w : World) → 0 < rank_of t w
rank_some t w = some_turns (kind_of_turn t) (situation_of w) w.mode (roles (names_of w))

-- and few
pub rank_few : (t : TurnText) (w : World) → Fits w → rank_of t w ≤ 16 + length w.stack
rank_few t w f = let b = names_rank_bound (kind_of_turn t) (situation_of w) w.mode (names_of w) f.mode in let e = names_length w in omega (arith, b, e)

few_texts : (s : Situation) (m : InsertionMode) (ns : List Role) → rank TextTurns s m ns ≤ 7
few_texts s Text ns = omega arith
few_texts s InTableText ns = omega arith
few_texts s InCell ns = omega arith
few_texts s _ ns = omega arith

pub text_rank_few : (t : TurnText) (w : World) → kind_of_turn t ≡ TextTurns → rank_of t w ≤ 16 + length w.stack
text_rank_few t w i =
    let h = subst (λ c. rank c (situation_of w) w.mode (roles (names_of w)) ≤ 7) (sym i) (few_texts (situation_of w) w.mode (roles (names_of w))) in
    omega (arith, h)

-- A builder that isn't in "text", and doesn't return to "text", gets there only by a start tag whose reply switches the
-- tokenizer to raw text, and leaves it by an end tag and by the end of the file.
use Rattle.std.proofs.Common.{Bool, List, None, Option, Some, [], ap, codes, cond, false, length, refl, subst, suc, sym, true, zero, ℕ, ◌++◌, ◌+◌, ◌∙◌, ◌∷◌, ◌≡◌}
use Rattle.std.specs.Prelude.{unwrap_or}
use Rattle.h5_names.specs.AttributeText.{is_same_text}
use Rattle.h5_token.specs.Reply.{Continues, Indicates, Reply, RunsScript, TurnsPlain, TurnsRaw}
use Rattle.h5_token.specs.TokenText.{Characters, CommentIs, DoctypeIs, DoctypeText, EndOfFile, NullCharacter, ParseErrorIs, TagIs, TagText, TokenText}
use Rattle.h5_token.specs.declared.tag.TagKind.TheVariants.{EndTag, StartTag}
use Rattle.h5_token.specs.declared.tag.TagKind.{TagKind}
use Rattle.h5_interface.specs.SinkChoices.{SinkChoices}
use Rattle.h5_tables.specs.Doctypes.{is_good_doctype, quirks_of}
use Rattle.h5_tables.specs.TurnText.{CommentTurn, EofTurn, NullTurn, TagTurn, TextTurn, TurnText}
use Rattle.h5_tables.specs.declared.modes.InsertionMode.TheVariants.{BeforeHtml, InTable, Initial, Text}
use Rattle.h5_tables.specs.declared.modes.InsertionMode.{InsertionMode}
use Rattle.h5_tables.specs.declared.modes.SplitStatus.TheVariants.{NotWhitespace}
use Rattle.h5_builder_spec.specs.ByName.{by_kind}
use Rattle.h5_builder_spec.specs.Changes.{add_attrs_at, add_attrs_to_html, add_attrs_to_second, append_comment, append_comment_to_doc, append_comment_to_html, append_pending_text, append_text, create_root, insert_and_pop_element, insert_and_pop_form, insert_doctype, insert_element, insert_form, insert_head, insert_script, mark_started, pop, pop_until_named, set_frameset_ok_by_text, set_mode, set_quirks_mode}
use Rattle.h5_builder_spec.specs.Kinds.{is_start}
use Rattle.h5_builder_spec.specs.Rows.{AddAttrsToSecond, AdoptionAgency, Again, AgainBy, Answers, Change, ClearActiveFormattingToMarker, CloseListItem, ClosePElement, ClosePElementInButtonScope, CreateFormattingElement, Ending, GenerateImpliedEnd, GenerateImpliedEndExcept, GenerateImpliedEndInSelect, GenerateImpliedEndThoroughly, HandleMisnestedATags, HandleMisnestedNobrTags, InsertAndPopForeignElement, InsertForeignElement, InsertMarker, InsertTemplate, IsAcknowledged, IsDone, LeaveForeignContent, MarkStarted, Pop, PopHeading, PopTemplateMode, PopUntilCell, PopUntilCurrent, PopUntilHeading, PopUntilNamedInAnyCase, PushTemplateMode, ReconstructActiveFormattingElements, RemoveBody, RemoveFromStack, ResetMode, SaveMode, SetMode, SwitchTemplateMode, apply, apply_all, ignored, row}
use Rattle.h5_builder_spec.specs.Run.{at_once, doctype_in, is_refused_in_text, judged, refuses_in, step, taken, text_step, with_doctype, without_lf}
use Rattle.h5_builder_spec.specs.Settle.{Settled, by_row, settle, settle_within}
use Rattle.h5_builder_spec.specs.inner.Kept.{Fits}
use Rattle.h5_builder_spec.specs.Text.{after_row, foreign_text, is_quiet_text, text_in, text_in_body, text_rule}
use Rattle.h5_builder_spec.specs.World.{World, current, names_of}
use Rattle.h5_builder_spec.specs.inner.Fits.{AllKinds}
use Rattle.h5_builder_spec.specs.formatting.Formatting.{reconstruct_active_formatting_elements}
use Rattle.h5_builder_spec.specs.insertion.Foreign.{is_foreign, is_foreign_text}
use Rattle.h5_builder_spec.specs.modes.ForeignContent.{dispatch}
use Rattle.h5_builder_spec.specs.modes.InTableText.{saved_mode}
use Rattle.h5_builder_spec.specs.modes.Modes.{rule}
use Rattle.h5_builder_spec.specs.modes.Shared.{current_is}
use Rattle.h5_builder_spec.specs.modes.TextMode.{marks_script, text_end, text_mode}
use Rattle.h5_builder_spec.specs.stack.Closing.{copy_closed_option}
use Rattle.h5_builder_spec.specs.stack.Order.{second_from_last}
use Rattle.h5_builder_spec.proofs.changes.ForeignLaws.{tree_insert_and_pop_foreign, tree_insert_foreign, tree_leave, tree_until_in_any_case}
use Rattle.h5_builder_spec.proofs.changes.TemplateLaws.{tree_insert_template}
use Rattle.h5_builder_spec.proofs.changes.TreeLaws.{OnlyTree, tree_adoption, tree_cleared, tree_close_p, tree_close_p_in_scope, tree_format, tree_implied, tree_implied_except, tree_implied_thoroughly, tree_in_select, tree_list_item, tree_marker, tree_misnested_a_tags, tree_misnested_nobr_tags, tree_pop_heading, tree_reconstruct, tree_remove, tree_remove_body, tree_until_cell, tree_until_current, tree_until_heading}
use Rattle.h5_builder_spec.proofs.fitting.ChangeLaws.{later_kinds}
use Rattle.h5_builder_spec.proofs.rows.EndingLaws.{Silent}
use Rattle.h5_builder_spec.proofs.rows.KeptLaws.{FitsAs, changes_mode}
use Rattle.h5_builder_spec.proofs.rows.RowTexts.{NoMode, NoText, NoTextBehind, Tells, TurnsToText, is_text, reset_no_text}
use Rattle.h5_builder_laws.proofs.LawfulRow.{is_start_turn}
use Rattle.h5_builder_laws.proofs.ModeRuleLaws.{lawful}
use Rattle.h5_builder_laws.proofs.cuts.TextKeptLaws.{IsKept, text_kept}
use Rattle.h5_builder_laws.proofs.modes.ForeignModeLaws.{exact_html, html_not_foreign}
use Rattle.h5_builder_laws.proofs.modes.ForeignRowLaws.{dispatch_html, eof_html}
use Rattle.h5_builder_laws.proofs.turns.ForeignTurnLaws.{dispatch_silent, dispatch_told}
use Rattle.h5_builder_laws.proofs.turns.SettleLaws.{settle-first}

-- ONE CHANGE, and the modes to go back to
abbrev saved_after : Change → World → Option InsertionMode
saved_after SaveMode w = Some w.mode
saved_after _ w = w.saved_mode

abbrev SavesAs : Option InsertionMode → World → World → Type 0
SavesAs saved w v = (v.saved_mode ≡ saved) × (v.template_modes ≡ w.template_modes)

tree_saved : (w v : World) → OnlyTree w v → SavesAs w.saved_mode w v
tree_saved w v e = (ap (λ (x : World). x.saved_mode) e, ap (λ (x : World). x.template_modes) e)

second_saved : (o : Option ℕ) (attrs : _) (w : World) → SavesAs w.saved_mode w (add_attrs_at o attrs w)
second_saved None attrs w = (refl, refl)
second_saved (Some n) attrs w = (refl, refl)

-- those of templates are apart
abbrev KeepsModes : Change → Type 0
KeepsModes (PushTemplateMode m) = ⊥
KeepsModes PopTemplateMode = ⊥
KeepsModes (SwitchTemplateMode m) = ⊥
KeepsModes _ = Unit {0}

change_saved : (choices : SinkChoices) (x : Change) (w : World) → KeepsModes x → SavesAs (saved_after x w) w (apply choices x w)
unfolding set_frameset_ok_by_text set_quirks_mode insert_element create_root append_comment append_comment_to_doc append_comment_to_html append_text pop insert_and_pop_element insert_and_pop_form insert_head add_attrs_to_html add_attrs_to_second pop_until_named append_pending_text insert_form copy_closed_option insert_script mark_started
change_saved choices (AddAttrsToSecond attrs) w h = second_saved (second_from_last w.stack) attrs w
change_saved choices (GenerateImpliedEndExcept local) w h = tree_saved w _ (tree_implied_except choices local w)
change_saved choices GenerateImpliedEnd w h = tree_saved w _ (tree_implied choices w)
change_saved choices ClosePElement w h = tree_saved w _ (tree_close_p choices w)
change_saved choices ClosePElementInButtonScope w h = tree_saved w _ (tree_close_p_in_scope choices w)
change_saved choices PopHeading w h = tree_saved w _ (tree_pop_heading choices w)
change_saved choices PopUntilHeading w h = tree_saved w _ (tree_until_heading w)
change_saved choices ReconstructActiveFormattingElements w h = tree_saved w _ (tree_reconstruct choices w)
change_saved choices (CreateFormattingElement tag) w h = tree_saved w _ (tree_format choices tag w)
change_saved choices (AdoptionAgency name) w h = tree_saved w _ (tree_adoption choices name w)
change_saved choices HandleMisnestedATags w h = tree_saved w _ (tree_misnested_a_tags choices w)
change_saved choices HandleMisnestedNobrTags w h = tree_saved w _ (tree_misnested_nobr_tags choices w)
change_saved choices InsertMarker w h = tree_saved w _ (tree_marker w)
change_saved choices ClearActiveFormattingToMarker w h = tree_saved w _ (tree_cleared w)
change_saved choices (PopUntilCurrent is) w h = tree_saved w _ (tree_until_current is w)
change_saved choices PopUntilCell w h = tree_saved w _ (tree_until_cell w)
change_saved choices (CloseListItem locals) w h = tree_saved w _ (tree_list_item choices locals w)
change_saved choices GenerateImpliedEndInSelect w h = tree_saved w _ (tree_in_select choices w)
change_saved choices (RemoveFromStack element) w h = tree_saved w _ (tree_remove choices element w)
change_saved choices GenerateImpliedEndThoroughly w h = tree_saved w _ (tree_implied_thoroughly choices w)
change_saved choices (InsertTemplate attrs duplicates) w h = tree_saved w _ (tree_insert_template choices attrs duplicates w)
change_saved choices RemoveBody w h = tree_saved w _ (tree_remove_body w)
change_saved choices (InsertForeignElement name attrs duplicates) w h = tree_saved w _ (tree_insert_foreign choices name attrs duplicates w)
change_saved choices (InsertAndPopForeignElement name attrs duplicates) w h = tree_saved w _ (tree_insert_and_pop_foreign choices name attrs duplicates w)
change_saved choices LeaveForeignContent w h = tree_saved w _ (tree_leave choices w)
change_saved choices (PopUntilNamedInAnyCase local) w h = tree_saved w _ (tree_until_in_any_case local w)
change_saved choices (PushTemplateMode m) w h = absurd h
change_saved choices PopTemplateMode w h = absurd h
change_saved choices (SwitchTemplateMode m) w h = absurd h
change_saved choices _ w h = (refl, refl)

-- no mode is "text": neither the world's, nor one to go back to
abbrev NoTextIn : World → Type 0
NoTextIn w = (is_text w.mode ≡ false) × NoTextBehind w

saved_no_text : (w v : World) → SavesAs w.saved_mode w v → NoTextBehind w → NoTextBehind v
saved_no_text w v e h = (ap (λ o. is_text (unwrap_or o InTable)) e.0 ∙ h.0, subst AllKinds (sym e.1) h.1)

same_no_text : (w v : World) → v.mode ≡ w.mode → SavesAs w.saved_mode w v → NoTextIn w → NoTextIn v
same_no_text w v e f h = (ap is_text e ∙ h.0, saved_no_text w v f h.1)

change_no_text : (choices : SinkChoices) (x : Change) (w : World) → NoText (x ∷ []) → NoTextIn w → NoTextIn (apply choices x w)
change_no_text choices (SetMode m) w n h = (n.0, h.1)
change_no_text choices ResetMode w n h = (reset_no_text w h.1, h.1)
change_no_text choices SaveMode w n h = (h.0, (h.0, h.1.1))
change_no_text choices (PushTemplateMode m) w n h = (h.0, (h.1.0, (n.0, h.1.1)))
change_no_text choices PopTemplateMode w n h = (h.0, (h.1.0, later_kinds w.template_modes h.1.1))
change_no_text choices (SwitchTemplateMode m) w n h = (h.0, (h.1.0, (n.0, later_kinds w.template_modes h.1.1)))
change_no_text choices x w n h = same_no_text w (apply choices x w) (changes_mode choices (x ∷ []) w) (change_saved choices x w tt) h

no_text_parts : (x : Change) (xs : List Change) → NoText (x ∷ xs) → NoText (x ∷ []) × NoText xs
no_text_parts (SetMode m) xs h = ((h.0, tt), h.1)
no_text_parts (PushTemplateMode m) xs h = ((h.0, tt), h.1)
no_text_parts (SwitchTemplateMode m) xs h = ((h.0, tt), h.1)
no_text_parts _ xs h = (tt, h)

-- CHANGES
changes_no_text : (choices : SinkChoices) (xs : List Change) (w : World) → NoText xs → NoTextIn w → NoTextIn (apply_all choices xs w)
changes_no_text choices [] w n h = h
changes_no_text choices (x ∷ xs) w n h = let p = no_text_parts x xs n in changes_no_text choices xs (apply choices x w) p.1 (change_no_text choices x w p.0 h)

changes_behind : (choices : SinkChoices) (xs : List Change) (w : World) → NoMode xs → NoTextBehind w → NoTextBehind (apply_all choices xs w)
changes_behind choices [] w n h = h
changes_behind choices (SetMode m ∷ xs) w n h = absurd n
changes_behind choices (ResetMode ∷ xs) w n h = absurd n
changes_behind choices (SaveMode ∷ xs) w n h = absurd n
changes_behind choices (PushTemplateMode m ∷ xs) w n h = absurd n
changes_behind choices (PopTemplateMode ∷ xs) w n h = absurd n
changes_behind choices (SwitchTemplateMode m ∷ xs) w n h = absurd n
changes_behind choices (x ∷ xs) w n h = changes_behind choices xs (apply choices x w) n (saved_no_text w (apply choices x w) (change_saved choices x w tt) h)

changes_to_text : (choices : SinkChoices) (xs : List Change) (w : World) → TurnsToText xs → NoTextIn w → NoTextBehind (apply_all choices xs w)
changes_to_text choices [] w n h = absurd n
changes_to_text choices (SetMode m ∷ xs) w n h = changes_behind choices xs (set_mode m w) n.1 h.1
changes_to_text choices (PushTemplateMode m ∷ xs) w n h = absurd n
changes_to_text choices (PopTemplateMode ∷ xs) w n h = absurd n
changes_to_text choices (SwitchTemplateMode m ∷ xs) w n h = absurd n
changes_to_text choices (x ∷ xs) w n h = changes_to_text choices xs (apply choices x w) n (change_no_text choices x w tt h)

-- THE TURNS of a token that doesn't come in a text: where they lead to one, the reader turns to raw text
abbrev pub Leads : Reply → InsertionMode → Type 0
Leads Continues m = is_text m ≡ false
Leads (RunsScript node) m = is_text m ≡ false
Leads TurnsPlain m = is_text m ≡ false
Leads (Indicates encoding) m = is_text m ≡ false
Leads (TurnsRaw kind) m = Unit {0}
Leads _ m = ⊥

record LeadsOn (s : Settled) : Type 0 where
  behind : NoTextBehind s.world
  leads : Leads s.reply s.world.mode

turn_leads : (choices : SinkChoices) (go : World → Settled) (t : TurnText) (xs : List Change) (x : Ending) (quiet : Bool) (w : World) → Tells x xs → NoTextIn w → ((v : World) → NoTextIn v → LeadsOn (go v))
    → LeadsOn (by_row choices go t (record { changes = xs; ending = x; quiet = quiet }) w)
turn_leads choices go t xs IsDone quiet w n h g = let k = changes_no_text choices xs w n h in record { behind = k.1; leads = k.0 }
turn_leads choices go t xs IsAcknowledged quiet w n h g = let k = changes_no_text choices xs w n h in record { behind = k.1; leads = k.0 }
turn_leads choices go t xs (Again m) quiet w n h g =
    let k = g (set_mode m (apply_all choices xs w)) (n.0, (changes_no_text choices xs w n.1 h).1) in record { behind = k.behind; leads = k.leads }
turn_leads choices go t xs (AgainBy mode) quiet w n h g =
    let v = apply_all choices xs w in
    let b = (changes_no_text choices xs w n.0 h).1 in
    let k = g (set_mode (mode v) v) (n.1 v b, b) in record { behind = k.behind; leads = k.leads }
turn_leads choices go t xs (Answers (RunsScript node)) quiet w n h g = let k = changes_no_text choices xs w n h in record { behind = k.1; leads = k.0 }
turn_leads choices go t xs (Answers TurnsPlain) quiet w n h g = let k = changes_no_text choices xs w n h in record { behind = k.1; leads = k.0 }
turn_leads choices go t xs (Answers (Indicates encoding)) quiet w n h g = let k = changes_no_text choices xs w n h in record { behind = k.1; leads = k.0 }
turn_leads choices go t xs (Answers (TurnsRaw kind)) quiet w n h g = record { behind = changes_to_text choices xs w n h; leads = tt }
turn_leads choices go t xs (Answers _) quiet w n h g = absurd n

within_leads : (choices : SinkChoices) (n : ℕ) (t : TurnText) (w : World) → NoTextIn w → LeadsOn (settle_within choices n t w)
unfolding settle_within
within_leads choices zero t w h = record { behind = h.1; leads = h.0 }
within_leads choices (suc n) t w h =
    let r = dispatch choices t w in
    turn_leads choices (λ v. settle_within choices n t v) t r.changes r.ending r.quiet w (dispatch_told choices t w h.0).1 h (λ v k. within_leads choices n t v k)

-- and of one that isn't a start tag: there is no reply, so it doesn't lead to a text
record LeadsOut (s : Settled) : Type 0 where
  no_text : NoTextIn s.world
  reply : s.reply ≡ Continues

turn_out : (choices : SinkChoices) (go : World → Settled) (t : TurnText) (xs : List Change) (x : Ending) (quiet : Bool) (w : World) → Tells x xs → Silent x → NoTextIn w → ((v : World) → NoTextIn v → LeadsOut (go v))
    → LeadsOut (by_row choices go t (record { changes = xs; ending = x; quiet = quiet }) w)
turn_out choices go t xs IsDone quiet w n s h g = record { no_text = changes_no_text choices xs w n h; reply = refl }
turn_out choices go t xs IsAcknowledged quiet w n s h g = record { no_text = changes_no_text choices xs w n h; reply = refl }
turn_out choices go t xs (Again m) quiet w n s h g =
    let k = g (set_mode m (apply_all choices xs w)) (n.0, (changes_no_text choices xs w n.1 h).1) in record { no_text = k.no_text; reply = k.reply }
turn_out choices go t xs (AgainBy mode) quiet w n s h g =
    let v = apply_all choices xs w in
    let b = (changes_no_text choices xs w n.0 h).1 in
    let k = g (set_mode (mode v) v) (n.1 v b, b) in record { no_text = k.no_text; reply = k.reply }
turn_out choices go t xs (Answers answer) quiet w n s h g = absurd s

within_out : (choices : SinkChoices) (n : ℕ) (t : TurnText) (w : World) → is_start_turn t ≡ false → NoTextIn w → LeadsOut (settle_within choices n t w)
unfolding settle_within
within_out choices zero t w e h = record { no_text = h; reply = refl }
within_out choices (suc n) t w e h =
    let r = dispatch choices t w in
    turn_out choices (λ v. settle_within choices n t v) t r.changes r.ending r.quiet w (dispatch_told choices t w h.0).1 (dispatch_silent choices t w h.0 e) h (λ v k. within_out choices n t v e k)

settle_leads : (choices : SinkChoices) (t : TurnText) (w : World) → NoTextIn w → LeadsOn (settle choices t w)
unfolding settle
settle_leads choices t w h = within_leads choices (16 + length w.stack) t w h

settle_out : (choices : SinkChoices) (t : TurnText) (w : World) → is_start_turn t ≡ false → NoTextIn w → LeadsOut (settle choices t w)
unfolding settle
settle_out choices t w e h = within_out choices (16 + length w.stack) t w e h

-- IN A TEXT an end tag and the end of the file lead out of it
abbrev pub IsCalm : Reply → Type 0
IsCalm Continues = Unit {0}
IsCalm (RunsScript node) = Unit {0}
IsCalm _ = ⊥

record Leaves (s : Settled) : Type 0 where
  no_text : NoTextIn s.world
  calm : IsCalm s.reply

out_leaves : (s : Settled) → LeadsOut s → Leaves s
out_leaves s o = record { no_text = o.no_text; calm = subst IsCalm (sym o.reply) tt }

-- the turn of a mode, and what follows it
settle_in : (choices : SinkChoices) (t : TurnText) (w : World) (m : InsertionMode) (P : Settled → Type 0) → is_foreign choices t w ≡ false → w.mode ≡ m
    → P (by_row choices (λ v. settle_within choices (15 + length w.stack) t v) t (rule m t w) w) → P (settle choices t w)
settle_in choices t w m P html e p =
    let go : World → Settled = λ v. settle_within choices (15 + length w.stack) t v in
    subst P (sym (settle-first choices t w ∙ ap (λ r. by_row choices go t r w) (dispatch_html choices t w html) ∙ ap (λ k. by_row choices go t (rule k t w) w) e)) p

end_in_text : (choices : SinkChoices) (go : World → Settled) (tag : TagText) (w : World) → NoTextBehind w → Leaves (by_row choices go (TagTurn tag) (text_end tag w) w)
unfolding pop
end_in_text choices go tag w h = at (is_same_text tag.name (codes "script"))
  where
    at : (b : Bool) → Leaves (by_row choices go (TagTurn tag) (row (Pop ∷ SetMode (saved_mode w) ∷ []) (cond b (Answers (RunsScript (current w))) IsDone)) w)
    at true = record { no_text = (h.0, h); calm = tt }
    at false = record { no_text = (h.0, h); calm = tt }

tag_in_text : (choices : SinkChoices) (go : World → Settled) (k : TagKind) (tag : TagText) (w : World) → is_start k ≡ false → NoTextBehind w → Leaves (by_row choices go (TagTurn tag) (by_kind k ignored (text_end tag w)) w)
tag_in_text choices go StartTag tag w e h = absurd (cc)
tag_in_text choices go EndTag tag w e h = end_in_text choices go tag w h

marks_no_mode : (w : World) → NoMode (marks_script w ++ Pop ∷ [])
marks_no_mode w = at (current_is (codes "script") w)
  where
    at : (b : Bool) → NoMode (cond b (MarkStarted ∷ []) [] ++ Pop ∷ [])
    at true = tt
    at false = tt

file_in_text : (choices : SinkChoices) (go : World → Settled) (w : World) → ((v : World) → NoTextIn v → LeadsOut (go v)) → NoTextBehind w → Leaves (by_row choices go EofTurn (text_mode EofTurn w) w)
file_in_text choices go w g h =
    let v = apply_all choices (marks_script w ++ Pop ∷ []) w in
    let b = changes_behind choices (marks_script w ++ Pop ∷ []) w (marks_no_mode w) h in
    let k = out_leaves (go (set_mode (saved_mode v) v)) (g (set_mode (saved_mode v) v) (b.0, b)) in record { no_text = k.no_text; calm = k.calm }

-- WHEREVER it is, where the token isn't refused
pub mode_is_text : (m : InsertionMode) → is_text m ≡ true → m ≡ Text
mode_is_text Text e = refl
mode_is_text _ e = absurd (cc)

-- in a text no token is foreign: its element is of HTML, and isn't the root
in_text_html : (choices : SinkChoices) (t : TurnText) (w : World) → w.mode ≡ Text → Fits w → is_foreign choices t w ≡ false
in_text_html choices t w e f = html_not_foreign choices t w (exact_html w Text refl (subst (λ m. FitsAs m w) e f.mode))

tag_leaves : (choices : SinkChoices) (tag : TagText) (w : World) (b : Bool) → is_text w.mode ≡ b → is_start tag.kind ≡ false → Fits w → NoTextBehind w → Leaves (settle choices (TagTurn tag) w)
tag_leaves choices tag w true e k f h =
    settle_in choices (TagTurn tag) w Text Leaves (in_text_html choices (TagTurn tag) w (mode_is_text w.mode e) f) (mode_is_text w.mode e) (tag_in_text choices (λ v. settle_within choices (15 + length w.stack) (TagTurn tag) v) tag.kind tag w k h)
tag_leaves choices tag w false e k f h = out_leaves (settle choices (TagTurn tag) w) (settle_out choices (TagTurn tag) w k (e, h))

file_leaves : (choices : SinkChoices) (w : World) (b : Bool) → is_text w.mode ≡ b → NoTextBehind w → Leaves (settle choices EofTurn w)
file_leaves choices w true e h =
    let n = 15 + length w.stack in
    settle_in choices EofTurn w Text Leaves (eof_html choices w) (mode_is_text w.mode e) (file_in_text choices (λ v. settle_within choices n EofTurn v) w (λ v k. within_out choices n EofTurn v refl k) h)
file_leaves choices w false e h = out_leaves (settle choices EofTurn w) (settle_out choices EofTurn w refl (e, h))

-- A TEXT leads into none
row_no_text : (choices : SinkChoices) (xs : List Change) (x : Ending) (quiet : Bool) (w : World) → Tells x xs → Silent x → NoTextIn w → NoTextIn (after_row choices (record { changes = xs; ending = x; quiet = quiet }) w)
row_no_text choices xs IsDone quiet w n s h = changes_no_text choices xs w n h
row_no_text choices xs IsAcknowledged quiet w n s h = changes_no_text choices xs w n h
row_no_text choices xs (Again m) quiet w n s h = (n.0, (changes_no_text choices xs w n.1 h).1)
row_no_text choices xs (AgainBy mode) quiet w n s h = let b = (changes_no_text choices xs w n.0 h).1 in (n.1 (apply_all choices xs w) b, b)
row_no_text choices xs (Answers answer) quiet w n s h = absurd s

body_no_text : (choices : SinkChoices) (t : List ℕ) (w : World) → NoTextIn w → NoTextIn (text_in_body choices t w)
unfolding text_in_body append_text set_frameset_ok_by_text
body_no_text choices t w h = let e = tree_reconstruct choices w in same_no_text w (text_in_body choices t w) (ap (λ (x : World). x.mode) e) (tree_saved w (reconstruct_active_formatting_elements choices w) e) h

no_text_kept : (choices : SinkChoices) → IsKept choices NoTextIn
unfolding append_text append_pending_text set_frameset_ok_by_text
no_text_kept choices = record {
  append = λ t w h. h;
  foreign = λ t w h. h;
  body = λ t w h. body_no_text choices t w h;
  pending = λ t w h. h;
  fostered = λ on w h. h;
  left = λ w h. (refl, (h.0, h.1.1));
  row = λ m t w e h. let r = rule m (TextTurn NotWhitespace t) w in row_no_text choices r.changes r.ending r.quiet w ((lawful m).told (TextTurn NotWhitespace t) w e).1 ((lawful m).silent (TextTurn NotWhitespace t) w e refl) h;
}

-- ANY TOKEN that isn't refused: where it leads, by the mode before it, the reply and the mode after it. A start tag
-- leads into a text only if the reply switches the tokenizer to raw text; an end tag and the end of the file lead out
-- of one; any other token leaves the builder in a text only if it was in one. Except for start tags, no reply switches
-- the tokenizer
abbrev pub TagLeads : TagKind → Reply → InsertionMode → Type 0
TagLeads StartTag r n = Leads r n
TagLeads EndTag r n = IsCalm r × (is_text n ≡ false)

abbrev pub TokenLeads : TokenText → InsertionMode → Reply → InsertionMode → Type 0
TokenLeads (TagIs tag) m r n = TagLeads tag.kind r n
TokenLeads EndOfFile m r n = IsCalm r × (is_text n ≡ false)
TokenLeads _ m r n = IsCalm r × (is_text n ≡ true → is_text m ≡ true)

pub record StepLeads (t : TokenText) (w : World) (s : Settled) : Type 0 where
  pub behind : NoTextBehind s.world
  pub leads : TokenLeads t w.mode s.reply s.world.mode

-- where it stays in the mode, or leaves for another than "text"
record Stays (w : World) (s : Settled) : Type 0 where
  behind : NoTextBehind s.world
  calm : IsCalm s.reply
  stays : is_text s.world.mode ≡ true → is_text w.mode ≡ true

leaves_stays : (w : World) (s : Settled) → Leaves s → Stays w s
leaves_stays w s l = record { behind = l.no_text.1; calm = l.calm; stays = λ e. let out = l.no_text.0 in absurd (cc) }

at_once_stays : (w v : World) (quiet : Bool) → NoTextIn v → Stays w (at_once v quiet)
at_once_stays w v quiet h = record { behind = h.1; calm = tt; stays = λ e. let out = h.0 in absurd (cc) }

text_stays : (choices : SinkChoices) (t : List ℕ) (w : World) (quiet : Bool) (b : Bool) → is_text w.mode ≡ b → NoTextBehind w → Stays w (at_once (text_rule choices t w) quiet)
unfolding append_text set_frameset_ok_by_text
text_stays choices t w quiet false e h = at_once_stays w (text_rule choices t w) quiet (text_kept choices NoTextIn (no_text_kept choices) t w (e, h))
text_stays choices t w quiet true e h = at (is_foreign_text choices w)
  where
    at : (c : Bool) → Stays w (at_once (cond c (foreign_text t w) (text_in w.mode choices t w)) quiet)
    at true = record { behind = h; calm = tt; stays = λ k. k }
    at false = subst (λ m. Stays w (at_once (text_in m choices t w) quiet)) (sym (mode_is_text w.mode e)) (record { behind = h; calm = tt; stays = λ k. k })

text_step_stays : (choices : SinkChoices) (t : List ℕ) (w : World) → NoTextBehind w → Stays w (text_step choices t w)
text_step_stays choices [] w h = record { behind = h; calm = tt; stays = λ k. k }
text_step_stays choices (b ∷ t) w h = text_stays choices (b ∷ t) w (is_quiet_text w.mode) (is_text w.mode) refl h

doctype_stays : (choices : SinkChoices) (m : InsertionMode) (d : DoctypeText) (w : World) → NoTextBehind w → Stays w (doctype_in m choices d w)
unfolding judged with_doctype insert_doctype set_quirks_mode
doctype_stays choices Initial d w h = at w.options.drop_doctype
  where
    at : (b : Bool) → Stays w (at_once (set_mode BeforeHtml (set_quirks_mode (quirks_of w.options.iframe_srcdoc d) (cond b w (insert_doctype choices (unwrap_or d.name []) (unwrap_or d.public_id []) (unwrap_or d.system_id []) w)))) (is_good_doctype d))
    at true = at_once_stays w _ _ (refl, h)
    at false = at_once_stays w _ _ (refl, h)
doctype_stays choices _ d w h = record { behind = h; calm = tt; stays = λ k. k }

-- what would be refused in a text doesn't come in one
not_in_text : (m : InsertionMode) (t : TokenText) → is_refused_in_text t ≡ true → refuses_in m t ≡ false → is_text m ≡ false
not_in_text Text t r n = absurd (cc)
not_in_text _ t r n = refl

-- a token that isn't a tag, by its turn
turn_stays : (choices : SinkChoices) (t : TokenText) (x : TurnText) (w : World) → is_refused_in_text t ≡ true → is_start_turn x ≡ false → NoTextBehind w → refuses_in w.mode t ≡ false → Stays w (settle choices x w)
turn_stays choices t x w r s h n = leaves_stays w (settle choices x w) (out_leaves (settle choices x w) (settle_out choices x w s (not_in_text w.mode t r n, h)))

tag_leads : (choices : SinkChoices) (tag : TagText) (w : World) (k : TagKind) → tag.kind ≡ k → Fits w → NoTextBehind w → refuses_in w.mode (TagIs tag) ≡ false → StepLeads (TagIs tag) w (settle choices (TagTurn tag) w)
tag_leads choices tag w StartTag e f h n =
    let s = settle choices (TagTurn tag) w in
    let l = settle_leads choices (TagTurn tag) w (not_in_text w.mode (TagIs tag) (ap is_start e) n, h) in
    record { behind = l.behind; leads = subst (λ j. TagLeads j s.reply s.world.mode) (sym e) l.leads }
tag_leads choices tag w EndTag e f h n =
    let s = settle choices (TagTurn tag) w in
    let l = tag_leaves choices tag w (is_text w.mode) refl (ap is_start e) f h in
    record { behind = l.no_text.1; leads = subst (λ j. TagLeads j s.reply s.world.mode) (sym e) (l.calm, l.no_text.0) }

taken_fits : (w : World) → Fits w → Fits (taken w)
unfolding names_of
taken_fits w f = record { mode = f.mode; lists = f.lists }

pub step_leads : (choices : SinkChoices) (t : TokenText) (w : World) → Fits w → NoTextBehind w → refuses_in w.mode t ≡ false → StepLeads t w (step choices t w)
unfolding step
step_leads choices (DoctypeIs d) w f h n = let k = doctype_stays choices w.mode d (taken w) h in record { behind = k.behind; leads = (k.calm, k.stays) }
step_leads choices (TagIs tag) w f h n = let k = tag_leads choices tag (taken w) tag.kind refl (taken_fits w f) h n in record { behind = k.behind; leads = k.leads }
step_leads choices (CommentIs x) w f h n = let k = turn_stays choices (CommentIs x) (CommentTurn x) (taken w) refl refl h n in record { behind = k.behind; leads = (k.calm, k.stays) }
step_leads choices (Characters t) w f h n = let k = text_step_stays choices (without_lf w.ignore_lf t) (taken w) h in record { behind = k.behind; leads = (k.calm, k.stays) }
step_leads choices NullCharacter w f h n = let k = turn_stays choices NullCharacter NullTurn (taken w) refl refl h n in record { behind = k.behind; leads = (k.calm, k.stays) }
step_leads choices EndOfFile w f h n = let k = file_leaves choices (taken w) (is_text w.mode) refl h in record { behind = k.no_text.1; leads = (k.calm, k.no_text.0) }
step_leads choices (ParseErrorIs x) w f h n = record { behind = h; leads = (tt, λ k. k) }

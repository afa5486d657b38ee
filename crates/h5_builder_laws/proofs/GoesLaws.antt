-- Tokens that are taken one after the other, each in one turn.
use Rattle.std.proofs.Common.{◌≡◌, ◌&&◌, not, ℕ, ◌==◌, Bool, true, false, cond, List, [], ◌∷◌, map, refl, ap, sym, subst, ◌∙◌, Some}
use Rattle.h5_token.specs.Reply.{Continues, TurnsRaw}
use Rattle.h5_token.specs.TokenText.{TagText, TokenText, TagIs, Characters, CommentIs, DoctypeIs, EndOfFile, NullCharacter, ParseErrorIs}
use Rattle.h5_token.specs.declared.states.RawKind.TheVariants.{Rcdata}
use Rattle.h5_token.specs.declared.tag.TagKind.{TagKind}
use Rattle.h5_token.specs.declared.tag.TagKind.TheVariants.{StartTag, EndTag}
use Rattle.h5_interface.specs.SinkChoices.{SinkChoices}
use Rattle.h5_tables.specs.TurnText.{EofTurn, TagTurn, TextTurn, TurnText, is_self_closing}
use Rattle.h5_tables.specs.declared.modes.InsertionMode.{InsertionMode}
use Rattle.h5_tables.specs.declared.modes.InsertionMode.TheVariants.{InColumnGroup, InRow, InTable, InTableBody, Text}
use Rattle.h5_tables.specs.declared.modes.SplitStatus.TheVariants.{NotSplit}
use Rattle.h5_builder_spec.specs.formatting.FormattingList.{closed_front}
use Rattle.h5_builder_spec.specs.ByName.{by_kind}
use Rattle.h5_builder_spec.specs.Changes.{append_text, set_frameset_ok_by_text}
use Rattle.h5_builder_spec.specs.insertion.Foreign.{is_foreign}
use Rattle.h5_builder_spec.specs.modes.Modes.{rule}
use Rattle.h5_builder_spec.specs.Rows.{Answers, Change, IsAcknowledged, IsDone, Row, apply_all, ignored, row}
use Rattle.h5_builder_spec.specs.Kinds.{is_start}
use Rattle.h5_builder_spec.specs.Run.{View, after_all, after_token, all_quiet, is_quiet, refuses_in, replies, run, step, take_or_refuse, taken, tell_or_refuse, text_step, without_lf}
use Rattle.h5_builder_spec.specs.Settle.{Settled, settle}
use Rattle.h5_builder_spec.specs.Blanks.{all_blank}
use Rattle.h5_builder_spec.specs.insertion.Place.{LastChild, place}
use Rattle.h5_builder_spec.specs.modes.InTable.{keeps_text}
use Rattle.h5_interface.specs.Changes.{append_text as append_text_to}
use Rattle.h5_builder_spec.specs.Text.{is_quiet_text, text_in_body, text_rule}
use Rattle.h5_builder_spec.specs.modes.TextMode.{text_end}
use Rattle.h5_builder_spec.specs.World.{World}
use Rattle.h5_builder_laws.proofs.cuts.CutLaws.{by_mode}
use Rattle.h5_builder_laws.proofs.modes.ForeignModeLaws.{html_not_foreign}
use Rattle.h5_builder_laws.proofs.modes.ForeignRowLaws.{eof_html}
use Rattle.h5_builder_spec.proofs.changes.FormattingLaws.{reconstruct_none}
use Rattle.h5_builder_laws.proofs.cuts.RunLaws.{is_taken, moved, taken_same, takes_text}
use Rattle.h5_builder_laws.proofs.turns.SettleLaws.{settle-done}
use Rattle.h5_builder_laws.specs.Plain.{is_start_of_title, plain_reply}
use Rattle.h5_builder_laws.proofs.HtmlLaws.{AtHtml, taken_html}
use Rattle.h5_builder_laws.proofs.ModeLaws.{GoesByBody, TheBody, TheCaption, TheCell, quiet_by_body, text_by_body}

-- a token that is taken, and that the mode doesn't refuse, leads to this world, with the answer to it in a plain document
pub record Takes (choices : SinkChoices) (t : TokenText) (w v : World) : Type 0 where
  pub world : (step choices t w).world ≡ v
  pub reply : (step choices t w).reply ≡ plain_reply t
  pub accepted : refuses_in w.mode t ≡ false

-- as above, and no parse error is reported
pub record Moves (choices : SinkChoices) (t : TokenText) (w v : World) : Type 0 where
  pub world : (step choices t w).world ≡ v
  pub reply : (step choices t w).reply ≡ plain_reply t
  pub quiet : (step choices t w).quiet ≡ true
  pub accepted : refuses_in w.mode t ≡ false

pub taken_so : {choices : SinkChoices} {t : TokenText} {w v : World} → Moves choices t w v → Takes choices t w v
taken_so m = record { world = m.world; reply = m.reply; accepted = m.accepted }

one_turn : (choices : SinkChoices) (t : TurnText) (w : World) (m : InsertionMode) (changes : List Change) → w.mode ≡ m → is_foreign choices t w ≡ false → rule m t w ≡ row changes IsDone → not (is_self_closing t) ≡ true
    → settle choices t w ≡ record { world = apply_all choices changes w; turns = 1; reply = Continues; quiet = true }
one_turn choices t w m changes e h f s =
    settle-done choices t w m (row changes IsDone) h e f refl
    ∙ ap (λ b. let x : Settled = record { world = apply_all choices changes w; turns = 1; reply = Continues; quiet = b } in x) s

-- any tag but the start of a title is answered with "go on"
goes_on : (tag : TagText) → is_start_of_title tag ≡ false → Continues ≡ plain_reply (TagIs tag)
goes_on tag n = sym (ap (λ b. cond b (TurnsRaw Rcdata) Continues) n)

-- a token that is ignored in a text reports a parse error
ignored_is_told : (choices : SinkChoices) (t : TurnText) (w : World) → w.mode ≡ Text → is_foreign choices t w ≡ false → rule Text t w ≡ ignored → (settle choices t w).quiet ≡ false
ignored_is_told choices t w e h f = ap (λ (s : Settled). s.quiet) (settle-done choices t w Text ignored h e f refl)

-- so a mode refuses no tag that is taken without one
not_refused : (choices : SinkChoices) (tag : TagText) (w : World) (m : InsertionMode) → w.mode ≡ m → AtHtml w → (step choices (TagIs tag) w).quiet ≡ true → refuses_in m (TagIs tag) ≡ false
unfolding step
not_refused choices tag w Text e h q = at tag.kind refl
  where
    at : (k : TagKind) → tag.kind ≡ k → is_start tag.kind ≡ false
    at StartTag k = absurd (let told = ignored_is_told choices (TagTurn tag) (taken w) e (taken_html choices (TagTurn tag) w h) (ap (λ x. by_kind x ignored (text_end tag (taken w))) k) in cc)
    at EndTag k = ap is_start k
not_refused choices tag w _ e h q = refl

-- and none refuses the end of the file
takes_end : (m : InsertionMode) → refuses_in m EndOfFile ≡ false
takes_end Text = refl
takes_end _ = refl

-- such is a tag that is done with in one turn, without a parse error
pub moves_tag : (choices : SinkChoices) (tag : TagText) (w : World) (m : InsertionMode) (changes : List Change) → w.mode ≡ m → AtHtml w → rule m (TagTurn tag) (taken w) ≡ row changes IsDone → not (is_self_closing (TagTurn tag)) ≡ true → is_start_of_title tag ≡ false
    → Moves choices (TagIs tag) w (apply_all choices changes (taken w))
unfolding step
moves_tag choices tag w m changes e h f s n =
    let one = one_turn choices (TagTurn tag) (taken w) m changes e (taken_html choices (TagTurn tag) w h) f s in
    let quiet = ap (λ (x : Settled). x.quiet) one in
    record { world = ap (λ (x : Settled). x.world) one; reply = ap (λ (x : Settled). x.reply) one ∙ goes_on tag n; quiet = quiet; accepted = not_refused choices tag w w.mode refl h quiet }

-- or one that is answered as in a plain document
pub moves_answered : (choices : SinkChoices) (tag : TagText) (w : World) (m : InsertionMode) (changes : List Change) → w.mode ≡ m → AtHtml w → rule m (TagTurn tag) (taken w) ≡ row changes (Answers (plain_reply (TagIs tag)))
    → Moves choices (TagIs tag) w (apply_all choices changes (taken w))
unfolding step
moves_answered choices tag w m changes e h f =
    let one = settle-done choices (TagTurn tag) (taken w) m (row changes (Answers (plain_reply (TagIs tag)))) (taken_html choices (TagTurn tag) w h) e f refl in
    let quiet = ap (λ (x : Settled). x.quiet) one in
    record { world = ap (λ (x : Settled). x.world) one; reply = ap (λ (x : Settled). x.reply) one; quiet = quiet; accepted = not_refused choices tag w w.mode refl h quiet }

-- and the end of the file
pub moves_end : (choices : SinkChoices) (w : World) (m : InsertionMode) (changes : List Change) → w.mode ≡ m → rule m EofTurn (taken w) ≡ row changes IsDone → Moves choices EndOfFile w (apply_all choices changes (taken w))
unfolding step
moves_end choices w m changes e f =
    let one = one_turn choices EofTurn (taken w) m changes e (eof_html choices (taken w)) f refl in
    record { world = ap (λ (x : Settled). x.world) one; reply = ap (λ (x : Settled). x.reply) one; quiet = ap (λ (x : Settled). x.quiet) one; accepted = takes_end w.mode }

-- one token of such a list: if no whitespace text is in a table, no parse error is reported
pub record Steps (blanks : Bool) (choices : SinkChoices) (t : TokenText) (w v : World) : Type 0 where
  pub takes : Takes choices t w v
  pub quiet : blanks ≡ false → (step choices t w).quiet ≡ true

pub steps_of : {blanks : Bool} {choices : SinkChoices} {t : TokenText} {w v : World} → Moves choices t w v → Steps blanks choices t w v
steps_of m = record { takes = taken_so m; quiet = λ e. m.quiet }

pub steps_aside : {blanks : Bool} {choices : SinkChoices} {t : TokenText} {w v : World} → blanks ≡ true → Takes choices t w v → Steps blanks choices t w v
steps_aside e m = record { takes = m; quiet = λ f. absurd (cc) }

abbrev pub Runs : Bool → SinkChoices → List TokenText → World → World → Type 0
Runs blanks choices [] w u = w ≡ u
Runs blanks choices (t ∷ ts) w u = (v : World) × (Steps blanks choices t w v × Runs blanks choices ts v u)

-- the modes in which the text of a table is buffered
pub data IsTableMode : InsertionMode → Type 0 where
  TheTable : IsTableMode InTable
  TheSection : IsTableMode InTableBody
  TheRow : IsTableMode InRow

abbrev pub BeginsWithTag : List TokenText → Type 0
BeginsWithTag (TagIs tag ∷ ts) = Unit {0}
BeginsWithTag _ = ⊥

-- a whitespace text in a table: it is buffered, and inserted into the current node by the next tag
pub record Blanks (t : List ℕ) (w v : World) : Type 0 where
  pub ignore_lf : w.ignore_lf ≡ false
  pub none_pending : w.pending ≡ []
  pub html : AtHtml w
  pub keeps : keeps_text w ≡ true
  pub mode : IsTableMode w.mode
  pub blank : all_blank t ≡ true
  pub node : ℕ
  pub placed : place w ≡ LastChild node
  pub to : v ≡ record w { forest = append_text_to node t w.forest; saved_mode = Some w.mode }

-- a token leads on its own, or, where blank texts stand in tables, as such a text before a tag, or as one in a `colgroup`
pub data Leads (blanks : Bool) (choices : SinkChoices) : TokenText → List TokenText → World → World → Type 0 where
  Straight : {t : TokenText} {ts : List TokenText} {w v : World} → Moves choices t w v → Leads blanks choices t ts w v
  InColumns : {t : TokenText} {ts : List TokenText} {w v : World} → blanks ≡ true → w.mode ≡ InColumnGroup → Takes choices t w v → Leads blanks choices t ts w v
  KeptBack : {b : ℕ} {t : List ℕ} {ts : List TokenText} {w v : World} → blanks ≡ true → BeginsWithTag ts → Blanks (b ∷ t) w v → Leads blanks choices (Characters (b ∷ t)) ts w v

abbrev pub Goes : Bool → SinkChoices → List TokenText → World → World → Type 0
Goes blanks choices [] w u = w ≡ u
Goes blanks choices (t ∷ ts) w u = (v : World) × (Leads blanks choices t ts w v × Goes blanks choices ts v u)

-- a run of such a list
pub record Arrives (blanks : Bool) (choices : SinkChoices) (ts : List TokenText) (v : View) (u : World) : Type 0 where
  pub world : (after_all choices ts v).world ≡ u
  pub answers : replies choices ts v ≡ map plain_reply ts
  pub quiet : blanks ≡ false → all_quiet choices ts v ≡ true

both : (a b : Bool) → a ≡ true → b ≡ true → (a && b) ≡ true
both true b p q = q
both false b p q = absurd (cc)

-- where a list leads, its run arrives
pub arrives : {blanks : Bool} (choices : SinkChoices) (ts : List TokenText) (v : View) (u : World) → v.failed ≡ false → v.ended ≡ false → Runs blanks choices ts v.world u → Arrives blanks choices ts v u
unfolding run
arrives choices [] v u f e g = record { world = g; answers = refl; quiet = λ q. refl }
arrives choices (t ∷ ts) v u f e (w, (s, g)) =
    let m = s.takes in
    let r = is_taken v t f e m.accepted in
    let next : after_token choices t v ≡ moved v w = ap (λ o. take_or_refuse choices t o v) r ∙ ap (moved v) m.world in
    let rest = arrives choices ts (moved v w) u f e g in
    record {
      world = ap (λ (x : View). (after_all choices ts x).world) next ∙ rest.world;
      answers = ap (λ x. x ∷ replies choices ts (after_token choices t v)) (ap (λ o. (tell_or_refuse choices t o v).reply) r ∙ m.reply)
          ∙ ap (λ x. plain_reply t ∷ replies choices ts x) next
          ∙ ap (λ xs. plain_reply t ∷ xs) rest.answers;
      quiet = λ q. both (is_quiet choices t v) (all_quiet choices ts (after_token choices t v)) (ap (λ o. (tell_or_refuse choices t o v).quiet) r ∙ s.quiet q) (ap (all_quiet choices ts) next ∙ rest.quiet q);
    }

-- a token in the body, by the changes of its row
in_row : (m : InsertionMode) (t : TurnText) (w : World) (r : Row) → w.ignore_lf ≡ false → rule m t w ≡ r → rule m t (taken w) ≡ r
in_row m t w r e f = subst (λ x. rule m t x ≡ r) (sym (taken_same w e)) f

pub moves_row : (choices : SinkChoices) (tag : TagText) (w v : World) (m : InsertionMode) (changes : List Change) → w.mode ≡ m → w.ignore_lf ≡ false → AtHtml w → rule m (TagTurn tag) w ≡ row changes IsDone → not (is_self_closing (TagTurn tag)) ≡ true → is_start_of_title tag ≡ false
    → apply_all choices changes w ≡ v → Moves choices (TagIs tag) w v
moves_row choices tag w v m changes e i h f s n a =
    subst (Moves choices (TagIs tag) w) (ap (apply_all choices changes) (taken_same w i) ∙ a)
    (moves_tag choices tag w m changes e h (in_row m (TagTurn tag) w (row changes IsDone) i f) s n)

-- also where a self-closing flag would be acknowledged
pub moves_acknowledged : (choices : SinkChoices) (tag : TagText) (w v : World) (m : InsertionMode) (changes : List Change) → w.mode ≡ m → w.ignore_lf ≡ false → AtHtml w → rule m (TagTurn tag) w ≡ row changes IsAcknowledged → is_start_of_title tag ≡ false
    → apply_all choices changes w ≡ v → Moves choices (TagIs tag) w v
unfolding step
moves_acknowledged choices tag w v m changes e i h f n a =
    let one = settle-done choices (TagTurn tag) (taken w) m (row changes IsAcknowledged) (taken_html choices (TagTurn tag) w h) e (in_row m (TagTurn tag) w (row changes IsAcknowledged) i f) refl in
    let quiet = ap (λ (x : Settled). x.quiet) one in
    record {
      world = ap (λ (x : Settled). x.world) one ∙ ap (apply_all choices changes) (taken_same w i) ∙ a;
      reply = ap (λ (x : Settled). x.reply) one ∙ goes_on tag n;
      quiet = quiet;
      accepted = not_refused choices tag w w.mode refl h quiet;
    }

-- a text in a mode that uses the rules of the body, if nothing is to be reconstructed
pub moves_text : (choices : SinkChoices) (b : ℕ) (t : List ℕ) (w : World) → GoesByBody w.mode → w.ignore_lf ≡ false → AtHtml w → closed_front w.stack w.formatting ≡ []
    → Moves choices (Characters (b ∷ t)) w (append_text (b ∷ t) (set_frameset_ok_by_text (b ∷ t) w))
unfolding step text_in_body
moves_text choices b t w m e h c = record {
  world =
      ap (λ l. (text_step choices (without_lf l (b ∷ t)) (taken w)).world) e
      ∙ ap (text_rule choices (b ∷ t)) (taken_same w e)
      ∙ by_mode choices w.mode (b ∷ t) w (html_not_foreign choices (TextTurn NotSplit []) w h) refl
      ∙ text_by_body choices (b ∷ t) w m
      ∙ ap (λ v. append_text (b ∷ t) (set_frameset_ok_by_text (b ∷ t) v)) (reconstruct_none choices w c);
  reply = ap (λ l. (text_step choices (without_lf l (b ∷ t)) (taken w)).reply) e;
  quiet = ap (λ l. (text_step choices (without_lf l (b ∷ t)) (taken w)).quiet) e ∙ quiet_by_body m;
  accepted = takes_text w.mode (b ∷ t);
}

-- and a text in a text
pub moves_raw_text : (choices : SinkChoices) (b : ℕ) (t : List ℕ) (w : World) → w.mode ≡ Text → w.ignore_lf ≡ false → AtHtml w → Moves choices (Characters (b ∷ t)) w (append_text (b ∷ t) w)
unfolding step
moves_raw_text choices b t w m e h = record {
  world =
      ap (λ l. (text_step choices (without_lf l (b ∷ t)) (taken w)).world) e
      ∙ ap (text_rule choices (b ∷ t)) (taken_same w e)
      ∙ by_mode choices Text (b ∷ t) w (html_not_foreign choices (TextTurn NotSplit []) w h) m;
  reply = ap (λ l. (text_step choices (without_lf l (b ∷ t)) (taken w)).reply) e;
  quiet = ap (λ l. (text_step choices (without_lf l (b ∷ t)) (taken w)).quiet) e ∙ ap is_quiet_text m;
  accepted = takes_text w.mode (b ∷ t);
}

-- if the newline flag is set, a token that isn't a text with a newline at its start moves as if it isn't set
abbrev pub ignoring : World → World
ignoring w = record w { ignore_lf = true }

abbrev pub begins_otherwise : TokenText → Bool
begins_otherwise (TagIs tag) = true
begins_otherwise (Characters []) = true
begins_otherwise (Characters (b ∷ t)) = not (b == 10)
begins_otherwise _ = false

other_front : (b : Bool) → not b ≡ true → b ≡ false
other_front true h = absurd (cc)
other_front false h = refl

pub moves_ignoring : (choices : SinkChoices) (t : TokenText) (w v : World) → w.ignore_lf ≡ false → begins_otherwise t ≡ true → Moves choices t w v → Moves choices t (ignoring w) v
unfolding step
moves_ignoring choices (TagIs tag) w v e h m = record { world = m.world; reply = m.reply; quiet = m.quiet; accepted = m.accepted }
moves_ignoring choices (Characters (b ∷ t)) w v e h m =
    let same : without_lf true (b ∷ t) ≡ without_lf w.ignore_lf (b ∷ t) = ap (λ c. cond c t (b ∷ t)) (other_front (b == 10) h) ∙ sym (ap (λ l. without_lf l (b ∷ t)) e) in
    record {
      world = ap (λ l. (text_step choices l (taken w)).world) same ∙ m.world;
      reply = ap (λ l. (text_step choices l (taken w)).reply) same ∙ m.reply;
      quiet = ap (λ l. (text_step choices l (taken w)).quiet) same ∙ m.quiet;
      accepted = m.accepted;
    }
moves_ignoring choices (Characters []) w v e h m =
    let same : without_lf true [] ≡ without_lf w.ignore_lf [] = sym (ap (λ l. without_lf l []) e) in
    record {
      world = ap (λ l. (text_step choices l (taken w)).world) same ∙ m.world;
      reply = ap (λ l. (text_step choices l (taken w)).reply) same ∙ m.reply;
      quiet = ap (λ l. (text_step choices l (taken w)).quiet) same ∙ m.quiet;
      accepted = m.accepted;
    }
moves_ignoring choices (DoctypeIs x) w v e h m = absurd (cc)
moves_ignoring choices (CommentIs x) w v e h m = absurd (cc)
moves_ignoring choices NullCharacter w v e h m = absurd (cc)
moves_ignoring choices EndOfFile w v e h m = absurd (cc)
moves_ignoring choices (ParseErrorIs x) w v e h m = absurd (cc)

-- so does a list that begins with such a token, in a mode that keeps no text back
abbrev pub BeginsOtherwise : List TokenText → Type 0
BeginsOtherwise [] = ⊥
BeginsOtherwise (t ∷ ts) = begins_otherwise t ≡ true

abbrev is_table_mode : InsertionMode → Bool
is_table_mode InTable = true
is_table_mode InTableBody = true
is_table_mode InRow = true
is_table_mode _ = false

in_table_mode : {m : InsertionMode} → IsTableMode m → is_table_mode m ≡ true
in_table_mode TheTable = refl
in_table_mode TheSection = refl
in_table_mode TheRow = refl

by_body : {m : InsertionMode} → GoesByBody m → is_table_mode m ≡ false
by_body TheBody = refl
by_body TheCell = refl
by_body TheCaption = refl

pub no_table_mode : {m : InsertionMode} → GoesByBody m → IsTableMode m → ⊥
no_table_mode k t = absurd (let e : true ≡ false = sym (in_table_mode t) ∙ by_body k in cc)

no_columns : {m : InsertionMode} → GoesByBody m → m ≡ InColumnGroup → ⊥
no_columns TheBody e = cc
no_columns TheCell e = cc
no_columns TheCaption e = cc

pub goes_ignoring : (blanks : Bool) (choices : SinkChoices) (ts : List TokenText) (w u : World) → GoesByBody w.mode → w.ignore_lf ≡ false → BeginsOtherwise ts → Goes blanks choices ts w u → Goes blanks choices ts (ignoring w) u
goes_ignoring blanks choices [] w u k e h g = absurd (h)
goes_ignoring blanks choices (t ∷ ts) w u k e h (v, (Straight m, g)) = (v, (Straight (moves_ignoring choices t w v e h m), g))
goes_ignoring blanks choices (t ∷ ts) w u k e h (v, (InColumns z x m, g)) = absurd (no_columns k x)
goes_ignoring blanks choices (t ∷ ts) w u k e h (v, (KeptBack z x blank, g)) = absurd (no_table_mode k blank.mode)

-- and a text with one more newline at its start moves there as the text without it if the flag isn't set
moves_behind_newline : (choices : SinkChoices) (b : ℕ) (t : List ℕ) (w v : World) → w.ignore_lf ≡ false → Moves choices (Characters (b ∷ t)) w v → Moves choices (Characters (10 ∷ b ∷ t)) (ignoring w) v
unfolding step
moves_behind_newline choices b t w v e m =
    let same : b ∷ t ≡ without_lf w.ignore_lf (b ∷ t) = sym (ap (λ l. without_lf l (b ∷ t)) e) in
    record {
      world = ap (λ l. (text_step choices l (taken w)).world) same ∙ m.world;
      reply = ap (λ l. (text_step choices l (taken w)).reply) same ∙ m.reply;
      quiet = ap (λ l. (text_step choices l (taken w)).quiet) same ∙ m.quiet;
      accepted = takes_text w.mode (10 ∷ b ∷ t);
    }

pub goes_behind_newline : (blanks : Bool) (choices : SinkChoices) (b : ℕ) (t : List ℕ) (ts : List TokenText) (w u : World) → GoesByBody w.mode → w.ignore_lf ≡ false
    → Goes blanks choices (Characters (b ∷ t) ∷ ts) w u → Goes blanks choices (Characters (10 ∷ b ∷ t) ∷ ts) (ignoring w) u
goes_behind_newline blanks choices b t ts w u k e (v, (Straight m, g)) = (v, (Straight (moves_behind_newline choices b t w v e m), g))
goes_behind_newline blanks choices b t ts w u k e (v, (InColumns z x m, g)) = absurd (no_columns k x)
goes_behind_newline blanks choices b t ts w u k e (v, (KeptBack z x blank, g)) = absurd (no_table_mode k blank.mode)

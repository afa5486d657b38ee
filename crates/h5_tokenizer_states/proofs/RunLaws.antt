-- What a state does at a byte of its run: one line for each state that has one.
use Rattle.std.proofs.Common.{◌≡◌, ℕ, Bool, true, false, not, List, [], ◌∷◌, ◌++◌, refl, sym, ap, ◌∙◌, arith, ◌==◌, ◌||◌}
use Rattle.std.proofs.lemmas.Bool.{false≢true, and_left}
use Rattle.std.proofs.lemmas.Bool.Decides.{nat_tests}
use Rattle.std.specs.Char.{is_ascii_alphabetic}
use Rattle.h5_token.specs.TokenText.{DoctypeText}
use Rattle.h5_tokenizer_spec.specs.declared.kinds.TextKind.{TextKind}
use Rattle.h5_tokenizer_spec.specs.declared.kinds.TextKind.TheVariants as kind
use Rattle.h5_tokenizer_spec.specs.Signs.{null, ampersand, hyphen, solidus, less_than_sign, equals_sign, greater_than_sign, right_square_bracket, is_blank, is_name_end, is_alphanumeric, sign_of}
use Rattle.h5_tokenizer_spec.specs.Construction.{Tag}
use Rattle.h5_tokenizer_spec.specs.States as s
use Rattle.h5_tokenizer_spec.specs.Turn.{Turn, Consumed}
use Rattle.h5_tokenizer_spec.specs.Texts.{text_state, is_appropriate}
use Rattle.h5_tokenizer_spec.specs.References.{Reference}
use Rattle.h5_tokenizer_spec.specs.Machine.{turn}
use Rattle.h5_tokenizer_states.specs.Parts.{Parts}
use Rattle.h5_tokenizer_states.specs.StateOf.{state_of, text_state_of, tag_state_of, comment_state_of, doctype_state_of, reference_state_of, return_of}
use Rattle.h5_tokenizer_states.specs.declared.machine_state.MachineState.{MachineState}
use Rattle.h5_tokenizer_states.specs.declared.machine_state.MachineState.TheVariants as at
use Rattle.h5_tokenizer_states.specs.declared.machine_state.TextState.{TextState}
use Rattle.h5_tokenizer_states.specs.declared.machine_state.TextState.TheVariants as t
use Rattle.h5_tokenizer_states.specs.declared.machine_state.TagState.{TagState}
use Rattle.h5_tokenizer_states.specs.declared.machine_state.TagState.TheVariants as g
use Rattle.h5_tokenizer_states.specs.declared.machine_state.CommentState.{CommentState}
use Rattle.h5_tokenizer_states.specs.declared.machine_state.CommentState.TheVariants as c
use Rattle.h5_tokenizer_states.specs.declared.machine_state.DoctypeState.{DoctypeState}
use Rattle.h5_tokenizer_states.specs.declared.machine_state.DoctypeState.TheVariants as d
use Rattle.h5_tokenizer_states.specs.declared.machine_state.ReferenceState.{ReferenceState}
use Rattle.h5_tokenizer_states.specs.declared.machine_state.ReferenceState.TheVariants as r
use Rattle.h5_tokenizer_states.specs.declared.machine_state.ReturnTo.{ReturnTo}
use Rattle.h5_tokenizer_states.specs.declared.machine_state.ReturnTo.TheVariants as to
use Rattle.h5_tokenizer_states.specs.declared.machine_state.ValueKind.{ValueKind}
use Rattle.h5_tokenizer_states.specs.declared.machine_state.ValueKind.TheVariants as v
use Rattle.h5_tokenizer_states.specs.Runs.{is_in, run_of, run_of_text, run_of_text_state, run_of_value, run_of_tag, run_of_comment, run_of_doctype, run_of_reference, at_behind, text_behind, doctype_behind, parts_behind, buffer_behind, tag_behind, doctype_text_behind, tag_flushed, put_by, text_put, text_flushed}
use Rattle.h5_tokenizer_states.proofs.AsciiLaws.{wide_not, wide_blank}
use Rattle.h5_tokenizer_states.proofs.TextLaws.{not_ended}

pub neither : (a b : Bool) → (a || b) ≡ false → (a ≡ false) × (b ≡ false)
neither true b h = absurd (false≢true (sym h))
neither false b h = (refl, h)

denied : (a : Bool) → not a ≡ true → a ≡ false
denied true h = absurd (false≢true h)
denied false h = refl

-- none of some tests holds
pub none_of_two : (a b : Bool) → not (a || b) ≡ true → (a ≡ false) × (b ≡ false)
none_of_two a b h = neither a b (denied (a || b) h)

pub none_of_three : (a b c : Bool) → not (a || (b || c)) ≡ true → (a ≡ false) × (b ≡ false) × (c ≡ false)
none_of_three a b c h = let p = neither a (b || c) (denied (a || (b || c)) h) in let q = neither b c p.1 in (p.0, q.0, q.1)

pub none_of_four : (a b c d : Bool) → not (a || (b || (c || d))) ≡ true → (a ≡ false) × (b ≡ false) × (c ≡ false) × (d ≡ false)
none_of_four a b c d h =
    let p = neither a (b || (c || d)) (denied (a || (b || (c || d))) h) in
    let q = neither b (c || d) p.1 in
    let r = neither c d q.1 in (p.0, q.0, r.0, r.1)

pub none_of_five : (a b c d e : Bool) → not (a || (b || (c || (d || e)))) ≡ true → (a ≡ false) × (b ≡ false) × (c ≡ false) × (d ≡ false) × (e ≡ false)
none_of_five a b c d e h =
    let p = neither a (b || (c || (d || e))) (denied (a || (b || (c || (d || e)))) h) in
    let q = neither b (c || (d || e)) p.1 in
    let r = neither c (d || e) q.1 in
    let t = neither d e r.1 in (p.0, q.0, r.0, t.0, t.1)

letter_end : (x : ℕ) → is_ascii_alphabetic x ≡ true → is_name_end x ≡ false
letter_end x h = grind (arith, nat_tests)

kind_adds : (kind : TextKind) (x : ℕ) → is_in (run_of_text kind) x ≡ true → (text_state kind x).outcome ≡ Consumed (x ∷ []) (s.Text kind)
kind_adds kind.Data x h = let p = none_of_four (x == less_than_sign) (x == ampersand) (x == null) (x == 13) h in rw (p.0, p.1, p.2) refl
kind_adds kind.Rcdata x h = let p = none_of_four (x == less_than_sign) (x == ampersand) (x == null) (x == 13) h in rw (p.0, p.1, p.2) refl
kind_adds kind.Rawtext x h = let p = none_of_three (x == less_than_sign) (x == null) (x == 13) h in rw (p.0, p.1) refl
kind_adds kind.ScriptData x h = let p = none_of_three (x == less_than_sign) (x == null) (x == 13) h in rw (p.0, p.1) refl
kind_adds kind.Plaintext x h = let p = none_of_two (x == null) (x == 13) h in rw p.0 refl
kind_adds kind.CdataSection x h = let p = none_of_three (x == right_square_bracket) (x == null) (x == 13) h in rw (p.0, p.1) refl

text_adds : (table : List Reference) (last : List ℕ) (state : TextState) (buffer : List ℕ) (x : ℕ) → is_in (run_of_text_state state) x ≡ true
    → (turn table last (text_state_of state buffer) x).outcome ≡ Consumed (text_put state (x ∷ [])) (text_state_of (text_behind state) (buffer_behind state (x ∷ []) buffer))
text_adds table last (t.Text kind) buffer x h = kind_adds kind x h
text_adds table last (t.RawEndTagName kind) buffer x h =
    ap (λ (row : Turn). row.outcome) (not_ended (is_blank x) (x == solidus) (x == greater_than_sign) (is_appropriate last buffer) _ _ _ _ (and_left (is_name_end x) _ (letter_end x h))) ∙ rw h refl
text_adds table last (t.ScriptDataEscaped depth) buffer x h = let p = none_of_four (x == hyphen) (x == less_than_sign) (x == null) (x == 13) h in rw (p.0, p.1, p.2) refl
text_adds table last (t.ScriptDataEscapedDash depth) buffer x h = rw (wide_not x hyphen h refl, wide_not x less_than_sign h refl, wide_not x null h refl) refl
text_adds table last (t.ScriptDataEscapedDashDash depth) buffer x h = rw (wide_not x hyphen h refl, wide_not x less_than_sign h refl, wide_not x greater_than_sign h refl, wide_not x null h refl) refl
text_adds table last state buffer x h = absurd (false≢true h)

value_adds : (table : List Reference) (last : List ℕ) (value : ValueKind) (tag : Tag) (x : ℕ) → is_in (run_of_value value) x ≡ true
    → (turn table last (tag_state_of (g.AttributeValue value) tag) x).outcome ≡ Consumed [] (tag_state_of (g.AttributeValue value) (tag_behind (g.AttributeValue value) (x ∷ []) tag))
value_adds table last (v.Quoted quote) tag x h = let p = none_of_four (x == sign_of quote) (x == ampersand) (x == null) (x == 13) h in rw (p.0, p.1, p.2) refl
value_adds table last v.Unquoted tag x h = let p = none_of_five (is_blank x) (x == ampersand) (x == greater_than_sign) (x == null) (x == 13) h in rw (p.0, p.1, p.2, p.3) refl

tag_adds : (table : List Reference) (last : List ℕ) (state : TagState) (tag : Tag) (x : ℕ) → is_in (run_of_tag state) x ≡ true
    → (turn table last (tag_state_of state tag) x).outcome ≡ Consumed [] (tag_state_of state (tag_behind state (x ∷ []) tag))
tag_adds table last g.TagName tag x h =
    let p = none_of_three (is_name_end x) (x == null) (x == 13) h in
    let q = neither (is_blank x) (x == solidus || x == greater_than_sign) p.0 in
    let r = neither (x == solidus) (x == greater_than_sign) q.1 in
    rw (q.0, r.0, r.1, p.1) refl
tag_adds table last g.BeforeAttributeName tag x h = rw h refl
tag_adds table last g.AttributeName tag x h = let p = none_of_four (is_name_end x) (x == equals_sign) (x == null) (x == 13) h in rw (p.0, p.1, p.2) refl
tag_adds table last g.AfterAttributeName tag x h = rw h refl
tag_adds table last g.BeforeAttributeValue tag x h = rw h refl
tag_adds table last (g.AttributeValue value) tag x h = value_adds table last value tag x h
tag_adds table last state tag x h = absurd (false≢true h)

comment_adds : (table : List Reference) (last : List ℕ) (state : CommentState) (comment : List ℕ) (x : ℕ) → is_in (run_of_comment state) x ≡ true
    → (turn table last (comment_state_of state comment) x).outcome ≡ Consumed [] (comment_state_of state (comment ++ (x ∷ [])))
comment_adds table last c.BogusComment comment x h = let p = none_of_three (x == greater_than_sign) (x == null) (x == 13) h in rw (p.0, p.1) refl
comment_adds table last c.Comment comment x h = let p = none_of_four (x == hyphen) (x == less_than_sign) (x == null) (x == 13) h in rw (p.0, p.1, p.2) refl
comment_adds table last state comment x h = absurd (false≢true h)

doctype_adds : (table : List Reference) (last : List ℕ) (state : DoctypeState) (doctype : DoctypeText) (buffer : List ℕ) (x : ℕ) → is_in (run_of_doctype state) x ≡ true
    → (turn table last (doctype_state_of state doctype buffer) x).outcome ≡ Consumed [] (doctype_state_of (doctype_behind state) (doctype_text_behind state (x ∷ []) doctype) buffer)
doctype_adds table last d.BeforeDoctypeName doctype buffer x h = rw (wide_blank x h, wide_not x null h refl, wide_not x greater_than_sign h refl) refl
doctype_adds table last d.DoctypeName doctype buffer x h = let p = none_of_four (is_blank x) (x == greater_than_sign) (x == null) (x == 13) h in rw (p.0, p.1, p.2) refl
doctype_adds table last (d.BeforeDoctypeIdentifier id) doctype buffer x h = rw h refl
doctype_adds table last (d.DoctypeIdentifier id quote) doctype buffer x h = let p = none_of_four (x == sign_of quote) (x == greater_than_sign) (x == null) (x == 13) h in rw (p.0, p.1, p.2) refl
doctype_adds table last d.BetweenDoctypeIdentifiers doctype buffer x h = rw h refl
doctype_adds table last d.AfterDoctypeSystemIdentifier doctype buffer x h = rw h refl
doctype_adds table last d.BogusDoctype doctype buffer x h = let p = none_of_three (x == greater_than_sign) (x == null) (x == 13) h in rw (p.0, p.1) refl
doctype_adds table last state doctype buffer x h = absurd (false≢true h)

ampersand_adds : (table : List Reference) (last : List ℕ) (return_to : ReturnTo) (tag : Tag) (x : ℕ) → is_alphanumeric x ≡ true
    → (turn table last (s.AmbiguousAmpersand (return_of return_to tag)) x).outcome ≡ Consumed (text_flushed return_to (x ∷ [])) (s.AmbiguousAmpersand (return_of return_to (tag_flushed return_to (x ∷ []) tag)))
ampersand_adds table last to.Data tag x h = rw h refl
ampersand_adds table last to.Rcdata tag x h = rw h refl
ampersand_adds table last (to.Value value) tag x h = rw h refl

reference_adds : (table : List Reference) (last : List ℕ) (state : ReferenceState) (return_to : ReturnTo) (tag : Tag) (seen : List ℕ) (code x : ℕ) → is_in (run_of_reference state) x ≡ true
    → (turn table last (reference_state_of state (return_of return_to tag) seen code) x).outcome
    ≡ Consumed (text_flushed return_to (x ∷ [])) (reference_state_of state (return_of return_to (tag_flushed return_to (x ∷ []) tag)) seen code)
reference_adds table last r.AmbiguousAmpersand return_to tag seen code x h = ampersand_adds table last return_to tag x h
reference_adds table last state return_to tag seen code x h = absurd (false≢true h)

pub adds : (table : List Reference) (last : List ℕ) (at : MachineState) (parts : Parts) (x : ℕ) → is_in (run_of at) x ≡ true
    → (turn table last (state_of at parts) x).outcome ≡ Consumed (put_by at (x ∷ [])) (state_of (at_behind at) (parts_behind at (x ∷ []) parts))
adds table last (at.Text state) parts x h = text_adds table last state parts.buffer x h
adds table last (at.Tag state) parts x h = tag_adds table last state parts.tag x h
adds table last (at.Comment state) parts x h = comment_adds table last state parts.comment x h
adds table last (at.Doctype state) parts x h = doctype_adds table last state parts.doctype parts.buffer x h
adds table last (at.Reference state return_to) parts x h = reference_adds table last state return_to parts.tag parts.seen parts.code x h

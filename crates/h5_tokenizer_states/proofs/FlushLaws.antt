-- What is flushed after the search for a name.
use Rattle.std.proofs.Common.{◌≡◌, ℕ, zero, suc, ◌-◌, ◌<◌, ◌==◌, Bool, true, false, refl, sym, ap, ◌∙◌, List, [], ◌∷◌, ◌++◌, get_or, length, subst, arith}
use Rattle.std.proofs.lemmas.Bool.{cond-false, cond-true, false≢true, true≢false}
use Rattle.std.specs.Prelude.{Option, Some, None, codes, if◌then◌else◌, is_some}
use Rattle.h5_tokenizer_spec.specs.declared.errors.ParseError.{ParseError}
use Rattle.h5_tokenizer_spec.specs.Construction.{Tag}
use Rattle.h5_tokenizer_spec.specs.States.{Return, ToValue, returned, AmbiguousAmpersand, AttributeValue, NamedCharacterReference}
use Rattle.h5_tokenizer_spec.specs.Turn.{Turn, Reconsumed, Consumed, flush_again, to, wrong_if}
use Rattle.h5_tokenizer_spec.specs.References.{Longest, ends_in, is_beginning, is_historical, longest, named, named_character_reference_state, unnamed}
use Rattle.h5_tokenizer_spec.specs.ReferenceTable.{references}
use Rattle.h5_tokenizer_states.specs.declared.machine_state.MachineState.{MachineState}
use Rattle.h5_tokenizer_states.specs.declared.machine_state.MachineState.TheVariants as at
use Rattle.h5_tokenizer_states.specs.declared.machine_state.ReferenceState.TheVariants as at_reference
use Rattle.h5_tokenizer_states.specs.declared.machine_state.ReturnTo.{ReturnTo}
use Rattle.h5_tokenizer_states.specs.declared.machine_state.ReturnTo.TheVariants as return_to
use Rattle.h5_tokenizer_states.specs.declared.transition.Transition.{Transition}
use Rattle.h5_tokenizer_states.specs.declared.transition.Transition.TheVariants as transition
use Rattle.h5_tokenizer_states.specs.Parts.{Parts}
use Rattle.h5_tokenizer_states.specs.StateOf.{return_of, state_of, value_of}
use Rattle.h5_tokenizer_states.specs.OutcomeOf.{Does, outcome_of}
use Rattle.h5_tokenizer_states.specs.Flushing.{DoesSeen, Flushes, text_named}
use Rattle.h5_tokenizer_states.proofs.OutcomeLaws.{does_same, nothing_more}

-- a name and what follows it, as a record
abbrev found_as : List ℕ → List ℕ → List ℕ → Longest
found_as name text rest = record { name = name; text = text; rest = rest }

-- what was seen is text, unchanged
pub text_of_seen : (return : Return) (seen : List ℕ) (x : ℕ) (text name rest name_now rest_now : List ℕ) → name_now ≡ name → rest_now ≡ rest
    → true ≡ is_historical return (found_as name_now text rest_now) x
    → codes "&" ++ seen ≡ text_named return seen x (Some (found_as name text rest))
text_of_seen return seen x text name rest name_now rest_now e f h =
    let same : is_historical return (found_as name text rest) x ≡ true =
    ap (λ n. is_historical return (found_as n text rest) x) (sym e) ∙ (ap (λ r. is_historical return (found_as name_now text r) x) (sym f) ∙ sym h) in
    sym (cond-true (is_historical return (found_as name text rest) x) (codes "&" ++ seen) (text ++ rest) same)

-- the name is replaced by its text
pub text_of_found : (return : Return) (seen : List ℕ) (x : ℕ) (text name rest name_now rest_now : List ℕ) → name_now ≡ name → rest_now ≡ rest
    → false ≡ is_historical return (found_as name_now text rest_now) x
    → text ++ rest_now ≡ text_named return seen x (Some (found_as name text rest))
text_of_found return seen x text name rest name_now rest_now e f h =
    let same : is_historical return (found_as name text rest) x ≡ false =
    ap (λ n. is_historical return (found_as n text rest) x) (sym e) ∙ (ap (λ r. is_historical return (found_as name_now text r) x) (sym f) ∙ sym h) in
    ap (λ r. text ++ r) f ∙ sym (cond-false (is_historical return (found_as name text rest) x) (codes "&" ++ seen) (text ++ rest) same)

-- a text was flushed, and the return state is next
flushed_again : (return_to : ReturnTo) (text : List ℕ) (tag : Tag) (old : List ℕ) (now : Tag) (new : List ℕ) (next : MachineState)
    → ((parts : Parts) → state_of next parts ≡ returned (return_of return_to parts.tag)) → Flushes return_to text tag old now new
    → (parts : Parts) → Does (transition.Reconsumed next) old new (record parts { tag = now }) (flush_again (return_of return_to tag) text)
flushed_again return_to.Data text tag old now new next is h parts = (h.0, ap (Reconsumed text) (is (record parts { tag = now })))
flushed_again return_to.Rcdata text tag old now new next is h parts = (h.0, ap (Reconsumed text) (is (record parts { tag = now })))
flushed_again (return_to.Value kind) text tag old now new next is h parts =
    (nothing_more old new h.0, ap (Reconsumed []) (is (record parts { tag = now }) ∙ ap (AttributeValue (value_of kind)) h.1))

-- a text was flushed, and the ambiguous ampersand state is next
flushed_ambiguous : (return_to : ReturnTo) (text : List ℕ) (tag : Tag) (old : List ℕ) (now : Tag) (new : List ℕ) → Flushes return_to text tag old now new
    → (parts : Parts) → Does (transition.Reconsumed (at.Reference at_reference.AmbiguousAmpersand return_to)) old new (record parts { tag = now }) (unnamed (return_of return_to tag) text)
flushed_ambiguous return_to.Data text tag old now new h parts = (h.0, refl)
flushed_ambiguous return_to.Rcdata text tag old now new h parts = (h.0, refl)
flushed_ambiguous (return_to.Value kind) text tag old now new h parts =
    (nothing_more old new h.0, ap (λ (t : Tag). Reconsumed [] (AmbiguousAmpersand (ToValue (value_of kind) t))) h.1)

flushed_by : (b : Bool) (return : Return) (text other : List ℕ) (wrong : Bool) (e : ParseError)
    → (if b then flush_again return text else wrong_if wrong e (flush_again return other)).outcome ≡ (flush_again return (if b then text else other)).outcome
flushed_by true return text other wrong e = refl
flushed_by false return text other wrong e = refl

named_found : (return : Return) (seen : List ℕ) (x : ℕ) (found : Option Longest) → true ≡ is_some found
    → (named return seen x found).outcome ≡ (flush_again return (text_named return seen x found)).outcome
named_found return seen x None h = absurd (true≢false h)
named_found return seen x (Some found) h = flushed_by (is_historical return found x) return (codes "&" ++ seen) (found.text ++ found.rest) _ _

named_none : (return : Return) (seen : List ℕ) (x : ℕ) (found : Option Longest) → false ≡ is_some found
    → (named return seen x found).outcome ≡ (unnamed return (text_named return seen x found)).outcome
named_none return seen x None h = refl
named_none return seen x (Some found) h = absurd (false≢true h)

-- no name begins with what was seen and the current byte
not_further : (return : Return) (seen : List ℕ) (x : ℕ) → is_beginning references (seen ++ x ∷ []) ≡ false
    → (named_character_reference_state references return seen x).outcome ≡ (named return seen x (longest references seen)).outcome
not_further return seen x fails =
    ap (λ (t : Turn). t.outcome) (cond-false (is_beginning references (seen ++ x ∷ [])) (to (NamedCharacterReference return (seen ++ x ∷ []))) (named return seen x (longest references seen)) fails)

-- a name still begins with it
pub goes_further : (return_to : ReturnTo) (seen now : List ℕ) (x : ℕ) (tag : Tag) (out : List ℕ) (does : Transition)
    → does ≡ transition.Consumed (at.Reference at_reference.NamedCharacterReference return_to) → is_beginning references (seen ++ x ∷ []) ≡ true → now ≡ seen ++ x ∷ []
    → DoesSeen does out out tag now (named_character_reference_state references (return_of return_to tag) seen x)
goes_further return_to seen now x tag out does is further same parts =
    let return = return_of return_to tag in
    let next = NamedCharacterReference return (seen ++ x ∷ []) in
    does_same does out out (record parts { tag = tag; seen = now }) (named_character_reference_state references return seen x) (to next)
    (ap (λ (t : Turn). t.outcome) (cond-true (is_beginning references (seen ++ x ∷ [])) (to next) (named return seen x (longest references seen)) further))
    (nothing_more out out refl, ap (λ (m : Transition). outcome_of m [] (record parts { tag = tag; seen = now })) is ∙ ap (λ s. Consumed [] (NamedCharacterReference return s)) same)

-- a name was found
pub flushes_named : (return_to : ReturnTo) (seen now : List ℕ) (x : ℕ) (tag : Tag) (old : List ℕ) (tag_now : Tag) (new : List ℕ) (next : MachineState)
    → ((parts : Parts) → state_of next parts ≡ returned (return_of return_to parts.tag)) → is_beginning references (seen ++ x ∷ []) ≡ false → now ≡ seen
    → true ≡ is_some (longest references now) → Flushes return_to (text_named (return_of return_to tag) now x (longest references now)) tag old tag_now new
    → DoesSeen (transition.Reconsumed next) old new tag_now now (named_character_reference_state references (return_of return_to tag) seen x)
flushes_named return_to seen now x tag old tag_now new next is fails same found flushes parts =
    let return = return_of return_to tag in
    does_same (transition.Reconsumed next) old new (record parts { tag = tag_now; seen = now }) (named_character_reference_state references return seen x)
    (flush_again return (text_named return now x (longest references now)))
    (not_further return seen x fails ∙ (ap (λ s. (named return s x (longest references s)).outcome) (sym same) ∙ named_found return now x (longest references now) found))
    (flushed_again return_to _ tag old tag_now new next is flushes (record parts { seen = now }))

-- no name was found
pub flushes_seen : (return_to : ReturnTo) (seen now : List ℕ) (x : ℕ) (tag : Tag) (old : List ℕ) (tag_now : Tag) (new : List ℕ) (does : Transition)
    → does ≡ transition.Reconsumed (at.Reference at_reference.AmbiguousAmpersand return_to) → is_beginning references (seen ++ x ∷ []) ≡ false → now ≡ seen
    → false ≡ is_some (longest references now) → Flushes return_to (text_named (return_of return_to tag) now x (longest references now)) tag old tag_now new
    → DoesSeen does old new tag_now now (named_character_reference_state references (return_of return_to tag) seen x)
flushes_seen return_to seen now x tag old tag_now new does is fails same none flushes parts =
    let return = return_of return_to tag in
    let text = text_named return now x (longest references now) in
    does_same does old new (record parts { tag = tag_now; seen = now }) (named_character_reference_state references return seen x) (unnamed return text)
    (not_further return seen x fails ∙ (ap (λ s. (named return s x (longest references s)).outcome) (sym same) ∙ named_none return now x (longest references now) none))
    (subst (λ (m : Transition). Does m old new (record parts { tag = tag_now; seen = now }) (unnamed return text)) (sym is)
    (flushed_ambiguous return_to text tag old tag_now new flushes (record parts { seen = now })))

-- the last byte of a text
last_of : (byte : ℕ) (xs : List ℕ) (n : ℕ) → length xs ≡ suc n → ends_in byte xs ≡ (get_or xs n 0 == byte)
last_of byte [] n h = absurd (omega arith)
last_of byte (x ∷ []) zero h = refl
last_of byte (x ∷ []) (suc n) h = absurd (omega arith)
last_of byte (x ∷ y ∷ xs) zero h = absurd (omega arith)
last_of byte (x ∷ y ∷ xs) (suc n) h = last_of byte (y ∷ xs) n (omega arith)

pub ends_in_last : (byte : ℕ) (xs : List ℕ) → 0 < length xs → ends_in byte xs ≡ (get_or xs (length xs - 1) 0 == byte)
ends_in_last byte xs h = last_of byte xs (length xs - 1) (omega arith)

-- Flushing code points consumed as a character reference.
use Rattle.std.specs.Prelude.{◌≡◌, ◌==◌, ℕ, List, ◌++◌, Option, Some, None, if◌then◌else◌, codes}
use Rattle.h5_tokenizer_spec.specs.declared.errors.ParseError.TheVariants.{MissingSemicolonAfterCharacterReference}
use Rattle.h5_tokenizer_spec.specs.Signs.{semicolon}
use Rattle.h5_tokenizer_spec.specs.Construction.{Tag, value_further}
use Rattle.h5_tokenizer_spec.specs.States.{Return, NumericCharacterReferenceEnd}
use Rattle.h5_tokenizer_spec.specs.References.{Longest, is_historical, ended_by_semicolon}
use Rattle.h5_tokenizer_spec.specs.Turn.{Turn, again, wrong}
use Rattle.h5_tokenizer_states.specs.Parts.{Parts}
use Rattle.h5_tokenizer_states.specs.OutcomeOf.{Does}
use Rattle.h5_tokenizer_states.specs.declared.machine_state.ReturnTo.{ReturnTo}
use Rattle.h5_tokenizer_states.specs.declared.machine_state.ReturnTo.TheVariants as to
use Rattle.h5_tokenizer_states.specs.declared.transition.Transition.{Transition}

-- a text is emitted, or appended to the current value of the tag
abbrev pub Flushes : ReturnTo → List ℕ → Tag → List ℕ → Tag → List ℕ → Type 0
Flushes to.Data text tag old tag_now new = (new ≡ old ++ text) × (tag_now ≡ tag)
Flushes to.Rcdata text tag old tag_now new = (new ≡ old ++ text) × (tag_now ≡ tag)
Flushes (to.Value value) text tag old tag_now new = (new ≡ old) × (tag_now ≡ value_further text tag)

-- what is flushed if this is the longest name in what was seen
abbrev pub text_named : Return → List ℕ → ℕ → Option Longest → List ℕ
text_named return seen x None = codes "&" ++ seen
text_named return seen x (Some found) = if is_historical return found x then codes "&" ++ seen else found.text ++ found.rest

-- a byte after the digits of a number
abbrev pub behind_digits : Return → ℕ → ℕ → Turn
behind_digits return code x =
    if x == semicolon then ended_by_semicolon return code
    else wrong MissingSemicolonAfterCharacterReference (again (NumericCharacterReferenceEnd return code))

-- A row of character references did what the definition's does, whatever else is being built.
abbrev pub DoesReference : Transition → List ℕ → List ℕ → Tag → List ℕ → ℕ → Turn → Type 0
DoesReference transition old new tag seen code turn =
    (parts : Parts) → Does transition old new (record parts { tag = tag; seen = seen; code = code }) turn

abbrev pub DoesSeen : Transition → List ℕ → List ℕ → Tag → List ℕ → Turn → Type 0
DoesSeen transition old new tag seen turn = (parts : Parts) → Does transition old new (record parts { tag = tag; seen = seen }) turn

abbrev pub DoesCode : Transition → List ℕ → List ℕ → Tag → ℕ → Turn → Type 0
DoesCode transition old new tag code turn = (parts : Parts) → Does transition old new (record parts { tag = tag; code = code }) turn

abbrev pub DoesFlush : Transition → List ℕ → List ℕ → Tag → Turn → Type 0
DoesFlush transition old new tag turn = (parts : Parts) → Does transition old new (record parts { tag = tag }) turn

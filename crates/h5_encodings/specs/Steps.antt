-- Bytes that are decoded to a text, with a step for each byte, and an end.
use Rattle.std.specs.Prelude.{◌≡◌, ℕ, ◌+◌, Bool, true, false, List, [], ◌∷◌, ◌++◌, encode_utf8}
use Rattle.h5_encodings.specs.declared.steps.Kept.{Kept}
use Rattle.h5_encodings.specs.declared.steps.Shown.{Shown}
use Rattle.h5_encodings.specs.declared.steps.Shown.TheVariants.{Nothing, Character, Two, Error, ErrorAnd, TwoErrors}
use Rattle.h5_encodings.specs.declared.steps.Step.{Step}

-- a decoder: the step of a byte after what is stored, and the output of an end there
pub record Reading : Type 0 where
  pub step : Kept → ℕ → Step
  pub ending : Kept → Shown

-- a step without output of stored bytes
abbrev pub shows : Shown → Kept → Step
shows shown kept = record { before = Nothing; shown = shown; kept = kept }

-- a step, with the output of stored bytes before it
abbrev pub after : Shown → Step → Step
after before s = record s { before = before }

-- an end inside a character is an error; the output of any other is empty
abbrev pub broken_off : Bool → Shown
broken_off true = Error
broken_off false = Nothing

abbrev pub replacement_character : ℕ
replacement_character = 0xFFFD

-- an output, as a text
abbrev pub text_shown : Shown → List ℕ
text_shown Nothing = []
text_shown (Character c) = encode_utf8 c
text_shown (Two c d) = encode_utf8 c ++ encode_utf8 d
text_shown Error = encode_utf8 replacement_character
text_shown (ErrorAnd c) = encode_utf8 replacement_character ++ encode_utf8 c
text_shown TwoErrors = encode_utf8 replacement_character ++ encode_utf8 replacement_character

-- how many U+FFFD in an output replace bytes
abbrev pub errors_shown : Shown → ℕ
errors_shown Nothing = 0
errors_shown (Character c) = 0
errors_shown (Two c d) = 0
errors_shown Error = 1
errors_shown (ErrorAnd c) = 1
errors_shown TwoErrors = 2

-- the output of a step as a text, first that of stored bytes, then that of its byte; and how many U+FFFD in it replace bytes
abbrev pub text_of_step : Step → List ℕ
text_of_step s = text_shown s.before ++ text_shown s.shown

abbrev pub step_errors : Step → ℕ
step_errors s = errors_shown s.before + errors_shown s.shown

-- THE TEXT of bytes after what is stored, up to their end
abbrev pub text_of : Reading → Kept → List ℕ → List ℕ
text_of r kept [] = text_shown (r.ending kept)
text_of r kept (b ∷ bs) = text_of_step (r.step kept b) ++ text_of r (r.step kept b).kept bs

-- the text of bytes as far as it is decided, whatever follows them
abbrev pub text_so_far : Reading → Kept → List ℕ → List ℕ
text_so_far r kept [] = []
text_so_far r kept (b ∷ bs) = text_of_step (r.step kept b) ++ text_so_far r (r.step kept b).kept bs

-- what is stored after them
abbrev pub kept_after : Reading → Kept → List ℕ → Kept
kept_after r kept [] = kept
kept_after r kept (b ∷ bs) = kept_after r (r.step kept b).kept bs

-- how many U+FFFD in that text replace bytes
abbrev pub errors_so_far : Reading → Kept → List ℕ → ℕ
errors_so_far r kept [] = 0
errors_so_far r kept (b ∷ bs) = step_errors (r.step kept b) + errors_so_far r (r.step kept b).kept bs

-- how bytes are split doesn't matter: whatever follows, the text is the decided one, followed by that of what follows
abbrev pub CutsDontMatter : Type 0
CutsDontMatter = (r : Reading) (kept : Kept) (bs more : List ℕ) → text_of r kept (bs ++ more) ≡ text_so_far r kept bs ++ text_of r (kept_after r kept bs) more

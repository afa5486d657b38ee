-- The text of `an+b` (CSS Syntax Level 3, section 6, "The An+B microsyntax").
use Rattle.std.specs.Prelude.{ℕ, ◌==◌, ◌&&◌, Bool, true, false, bytes_eq, codes, drop, if◌then◌else◌, List, [], ◌∷◌, map, Option, None, Some}
use Rattle.std.specs.Char.{is_digit, to_ascii_lowercase}
use Rattle.h5_selectors.specs.Fault.{Found, Outcome, wrong_at}
use Rattle.h5_selectors.specs.Tokens.{Reading, begins, begins_with, behind_blanks, is_at_name, name_at, number_at, reading}
use Rattle.h5_selectors.specs.declared.fault.SelectorProblem.TheVariants.{AnPlusB as NoIndices}
use Rattle.h5_selectors.specs.declared.formula.AnPlusB.{AnPlusB}

-- the absolute values of a and b, and flags for negative ones
abbrev pub indices : (step : ℕ) → (falls : Bool) → (offset : ℕ) → (is_under : Bool) → AnPlusB
indices step falls offset is_under = record { step = step; falls = falls; offset = offset; is_under = is_under }

-- b without a sign: digits that no name follows
abbrev pub offset_of : (step : ℕ) → (falls is_under : Bool) → Reading (Option ℕ) → Outcome (Reading AnPlusB)
offset_of step falls is_under digits =
    elim digits.value [
      | None ↦ wrong_at NoIndices digits.rest
      | Some offset ↦ if is_at_name digits.rest then wrong_at NoIndices digits.rest else Found (reading (indices step falls offset is_under) digits.rest)
    ]

unfoldable pub signless_at : (step : ℕ) → (falls is_under : Bool) → List ℕ → Outcome (Reading AnPlusB)
signless_at step falls is_under text = offset_of step falls is_under (number_at text)

-- after `an`: a sign and digits, maybe with whitespace around the sign, or nothing
unfoldable pub offset_at : (step : ℕ) → (falls : Bool) → List ℕ → Outcome (Reading AnPlusB)
offset_at step falls text =
    let here = behind_blanks text in
    if begins_with 43 here then signless_at step falls false (behind_blanks (drop 1 here))
    else (if begins_with 45 here then signless_at step falls true (behind_blanks (drop 1 here))
    else Found (reading (indices step falls 0 false) text))

-- a number that is a whole text
abbrev pub whole_of : Reading (Option ℕ) → Option ℕ
whole_of digits = if begins (λ _. true) digits.rest then None else digits.value

unfoldable pub whole_number : List ℕ → Option ℕ
whole_number text = whole_of (number_at text)

-- `n-` and digits, in one name or separate
abbrev pub minus_by : (step : ℕ) → (falls : Bool) → (digits : List ℕ) → (rest : List ℕ) → Outcome (Reading AnPlusB)
minus_by step falls [] rest = signless_at step falls true (behind_blanks rest)
minus_by step falls (c ∷ digits) rest =
    elim (whole_number (c ∷ digits)) [
      | None ↦ wrong_at NoIndices rest
      | Some offset ↦ Found (reading (indices step falls offset true) rest)
    ]

abbrev pub behind_n : (step : ℕ) → (falls : Bool) → (name : List ℕ) → (rest : List ℕ) → Outcome (Reading AnPlusB)
behind_n step falls [] rest = offset_at step falls rest
behind_n step falls (c ∷ digits) rest = if c == 45 then minus_by step falls digits rest else wrong_at NoIndices rest

-- a name in lower case after the absolute value of a: `n`, `n-`, or `n-` and digits
unfoldable pub unit_at : (step : ℕ) → (falls : Bool) → (name : List ℕ) → (rest : List ℕ) → Outcome (Reading AnPlusB)
unit_at step falls [] rest = wrong_at NoIndices rest
unit_at step falls (n ∷ name) rest = if n == 110 then behind_n step falls name rest else wrong_at NoIndices rest

abbrev pub lower_name_at : List ℕ → Reading (List ℕ)
lower_name_at text = reading (map to_ascii_lowercase (name_at text).value) (name_at text).rest

-- a name without a number: a is 1, or -1 after `-`
abbrev pub dashed_unit_at : (name : List ℕ) → (rest : List ℕ) → Outcome (Reading AnPlusB)
dashed_unit_at name rest = if begins_with 45 name then unit_at 1 true (drop 1 name) rest else unit_at 1 false name rest

unfoldable pub named_by : (is_signed : Bool) → Reading (List ℕ) → Outcome (Reading AnPlusB)
named_by is_signed name =
    if is_signed then unit_at 1 false name.value name.rest
    else (if bytes_eq name.value (codes "odd") then Found (reading (indices 2 false 1 false) name.rest)
    else (if bytes_eq name.value (codes "even") then Found (reading (indices 2 false 0 false) name.rest)
    else dashed_unit_at name.value name.rest))

unfoldable pub named_indices_at : (is_signed : Bool) → List ℕ → Outcome (Reading AnPlusB)
named_indices_at is_signed text = if is_at_name text then named_by is_signed (lower_name_at text) else wrong_at NoIndices text

-- a number: it is b if no name follows it, and a if one does
abbrev pub numbered_at : (falls : Bool) → (number : ℕ) → (rest : List ℕ) → Outcome (Reading AnPlusB)
numbered_at falls number rest =
    if is_at_name rest then unit_at number falls (lower_name_at rest).value (lower_name_at rest).rest
    else Found (reading (indices 0 false number falls) rest)

unfoldable pub unsigned_at : (is_signed falls : Bool) → List ℕ → Outcome (Reading AnPlusB)
unsigned_at is_signed falls text =
    elim ((number_at text).value) [
      | None ↦ named_indices_at is_signed (number_at text).rest
      | Some number ↦ numbered_at falls number (number_at text).rest
    ]

-- a sign, if there is one: `+`, or `-` before a digit, since before a letter it belongs to a name
abbrev pub is_minus : List ℕ → Bool
is_minus text = begins_with 45 text && begins (λ c. is_digit c 10) (drop 1 text)

unfoldable pub indices_at : List ℕ → Outcome (Reading AnPlusB)
indices_at text =
    let here = behind_blanks text in
    if begins_with 43 here then unsigned_at true false (drop 1 here)
    else (if is_minus here then unsigned_at true true (drop 1 here) else unsigned_at false false here)

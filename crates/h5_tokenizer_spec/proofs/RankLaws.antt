-- A byte gets at most three rows.
use Rattle.std.proofs.Common.{◌≡◌, ℕ, suc, ◌+◌, ◌<◌, ◌≤◌, true, false, List, Bool, arith, if◌then◌else◌, subst}
use Rattle.std.specs.Prelude.{not}
use Rattle.std.specs.Char.{is_ascii_alphabetic, is_ascii_digit}
use Rattle.h5_token.specs.TokenText.{TokenText}
use Rattle.h5_tokenizer_input.specs.Proper.{IsProper}
use Rattle.h5_tokenizer_spec.specs.Signs.{is_name_end, is_alphanumeric, is_hex_digit}
use Rattle.h5_tokenizer_spec.specs.States.{State, AttributeName, AfterAttributeName, RawEndTagName, ScriptDataDoubleEscapeStart, AmbiguousAmpersand, NamedCharacterReference, Hexadecimal, Decimal}
use Rattle.h5_tokenizer_spec.specs.Turn.{Reconsumed, Emitted}
use Rattle.h5_tokenizer_spec.specs.References.{Reference}
use Rattle.h5_tokenizer_spec.specs.Machine.{turn}
use Rattle.h5_tokenizer_spec.specs.Rank.{rank, unless, Meets, one_row, more_rows}
use Rattle.h5_tokenizer_spec.proofs.RowLaws.{FitsDeed, turn_fits}

pub rank_falls : (table : List Reference) (last : List ℕ) (state : State) (x : ℕ) (text : List ℕ) (next : State)
    → (turn table last state x).outcome ≡ Reconsumed text next → rank next x < rank state x
rank_falls table last state x text next h = subst (FitsDeed (rank state x) x) h (turn_fits table last state x).outcome

pub hands_proper : (table : List Reference) (last : List ℕ) (state : State) (x : ℕ) (token : TokenText) (next : State)
    → (turn table last state x).outcome ≡ Emitted token next → IsProper token
hands_proper table last state x token next h = subst (FitsDeed (rank state x) x) h (turn_fits table last state x).outcome

unless_small : (b : Bool) (n : ℕ) → n ≤ 1 → n + unless b ≤ 2
unless_small true n h = omega (arith, h)
unless_small false n h = omega (arith, h)

two_small : (b : Bool) → (if b then 0 else 2) ≤ 2
two_small true = omega arith
two_small false = omega arith

pub rank_small : (state : State) (x : ℕ) → rank state x ≤ 2
rank_small (AttributeName tag) x = omega (arith, unless_small (not (is_name_end x)) 0)
rank_small (AfterAttributeName tag) x = omega (arith, unless_small (is_name_end x) 0)
rank_small (RawEndTagName kind buffer) x = omega (arith, unless_small (is_ascii_alphabetic x) 0)
rank_small (ScriptDataDoubleEscapeStart buffer) x = omega (arith, unless_small (is_ascii_alphabetic x) 0)
rank_small (AmbiguousAmpersand return) x = omega (arith, unless_small (is_alphanumeric x) 0)
rank_small (NamedCharacterReference return seen) x = unless_small (is_alphanumeric x) 1 (omega arith)
rank_small (Hexadecimal return code) x = two_small (is_hex_digit x)
rank_small (Decimal return code) x = two_small (is_ascii_digit x)
rank_small state x = omega arith

pub meets_few : (table : List Reference) (last : List ℕ) (x : ℕ) {n : ℕ} {s t : State} → Meets table last x n s t → n ≤ suc (rank s x)
meets_few table last x one_row = omega arith
meets_few table last x (more_rows {s = s} {t = t} text h rest) = omega (arith, meets_few table last x rest, rank_falls table last s x text t h)

pub meets_three : (table : List Reference) (last : List ℕ) (x n : ℕ) (s t : State) → Meets table last x n s t → n ≤ 3
meets_three table last x n s t meets = omega (arith, meets_few table last x meets, rank_small s x)

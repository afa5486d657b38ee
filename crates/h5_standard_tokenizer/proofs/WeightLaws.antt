-- Each row makes less of what is left to do.
use Rattle.std.proofs.Common.{◌≡◌, ℕ, ◌<◌, ◌≤◌, List, [], ◌∷◌, length, arith}
use Rattle.h5_tokenizer_spec.specs.Lines.{normal}
use Rattle.h5_tokenizer_spec.specs.ReferenceTable.{references}
use Rattle.h5_tokenizer_spec.specs.Reading.{ReaderPlace, Passes, passed, drops, goes, again, outcome, in_state, behind, behind_newline}
use Rattle.h5_tokenizer_spec.specs.States.{State}
use Rattle.h5_tokenizer_spec.specs.Turn.{Reconsumed}
use Rattle.h5_tokenizer_spec.proofs.RankLaws.{rank_falls, rank_small}
use Rattle.h5_standard_tokenizer.specs.Weight.{rank_at, weight}

rank_at_small : (state : State) (xs : List ℕ) → rank_at state xs ≤ 2
rank_at_small state [] = omega arith
rank_at_small state (x ∷ xs) = rank_small state (normal x)

-- if less is left, there is less to do, for any state
pub shorter_is_less : (p q : ReaderPlace) (xs ys : List ℕ) → length ys < length xs → weight q ys < weight p xs
shorter_is_less p q xs ys lt = omega (arith, lt, rank_at_small q.state ys)

consumed_is_less : (p q : ReaderPlace) (x : ℕ) (xs : List ℕ) → weight q xs < weight p (x ∷ xs)
consumed_is_less p q x xs = shorter_is_less p q (x ∷ xs) xs (omega arith)

-- the same holds if a byte is reconsumed
pub reconsumed_is_less : (p : ReaderPlace) (x : ℕ) (xs text : List ℕ) (state : State) → outcome references p x ≡ Reconsumed text state
    → weight (in_state state p) (x ∷ xs) < weight p (x ∷ xs)
reconsumed_is_less p x xs text state e = omega (arith, rank_falls references p.last p.state (normal x) text state e)

pub passes_is_no_more : {p q : ReaderPlace} {xs text ys : List ℕ} → Passes references p xs text q ys → weight q ys ≤ weight p xs
passes_is_no_more passed = omega arith
passes_is_no_more (drops {p} {x} {xs} d h) = omega (arith, passes_is_no_more h, consumed_is_less p (behind_newline p) x xs)
passes_is_no_more (goes {p} {x} {xs} text state d e h) = omega (arith, passes_is_no_more h, consumed_is_less p (behind x state p) x xs)
passes_is_no_more (again {p} {x} {xs} text state d e h) = omega (arith, passes_is_no_more h, reconsumed_is_less p x xs text state e)

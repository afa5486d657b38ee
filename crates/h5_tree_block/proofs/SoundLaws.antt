-- A test on each number below a limit.
use Rattle.std.proofs.Common.{◌≡◌, ◌∙◌, ℕ, zero, suc, ◌+◌, ◌<◌, inl, inr, Bool, true, false, ◌&&◌, ap, arith, refl, sym}
use Rattle.std.proofs.Math.Nat.{eq-or-lt_of_le}
use Rattle.h5_tree_block.specs.Sound.{all_below}

pub one_more : (test : ℕ → Bool) (n : ℕ) → all_below test n ≡ true → test n ≡ true → all_below test (n + 1) ≡ true
one_more test n all passes =
    let next : n + 1 ≡ suc n = omega arith in
    ap (all_below test) next ∙ ap (λ x. x && test n) all ∙ passes

and_false : (x : Bool) → (x && false) ≡ false
and_false true = refl
and_false false = refl

pub one_fails : (test : ℕ → Bool) (limit n : ℕ) → n < limit → test n ≡ false → all_below test limit ≡ false
one_fails test zero n lt fails = elim lt [ ]
one_fails test (suc m) n lt fails = elim (eq-or-lt_of_le {n = n} {m = m} (omega (arith, lt))) [
  | inl same ↦ ap (λ k. all_below test m && test k) (sym same) ∙ ap (λ x. all_below test m && x) fails ∙ and_false (all_below test m)
  | inr before ↦ ap (λ x. x && test m) (one_fails test m n before fails)
]

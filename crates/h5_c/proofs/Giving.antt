-- Returned bytes have the properties of the bytes that were made.
use Rattle.std.proofs.Common.{◌≡◌, ℕ, List, Result, Ok, Err, inl, inr}
use Rattle.std.specs.Prelude.{IfOk, MatchResult}
use Rattle.h5_c.specs.Status.{HandsOut, HandsOutSuch}

pub given_such : {V E : Type 0} (made : Result V E) (items : V → List ℕ) (Holds : List ℕ → Type 0) (status count : ℕ) → IfOk made (λ v. Holds (items v)) → MatchResult made (λ v. HandsOut (items v) status count) (λ _. status ≡ 1)
    → HandsOutSuch Holds status count
given_such (Ok v) items Holds status count holds given = inr (items v, (holds, given))
given_such (Err e) items Holds status count holds refused = inl refused

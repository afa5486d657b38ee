-- A list of the first errors that were reported goes on.
use Rattle.std.proofs.Common.{◌≡◌, ◌≤◌, ◌<◌, length, ℕ, ◌+◌, List, [], ◌∷◌, ◌++◌, ap, ◌∙◌, sym, arith, append_assoc, append-nil, length-append}
use Rattle.std.proofs.lemmas.List.{nil_from_length}
use Rattle.std.specs.Io.Iter.{u64_saturate}
use Rattle.h5_tokenizer_spec.specs.declared.position.LocatedError.{LocatedError}
use Rattle.h5_tokenizer_spec.specs.ErrorList.{IsListOf}

-- an error is added if all previous ones were
pub listed_more : (kept told : List LocatedError) (limit more : ℕ) (e : LocatedError) → more ≡ 0 → length kept < limit → IsListOf kept limit more told
    → IsListOf (kept ++ e ∷ []) limit more (told ++ e ∷ [])
listed_more kept told limit more e none room h =
    let nothing : h.rest ≡ [] = nil_from_length h.rest (omega (arith, none, h.count)) in
    record {
      rest = [];
      split = ap (λ l. l ++ e ∷ []) (h.split ∙ ap (λ l. kept ++ l) nothing ∙ append-nil kept) ∙ sym (append-nil (kept ++ e ∷ []));
      count = none;
      within = omega (arith, room, length-append kept (e ∷ []));
    }

-- an error is counted
pub counted_more : (kept told : List LocatedError) (limit more : ℕ) (e : LocatedError) → IsListOf kept limit more told
    → IsListOf kept limit (u64_saturate (more + 1)) (told ++ e ∷ [])
counted_more kept told limit more e h =
    record {
      rest = h.rest ++ e ∷ [];
      split = ap (λ l. l ++ e ∷ []) h.split ∙ append_assoc kept h.rest (e ∷ []);
      count = omega (arith, h.count, length-append h.rest (e ∷ []));
      within = h.within;
    }

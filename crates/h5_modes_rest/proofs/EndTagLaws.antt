-- When an end tag in foreign content is expected, by how many elements are open.
use Rattle.std.proofs.Common.{◌≡◌, ◌<◌, ◌≤◌, ℕ, true, List, [], ◌∷◌, length, refl, arith}
use Rattle.h5_names.specs.declared.qualified.QualName.{QualName}
use Rattle.h5_builder_spec.specs.insertion.Foreign.{is_named_in_any_case}
use Rattle.h5_builder_spec.specs.modes.ForeignContent.{is_expected_end}
use Rattle.h5_builder_spec.specs.stack.Scope.{first_passes}

pub many_expected : (local : List ℕ) (names : List QualName) → 1 < length names → first_passes (is_named_in_any_case local) names ≡ is_expected_end local names
many_expected local [] h = absurd (omega (arith, h))
many_expected local (n ∷ []) h = absurd (omega (arith, h))
many_expected local (n ∷ m ∷ ns) h = refl

pub few_expected : (local : List ℕ) (names : List QualName) → length names ≤ 1 → is_expected_end local names ≡ true
few_expected local [] h = refl
few_expected local (n ∷ []) h = refl
few_expected local (n ∷ m ∷ ns) h = absurd (omega (arith, h))

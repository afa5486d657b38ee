-- The places of the newest and of the oldest open element of a kind, by the names of all, with the newest first. Places
-- are counted from the root. A number here is one more than a place, and 0 if there is no such element.
use Rattle.std.specs.Prelude.{ℕ, ◌+◌, ◌-◌, ◌==◌, ◌&&◌, nat_lt, nat_le, not, Bool, if◌then◌else◌, List, [], ◌∷◌, Option, None, Some, length}
use Rattle.h5_names.specs.declared.qualified.QualName.{QualName}
use Rattle.h5_builder_spec.specs.reset.Roles.{is_html_element}
use Rattle.h5_builder_spec.specs.insertion.Foreign.{is_named_in_any_case}

-- one more than the place of the newest element whose name passes
abbrev pub newest_where : (QualName → Bool) → List QualName → ℕ
newest_where is [] = 0
newest_where is (n ∷ older) = if is n then length older + 1 else newest_where is older

-- one more than the place of the oldest element whose name passes
abbrev pub oldest_where : (QualName → Bool) → List QualName → ℕ
oldest_where is [] = 0
oldest_where is (n ∷ older) = if (oldest_where is older == 0) && is n then length older + 1 else oldest_where is older

-- the newer of two
abbrev pub newer_of : ℕ → ℕ → ℕ
newer_of one other = if nat_lt one other then other else one

-- the place of the newest element that is searched, if the newest one that ends the search isn't newer
abbrev pub place_before : ℕ → ℕ → Option ℕ
place_before here end = if nat_lt 0 here && nat_le end here then Some (here - 1) else None

-- an element of MathML or SVG of this local name, in any case of ASCII letters
abbrev pub is_foreign_named : List ℕ → QualName → Bool
is_foreign_named local n = not (is_html_element n) && is_named_in_any_case local n

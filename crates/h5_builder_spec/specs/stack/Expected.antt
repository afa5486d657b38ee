-- If an element that is closed isn't the current node by then, this is a parse error (HTML standard, section
-- 13.2.6.4.7).
use Rattle.std.specs.Prelude.{ℕ, Bool, true, false, not, ◌==◌, if◌then◌else◌, List, [], ◌∷◌, Option, None, Some, codes}
use Rattle.h5_names.specs.declared.qualified.QualName.{QualName}
use Rattle.h5_tables.specs.TagSets.{is_html_named, is_implied}
use Rattle.h5_builder_spec.specs.stack.Closing.{newest_item}
use Rattle.h5_builder_spec.specs.stack.Scope.{cut_above, cut_names, drop_while, first_passes, has_p_in_button_scope, is_implied_but}

-- after the pops that come first, the current node is one of these
abbrev pub is_expected : (popped is : QualName → Bool) → List QualName → Bool
is_expected popped is names = first_passes is (drop_while popped names)

-- the names that remain after the first of these is closed
abbrev pub names_behind : (popped is : QualName → Bool) → List QualName → List QualName
names_behind popped is names = cut_names is (drop_while popped names)

-- a `p`, if one is in button scope
unfoldable pub is_expected_p : List QualName → Bool
is_expected_p names = if has_p_in_button_scope names then is_expected (is_implied_but (codes "p")) (is_html_named (codes "p")) names else true

unfoldable pub names_behind_p : List QualName → List QualName
names_behind_p names = if has_p_in_button_scope names then names_behind (is_implied_but (codes "p")) (is_html_named (codes "p")) names else names

-- an element of this name, if one is closed
abbrev pub is_expected_named : Option (List ℕ) → List QualName → Bool
is_expected_named None names = true
is_expected_named (Some local) names = is_expected (is_implied_but local) (is_html_named local) names

abbrev pub names_behind_named : Option (List ℕ) → List QualName → List QualName
names_behind_named None names = names
names_behind_named (Some local) names = names_behind (is_implied_but local) (is_html_named local) names

-- the newest item of these names
unfoldable pub is_expected_item : List (List ℕ) → List QualName → Bool
is_expected_item locals names = is_expected_named (newest_item locals names) names

unfoldable pub names_behind_item : List (List ℕ) → List QualName → List QualName
names_behind_item locals names = names_behind_named (newest_item locals names) names

-- this element, once implied end tags were generated
abbrev pub first_is : ℕ → List ℕ → Bool
first_is n [] = false
first_is n (m ∷ s) = m == n

unfoldable pub is_expected_node : ℕ → List QualName → List ℕ → Bool
is_expected_node n names s = first_is n (cut_above (λ name. not (is_implied name)) names s)

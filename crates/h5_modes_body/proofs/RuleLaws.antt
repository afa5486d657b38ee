-- When the rule of `hr` reports a parse error for an option that stays open.
use Rattle.std.proofs.Common.{◌≡◌, Bool, true, false, cond, not, ◌&&◌, ◌||◌, List, codes, refl}
use Rattle.h5_names.specs.declared.qualified.QualName.{QualName}
use Rattle.h5_tables.specs.TagSets.{is_default_scope, is_html_named, is_implied}
use Rattle.h5_builder_spec.specs.modes.InBody.{has_option_in_scope, is_expected_rule}
use Rattle.h5_builder_spec.specs.stack.Scope.{drop_while, in_scope}

-- a `select` is in scope
abbrev pub in_select : List QualName → Bool
in_select = in_scope (is_html_named (codes "select")) is_default_scope

-- the names once implied end tags were generated in it
abbrev pub names_in_select : List QualName → List QualName
names_in_select names = cond (in_select names) (drop_while is_implied names) names

pub expected_rule : (names : List QualName) → is_expected_rule names ≡ not (in_select names && has_option_in_scope (names_in_select names))
unfolding is_expected_rule
expected_rule names = elim (in_select names) as (λ b. (not b || not (has_option_in_scope (drop_while is_implied names))) ≡ not (b && has_option_in_scope (cond b (drop_while is_implied names) names))) [
  | true ↦ refl
  | false ↦ refl
]

-- The stack cleared back to a context keeps the root at least, which ends each of them.
use Rattle.std.proofs.Common.{◌≡◌, ◌<◌, Bool, true, false, List, [], ◌∷◌, length, codes, refl, sym, subst, cond, arith}
use Rattle.h5_names.specs.declared.qualified.QualName.{QualName}
use Rattle.h5_tables.specs.TagSets.{is_html_named, is_table_body_context, is_table_row_context, table_body_context_names, table_row_context_names}
use Rattle.h5_builder_spec.specs.stack.Scope.{down_names}
use Rattle.h5_builder_spec.specs.stack.Root.{IsRootOpen}
use Rattle.h5_builder_spec.proofs.roles.SetLaws.{in_set}
use Rattle.h5_builder_spec.specs.Changes.{pop_until_current}
use Rattle.h5_builder_spec.specs.inner.Kept.{HasHtmlRoot}
use Rattle.h5_builder_spec.specs.World.{World, names_of}
use Rattle.h5_builder_spec.proofs.changes.NameLaws.{names-until_current}
use Rattle.h5_builder_spec.proofs.changes.PopLaws.{names_length}

abbrev HasRoot : (QualName → Bool) → Type 0
HasRoot is = (n : QualName) → is_html_named (codes "html") n ≡ true → is n ≡ true

some_left : (is : QualName → Bool) → HasRoot is → (ns : List QualName) → IsRootOpen ns → 0 < length (down_names is ns)
some_left is h [] k = absurd k
some_left is h (n ∷ []) k = subst (λ b. 0 < length (cond b (n ∷ []) [])) (sym (h n k)) (omega arith)
some_left is h (n ∷ m ∷ ns) k = at (is n) (some_left is h (m ∷ ns) k)
  where
    at : (b : Bool) → 0 < length (down_names is (m ∷ ns)) → 0 < length (cond b (n ∷ m ∷ ns) (down_names is (m ∷ ns)))
    at true l = omega arith
    at false l = l

cleared_open : (is : QualName → Bool) → HasRoot is → (w : World) → HasHtmlRoot w → 0 < length (pop_until_current is w).stack
cleared_open is h w k =
    subst (λ n. 0 < n) (sym (names_length (pop_until_current is w)))
    (subst (λ ns. 0 < length ns) (sym (names-until_current is w)) (some_left is h (names_of w) k.root))

pub open_in_table_body : (w : World) → HasHtmlRoot w → 0 < length (pop_until_current is_table_body_context w).stack
unfolding is_table_body_context table_body_context_names
open_in_table_body w k = cleared_open is_table_body_context (λ n h. in_set table_body_context_names (codes "html") n refl h) w k

pub open_in_row : (w : World) → HasHtmlRoot w → 0 < length (pop_until_current is_table_row_context w).stack
unfolding is_table_row_context table_row_context_names
open_in_row w k = cleared_open is_table_row_context (λ n h. in_set table_row_context_names (codes "html") n refl h) w k

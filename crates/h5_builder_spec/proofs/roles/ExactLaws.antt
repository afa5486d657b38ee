-- The facts in other words: tests that compute, and what was known of names before.
use Rattle.std.proofs.Common.{List, [], ◌∷◌, ◌∙◌}
use Rattle.h5_names.specs.declared.qualified.QualName.{QualName}
use Rattle.h5_builder_spec.specs.stack.Root.{RootIsHtml}
use Rattle.h5_builder_spec.specs.inner.Floors.{RootIs}
use Rattle.h5_builder_spec.specs.reset.Roles.{roles}
use Rattle.h5_builder_spec.proofs.roles.SetLaws.{html_test}

pub roles_root : (ns : List QualName) → RootIs (roles ns) → RootIsHtml ns
roles_root [] r = tt
roles_root (n ∷ []) r = html_test n ∙ r
roles_root (n ∷ m ∷ ns) r = roles_root (m ∷ ns) r

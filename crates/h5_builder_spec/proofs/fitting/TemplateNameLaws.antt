-- What is left below the first template.
use Rattle.std.proofs.Common.{◌≡◌, suc, Bool, true, false, cond, List, refl, ap, ◌∙◌}
use Rattle.h5_builder_spec.specs.inner.Floors.{Grounded, Left, above, grounded_left, head_left, in_head, on_body, on_root, on_template, root_left}
use Rattle.h5_builder_spec.specs.inner.Frames.{Cut, here, passes_to_template, there}
use Rattle.h5_builder_spec.specs.reset.Roles.{Role, TemplateRole, count_roles, is_template}

pub template_left : {w : Bool} {ns rest : List Role} → Cut passes_to_template TemplateRole ns rest → Grounded w ns → Left w rest
template_left here (above n h g) = grounded_left g
template_left here on_template = root_left
template_left here in_head = head_left
template_left (there _ k c) (above n h g) = template_left c g
template_left (there n k c) on_root = elim c [ ]
template_left (there n k (there m l c)) on_body = elim c [ ]
template_left (there n k c) on_template = absurd (cc)
template_left (there n k c) in_head = absurd (cc)

no_template : (n : Role) → passes_to_template n ≡ true → is_template n ≡ false
no_template TemplateRole h = absurd (cc)
no_template _ h = refl

pub template_count : {ns rest : List Role} → Cut passes_to_template TemplateRole ns rest → count_roles is_template ns ≡ suc (count_roles is_template rest)
template_count here = refl
template_count (there {ns = ns} n h c) = ap (λ b. cond b (suc (count_roles is_template ns)) (count_roles is_template ns)) (no_template n h) ∙ template_count c

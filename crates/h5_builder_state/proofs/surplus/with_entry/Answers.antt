use Rattle.std.proofs.Common.{ap, ◌∷◌, ◌∙◌}
use Rattle.h5_token.specs.TokenText.{tag_text}
use Rattle.h5_builder_state.specs.Listed.{alike_from, entry_of}
use Rattle.h5_builder_state.proofs.AlikeLaws.{alike_test, found_other, found_step}
use Rattle.h5_builder_state.proofs.surplus.with_entry.Goals as goal

pub returns-then-equiv_modulo_attr_order-clause-found : goal.returns-then-equiv_modulo_attr_order-clause-found
returns-then-equiv_modulo_attr_order-clause-found g c = λ element node older many.
    let t = tag_text c.args.tag.now in
    let u = tag_text c.in-Element.other in
    let alike = alike_test c.equiv_modulo_attr_order.result t u c.equiv_modulo_attr_order.ensures ∙ c.if-equiv_modulo_attr_order.true in
    ap (λ e. alike_from t (entry_of node e ∷ older) c.args.found) c.in-Element.is ∙ found_step t u (node c.in-Element.field-0) older c.args.found.count c.args.found.earliest c.args.place alike many

pub returns-else-equiv_modulo_attr_order-clause-found : goal.returns-else-equiv_modulo_attr_order-clause-found
returns-else-equiv_modulo_attr_order-clause-found g c = λ element node older many.
    let t = tag_text c.args.tag.now in
    let u = tag_text c.in-Element.other in
    let other = alike_test c.equiv_modulo_attr_order.result t u c.equiv_modulo_attr_order.ensures ∙ c.if-equiv_modulo_attr_order.false in
    ap (λ e. alike_from t (entry_of node e ∷ older) c.args.found) c.in-Element.is ∙ found_other t u (node c.in-Element.field-0) older c.args.found other

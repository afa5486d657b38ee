use Rattle.std.proofs.Common.{◌||◌, ◌∙◌, ap}
use Rattle.std.specs.BTreeSet.{contains}
use Rattle.h5_arena.specs.AttributeNames.{name_cmp}
use Rattle.h5_arena.proofs.AttributeNameLaws.{all_names, name_put}
use Rattle.h5_arena.proofs.attribute_names.add_names.Goals as goal

pub loop-attribute-preserved : goal.loop-attribute-preserved
loop-attribute-preserved c =
    name_put c.args.attrs.now c.loop-attribute.attribute-index c.attribute-item.result c.in_ok-clone.field-0 c.args.names.now c.loop-attribute.names c.insert.new.self c.loop-attribute-test.true c.attribute-item.is c.in_ok-clone.ensures
    c.in_ok-insert.ensures.updates c.loop-attribute.invariant

pub returns : goal.returns
returns c =
    λ q. c.loop-attribute.invariant q ∙ ap (λ b. contains name_cmp c.args.names.now q || b) (all_names c.args.attrs.now c.loop-attribute.attribute-index q c.loop-attribute-test.false)

use Rattle.std.proofs.Common.{◌∙◌, ap}
use Rattle.h5_names.specs.AttributeText.{attribute_texts}
use Rattle.h5_arena.specs.ArenaModel.{arena_choices, forest_in}
use Rattle.h5_arena.proofs.MakeLaws.{made_alone, push_is}
use Rattle.h5_arena.proofs.makes.push_element.Goals as goal

pub returns-clause-ok : goal.returns-clause-ok
returns-clause-ok c =
    made_alone arena_choices c.args.name (attribute_texts c.args.attrs.items) c.args.flags (forest_in c.args.nodes.now.items) _ c.if-is_template.false
    (ap forest_in c.in_ok-push.ensures.items ∙ push_is c.args.nodes.now.items _ _ (c.bare_element-node.ensures c.args.name c.in_ok-kind.ensures))

use Rattle.std.proofs.Common.{sym}
use Rattle.h5_builder_state.specs.View.{world}
use Rattle.h5_builder_state.proofs.StackLaws.{template_test}
use Rattle.h5_builder_actions.proofs.place.inside.Goals as goal

pub elem_name-requires : goal.elem_name-requires
unfolding world
elem_name-requires g c = c.requires.sound.sound.stands.elements (g.S.TreeSink.node c.args.target.now) c.requires.open

pub last_child_place-requires-clause-template : goal.last_child_place-requires-clause-template
unfolding world
last_child_place-requires-clause-template g c =
    sym (template_test (g.S.TreeSink.sees c.args.sink.now).forest (g.S.TreeSink.node c.args.target.now) c.elem_name.result.now c.is_html_known-is_template.result c.elem_name.ensures c.is_html_known-is_template.ensures)

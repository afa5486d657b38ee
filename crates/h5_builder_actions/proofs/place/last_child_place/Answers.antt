use Rattle.std.proofs.Common.{sym, ◌∙◌}
use Rattle.h5_builder_state.specs.View.{world}
use Rattle.h5_builder_state.proofs.StackLaws.{inside_other, inside_template, open_is_node}
use Rattle.h5_builder_actions.proofs.place.last_child_place.Goals as goal

pub get_template_contents-requires : goal.get_template_contents-requires
unfolding world
get_template_contents-requires g c = c.requires.sound.sound.stands.templates (g.S.TreeSink.node c.args.target.now) c.requires.open (sym c.requires.template ∙ c.if-is_template.true)

pub clone_handle-requires : goal.clone_handle-requires
unfolding world
clone_handle-requires g c =
    open_is_node (world g.S.TreeSink.sees g.S.TreeSink.node c.args.sink.now c.args.state.now) (g.S.TreeSink.node c.args.target.now) c.requires.sound.sound c.requires.open

pub returns-then-is_template : goal.returns-then-is_template
unfolding world
returns-then-is_template g c =
    sym (inside_template (g.S.TreeSink.sees c.args.sink.now).forest (g.S.TreeSink.node c.args.target.now) (g.S.TreeSink.node c.get_template_contents.result) (sym c.requires.template ∙ c.if-is_template.true) c.get_template_contents.ensures)

pub returns-else-is_template : goal.returns-else-is_template
unfolding world
returns-else-is_template g c =
    c.clone_handle.ensures ∙ sym (inside_other (g.S.TreeSink.sees c.args.sink.now).forest (g.S.TreeSink.node c.args.target.now) (sym c.requires.template ∙ c.if-is_template.false))

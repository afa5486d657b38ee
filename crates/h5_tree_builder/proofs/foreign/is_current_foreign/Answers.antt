use Rattle.std.proofs.Common.{Bor, ap, not, option_map, sym, ◌∙◌}
use Rattle.h5_names.specs.AttributeText.{is_same_text}
use Rattle.h5_names.specs.declared.qualified.QualName.{QualName}
use Rattle.h5_tables.specs.TagSets.{html_namespace}
use Rattle.h5_builder_actions.proofs.CurrentLaws.{adjusted_is_element}
use Rattle.h5_builder_state.specs.Steps.{world_of}
use Rattle.h5_builder_state.specs.View.{world}
use Rattle.h5_builder_state.proofs.StackLaws.{named}
use Rattle.h5_tree_builder.specs.Builder.{is_foreign_node}
use Rattle.h5_tree_builder.proofs.foreign.is_current_foreign.Goals as goal

pub elem_name-requires : goal.elem_name-requires
unfolding world
elem_name-requires g c =
    adjusted_is_element (world_of g.S.TreeSink c.args.sink.now c.args.state.now) (g.S.TreeSink.node c.in-Some.node.now) c.requires.sound
    (sym (ap (option_map (λ (handle : Bor _). g.S.TreeSink.node handle.now)) c.in-Some.is) ∙ c.adjusted_current_node.ensures)

pub returns-in-Some : goal.returns-in-Some
unfolding world html_namespace
returns-in-Some g c =
    let w = world_of g.S.TreeSink c.args.sink.now c.args.state.now in
    let n = g.S.TreeSink.node c.in-Some.node.now in
    let name = c.elem_name.result.now in
    ap not c.is_html.ensures
    ∙ sym (ap (is_foreign_node w.forest) (sym c.adjusted_current_node.ensures ∙ ap (option_map (λ (handle : Bor _). g.S.TreeSink.node handle.now)) c.in-Some.is) ∙ ap (λ (x : QualName). not (is_same_text x.ns html_namespace)) (named w.forest n name c.elem_name.ensures))

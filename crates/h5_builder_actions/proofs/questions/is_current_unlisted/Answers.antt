use Rattle.std.proofs.Common.{ap, sym, ◌∙◌}
use Rattle.h5_builder_spec.specs.World.{name_in, names_of}
use Rattle.h5_builder_state.specs.View.{world}
use Rattle.h5_builder_actions.proofs.NamedLaws.{current_named}
use Rattle.h5_builder_actions.proofs.questions.is_current_unlisted.Goals as goal

pub is_listed-requires-clause-named : goal.is_listed-requires-clause-named
unfolding world names_of
is_listed-requires-clause-named g c =
    let w = world g.S.TreeSink.sees g.S.TreeSink.node c.args.sink.now c.args.state.now in
    ap (λ n. (name_in w.forest n).local) c.current_node.ensures.current ∙ current_named w.forest w.forest.document c.args.name.now w.stack (sym c.is_current_html.ensures ∙ c.if-is_current_html.true)

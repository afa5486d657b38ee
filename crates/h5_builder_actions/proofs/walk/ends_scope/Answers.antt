use Rattle.std.proofs.Common.{ap, sym, ◌∙◌}
use Rattle.h5_tables.specs.TagSets.{is_default_scope}
use Rattle.h5_builder_state.proofs.StackLaws.{named}
use Rattle.h5_builder_actions.proofs.walk.ends_scope.Goals as goal

pub returns : goal.returns
returns g c =
    let f = (g.S.TreeSink.sees c.args.sink.now).forest in
    c.default_scope.ensures ∙ ap is_default_scope (sym (named f (g.S.TreeSink.node c.args.handle.now) c.elem_name.result.now c.elem_name.ensures))

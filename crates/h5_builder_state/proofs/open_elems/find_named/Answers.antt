use Rattle.std.proofs.Common.{ap, sym, ◌-◌, ◌∙◌}
use Rattle.h5_builder_spec.specs.World.{names_of}
use Rattle.h5_builder_spec.proofs.changes.PopLaws.{names_length}
use Rattle.h5_tables.specs.TagSets.{is_html_named}
use Rattle.h5_builder_state.specs.Steps.{world_of}
use Rattle.h5_builder_state.proofs.NewestLaws.{cut_newest}
use Rattle.h5_builder_state.proofs.open_elems.find_named.Goals as goal

pub returns : goal.returns
returns g c =
    let w = world_of g.S.TreeSink c.args.sink.now c.args.state.now in
    c.saturating_sub.ensures ∙ ap (λ z. z - 1) c.newest_named.ensures ∙ sym (cut_newest (is_html_named c.args.local.now) (names_of w) w.stack (names_length w))

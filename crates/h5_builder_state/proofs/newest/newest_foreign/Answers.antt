use Rattle.std.proofs.Common.{reverse, sym, ◌∙◌}
use Rattle.h5_builder_state.specs.Numbered.{numbers}
use Rattle.h5_builder_spec.specs.World.{names_of}
use Rattle.h5_builder_state.specs.View.{world}
use Rattle.h5_builder_state.proofs.NewestLaws.{newest_of_foreign, none_of_foreign}
use Rattle.h5_builder_state.proofs.newest.newest_foreign.Goals as goal

pub returns-in-Some : goal.returns-in-Some
unfolding world
returns-in-Some g c =
    let open_elems = c.args.state.now.open_elems in
    let w = world g.S.TreeSink.sees g.S.TreeSink.node c.args.sink.now c.args.state.now in
    c.newest.ensures.newest
    ∙ newest_of_foreign open_elems.numbers c.args.local.now (reverse (numbers open_elems.elements)) (names_of w) c.requires.kept.numbered c.in-Some.number (sym c.in_ok-number.ensures ∙ c.in-Some.is)

pub returns-in-None : goal.returns-in-None
unfolding world
returns-in-None g c =
    let open_elems = c.args.state.now.open_elems in
    let w = world g.S.TreeSink.sees g.S.TreeSink.node c.args.sink.now c.args.state.now in
    sym (none_of_foreign open_elems.numbers c.args.local.now (reverse (numbers open_elems.elements)) (names_of w) c.requires.kept.numbered (sym c.in_ok-number.ensures ∙ c.in-None.is))

use Rattle.std.proofs.Common.{ap, map, refl, reverse}
use Rattle.h5_builder_spec.specs.World.{names_of}
use Rattle.h5_builder_state.specs.View.{open_node, stack_under, with_stack, world}
use Rattle.h5_builder_state.proofs.StampLaws.{stamped_oldest}
use Rattle.h5_builder_state.proofs.SummaryLaws.{cut_values, kept_cut}
use Rattle.h5_builder_state.proofs.open_elems.truncate.Goals as goal

pub returns-clause-kept : goal.returns-clause-kept
unfolding world names_of
returns-clause-kept g c = kept_cut g.S.TreeSink.node (g.S.TreeSink.sees c.args.sink.now).forest c.args.state.now.open_elems c.args.count c.requires.kept _ c.truncate.ensures refl

pub returns-clause-world : goal.returns-clause-world
unfolding world stack_under
returns-clause-world g c =
    let w = world g.S.TreeSink.sees g.S.TreeSink.node c.args.sink.now c.args.state.now in
    ap (λ xs. with_stack (reverse (map (open_node g.S.TreeSink.node) xs)) w) (cut_values c.args.state.now.open_elems.elements c.truncate.new.self c.args.count c.truncate.ensures)

pub returns-clause-stamped : goal.returns-clause-stamped
returns-clause-stamped g c =
    stamped_oldest g.S.TreeSink.node c.args.state.now.open_elems _ c.args.state.now.active_formatting c.args.count
    (cut_values c.args.state.now.open_elems.elements c.truncate.new.self c.args.count c.truncate.ensures) refl c.requires.stamped

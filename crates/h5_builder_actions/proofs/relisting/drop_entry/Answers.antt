use Rattle.std.proofs.Common.{ap, arith, map, subst, sym, ◌∙◌}
use Rattle.std.proofs.lemmas.List.{length-map, length-reverse}
use Rattle.h5_builder_state.specs.Listed.{entry_of}
use Rattle.h5_builder_state.specs.View.{listed_node, world}
use Rattle.h5_builder_state.proofs.SeenLaws.{seen_removed}
use Rattle.h5_builder_actions.proofs.ListLaws.{left_parts}
use Rattle.h5_builder_actions.specs.Restacks.{MayRestack}
use Rattle.h5_builder_actions.proofs.EntryStampLaws.{restack_removed}
use Rattle.h5_builder_actions.proofs.relisting.drop_entry.Goals as goal

pub remove-requires : goal.remove-requires
unfolding world
remove-requires g c =
    let items = c.args.state.now.active_formatting in
    omega (arith, c.requires, length-map items (entry_of (listed_node g.S.TreeSink.node)), length-reverse (map (entry_of (listed_node g.S.TreeSink.node)) items))

pub returns-clause-done : goal.returns-clause-done
unfolding world
returns-clause-done g c = λ newer older e cut h.
    let node = g.S.TreeSink.node in
    let w = world g.S.TreeSink.sees node c.args.sink.now c.args.state.now in
    ap (λ l. record w { formatting = l }) (seen_removed (entry_of (listed_node node)) c.args.state.now.active_formatting c.remove.new.self c.args.at newer older e (c.remove.ensures.rest ∙ left_parts c.args.state.now.active_formatting c.args.at) cut h)

pub returns-clause-restack : goal.returns-clause-restack
returns-clause-restack g c = λ block ns m.
    let node = g.S.TreeSink.node in
    let state = c.args.state.now in
    subst (MayRestack node state.open_elems block ns) (sym c.remove.ensures.rest) (restack_removed node state.open_elems block ns state.active_formatting c.args.at m)

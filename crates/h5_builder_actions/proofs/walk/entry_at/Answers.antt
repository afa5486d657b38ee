use Rattle.std.proofs.Common.{arith, subst, sym}
use Rattle.h5_builder_state.specs.Listed.{entry_of}
use Rattle.h5_builder_state.specs.View.{listed_node, world}
use Rattle.h5_builder_actions.proofs.ListLaws.{entries_cut, length_entries}
use Rattle.h5_builder_actions.proofs.NodeLaws.{entry_in}
use Rattle.h5_builder_state.specs.Stamps.{IsStamped, stamps_of}
use Rattle.h5_builder_state.proofs.StampLaws.{is_stamped}
use Rattle.h5_builder_actions.proofs.walk.entry_at.Goals as goal

pub returns-clause-listed : goal.returns-clause-listed
unfolding world
returns-clause-listed g c = λ n tag e.
    let node = g.S.TreeSink.node in
    let items = c.args.state.now.active_formatting in
    let x = c.get.result.now in
    entry_in _ _ _ (entry_of (listed_node node) x) n tag (entries_cut (listed_node node) items c.args.place x (omega (arith, c.requires, length_entries (listed_node node) items)) c.get.ensures) e

pub returns-clause-stamped : goal.returns-clause-stamped
unfolding world
returns-clause-stamped g c = λ s.
    let node = g.S.TreeSink.node in
    let open_elems = c.args.state.now.open_elems in
    let items = c.args.state.now.active_formatting in
    subst (λ e. IsStamped node (stamps_of node open_elems) open_elems.last e) (sym c.get.ensures)
    (is_stamped node open_elems items c.args.place c.get.result.now (omega (arith, c.requires, length_entries (listed_node node) items)) s)

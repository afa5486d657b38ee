use Rattle.std.proofs.Common.{subst, sym, ◌<◌}
use Rattle.std.specs.Prelude.{MatchOption}
use Rattle.h5_builder_state.specs.View.{listed_node, world}
use Rattle.h5_builder_actions.proofs.ListLaws.{length_entries}
use Rattle.h5_builder_actions.proofs.find.find_formatting_element.Goals as goal

pub returns-clause-found : goal.returns-clause-found
unfolding world
returns-clause-found g c = c.find_newest_named.ensures.found (listed_node g.S.TreeSink.node)

pub returns-clause-place : goal.returns-clause-place
unfolding world
returns-clause-place g c = c.find_newest_named.ensures.place (listed_node g.S.TreeSink.node)

pub returns-clause-inside : goal.returns-clause-inside
unfolding world
returns-clause-inside g c =
    subst (λ many. MatchOption c.find_newest_named.result (Unit {0}) (λ place. place < many)) (sym (length_entries (listed_node g.S.TreeSink.node) c.args.state.now.active_formatting)) c.find_newest_named.ensures.inside

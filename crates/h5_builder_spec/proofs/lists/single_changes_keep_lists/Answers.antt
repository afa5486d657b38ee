use Rattle.h5_builder_spec.proofs.entries.KeptListsLaws.{lists_cleared, lists_cut, lists_marked, lists_pushed, lists_without_entry}
use Rattle.h5_builder_spec.proofs.entries.PassLaws.{lists_but_first, lists_closed, lists_cut_through, lists_removed, lists_without_node}
use Rattle.h5_builder_spec.proofs.lists.single_changes_keep_lists.Goals as goal

pub returns-clause-pushed : goal.returns-clause-pushed
returns-clause-pushed c = lists_pushed

pub returns-clause-popped : goal.returns-clause-popped
returns-clause-popped c = lists_but_first

pub returns-clause-cut : goal.returns-clause-cut
returns-clause-cut c = lists_cut_through

pub returns-clause-front_cut : goal.returns-clause-front_cut
returns-clause-front_cut c = lists_cut

pub returns-clause-node_left : goal.returns-clause-node_left
returns-clause-node_left c = lists_without_node

pub returns-clause-entry_left : goal.returns-clause-entry_left
returns-clause-entry_left c = lists_without_entry

pub returns-clause-both_left : goal.returns-clause-both_left
returns-clause-both_left c = lists_removed

pub returns-clause-closed : goal.returns-clause-closed
returns-clause-closed c = lists_closed

pub returns-clause-marked : goal.returns-clause-marked
returns-clause-marked c = lists_marked

pub returns-clause-cleared : goal.returns-clause-cleared
returns-clause-cleared c = lists_cleared

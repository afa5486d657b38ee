use Rattle.std.proofs.Common.{◌≡◌, ◌+◌, ◌*◌, ◌≤◌, drop, length, map}
use Rattle.std.specs.List.{filter, list_any}
use Rattle.std.specs.Option.{option_map}
use Rattle.h5_selectors.specs.Query.{context, holds_by}
use Rattle.h5_selectors.specs.Waiting.{AreSteps, seen, size_of, step_holds, tests_left}
use Rattle.h5_selectors.proofs.holds.+holds.Given as goal

abbrev pub invariant-count_holding-counted : goal.invariant-count_holding-counted
invariant-count_holding-counted g l = (l.count + length (filter (holds_by (context (g.T.Tree.forest l.query.tree.now) l.query.is_quirky (option_map g.T.Tree.number l.query.scope)) l.formula) (map g.T.Tree.number (drop l.element-index l.list))) ≡ length (filter (holds_by (context (g.T.Tree.forest l.query.tree.now) l.query.is_quirky (option_map g.T.Tree.number l.query.scope)) l.formula) (map g.T.Tree.number l.list))) × (l.count ≤ l.element-index)

abbrev pub invariant-holds-waits : goal.invariant-holds-waits
invariant-holds-waits g l = record {
  same : list_any (step_holds (context (g.T.Tree.forest l.query.tree.now) l.query.is_quirky (option_map g.T.Tree.number l.query.scope))) (seen g.T.Tree.number l.waiting.items) ≡ holds_by (context (g.T.Tree.forest l.query.tree.now) l.query.is_quirky (option_map g.T.Tree.number l.query.scope)) l.formula (g.T.Tree.number l.fn.id);
  steps : AreSteps (context (g.T.Tree.forest l.query.tree.now) l.query.is_quirky (option_map g.T.Tree.number l.query.scope)) (size_of l.formula) (seen g.T.Tree.number l.waiting.items);
}

abbrev pub decreases-holds-waits : goal.decreases-holds-waits
decreases-holds-waits g l = tests_left (context (g.T.Tree.forest l.query.tree.now) l.query.is_quirky (option_map g.T.Tree.number l.query.scope)) (seen g.T.Tree.number l.waiting.items)

-- A part of a condition is smaller. Functions that are called with the same condition are ranked.
abbrev pub decreases-tested : goal.decreases-tested
decreases-tested g l = 4 * size_of l.formula.now

abbrev pub decreases-holds : goal.decreases-holds
decreases-holds g l = 4 * size_of l.formula.now + 1

abbrev pub decreases-count_holding : goal.decreases-count_holding
decreases-count_holding g l = 4 * size_of l.formula.now + 2

abbrev pub decreases-is_nth : goal.decreases-is_nth
decreases-is_nth g l = 4 * size_of l.of.now + 3

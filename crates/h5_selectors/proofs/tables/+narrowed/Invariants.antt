-- A part of a condition is smaller. A function called at the same condition tests fewer of its parts.
use Rattle.std.proofs.Common.{◌≡◌, ◌<◌, ◌≤◌, ◌+◌, ◌*◌, ◌&&◌, ◌||◌, ◌++◌, ℕ, List, false, get_or, length, map, max, vec_len}
use Rattle.std.specs.Prelude.{not}
use Rattle.std.specs.Option.{option_map}
use Rattle.h5_selectors.specs.Query.{context, holds_by}
use Rattle.h5_selectors.specs.Rows.{node_of}
use Rattle.h5_selectors.specs.Tables.{IsTableOf, stations_of}
use Rattle.h5_selectors.specs.Waiting.{size_of}
use Rattle.h5_selectors.specs.declared.formula.Formula.{Formula}
use Rattle.h5_selectors.proofs.tables.+narrowed.Given as goal

abbrev pub decreases-narrowed_alone : goal.decreases-narrowed_alone
decreases-narrowed_alone g l = 4 * size_of l.formula.now + 1

abbrev pub decreases-narrowed_to : goal.decreases-narrowed_to
decreases-narrowed_to g l = 4 * size_of l.formula.now + 2

abbrev pub decreases-narrowed : goal.decreases-narrowed
decreases-narrowed g l = 4 * size_of l.formula.now + 3

abbrev pub decreases-narrowed_any : goal.decreases-narrowed_any
decreases-narrowed_any g l = 4 * max (size_of l.one.now) (size_of l.other.now) + 4

abbrev pub invariant-narrowed_any-further : goal.invariant-narrowed_any-further
invariant-narrowed_any-further g l = record {
  count : vec_len l.left ≡ length l.rows.ids.items;
  table : (k : ℕ) → k < length l.rows.ids.items → (get_or l.left.items k false && not (holds_by (context (g.T.Tree.forest l.query.tree.now) l.query.is_quirky (option_map g.T.Tree.number l.query.scope)) l.at (node_of g.T.Tree.number l.rows k)))
      ≡ (get_or l.set k false && not (holds_by (context (g.T.Tree.forest l.query.tree.now) l.query.is_quirky (option_map g.T.Tree.number l.query.scope)) l.one (node_of g.T.Tree.number l.rows k) || holds_by (context (g.T.Tree.forest l.query.tree.now) l.query.is_quirky (option_map g.T.Tree.number l.query.scope)) l.other (node_of g.T.Tree.number l.rows k)));
  size : size_of l.at ≤ size_of l.other;
}

abbrev pub decreases-narrowed_any-further : goal.decreases-narrowed_any-further
decreases-narrowed_any-further g l = size_of l.at

abbrev pub invariant-narrowed_to-down : goal.invariant-narrowed_to-down
invariant-narrowed_to-down g l = record {
  count : vec_len l.left ≡ length l.rows.ids.items;
  table : (k : ℕ) → k < length l.rows.ids.items → (get_or l.left.items k false && holds_by (context (g.T.Tree.forest l.query.tree.now) l.query.is_quirky (option_map g.T.Tree.number l.query.scope)) l.at (node_of g.T.Tree.number l.rows k)) ≡ (get_or l.set k false && holds_by (context (g.T.Tree.forest l.query.tree.now) l.query.is_quirky (option_map g.T.Tree.number l.query.scope)) l.formula (node_of g.T.Tree.number l.rows k));
  stations : stations_of l.at ≡ stations_of l.formula;
  size : size_of l.at ≤ size_of l.formula;
}

abbrev pub decreases-narrowed_to-down : goal.decreases-narrowed_to-down
decreases-narrowed_to-down g l = size_of l.at

abbrev pub invariant-narrowed-back : goal.invariant-narrowed-back
invariant-narrowed-back g l = (done : List Formula) × ((map (λ f. f.now) l.stations.items ++ done ≡ stations_of l.formula) × IsTableOf g.T.Tree.number (context (g.T.Tree.forest l.query.tree.now) l.query.is_quirky (option_map g.T.Tree.number l.query.scope)) l.rows done l.into.items)

abbrev pub decreases-narrowed-back : goal.decreases-narrowed-back
decreases-narrowed-back g l = length l.stations.items

use Rattle.std.proofs.Common.{◌≡◌, ◌∙◌, ℕ, ◌<◌, List, ◌∷◌, ap, false, get_or, length, map}
use Rattle.std.specs.Prelude.{not}
use Rattle.std.specs.List.{filter}
use Rattle.std.specs.Option.{option_map}
use Rattle.h5_interface.specs.Forest.{Forest}
use Rattle.h5_arena.specs.Kin.{descendants}
use Rattle.h5_tree.specs.Elements.{below}
use Rattle.h5_selectors.specs.Query.{context, matches_by}
use Rattle.h5_selectors.specs.Selected.{selected}
use Rattle.h5_selectors.proofs.Selection.{all_held, asks_same, behind_first, if_ok}
use Rattle.h5_selectors.proofs.selector.Selector.select.Goals as goal

pub returns-clause-found : goal.returns-clause-found
returns-clause-found g c =
    let f = g.T.Tree.forest c.args.tree.now in
    let n = g.T.Tree.number c.args.id in
    let asked = c.query_in-query.result in
    let scope = option_map g.T.Tree.number asked.scope in
    let list = c.as_slice-2.result.now in
    let test = matches_by (context (g.T.Tree.forest asked.tree.now) asked.is_quirky scope) list in
    let under : List ℕ = below (g.T.Tree.forest asked.tree.now) n in
    let ids = c.as_slice-3.result.now in
    let nodes : map g.T.Tree.number c.in-Some.rows.ids.items ≡ n ∷ under = (rw c.in-Some.is at c.in_ok-rows.ensures.nodes) in
    let are : map g.T.Tree.number ids ≡ n ∷ under = ap (map g.T.Tree.number) c.as_slice-3.ensures.value ∙ nodes in
    let left : (k : ℕ) → k < length ids → get_or c.as_slice-4.result.now k false ≡ not (test (get_or (map g.T.Tree.number ids) k 0)) =
    rw (c.as_slice-4.ensures.value, c.as_slice-3.ensures.value) (λ k lt. c.in_ok-left.ensures.left k lt) in
    let below_are = ap (λ (h : Forest). filter (matches_by (context h asked.is_quirky scope) list) (below h n)) c.query_in-query.ensures.tree in
    let mode = g.T.Tree.mode c.args.tree.now in
    let same : list ≡ c.args.self.now = cc in
    if_ok _ _ c.taken.result
    (λ found taken. taken g.T.Tree.number test left
    ∙ ap (filter test) (behind_first g.T.Tree.number ids n under are)
    ∙ below_are
    ∙ ap (λ asks. filter asks (below f n)) (asks_same f mode n asked.is_quirky scope c.query_in-query.ensures.scope c.query_in-query.ensures.quirky list)
    ∙ ap (selected f mode n) same)
    c.taken.ensures

pub returns-clause-nodes : goal.returns-clause-nodes
returns-clause-nodes g c =
    let f = g.T.Tree.forest c.args.tree.now in
    let n = g.T.Tree.number c.args.id in
    let asked = c.query_in-query.result in
    let scope = option_map g.T.Tree.number asked.scope in
    let list = c.as_slice-2.result.now in
    let test = matches_by (context (g.T.Tree.forest asked.tree.now) asked.is_quirky scope) list in
    let under : List ℕ = below (g.T.Tree.forest asked.tree.now) n in
    let ids = c.as_slice-3.result.now in
    let nodes : map g.T.Tree.number c.in-Some.rows.ids.items ≡ n ∷ under = (rw c.in-Some.is at c.in_ok-rows.ensures.nodes) in
    let are : map g.T.Tree.number ids ≡ n ∷ under = ap (map g.T.Tree.number) c.as_slice-3.ensures.value ∙ nodes in
    let left : (k : ℕ) → k < length ids → get_or c.as_slice-4.result.now k false ≡ not (test (get_or (map g.T.Tree.number ids) k 0)) =
    rw (c.as_slice-4.ensures.value, c.as_slice-3.ensures.value) (λ k lt. c.in_ok-left.ensures.left k lt) in
    let below_are = ap (λ (h : Forest). filter (matches_by (context h asked.is_quirky scope) list) (below h n)) c.query_in-query.ensures.tree in
    if_ok _ _ c.taken.result
    (λ found taken. all_held f c.node_count-count.ensures.shape (matches_by (context f asked.is_quirky scope) list) g.T.Tree.number found.items (descendants f n)
    (taken g.T.Tree.number test left ∙ ap (filter test) (behind_first g.T.Tree.number ids n under are) ∙ below_are))
    c.taken.ensures

pub returns-then-all_ask_alone-clause-nodes : goal.returns-then-all_ask_alone-clause-nodes
returns-then-all_ask_alone-clause-nodes g c =
    let f = g.T.Tree.forest c.args.tree.now in
    let n = g.T.Tree.number c.args.id in
    let asked = c.query_in-query.result in
    let scope = option_map g.T.Tree.number asked.scope in
    let list = c.as_slice-then-all_ask_alone.result.now in
    if_ok _ _ c.all_below.result
    (λ found is. all_held f c.node_count-count.ensures.shape (matches_by (context f asked.is_quirky scope) list) g.T.Tree.number found.items (descendants f n)
    (is ∙ ap (λ (h : Forest). filter (matches_by (context h asked.is_quirky scope) list) (below h n)) c.query_in-query.ensures.tree))
    c.all_below.ensures

pub returns-in_default-clause-nodes : goal.returns-in_default-clause-nodes
returns-in_default-clause-nodes g c =
    let f = g.T.Tree.forest c.args.tree.now in
    let n = g.T.Tree.number c.args.id in
    let asked = c.query_in-query.result in
    let scope = option_map g.T.Tree.number asked.scope in
    let list = c.as_slice-in_default.result.now in
    if_ok _ _ c.all_below-in_default.result
    (λ found is. all_held f c.node_count-count.ensures.shape (matches_by (context f asked.is_quirky scope) list) g.T.Tree.number found.items (descendants f n)
    (is ∙ ap (λ (h : Forest). filter (matches_by (context h asked.is_quirky scope) list) (below h n)) c.query_in-query.ensures.tree))
    c.all_below-in_default.ensures

use Rattle.std.proofs.Common.{◌≡◌, ◌∙◌, List, ap, length, map, rules, subst, sym, true, ℕ}
use Rattle.std.specs.Prelude.{slice_get}
use Rattle.std.proofs.lemmas.List.{get_or-map, length-map}
use Rattle.h5_interface.specs.Forest.{children_of}
use Rattle.h5_tree.specs.Elements.{AreElementsOrLeaves, child_elements}
use Rattle.h5_selectors.specs.Rows.{AreWithin, node_in}
use Rattle.h5_selectors.proofs.RowLaws.{child_rows, children_known}
use Rattle.h5_selectors.proofs.rows.link_row.Goals as goal

pub returns-clause-links : goal.returns-clause-links
returns-clause-links g c =
    let f = g.T.Tree.forest c.args.tree.now in
    let ns : List ℕ = map g.T.Tree.number c.args.ids.now in
    let row = c.args.row in
    let found = c.child_rows.new.found.items in
    let at : g.T.Tree.number c.index-ids-row.result ≡ node_in f ns row = ap g.T.Tree.number c.index-ids-row.is ∙ sym (get_or-map g.T.Tree.number c.args.ids.now row c.index-ids-row.result 0 c.requires.within) in
    let again : g.T.Tree.number c.index-ids-row-2.result ≡ node_in f ns row = ap g.T.Tree.number c.index-ids-row-2.is ∙ sym (get_or-map g.T.Tree.number c.args.ids.now row c.index-ids-row-2.result 0 c.requires.within) in
    let told : map (node_in f ns) found ≡ map g.T.Tree.number c.as_slice.result.now = (rw c.in-Some.is at c.in_ok-end.ensures.found) in
    let are : map (node_in f ns) found ≡ child_elements f (node_in f ns row) = told ∙ ap (map g.T.Tree.number) c.as_slice.ensures.value ∙ c.in_ok-children.ensures ∙ ap (child_elements f) again in
    let is : c.has_elements_or_leaves.result ≡ true = search rules in
    let bare : AreElementsOrLeaves f (children_of f (node_in f ns row)) = subst (λ n. AreElementsOrLeaves f (children_of f n)) at (c.has_elements_or_leaves.ensures is) in
    let first : c.copied.result ≡ slice_get found 0 = search rules in
    let room : c.as_slice-3.result.now ≡ found = c.as_slice-3.ensures.value in
    let inside : AreWithin row (length ns) found = subst (λ n. AreWithin row n found) (sym (length-map c.args.ids.now g.T.Tree.number)) c.in_ok-end.ensures.within in
    c.set_first.ensures.links f ns
    (c.link_children.ensures.links f ns c.requires.links (rw room (child_rows f ns row found c.requires.shape are c.in_ok-end.ensures.rising inside)))
    (rw first (children_known f ns row found c.requires.shape are c.in_ok-end.ensures.rising inside bare))

use Rattle.std.proofs.Common.{◌∙◌, ap, map}
use Rattle.std.specs.Prelude.{slice_get}
use Rattle.std.specs.List.{filter}
use Rattle.std.specs.Option.{option_map}
use Rattle.h5_arena.specs.Kin.{descendants}
use Rattle.h5_selectors.specs.Query.{context, matches_by}
use Rattle.h5_selectors.proofs.Selection.{first_held, if_ok}
use Rattle.h5_selectors.proofs.selector.Selector.select_first.Goals as goal

pub returns-clause-nodes : goal.returns-clause-nodes
returns-clause-nodes g c =
    let f = g.T.Tree.forest c.args.tree.now in
    let asked = c.query_in-query.result in
    let test = matches_by (context (g.T.Tree.forest asked.tree.now) asked.is_quirky (option_map g.T.Tree.number asked.scope)) c.as_slice.result.now in
    if_ok _ _ c.first_matching.result
    (λ found is. first_held f c.node_count-count.ensures.shape test g.T.Tree.number found (descendants f (g.T.Tree.number c.args.id)) (is ∙ ap (λ l. slice_get (filter test l) 0) (ap (map g.T.Tree.number) c.as_slice-2.ensures.value ∙ c.in_ok-below.ensures)))
    c.first_matching.ensures

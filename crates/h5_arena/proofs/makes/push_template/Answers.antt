use Rattle.std.proofs.Common.{◌∙◌, ◌+◌, ◌++◌, ◌∷◌, [], ap, arith}
use Rattle.std.specs.Prelude.{Some}
use Rattle.h5_interface.specs.Forest.{FragmentNode, Node}
use Rattle.h5_interface.specs.Seen.{plain}
use Rattle.h5_arena.specs.ArenaModel.{forest_in, link_place, node_view}
use Rattle.h5_arena.proofs.MakeLaws.{template_is}
use Rattle.h5_arena.proofs.makes.push_template.Goals as goal

pub returns-in-Ok-clause-ok : goal.returns-in-Ok-clause-ok
returns-in-Ok-clause-ok c =
    ap forest_in (c.in-Ok.ensures.items ∙ ap (λ xs. xs ++ (record c.in_ok-contents.contents { parent = c.to-contents.result }) ∷ []) c.in_ok-push.ensures.items)
    ∙ template_is c.args.nodes.now.items _ _ (node_view c.args.template) _ (omega arith)
    (ap (λ p. record (node_view c.args.template) { contents = p }) c.to-template.ensures ∙ ap (λ k. record (node_view c.args.template) { contents = Some (k + 1) }) c.len-index.ensures)
    (ap {A = Node} (λ v. record v { parent = link_place c.to-contents.result }) c.in_ok-contents.ensures ∙ ap (λ p. record (plain FragmentNode) { parent = p }) c.to-contents.ensures
    ∙ ap (λ k. record (plain FragmentNode) { parent = Some k }) c.len-index.ensures)

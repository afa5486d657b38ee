use Rattle.std.proofs.Common.{◌<◌, ◌∙◌, List, ap, arith, length, subst, sym}
use Rattle.h5_interface.specs.Forest.{Child, count, nodes}
use Rattle.h5_arena.specs.ArenaModel.{child_views, children_in, forest_in, node_view}
use Rattle.h5_arena.proofs.MoveLaws.{child_held}
use Rattle.h5_arena.proofs.NodeWrites.{children_at}
use Rattle.h5_arena.proofs.TextEditLaws.{text_stands}
use Rattle.h5_arena.proofs.edit_text.set_text.Goals as goal

pub let_all_go-requires : goal.let_all_go-requires
let_all_go-requires c = λ n h.
    let there : c.args.id.index < length c.args.nodes.now.items = omega arith in
    let stood = ap child_views (c.as_slice.ensures.value ∙ ap children_in c.replace-gone.ensures.value) ∙ sym (children_at c.args.nodes.now.items c.args.id.index c.index_mut-node.result.now there c.index_mut-node.ensures.value) in
    let held = child_held c.args.nodes.now.items c.args.id.index n c.requires.forest (subst (λ (cs : List Child). 0 < count n (nodes cs)) stood h) in
    omega (arith, held)

pub returns-clause-ok : goal.returns-clause-ok
returns-clause-ok c =
    let there : c.args.id.index < length c.args.nodes.now.items = omega arith in
    text_stands c.args.nodes.now.items c.args.id.index c.index_mut-node.result.now _ (forest_in c.let_all_go.new.nodes.items) c.as_slice.result.now c.args.text.now there c.index_mut-node.ensures.value
    (ap (λ v. record (node_view c.index_mut-node.result.now) { children = child_views (children_in v) }) c.replace-gone.ensures.after ∙ ap (λ cs. record (node_view c.index_mut-node.result.now) { children = cs }) c.in_ok-only.ensures)
    (c.as_slice.ensures.value ∙ ap children_in c.replace-gone.ensures.value) c.let_all_go.ensures

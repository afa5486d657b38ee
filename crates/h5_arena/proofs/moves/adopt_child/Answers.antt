use Rattle.std.proofs.Common.{◌∙◌, ◌<◌, ap, arith, get_or, length, refl}
use Rattle.std.specs.Prelude.{◌==◌, Some}
use Rattle.h5_interface.specs.Forest.{children_of}
use Rattle.h5_arena.specs.ArenaModel.{child_view, forest_in, node_view}
use Rattle.h5_arena.specs.ChildTests.{is_node_at}
use Rattle.h5_arena.proofs.ChildTexts.{has_at}
use Rattle.h5_arena.proofs.MoveLaws.{no_node, present, set_parents_none, set_parents_same}
use Rattle.h5_arena.proofs.NodeWrites.{parent_write}
use Rattle.h5_arena.proofs.moves.adopt_child.Goals as goal

pub index_mut-moved-requires : goal.index_mut-moved-requires
index_mut-moved-requires c =
    let there : c.args.parent.index < length c.args.nodes.now.items = omega arith in
    c.requires.held c.in-Node.id.index
    (has_at c.in-Node.id.index (children_of (forest_in c.args.nodes.now.items) c.args.parent.index) c.args.at
    (present c.args.nodes.now.items c.args.parent.index c.args.at c.index-node.result.now c.index-children-at.result there c.index-node.ensures (c.index-children-at.is ∙ ap (λ xs. get_or xs c.args.at c.index-children-at.result) c.as_slice-children.ensures.value) c.requires.within ∙ ap (λ x. Some (child_view x)) c.in-Node.is))

pub returns-in_default : goal.returns-in_default
returns-in_default c =
    let there : c.args.parent.index < length c.args.nodes.now.items = omega arith in
    let found = present c.args.nodes.now.items c.args.parent.index c.args.at c.index-node.result.now c.index-children-at.result there c.index-node.ensures (c.index-children-at.is ∙ ap (λ xs. get_or xs c.args.at c.index-children-at.result) c.as_slice-children.ensures.value) c.requires.within in
    set_parents_none (is_node_at (children_of (forest_in c.args.nodes.now.items) c.args.parent.index) c.args.at) (Some c.args.parent.index) (forest_in c.args.nodes.now.items) (λ n. rw found (no_node n c.index-children-at.result c.in_default.not-Node))

pub returns-in-Node : goal.returns-in-Node
returns-in-Node c =
    let there : c.args.parent.index < length c.args.nodes.now.items = omega arith in
    let found = present c.args.nodes.now.items c.args.parent.index c.args.at c.index-node.result.now c.index-children-at.result there c.index-node.ensures (c.index-children-at.is ∙ ap (λ xs. get_or xs c.args.at c.index-children-at.result) c.as_slice-children.ensures.value) c.requires.within ∙ ap (λ x. Some (child_view x)) c.in-Node.is in
    let held = c.requires.held c.in-Node.id.index (has_at c.in-Node.id.index (children_of (forest_in c.args.nodes.now.items) c.args.parent.index) c.args.at found) in
    let held' : c.in-Node.id.index < length c.args.nodes.now.items = omega (arith, held) in
    parent_write c.args.nodes.now.items c.in-Node.id.index c.index_mut-moved.result.now _ (Some c.args.parent.index) held' c.index_mut-moved.ensures.value
    (ap (λ p. record (node_view c.index_mut-moved.result.now) { parent = p }) c.to-moved.ensures)
    ∙ set_parents_same (λ n. n == c.in-Node.id.index) (is_node_at (children_of (forest_in c.args.nodes.now.items) c.args.parent.index) c.args.at) (Some c.args.parent.index) (forest_in c.args.nodes.now.items) (λ n. rw found refl)

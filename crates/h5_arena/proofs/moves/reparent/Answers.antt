use Rattle.std.proofs.Common.{◌≡◌, ◌∙◌, ◌<◌, ◌++◌, ap, arith, length, refl, vec_len}
use Rattle.std.proofs.lemmas.List.{length-map}
use Rattle.h5_interface.specs.Changes.{joined}
use Rattle.h5_arena.specs.ArenaModel.{child_views, children_in, forest_in, node_view}
use Rattle.h5_arena.proofs.MoveLaws.{filled_at, moved_all, moved_forest, moved_held, put_back, restored_at}
use Rattle.h5_arena.proofs.NodeWrites.{children_at, node_at, parted_at}
use Rattle.h5_arena.proofs.moves.reparent.Goals as goal

pub append_children-requires-clause-parted : goal.append_children-requires-clause-parted
append_children-requires-clause-parted c =
    let there : c.args.to.index < length c.args.nodes.now.items = omega arith in
    parted_at c.args.nodes.now.items c.args.to.index c.index_mut-filled.result.now there
    (filled_at c.args.nodes.now.items c.args.from.index c.args.to.index _ c.index_mut-filled.result.now c.requires.apart c.index_mut-filled.ensures.value) c.requires.forest

pub append_children-requires-clause-parted_moved : goal.append_children-requires-clause-parted_moved
append_children-requires-clause-parted_moved c =
    let there : c.args.from.index < length c.args.nodes.now.items = omega arith in
    rw c.replace-moved.ensures.value (parted_at c.args.nodes.now.items c.args.from.index c.index_mut-emptied.result.now there c.index_mut-emptied.ensures.value c.requires.forest)

pub returns-in-Err-clause-err : goal.returns-in-Err-clause-err
returns-in-Err-clause-err c =
    let there : c.args.from.index < length c.args.nodes.now.items = omega arith in
    put_back c.args.nodes.now.items c.args.from.index c.args.to.index c.index_mut-emptied.result.now _ c.index_mut-filled.result.now _ _ there c.index_mut-emptied.ensures.value c.index_mut-filled.ensures.value
    (ap (λ cs. record (node_view c.index_mut-filled.result.now) { children = cs }) c.in-Err.ensures.err)
    (ap (λ y. node_view (record y { children = c.append_children.new.moved })) (restored_at c.args.nodes.now.items c.args.from.index c.args.to.index _ _ c.index_mut-restored.result.now there c.requires.apart c.index_mut-restored.ensures.value)
    ∙ ap (λ xs. record (node_view c.index_mut-emptied.result.now) { children = child_views xs }) (c.in-Err.ensures.stay ∙ ap children_in c.replace-moved.ensures.value))

pub adopt_children-requires-clause-held : goal.adopt_children-requires-clause-held
adopt_children-requires-clause-held c = λ n h.
    let there_from : c.args.from.index < length c.args.nodes.now.items = omega arith in
    let there_to : c.args.to.index < length c.args.nodes.now.items = omega arith in
    let filled = filled_at c.args.nodes.now.items c.args.from.index c.args.to.index _ c.index_mut-filled.result.now c.requires.apart c.index_mut-filled.ensures.value in
    let within = moved_held c.args.nodes.now.items _ c.args.from.index c.args.to.index n (child_views (children_in c.index_mut-filled.result.now.children)) (child_views (children_in c.index_mut-emptied.result.now.children)) (node_view c.index_mut-filled.result.now)
    c.requires.forest c.requires.apart (node_at c.args.nodes.now.items c.args.to.index c.index_mut-filled.result.now there_to filled) refl
    (children_at c.args.nodes.now.items c.args.from.index c.index_mut-emptied.result.now there_from c.index_mut-emptied.ensures.value)
    (moved_forest c.args.nodes.now.items c.args.from.index c.args.to.index c.index_mut-emptied.result.now _ c.index_mut-filled.result.now _ (child_views (children_in c.index_mut-emptied.result.now.children)) there_from there_to c.index_mut-emptied.ensures.value
    (ap (λ v. record (node_view c.index_mut-emptied.result.now) { children = child_views (children_in v) }) c.replace-moved.ensures.after ∙ ap (λ xs. record (node_view c.index_mut-emptied.result.now) { children = child_views xs }) c.none.ensures)
    c.index_mut-filled.ensures.value
    (ap (λ cs. record (node_view c.index_mut-filled.result.now) { children = cs }) (c.in_default.ensures.ok ∙ ap (λ v. joined (child_views (children_in c.index_mut-filled.result.now.children) ++ child_views (children_in v))) c.replace-moved.ensures.value))) h in
    let same : vec_len c.args.nodes.now ≡ length c.args.nodes.now.items = omega arith in
    rw same within

pub returns-clause-ok : goal.returns-clause-ok
returns-clause-ok c =
    let there_from : c.args.from.index < length c.args.nodes.now.items = omega arith in
    let there_to : c.args.to.index < length c.args.nodes.now.items = omega arith in
    let filled = filled_at c.args.nodes.now.items c.args.from.index c.args.to.index _ c.index_mut-filled.result.now c.requires.apart c.index_mut-filled.ensures.value in
    moved_all (forest_in c.args.nodes.now.items) _ (forest_in c.adopt_children.new.nodes.items) c.args.from.index c.args.to.index c.len-start.result (child_views (children_in c.index_mut-filled.result.now.children))
    (child_views (children_in c.index_mut-emptied.result.now.children)) (node_view c.index_mut-filled.result.now) c.requires.apart (node_at c.args.nodes.now.items c.args.to.index c.index_mut-filled.result.now there_to filled) refl
    (children_at c.args.nodes.now.items c.args.from.index c.index_mut-emptied.result.now there_from c.index_mut-emptied.ensures.value) (simp length-map (omega arith))
    (parted_at c.args.nodes.now.items c.args.to.index c.index_mut-filled.result.now there_to filled c.requires.forest)
    (moved_forest c.args.nodes.now.items c.args.from.index c.args.to.index c.index_mut-emptied.result.now _ c.index_mut-filled.result.now _ (child_views (children_in c.index_mut-emptied.result.now.children)) there_from there_to c.index_mut-emptied.ensures.value
    (ap (λ v. record (node_view c.index_mut-emptied.result.now) { children = child_views (children_in v) }) c.replace-moved.ensures.after ∙ ap (λ xs. record (node_view c.index_mut-emptied.result.now) { children = child_views xs }) c.none.ensures)
    c.index_mut-filled.ensures.value
    (ap (λ cs. record (node_view c.index_mut-filled.result.now) { children = cs }) (c.in_default.ensures.ok ∙ ap (λ v. joined (child_views (children_in c.index_mut-filled.result.now.children) ++ child_views (children_in v))) c.replace-moved.ensures.value))) c.adopt_children.ensures

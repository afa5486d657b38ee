use Rattle.std.proofs.Common.{ap}
use Rattle.h5_names.specs.AttributeText.{attribute_texts}
use Rattle.h5_interface.proofs.MakingLaws.{add_missing_rearranges}
use Rattle.h5_arena.specs.ArenaModel.{forest_in, forest_of, node_view}
use Rattle.h5_arena.proofs.ChildViews.{on_err}
use Rattle.h5_arena.proofs.NodeWrites.{attrs_write, element_within, node_at, same_write, seen_after}
use Rattle.h5_arena.proofs.NoteLaws.{notes_add_missing, notes_kept}
use Rattle.h5_arena.proofs.sink.ArenaTreeSink.add_attrs_if_missing.Goals as goal

pub add_missing-requires : goal.add_missing-requires
add_missing-requires c =
    let there = element_within c.self.inside.nodes.items c.args.target.now.index (rw (← c.self.view_is) at c.requires) in
    c.self.invariant.notes.kept_names.known c.args.target.now.index (node_view c.index_mut-node.result.now) (node_at c.self.inside.nodes.items c.args.target.now.index c.index_mut-node.result.now there c.index_mut-node.ensures.value)

pub invariant_of-self : goal.invariant_of-self
invariant_of-self c =
    let there = element_within c.self.inside.nodes.items c.args.target.now.index (rw (← c.self.view_is) at c.requires) in
    rw (same_write c.self.inside.nodes.items c.args.target.now.index c.index_mut-node.result.now (record c.index_mut-node.result.now { attrs = c.add_missing.new.attrs }) c.index_mut-node.ensures.value (ap (λ xs. record (node_view c.index_mut-node.result.now) { attrs = xs }) c.in_err-add_missing.ensures.err)) (record {
      is_forest = c.self.invariant.is_forest;
      notes =
          notes_kept c.self.inside.names c.add_missing.new.self (forest_in c.self.inside.nodes.items) c.args.target.now.index (attribute_texts c.add_missing.new.attrs.items) (node_view c.index_mut-node.result.now)
          (node_at c.self.inside.nodes.items c.args.target.now.index c.index_mut-node.result.now there c.index_mut-node.ensures.value) c.in_err-add_missing.ensures.err c.in_err-add_missing.ensures.names c.in_err-add_missing.ensures.others
          c.self.invariant.notes;
    })

pub returns-in_err-add_missing-clause-err : goal.returns-in_err-add_missing-clause-err
returns-in_err-add_missing-clause-err c =
    rw (← c.self.view_is) (on_err _ (seen_after _ _ _ _ (ap forest_of
    (same_write c.self.inside.nodes.items c.args.target.now.index c.index_mut-node.result.now (record c.index_mut-node.result.now { attrs = c.add_missing.new.attrs }) c.index_mut-node.ensures.value (ap (λ xs. record (node_view c.index_mut-node.result.now) { attrs = xs }) c.in_err-add_missing.ensures.err)))))

pub invariant_of-self-2 : goal.invariant_of-self-2
invariant_of-self-2 c =
    let there = element_within c.self.inside.nodes.items c.args.target.now.index (rw (← c.self.view_is) at c.requires) in
    rw (attrs_write c.self.inside.nodes.items c.args.target.now.index c.index_mut-node.result.now (record c.index_mut-node.result.now { attrs = c.add_missing.new.attrs }) (attribute_texts c.args.attrs.items) there c.index_mut-node.ensures.value (ap (λ xs. record (node_view c.index_mut-node.result.now) { attrs = xs }) c.in_ok-add_missing.ensures.ok)) (record {
      is_forest = (add_missing_rearranges (forest_in c.self.inside.nodes.items) c.args.target.now.index (attribute_texts c.args.attrs.items) c.self.invariant.is_forest).is_forest;
      notes =
          notes_add_missing c.self.inside.names c.add_missing.new.self (forest_in c.self.inside.nodes.items) c.args.target.now.index (attribute_texts c.args.attrs.items) (attribute_texts c.add_missing.new.attrs.items)
          (node_view c.index_mut-node.result.now) (node_at c.self.inside.nodes.items c.args.target.now.index c.index_mut-node.result.now there c.index_mut-node.ensures.value) c.in_ok-add_missing.ensures.ok
          c.in_ok-add_missing.ensures.names c.in_ok-add_missing.ensures.others c.self.invariant.notes;
    })

pub returns-clause-ok : goal.returns-clause-ok
returns-clause-ok c =
    let there = element_within c.self.inside.nodes.items c.args.target.now.index (rw (← c.self.view_is) at c.requires) in
    rw (← c.self.view_is) (seen_after _ _ _ _
    (attrs_write c.self.inside.nodes.items c.args.target.now.index c.index_mut-node.result.now (record c.index_mut-node.result.now { attrs = c.add_missing.new.attrs }) (attribute_texts c.args.attrs.items) there c.index_mut-node.ensures.value (ap (λ xs. record (node_view c.index_mut-node.result.now) { attrs = xs }) c.in_ok-add_missing.ensures.ok)))

use Rattle.std.proofs.Common.{ap, arith, length, length-append, map, subst, sym, ◌++◌, ◌<◌, ◌∙◌, ◌∷◌}
use Rattle.std.proofs.lemmas.List.{length-map, length-reverse}
use Rattle.h5_builder_spec.specs.formatting.FormattingList.{ElementEntry}
use Rattle.h5_builder_state.specs.Listed.{entries_of, entry_of, with_handle}
use Rattle.h5_builder_state.specs.View.{elements_of, listed_node, open_node, stack_under, world}
use Rattle.h5_builder_state.proofs.SeenLaws.{seen_replaced, seen_value, set_cut}
use Rattle.h5_builder_actions.specs.EntryPlaces.{entry_for}
use Rattle.h5_builder_actions.proofs.ListLaws.{entry_handed}
use Rattle.h5_builder_spec.specs.stack.Order.{IsIn}
use Rattle.h5_builder_state.specs.Stamps.{IsAbove, stamps_of}
use Rattle.h5_builder_state.specs.declared.open_element.Listed.{Listed}
use Rattle.h5_builder_state.proofs.ReplacedLaws.{in_reverse}
use Rattle.h5_builder_state.proofs.StampLaws.{above_under, above_unopened, nodes_in}
use Rattle.h5_builder_actions.specs.Restacks.{MayRestack}
use Rattle.h5_builder_actions.proofs.EntryStampLaws.{low_handed, restack_set, stamped_handed}
use Rattle.h5_builder_actions.proofs.relisting.swap_entry.Goals as goal

pub set_handle-requires : goal.set_handle-requires
unfolding world
set_handle-requires g c =
    let items = c.args.state.now.active_formatting in
    let f = entry_of (listed_node g.S.TreeSink.node) in
    let k = c.requires in
    omega (arith, k.here, ap length k.cut, length-append k.newer (ElementEntry k.node k.tag ∷ k.older), length-map items f, length-reverse (map f items))

pub returns-clause-done : goal.returns-clause-done
unfolding world
returns-clause-done g c = λ newer older n tag cut h.
    let node = g.S.TreeSink.node in
    let f = entry_of (listed_node node) in
    let w = world g.S.TreeSink.sees node c.args.sink.now c.args.state.now in
    let items = c.args.state.now.active_formatting in
    let over = c.set_handle.ensures in
    let given : Listed _ = record { handle = c.args.handle; stamp = c.listed_at.result.now.stamp; place = c.args.stands } in
    let inside : c.args.at < length items = omega (arith, h, ap length cut, length-append newer (ElementEntry n tag ∷ older), length-map items f, length-reverse (map f items)) in
    let new = with_handle given over.entry in
    let old = seen_value f items c.args.at newer older (ElementEntry n tag) over.entry over.was cut h in
    ap (λ l. record w { formatting = l })
    (ap (λ xs. entries_of (listed_node node) xs) over.is
    ∙ seen_replaced f items _ c.args.at newer older (ElementEntry n tag) new (set_cut items c.args.at new inside) cut h
    ∙ ap (λ e. newer ++ e ∷ older) (entry_handed (listed_node node) given over.entry ∙ ap (entry_for (node c.args.handle)) old))

pub returns-clause-restack : goal.returns-clause-restack
unfolding world stack_under
returns-clause-restack g c = λ block place ns below newer older n tag cut here under up out m.
    let node = g.S.TreeSink.node in
    let state = c.args.state.now in
    let open_elems = state.open_elems in
    let items = state.active_formatting in
    let over = c.set_handle.ensures in
    let stamp = c.listed_at.result.now.stamp in
    let given : Listed _ = record { handle = c.args.handle; stamp = stamp; place = c.args.stands } in
    let elements = elements_of state in
    let above : IsAbove n stamp (stamps_of node open_elems) = subst (λ k. IsAbove k stamp (stamps_of node open_elems)) (c.listed_at.ensures.node newer older n tag cut here) (c.listed_at.ensures.above m.stamped) in
    subst (MayRestack node open_elems block ns) (sym over.is)
    (restack_set node open_elems block ns items c.args.at (with_handle given over.entry)
    (stamped_handed node open_elems given over.entry (c.listed_at.ensures.given m.stamped) (above_unopened (node c.args.handle) stamp (stamps_of node open_elems)
    (λ i. out (in_reverse (node c.args.handle) (map (open_node node) elements) (subst (IsIn (node c.args.handle)) (nodes_in node elements) i)))))
    (low_handed node open_elems block ns given over.entry (above_under node elements n stamp place block below under up above))
    m)

use Rattle.std.proofs.Common.{List, ap, append_assoc, arith, length, length-append, map, reverse, subst, sym, ◌++◌, ◌<◌, ◌∙◌, ◌∷◌, ◌≡◌}
use Rattle.std.specs.List.{remove}
use Rattle.std.proofs.lemmas.List.{length-map, length-reverse}
use Rattle.h5_builder_state.proofs.NumberedStackLaws.{item_at}
use Rattle.h5_builder_spec.specs.formatting.FormattingList.{Entry}
use Rattle.h5_builder_state.specs.Listed.{entry_of}
use Rattle.h5_builder_state.specs.View.{listed_node, world}
use Rattle.h5_builder_state.proofs.SeenLaws.{seen_inserted, seen_removed, seen_value}
use Rattle.h5_builder_actions.proofs.ListLaws.{left_parts}
use Rattle.h5_builder_actions.specs.Restacks.{MayRestack}
use Rattle.h5_builder_actions.proofs.EntryStampLaws.{restack_moved}
use Rattle.h5_builder_actions.proofs.relisting.move_entry.Goals as goal

pub move_up-requires-clause-inside : goal.move_up-requires-clause-inside
unfolding world
move_up-requires-clause-inside g c =
    let items = c.args.state.now.active_formatting in
    omega (arith, c.requires.to, length-map items (entry_of (listed_node g.S.TreeSink.node)), length-reverse (map (entry_of (listed_node g.S.TreeSink.node)) items))

pub returns-clause-done : goal.returns-clause-done
unfolding world
returns-clause-done g c = λ newer middle older e x cut from to.
    let f = entry_of (listed_node g.S.TreeSink.node) in
    let w = world g.S.TreeSink.sees g.S.TreeSink.node c.args.sink.now c.args.state.now in
    let items = c.args.state.now.active_formatting in
    let inside : c.args.from < length items = omega (arith, c.requires.order, c.requires.to, length-map items f, length-reverse (map f items)) in
    let one = item_at items c.args.from inside in
    let left = remove items c.args.from in
    let high = newer ++ x ∷ middle in
    let split = λ (l : List Entry). append_assoc newer (x ∷ middle) l in
    let cut_here : w.formatting ≡ high ++ e ∷ older = cut ∙ sym (split (e ∷ older)) in
    let removed : reverse (map f left) ≡ newer ++ x ∷ (middle ++ older) = seen_removed f items left c.args.from high older e (left_parts items c.args.from) cut_here from ∙ split older in
    let value = seen_value f items c.args.from high older e one.0 one.1 cut_here from in
    let place : c.args.to ≡ length (x ∷ (middle ++ older)) = omega (arith, to, length-append middle (e ∷ older), length-append middle older) in
    ap (λ l. record w { formatting = l })
    (seen_inserted f left c.move_up.new.self c.args.to newer (x ∷ (middle ++ older)) one.0 (c.move_up.ensures one.0 one.1) removed place ∙ ap (λ z. newer ++ z ∷ x ∷ (middle ++ older)) value)

pub returns-clause-restack : goal.returns-clause-restack
unfolding world
returns-clause-restack g c = λ block ns m.
    let node = g.S.TreeSink.node in
    let f = entry_of (listed_node node) in
    let state = c.args.state.now in
    let items = state.active_formatting in
    let inside : c.args.from < length items = omega (arith, c.requires.order, c.requires.to, length-map items f, length-reverse (map f items)) in
    let one = item_at items c.args.from inside in
    subst (MayRestack node state.open_elems block ns) (sym (c.move_up.ensures one.0 one.1)) (restack_moved node state.open_elems block ns items c.args.from c.args.to one.0 inside one.1 m)

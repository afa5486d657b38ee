use Rattle.std.proofs.Common.{◌≡◌, ◌≤◌, ◌+◌, ◌++◌, ℕ, drop, length, map, take}
use Rattle.std.specs.Vec.Iter.{into_iter_items}
use Rattle.h5_interface.specs.Forest.{IsElement}
use Rattle.h5_builder_spec.specs.stack.Order.{IsIn}
use Rattle.h5_builder_state.specs.Replaced.{AreNumbered, StayNumbered}
use Rattle.h5_builder_state.specs.Stamps.{stamp_of, stamped_as}
use Rattle.h5_builder_state.specs.Summaries.{summaries}
use Rattle.h5_builder_state.specs.View.{elements_of, kept_under, names_under, open_node, with_stack, world}
use Rattle.h5_builder_state.specs.declared.open_element.OpenElement.{OpenElement}
use Rattle.h5_builder_state.proofs.replace.put_all.Given as goal

-- what stands up to a place, and what is left, is what is to stand there
abbrev pub invariant-loop-handle : goal.invariant-loop-handle
invariant-loop-handle g l =
    let node = g.S.TreeSink.node in
    let f = (g.S.TreeSink.sees l.sink).forest in
    let rest = into_iter_items l.handle-iterator in
    record {
      place : l.place + length rest ≡ l.fn.first + length l.fn.handles.items;
      above : l.fn.first ≤ l.place;
      elements : (n : ℕ) → IsIn n (map node rest) → IsElement f n;
      put : map (open_node node) (take l.place (elements_of l.state)) ++ map node rest ≡ map (open_node node) (take l.fn.first (elements_of l.fn.state)) ++ map node l.fn.handles.items;
      stamps : map (λ (o : OpenElement _). stamp_of node o) (take l.place (elements_of l.state)) ++ map (stamped_as node l.fn.stamp) rest
          ≡ map (λ (o : OpenElement _). stamp_of node o) (take l.fn.first (elements_of l.fn.state)) ++ map (stamped_as node l.fn.stamp) l.fn.handles.items;
      newer : drop l.place (elements_of l.state) ≡ drop l.place (elements_of l.fn.state);
      count : length l.state.open_elems.elements ≡ length l.fn.state.open_elems.elements;
      kept : kept_under l.state l.place ≡ summaries (names_under g.S.TreeSink.sees node l.sink l.state l.place);
      numbered : AreNumbered node f l.state.open_elems;
      older : take l.fn.first l.state.open_elems.elements ≡ take l.fn.first l.fn.state.open_elems.elements;
      last : l.state.open_elems.last ≡ l.fn.state.open_elems.last;
      listed : l.state.active_formatting ≡ l.fn.state.active_formatting;
      stay : StayNumbered l.fn.state.open_elems.numbers l.state.open_elems.numbers;
      world : world g.S.TreeSink.sees node l.sink l.state ≡ with_stack (world g.S.TreeSink.sees node l.sink l.state).stack (world g.S.TreeSink.sees node l.sink l.fn.state);
    }

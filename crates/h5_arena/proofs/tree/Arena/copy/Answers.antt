use Rattle.std.proofs.Common.{arith}
use Rattle.std.proofs.lemmas.List.{length-map}
use Rattle.h5_arena.specs.ArenaModel.{node_view}
use Rattle.h5_arena.proofs.CopyEnds.{copies_below, copy_html, copy_is_free, copy_is_one, still_arena, still_elements, still_others}
use Rattle.h5_arena.proofs.tree.Arena.copy.Goals as goal

pub invariant_of-self-2 : goal.invariant_of-self-2
invariant_of-self-2 c =
    let long = length-map c.self.inside.nodes.items node_view in
    still_arena c.self.inside.nodes.items _ _ _ c.args.id.index c.len-index.result c.as_slice.ensures.value c.in_ok-append.ensures.items (omega (arith, long)) c.self.invariant.is_forest c.in_ok-copies.ensures c.self.invariant.notes

pub returns-clause-free : goal.returns-clause-free
returns-clause-free c =
    let long = length-map c.self.inside.nodes.items node_view in
    copy_is_free c.self.inside.nodes.items _ _ _ c.args.id.index c.len-index.result c.as_slice.ensures.value c.in_ok-append.ensures.items (omega (arith, long)) c.self.invariant.is_forest c.in_ok-copies.ensures

pub returns-clause-copy : goal.returns-clause-copy
returns-clause-copy c =
    let long = length-map c.self.inside.nodes.items node_view in
    rw (← c.self.view_is)
    (copy_is_one c.self.inside.nodes.items _ _ _ c.args.id.index c.len-index.result c.as_slice.ensures.value c.in_ok-append.ensures.items (omega (arith, long)) c.self.invariant.is_forest c.in_ok-copies.ensures)

pub returns-clause-html : goal.returns-clause-html
returns-clause-html c =
    let long = length-map c.self.inside.nodes.items node_view in
    rw (← c.self.view_is)
    (copy_html c.self.inside.nodes.items _ _ _ c.args.id.index c.len-index.result c.as_slice.ensures.value c.in_ok-append.ensures.items (omega (arith, long)) c.self.invariant.is_forest c.in_ok-copies.ensures)

pub returns-clause-others : goal.returns-clause-others
returns-clause-others c =
    let long = length-map c.self.inside.nodes.items node_view in
    rw (← c.self.view_is)
    (still_others c.self.inside.nodes.items _ _ _ c.args.id.index c.len-index.result c.as_slice.ensures.value c.in_ok-append.ensures.items (omega (arith, long)) c.self.invariant.is_forest c.in_ok-copies.ensures)

pub returns-clause-elements : goal.returns-clause-elements
returns-clause-elements c =
    let long = length-map c.self.inside.nodes.items node_view in
    rw (← c.self.view_is)
    (still_elements c.self.inside.nodes.items _ _ _ c.args.id.index c.len-index.result c.as_slice.ensures.value c.in_ok-append.ensures.items (omega (arith, long)) c.self.invariant.is_forest c.in_ok-copies.ensures)

pub returns-clause-inside : goal.returns-clause-inside
returns-clause-inside c =
    let long = length-map c.self.inside.nodes.items node_view in
    rw (← c.self.view_is)
    (copies_below c.self.inside.nodes.items _ _ _ c.args.id.index c.len-index.result c.as_slice.ensures.value c.in_ok-append.ensures.items (omega (arith, long)) c.self.invariant.is_forest c.in_ok-copies.ensures)

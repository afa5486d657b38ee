use Rattle.std.proofs.Common.{None, Some, arith, ap, sym, ◌∙◌}
use Rattle.h5_builder_state.specs.Steps.{world_of}
use Rattle.h5_builder_actions.proofs.AgencyLaws.{found_round, in_scope_at}
use Rattle.h5_builder_actions.proofs.OpenLaws.{length_split}
use Rattle.h5_builder_actions.proofs.agency.round_open.Goals as goal

pub scope_ends_above-requires-clause-place : goal.scope_ends_above-requires-clause-place
scope_ends_above-requires-clause-place g c =
    let o = c.requires.found.open_at in omega (arith, o.here, length_split c.requires.found.element.node (world_of g.S.TreeSink c.args.sink.now c.args.state.now).stack o.is_open)

pub find_block-requires-clause-place : goal.find_block-requires-clause-place
find_block-requires-clause-place g c =
    let o = c.requires.found.open_at in omega (arith, o.here, length_split c.requires.found.element.node (world_of g.S.TreeSink c.args.sink.now c.args.state.now).stack o.is_open)

pub returns-in_ok-adopt-in-Some-clause-done : goal.returns-in_ok-adopt-in-Some-clause-done
returns-in_ok-adopt-in-Some-clause-done g c = λ name f found o again.
    let w = world_of g.S.TreeSink c.args.sink.now c.args.state.now in
    let in_scope = sym (c.scope_ends_above.ensures f.node o) ∙ c.if-scope_ends_above.false in
    let b = c.in-Some.ensures.block f.node o in
    in_scope_at again g.S.TreeSink.choices f (Some b.furthest) w in_scope b.found
    ∙ ap again (sym (c.in_ok-adopt-in-Some.ensures.done name f b.furthest (found_round w found c.args.place c.in-Some.block o b in_scope)))

pub returns-in-None-clause-done : goal.returns-in-None-clause-done
returns-in-None-clause-done g c = λ name f found o again.
    let w = world_of g.S.TreeSink c.args.sink.now c.args.state.now in
    let in_scope = sym (c.scope_ends_above.ensures f.node o) ∙ c.if-scope_ends_above.false in
    in_scope_at again g.S.TreeSink.choices f None w in_scope (c.in-None.ensures.block f.node o) ∙ sym (c.close_at.ensures name f found o).world

pub returns-in-None-clause-sound : goal.returns-in-None-clause-sound
returns-in-None-clause-sound g c = (c.close_at.ensures c.requires.found.name c.requires.found.element c.requires.found.found c.requires.found.open_at).sound

use Rattle.std.proofs.Common.{sym, ap, subst, ◌∙◌}
use Rattle.h5_builder_spec.specs.formatting.Adoption.{newest_named}
use Rattle.h5_builder_spec.specs.formatting.AdoptionAgency.{adopt_by}
use Rattle.h5_builder_state.specs.Steps.{world_of}
use Rattle.h5_builder_state.specs.View.{world}
use Rattle.h5_builder_actions.proofs.AgencyLaws.{found_at, found_told, listed_element, none_named}
use Rattle.h5_builder_actions.proofs.NodeLaws.{listed_nodes}
use Rattle.h5_builder_state.specs.Stamps.{IsAbove, stamps_of}
use Rattle.h5_builder_actions.proofs.agency.round.Goals as goal

pub listed_at-listed-requires : goal.listed_at-listed-requires
listed_at-listed-requires g c = listed_element _ c.in-Some.at _ c.in-Some.ensures.place

pub clone_handle-requires : goal.clone_handle-requires
unfolding world
clone_handle-requires g c = listed_nodes (world_of g.S.TreeSink c.args.sink.now c.args.state.now) c.requires.sound.sound (g.S.TreeSink.node c.listed_at-listed.result.now.handle) c.listed_at-listed.ensures.listed

pub round_listed-requires-clause-found : goal.round_listed-requires-clause-found
round_listed-requires-clause-found g c =
    let l = c.in-Some.ensures.place in
    record {
      name = c.args.name.now;
      element = l.element;
      found = found_at c.args.name.now c.in-Some.at _ c.requires.ready l;
      same = sym (c.clone_handle.ensures ∙ c.listed_at-listed.ensures.node l.newer l.older l.element.node l.element.tag l.cut l.here);
    }

pub returns-in-Some-clause-done : goal.returns-in-Some-clause-done
returns-in-Some-clause-done g c =
    let l = c.in-Some.ensures.place in
    let w = world_of g.S.TreeSink c.args.sink.now c.args.state.now in
    found_told c.round_listed.result g.S.TreeSink.choices c.args.name.now l.element c.in-Some.at (g.S.TreeSink.node c.clone_handle.result) w _ (found_at c.args.name.now c.in-Some.at w c.requires.ready l)
    (sym (c.clone_handle.ensures ∙ c.listed_at-listed.ensures.node l.newer l.older l.element.node l.element.tag l.cut l.here)) c.round_listed.ensures.done

pub returns-in-None-clause-done : goal.returns-in-None-clause-done
returns-in-None-clause-done g c = λ again.
    let w = world_of g.S.TreeSink c.args.sink.now c.args.state.now in
    ap (λ o. adopt_by again g.S.TreeSink.choices c.args.name.now o w) (none_named (newest_named c.args.name.now w.formatting) c.in-None.ensures.found) ∙ sym c.close_named.ensures.world

pub round_listed-requires-clause-above : goal.round_listed-requires-clause-above
round_listed-requires-clause-above g c =
    subst (λ n. IsAbove n c.listed_at-listed.result.now.stamp (stamps_of g.S.TreeSink.node c.args.state.now.open_elems)) (sym c.clone_handle.ensures) (c.listed_at-listed.ensures.above c.requires.sound.stamped)

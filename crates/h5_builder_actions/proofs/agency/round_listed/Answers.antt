use Rattle.std.proofs.Common.{sym, ap, ◌∙◌}
use Rattle.h5_builder_spec.specs.stack.Order.{is_in}
use Rattle.h5_builder_state.specs.Steps.{world_of}
use Rattle.h5_builder_state.specs.View.{world}
use Rattle.h5_builder_actions.proofs.AgencyLaws.{found_entry, found_is_element, is_closed_round, open_told}
use Rattle.h5_builder_actions.proofs.agency.round_listed.Goals as goal

pub find_listed-requires-clause-element : goal.find_listed-requires-clause-element
unfolding world
find_listed-requires-clause-element g c = found_is_element (g.S.TreeSink.node c.args.element.now.handle) (world_of g.S.TreeSink c.args.sink.now c.args.state.now) c.requires.found.found c.requires.found.same

pub returns-in-Some-clause-done : goal.returns-in-Some-clause-done
returns-in-Some-clause-done g c =
    let w = world_of g.S.TreeSink c.args.sink.now c.args.state.now in
    open_told c.round_open.result g.S.TreeSink.choices (g.S.TreeSink.node c.args.element.now.handle) c.args.at c.in-Some.place w _ (sym c.in-Some.ensures.found) c.in-Some.ensures.place c.round_open.ensures.done

pub returns-in-None-clause-done : goal.returns-in-None-clause-done
returns-in-None-clause-done g c = λ name f found same again.
    let w = world_of g.S.TreeSink c.args.sink.now c.args.state.now in
    is_closed_round again g.S.TreeSink.choices name f w (ap (λ m. is_in m w.stack) same ∙ sym c.in-None.ensures.found)
    ∙ sym (c.unlist.ensures f.node (found_entry w found)).world

pub returns-in-None-clause-sound : goal.returns-in-None-clause-sound
returns-in-None-clause-sound g c =
    let w = world_of g.S.TreeSink c.args.sink.now c.args.state.now in
    (c.unlist.ensures c.requires.found.element.node (found_entry w c.requires.found.found)).sound

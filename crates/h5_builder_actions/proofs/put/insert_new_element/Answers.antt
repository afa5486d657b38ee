use Rattle.h5_names.specs.AttributeText.{attribute_texts}
use Rattle.h5_builder_spec.specs.Changes.{new_element}
use Rattle.h5_builder_spec.proofs.changes.PlaceLaws.{new_element_rearranges}
use Rattle.h5_builder_actions.specs.Notices.{marking_of}
use Rattle.h5_builder_actions.specs.Places.{place_of}
use Rattle.h5_builder_actions.proofs.PutLaws.{element_is_there, element_may, element_seen, marked_rearranged, place_in_mid, same_seen, seen_rearranged}
use Rattle.h5_builder_actions.proofs.put.insert_new_element.Goals as goal

pub tell_sink_of_element-requires-clause-place : goal.tell_sink_of_element-requires-clause-place
tell_sink_of_element-requires-clause-place g c =
    place_in_mid g.S.TreeSink.choices (g.S.TreeSink.sees c.args.sink.now) (g.S.TreeSink.sees c.create_element_with_flags.new.sink) (place_of g.S.TreeSink.node c.args.place.now) (g.S.TreeSink.node c.in_ok-element.element) c.args.name (attribute_texts c.args.attrs.items) c.args.had_duplicate_attributes (marking_of g.S.TreeSink.node g.S.TreeSink.choices c.args.notice)
    c.in_ok-element.ensures.ok c.in_ok-element.ensures.handle c.requires.is_forest c.requires.place

pub clone_handle-child-requires : goal.clone_handle-child-requires
clone_handle-child-requires g c =
    element_is_there g.S.TreeSink.choices (g.S.TreeSink.sees c.args.sink.now) (g.S.TreeSink.sees c.create_element_with_flags.new.sink) (place_of g.S.TreeSink.node c.args.place.now) (g.S.TreeSink.node c.in_ok-element.element) c.args.name (attribute_texts c.args.attrs.items) c.args.had_duplicate_attributes (marking_of g.S.TreeSink.node g.S.TreeSink.choices c.args.notice)
    c.in_ok-element.ensures.ok c.in_ok-element.ensures.handle (g.S.TreeSink.sees c.tell_sink_of_element.new.sink) c.tell_sink_of_element.ensures c.requires.is_forest

pub insert_at-requires : goal.insert_at-requires
insert_at-requires g c =
    element_may g.S.TreeSink.choices (g.S.TreeSink.sees c.args.sink.now) (g.S.TreeSink.sees c.create_element_with_flags.new.sink) (place_of g.S.TreeSink.node c.args.place.now) (g.S.TreeSink.node c.in_ok-element.element) c.args.name (attribute_texts c.args.attrs.items) c.args.had_duplicate_attributes (marking_of g.S.TreeSink.node g.S.TreeSink.choices c.args.notice)
    c.in_ok-element.ensures.ok c.in_ok-element.ensures.handle (g.S.TreeSink.sees c.tell_sink_of_element.new.sink) c.tell_sink_of_element.ensures _ c.clone_handle-child.ensures c.requires.is_forest c.requires.place

pub returns-in_err-insert_at-clause-rearranged : goal.returns-in_err-insert_at-clause-rearranged
returns-in_err-insert_at-clause-rearranged g c =
    same_seen (g.S.TreeSink.sees c.args.sink.now) _ _ c.in_err-insert_at.ensures.err
    (marked_rearranged g.S.TreeSink.choices (g.S.TreeSink.sees c.args.sink.now) (g.S.TreeSink.sees c.create_element_with_flags.new.sink) (place_of g.S.TreeSink.node c.args.place.now) (g.S.TreeSink.node c.in_ok-element.element) c.args.name (attribute_texts c.args.attrs.items) c.args.had_duplicate_attributes (marking_of g.S.TreeSink.node g.S.TreeSink.choices c.args.notice)
    c.in_ok-element.ensures.ok c.in_ok-element.ensures.handle (g.S.TreeSink.sees c.tell_sink_of_element.new.sink) c.tell_sink_of_element.ensures c.requires.is_forest c.requires.place)

pub returns-clause-done : goal.returns-clause-done
returns-clause-done g c =
    element_seen g.S.TreeSink.choices (g.S.TreeSink.sees c.args.sink.now) (g.S.TreeSink.sees c.create_element_with_flags.new.sink) (place_of g.S.TreeSink.node c.args.place.now) (g.S.TreeSink.node c.in_ok-element.element) c.args.name (attribute_texts c.args.attrs.items) c.args.had_duplicate_attributes (marking_of g.S.TreeSink.node g.S.TreeSink.choices c.args.notice)
    c.in_ok-element.ensures.ok c.in_ok-element.ensures.handle (g.S.TreeSink.sees c.tell_sink_of_element.new.sink) c.tell_sink_of_element.ensures (g.S.TreeSink.sees c.insert_at.new.sink) _ c.clone_handle-child.ensures c.in_ok-insert_at.ensures.ok

pub returns-clause-rearranged : goal.returns-clause-rearranged
returns-clause-rearranged g c =
    let attrs = attribute_texts c.args.attrs.items in
    let seen = g.S.TreeSink.sees c.args.sink.now in
    let place = place_of g.S.TreeSink.node c.args.place.now in
    let marks = marking_of g.S.TreeSink.node g.S.TreeSink.choices c.args.notice (g.S.TreeSink.choices.fresh seen.forest) place in
    let done =
    element_seen g.S.TreeSink.choices seen (g.S.TreeSink.sees c.create_element_with_flags.new.sink) place (g.S.TreeSink.node c.in_ok-element.element) c.args.name attrs c.args.had_duplicate_attributes (marking_of g.S.TreeSink.node g.S.TreeSink.choices c.args.notice)
    c.in_ok-element.ensures.ok c.in_ok-element.ensures.handle (g.S.TreeSink.sees c.tell_sink_of_element.new.sink) c.tell_sink_of_element.ensures (g.S.TreeSink.sees c.insert_at.new.sink) _ c.clone_handle-child.ensures c.in_ok-insert_at.ensures.ok in
    seen_rearranged seen _ (new_element g.S.TreeSink.choices place c.args.name attrs c.args.had_duplicate_attributes marks) done
    (new_element_rearranges g.S.TreeSink.choices seen.forest place c.args.name attrs c.args.had_duplicate_attributes marks c.requires.is_forest c.requires.place)

use Rattle.h5_builder_actions.specs.Places.{place_of}
use Rattle.h5_builder_actions.proofs.PutLaws.{outer_is_node}
use Rattle.h5_builder_actions.proofs.put.tell_sink_of_element.Goals as goal

pub associate_with_form-requires-clause-outer : goal.associate_with_form-requires-clause-outer
associate_with_form-requires-clause-outer g c =
    outer_is_node (g.S.TreeSink.sees c.args.sink.now).forest _ c.nodes_of-nodes.result.1 (place_of g.S.TreeSink.node c.args.place.now) c.nodes_of-nodes.ensures.other c.requires.place

use Rattle.std.proofs.Common.{string_bytes}
use Rattle.h5_interface.specs.Forest.{ChildText}
use Rattle.h5_builder_spec.specs.insertion.Place.{put}
use Rattle.h5_builder_spec.proofs.changes.PlaceLaws.{text_can_be_put, text_put_rearranges}
use Rattle.h5_builder_spec.proofs.changes.SoundLaws.{rearranged_or_not}
use Rattle.h5_builder_actions.specs.Places.{place_of}
use Rattle.h5_builder_actions.proofs.put.insert_text.Goals as goal

pub insert_at-requires : goal.insert_at-requires
insert_at-requires g c =
    text_can_be_put (g.S.TreeSink.sees c.args.sink.now).forest (place_of g.S.TreeSink.node c.args.place.now) (string_bytes c.args.text) c.requires.is_forest c.requires.text c.requires.place

pub returns-clause-rearranged : goal.returns-clause-rearranged
returns-clause-rearranged g c =
    let place = place_of g.S.TreeSink.node c.args.place.now in
    rearranged_or_not c.insert_at.result (g.S.TreeSink.sees c.args.sink.now) (g.S.TreeSink.sees c.insert_at.new.sink) (put place (ChildText (string_bytes c.args.text))) c.insert_at.ensures.ok c.insert_at.ensures.err c.requires.is_forest
    (text_put_rearranges (g.S.TreeSink.sees c.args.sink.now).forest place (string_bytes c.args.text) c.requires.is_forest c.requires.text c.requires.place)

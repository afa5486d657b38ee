use Rattle.std.proofs.Common.{string_bytes}
use Rattle.h5_builder_actions.specs.Places.{place_of}
use Rattle.h5_builder_actions.proofs.PutLaws.{comment_may, comment_or_not}
use Rattle.h5_builder_actions.proofs.put.insert_new_comment.Goals as goal

pub insert_at-requires : goal.insert_at-requires
insert_at-requires g c =
    comment_may g.S.TreeSink.choices (g.S.TreeSink.sees c.args.sink.now) _ (place_of g.S.TreeSink.node c.args.place.now) _ (string_bytes c.args.text) c.requires.is_forest c.requires.place
    c.in_ok-comment.ensures.ok c.in_ok-comment.ensures.handle

pub returns-clause-rearranged : goal.returns-clause-rearranged
returns-clause-rearranged g c =
    comment_or_not c.insert_at.result g.S.TreeSink.choices (g.S.TreeSink.sees c.args.sink.now) (g.S.TreeSink.sees c.create_comment.new.self) (g.S.TreeSink.sees c.insert_at.new.sink) (place_of g.S.TreeSink.node c.args.place.now) (g.S.TreeSink.node c.in_ok-comment.comment) (string_bytes c.args.text)
    c.requires.is_forest c.requires.place c.in_ok-comment.ensures.ok c.in_ok-comment.ensures.handle c.insert_at.ensures.ok c.insert_at.ensures.err

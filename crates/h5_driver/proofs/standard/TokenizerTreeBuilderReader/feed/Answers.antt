use Rattle.h5_tree_builder.specs.Held.{building}
use Rattle.h5_driver.proofs.standard_reader.FeedingLaws.{fed}
use Rattle.h5_driver.proofs.standard.TokenizerTreeBuilderReader.feed.Goals as goal

pub returns-clause-reading : goal.returns-clause-reading
returns-clause-reading g c =
    let law = g.Sink.TreeSink in
    let old = c.args.self.now in
    let new = c.feed.new.self in
    (fed law.choices law.node old.reader (building law.sees law.node old.sink).view c.args.input.now new.reader (building law.sees law.node new.sink).view c.feed.new.input c.requires.works c.is_whole.ensures c.feed.result (c.feed.ensures.read c.requires.reading)).reading

pub returns-clause-works : goal.returns-clause-works
returns-clause-works g c =
    let law = g.Sink.TreeSink in
    let old = c.args.self.now in
    let new = c.feed.new.self in
    (fed law.choices law.node old.reader (building law.sees law.node old.sink).view c.args.input.now new.reader (building law.sees law.node new.sink).view c.feed.new.input c.requires.works c.is_whole.ensures c.feed.result (c.feed.ensures.read c.requires.reading)).works

pub returns-clause-advances : goal.returns-clause-advances
returns-clause-advances g c =
    let law = g.Sink.TreeSink in
    let old = c.args.self.now in
    let new = c.feed.new.self in
    (fed law.choices law.node old.reader (building law.sees law.node old.sink).view c.args.input.now new.reader (building law.sees law.node new.sink).view c.feed.new.input c.requires.works c.is_whole.ensures c.feed.result (c.feed.ensures.read c.requires.reading)).advances

pub returns-clause-done : goal.returns-clause-done
returns-clause-done g c =
    let law = g.Sink.TreeSink in
    let old = c.args.self.now in
    let new = c.feed.new.self in
    (fed law.choices law.node old.reader (building law.sees law.node old.sink).view c.args.input.now new.reader (building law.sees law.node new.sink).view c.feed.new.input c.requires.works c.is_whole.ensures c.feed.result (c.feed.ensures.read c.requires.reading)).done

pub returns-clause-less : goal.returns-clause-less
returns-clause-less g c =
    let law = g.Sink.TreeSink in
    let old = c.args.self.now in
    let new = c.feed.new.self in
    (fed law.choices law.node old.reader (building law.sees law.node old.sink).view c.args.input.now new.reader (building law.sees law.node new.sink).view c.feed.new.input c.requires.works c.is_whole.ensures c.feed.result (c.feed.ensures.read c.requires.reading)).less

pub returns-clause-memory : goal.returns-clause-memory
returns-clause-memory g c =
    let law = g.Sink.TreeSink in
    let old = c.args.self.now in
    let new = c.feed.new.self in
    (fed law.choices law.node old.reader (building law.sees law.node old.sink).view c.args.input.now new.reader (building law.sees law.node new.sink).view c.feed.new.input c.requires.works c.is_whole.ensures c.feed.result (c.feed.ensures.read c.requires.reading)).memory

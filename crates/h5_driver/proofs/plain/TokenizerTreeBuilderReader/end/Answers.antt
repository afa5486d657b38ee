use Rattle.h5_tree_builder.specs.Held.{building}
use Rattle.h5_driver.proofs.plain_reader.FeedingLaws.{closed, ends_memory}
use Rattle.h5_driver.proofs.plain.TokenizerTreeBuilderReader.end.Goals as goal

pub returns-clause-ends : goal.returns-clause-ends
returns-clause-ends g c =
    let law = g.Sink.TreeSink in
    let old = c.args.self.now in
    closed law.choices old.reader (building law.sees law.node old.sink).view (building law.sees law.node c.end.new.self.sink).view c.end.result c.requires.undecided (c.end.ensures.closed c.requires.reading)

pub returns-clause-memory : goal.returns-clause-memory
returns-clause-memory g c =
    let law = g.Sink.TreeSink in
    let old = c.args.self.now in
    ends_memory law.choices old.reader.place (building law.sees law.node old.sink).view (building law.sees law.node c.end.new.self.sink).view old.reader.held c.end.result (record { ready = c.requires.works.ready; text = c.requires.works.text }) (c.end.ensures.closed c.requires.reading)

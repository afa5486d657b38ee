use Rattle.std.proofs.Common.{Ok, ap, subst, ◌∙◌}
use Rattle.h5_driver.specs.Reading.{Advances}
use Rattle.h5_driver.proofs.ReadingLaws.{nothing_read, read_further}
use Rattle.h5_driver.proofs.parser.feed_all.Goals as goal

pub pieces-init : goal.pieces-init
pieces-init g c =
    let reader = g.R.Reader in
    let first = c.args.tokenizer.now in
    record { reading = c.requires.reading; works = c.requires.works; advances = nothing_read g.met.R.Reader.lawful (reader.text first) (reader.building first).view c.args.queue.now }

pub returns-in-Done-clause-advances : goal.returns-in-Done-clause-advances
returns-in-Done-clause-advances g c =
    let reader = g.R.Reader in
    let first = c.args.tokenizer.now in
    let new = c.feed.new.self in
    let all = c.feed.ensures.done (c.in_ok-feed.was ∙ ap Ok c.in-Done.is) in
    subst (λ ys. Advances reader.Readings (reader.text first) (reader.building first).view c.args.queue.now (reader.text new) (reader.building new).view ys) all.0
    (read_further g.met.R.Reader.lawful c.pieces.invariant.advances c.in_ok-feed.ensures.advances)

pub pieces-preserved-in-Script : goal.pieces-preserved-in-Script
pieces-preserved-in-Script g c = record {
  reading = c.in_ok-feed.ensures.reading;
  works = c.in_ok-feed.ensures.works;
  advances = read_further g.met.R.Reader.lawful c.pieces.invariant.advances c.in_ok-feed.ensures.advances;
}

pub pieces-preserved : goal.pieces-preserved
pieces-preserved g c = record {
  reading = c.in_ok-feed.ensures.reading;
  works = c.in_ok-feed.ensures.works;
  advances = read_further g.met.R.Reader.lawful c.pieces.invariant.advances c.in_ok-feed.ensures.advances;
}

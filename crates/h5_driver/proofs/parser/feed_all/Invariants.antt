use Rattle.std.proofs.Common.{◌≡◌}
use Rattle.h5_tokenizer_input.specs.declared.stage.Stage.TheVariants.{Reading}
use Rattle.h5_driver.specs.Reading.{Advances}
use Rattle.h5_driver.specs.inner.Working.{IsWorking}
use Rattle.h5_driver.proofs.parser.feed_all.Given as goal

abbrev pub invariant-pieces : goal.invariant-pieces
invariant-pieces g l =
    let reader = g.R.Reader in
    let now = l.tokenizer in
    let first = l.fn.tokenizer in
    record {
      reading : reader.stage (reader.text now) ≡ Reading;
      works : IsWorking reader.IsRaw (reader.text now) (reader.building now).view;
      advances : Advances reader.Readings (reader.text first) (reader.building first).view l.fn.queue (reader.text now) (reader.building now).view l.queue;
    }

abbrev pub decreases-pieces : goal.decreases-pieces
decreases-pieces g l = g.R.Reader.left (g.R.Reader.text l.tokenizer) l.queue

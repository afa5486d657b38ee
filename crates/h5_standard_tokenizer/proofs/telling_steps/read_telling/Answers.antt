use Rattle.h5_tokenizer_states.specs.MachineText.{place_of}
use Rattle.h5_standard_tokenizer.proofs.TellingReads.{runs_telling}
use Rattle.h5_standard_tokenizer.proofs.telling_steps.read_telling.Goals as goal

pub returns-clause-reads : goal.returns-clause-reads
returns-clause-reads g c =
    let S = g.S.TokenSink in
    runs_telling S.reply_to S.after S.is_foreign g.E.ErrorSink.Told S.node (place_of c.args.machine.now) c.args.spot.now (S.meaning c.args.sink.now) c.args.piece.now c.args.errors.now
    (place_of c.read_bytes.new.machine) c.read_bytes.new.spot (S.meaning c.read_bytes.new.sink) c.read_bytes.new.errors c.read_bytes.result c.read_bytes.ensures

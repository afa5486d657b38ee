use Rattle.h5_tokenizer_states.specs.MachineText.{place_of}
use Rattle.h5_tokenizer_input.specs.Stops.{stops_as}
use Rattle.h5_tokenizer_input.specs.declared.stage.Stage.TheVariants.{Reading}
use Rattle.h5_standard_tokenizer.proofs.LeftLaws.{left_fits, left_boundary}
use Rattle.h5_standard_tokenizer.proofs.OutcomeLaws.{feeds_stop, left_of_queue, stops_at}
use Rattle.h5_standard_tokenizer.proofs.reader.read.Goals as goal

pub keep-requires-clause-left : goal.keep-requires-clause-left
keep-requires-clause-left g c =
    let S = g.S.TokenSink in
    let stopped = rw c.in-Stops.is at c.in_ok-read_piece.ensures in
    left_fits
    (left_of_queue S.reply_to S.after S.is_foreign c.reader.inside.at_start c.replace-buffer.result c.as_str.result.now c.skip_mark-piece.result.now c.in-Stops.rest.now c.as_bytes-left.result.now
    c.as_str.ensures c.skip_mark-piece.ensures.rest c.as_bytes-left.ensures.value stopped)

pub keep-requires-clause-boundary : goal.keep-requires-clause-boundary
keep-requires-clause-boundary g c =
    let S = g.S.TokenSink in
    let stopped = rw c.in-Stops.is at c.in_ok-read_piece.ensures in
    left_boundary
    (left_of_queue S.reply_to S.after S.is_foreign c.reader.inside.at_start c.replace-buffer.result c.as_str.result.now c.skip_mark-piece.result.now c.in-Stops.rest.now c.as_bytes-left.result.now
    c.as_str.ensures c.skip_mark-piece.ensures.rest c.as_bytes-left.ensures.value stopped)
    c.as_bytes-left.ensures.utf8

pub returns-in-Stops : goal.returns-in-Stops
returns-in-Stops g c =
    let S = g.S.TokenSink in
    let stopped = rw c.in-Stops.is at c.in_ok-read_piece.ensures in
    rw c.result_of.ensures
    (feeds_stop S.reply_to S.after S.is_foreign S.node c.args.reader.now (S.meaning c.args.sink.now) c.args.input.now
    (record { at_start = c.skip_mark-piece.new.at_start; place = place_of c.read_piece.new.machine; stage = Reading }) (S.meaning c.read_piece.new.sink) c.keep.new.self c.in-Stops.stop
    (stops_at S.reply_to S.after S.is_foreign c.args.reader.now c.reader.inside.at_start (place_of c.reader.inside.machine) c.reader.inside.stage (S.meaning c.args.sink.now) c.args.input.now c.replace-buffer.result c.as_str.result.now c.skip_mark-piece.result.now c.in-Stops.rest.now c.as_bytes-left.result.now c.keep.new.self (stops_as S.node c.in-Stops.stop) c.skip_mark-piece.new.at_start (place_of c.read_piece.new.machine) (S.meaning c.read_piece.new.sink)
    c.reader.view_is c.replace-buffer.ensures.value c.as_str.ensures c.skip_mark-piece.ensures.rest c.skip_mark-piece.ensures.at_start c.as_bytes-left.ensures.value c.keep.ensures stopped))

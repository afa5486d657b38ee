use Rattle.std.proofs.Common.{rules, ◌≡◌, ◌+◌, ◌-◌, ◌∙◌, length, subst}
use Rattle.std.specs.Io.Iter.{u64_saturate}
use Rattle.h5_tokenizer_states.specs.MachineText.{place_of}
use Rattle.h5_tokenizer_input.specs.Stops.{stops_as}
use Rattle.h5_tokenizer_input.specs.declared.stage.Stage.TheVariants.{Reading}
use Rattle.h5_standard_tokenizer.specs.Telling.{CameTo}
use Rattle.h5_standard_tokenizer.proofs.LeftLaws.{left_boundary, left_fits, left_is_kept}
use Rattle.h5_standard_tokenizer.proofs.OutcomeLaws.{feeds_stop, left_of_queue, stops_at}
use Rattle.h5_standard_tokenizer.proofs.TellingReads.{begins_behind_mark, tells_stop}
use Rattle.h5_standard_tokenizer.proofs.telling_reader.read_with_errors.Goals as goal

pub keep-requires-clause-left : goal.keep-requires-clause-left
keep-requires-clause-left g c =
    let S = g.S.TokenSink in
    let stopped = rw c.in-Stops.is at c.in_ok-read_telling.ensures.reads in
    left_fits
    (left_of_queue S.reply_to S.after S.is_foreign c.reader.inside.at_start c.replace-buffer.result c.as_str-text.result.now c.skip_mark-piece.result.now c.in-Stops.rest.now c.as_bytes-left.result.now
    c.as_str-text.ensures c.skip_mark-piece.ensures.rest c.as_bytes-left.ensures.value stopped)

pub keep-requires-clause-boundary : goal.keep-requires-clause-boundary
keep-requires-clause-boundary g c =
    let S = g.S.TokenSink in
    let stopped = rw c.in-Stops.is at c.in_ok-read_telling.ensures.reads in
    left_boundary
    (left_of_queue S.reply_to S.after S.is_foreign c.reader.inside.at_start c.replace-buffer.result c.as_str-text.result.now c.skip_mark-piece.result.now c.in-Stops.rest.now c.as_bytes-left.result.now
    c.as_str-text.ensures c.skip_mark-piece.ensures.rest c.as_bytes-left.ensures.value stopped)
    c.as_bytes-left.ensures.utf8

pub returns-in-Stops-clause-reads : goal.returns-in-Stops-clause-reads
returns-in-Stops-clause-reads g c =
    let S = g.S.TokenSink in
    let stopped = rw c.in-Stops.is at c.in_ok-read_telling.ensures.reads in
    rw c.result_of.ensures
    (feeds_stop S.reply_to S.after S.is_foreign S.node c.args.reader.now (S.meaning c.args.sink.now) c.args.input.now
    (record { at_start = c.skip_mark-piece.new.at_start; place = place_of c.read_telling.new.machine; stage = Reading }) (S.meaning c.read_telling.new.sink) c.keep.new.self c.in-Stops.stop
    (stops_at S.reply_to S.after S.is_foreign c.args.reader.now c.reader.inside.at_start (place_of c.reader.inside.machine) c.reader.inside.stage (S.meaning c.args.sink.now) c.args.input.now c.replace-buffer.result c.as_str-text.result.now c.skip_mark-piece.result.now c.in-Stops.rest.now c.as_bytes-left.result.now c.keep.new.self (stops_as S.node c.in-Stops.stop) c.skip_mark-piece.new.at_start (place_of c.read_telling.new.machine) (S.meaning c.read_telling.new.sink)
    c.reader.view_is c.replace-buffer.ensures.value c.as_str-text.ensures c.skip_mark-piece.ensures.rest c.skip_mark-piece.ensures.at_start c.as_bytes-left.ensures.value c.keep.ensures stopped))

pub returns-in-Stops-clause-tells : goal.returns-in-Stops-clause-tells
returns-in-Stops-clause-tells g c =
    let S = g.S.TokenSink in
    let stopped = rw c.in-Stops.is at c.in_ok-read_telling.ensures.reads in
    let came = rw c.in-Stops.is at c.in_ok-read_telling.ensures.tells in
    let kept = c.keep.ensures
    ∙ left_is_kept
    (left_of_queue S.reply_to S.after S.is_foreign c.reader.inside.at_start c.replace-buffer.result c.as_str-text.result.now c.skip_mark-piece.result.now c.in-Stops.rest.now c.as_bytes-left.result.now
    c.as_str-text.ensures c.skip_mark-piece.ensures.rest c.as_bytes-left.ensures.value stopped)
    ∙ c.as_bytes-left.ensures.value in
    let offset : c.saturating_add-spot.result ≡ u64_saturate (c.args.spot.now.offset + (length c.as_str-text.result.now - length c.skip_mark-piece.result.now)) = search rules in
    let begins = begins_behind_mark c.args.reader.now c.reader.inside.at_start (place_of c.reader.inside.machine) c.reader.inside.stage (S.meaning c.args.sink.now) c.args.input.now c.replace-buffer.result c.as_str-text.result.now c.skip_mark-piece.result.now c.args.spot.now c.saturating_add-spot.result
    c.reader.view_is c.replace-buffer.ensures.value c.as_str-text.ensures c.skip_mark-piece.ensures.rest offset in
    rw c.result_of.ensures
    (tells_stop S.reply_to S.after S.is_foreign g.E.ErrorSink.Told S.node _ c.args.errors.now (place_of c.read_telling.new.machine) c.read_telling.new.spot (S.meaning c.read_telling.new.sink) c.keep.new.self c.in-Stops.rest.now c.read_telling.new.errors c.in-Stops.stop kept
    (subst (λ start. CameTo S.reply_to S.after S.is_foreign g.E.ErrorSink.Told start c.args.errors.now (stops_as S.node c.in-Stops.stop) (place_of c.read_telling.new.machine) c.read_telling.new.spot (S.meaning c.read_telling.new.sink) c.in-Stops.rest.now c.read_telling.new.errors) begins came))

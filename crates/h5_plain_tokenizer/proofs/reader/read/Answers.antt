use Rattle.std.proofs.Common.{◌≡◌, ◌++◌, ap, rules, ◌∙◌}
use Rattle.h5_tokenizer_input.specs.Stops.{stops_as}
use Rattle.h5_plain_tokenizer.specs.ReaderText.{ReaderText}
use Rattle.h5_plain_tokenizer.specs.Steps.{place_of}
use Rattle.h5_plain_tokenizer.proofs.OutcomeLaws.{pending_on, waits_boundary, halts_boundary, waits_keeps, halts_keeps, reads_all, stops_at, feeds_stop}
use Rattle.h5_plain_tokenizer.proofs.reader.read.Goals as goal

pub returns-in_err-append : goal.returns-in_err-append
returns-in_err-append g c = search rules

pub returns-in_err-rest : goal.returns-in_err-rest
returns-in_err-rest g c = search rules

pub run_from-requires : goal.run_from-requires
run_from-requires g c =
    let inside = c.reader.inside in
    pending_on inside.search c.take-search.result inside.state.mode inside.state.last inside.held c.as_str-text.result.now c.args.input.now
    c.take-search.ensures.value (c.as_str-text.ensures ∙ c.in_ok-append.ensures.ok.0 ∙ ap (λ l. l ++ c.args.input.now) c.replace-buffer.ensures.value) c.reader.invariant

pub keep-requires-clause-boundary : goal.keep-requires-clause-boundary
keep-requires-clause-boundary g c =
    let S = g.S.TokenSink in
    let h = rw c.in-Waits.is at c.in_ok-rest.ensures in
    waits_boundary S.reply_to S.after S.is_foreign (place_of c.reader.inside.state) (S.meaning c.args.sink.now) c.as_str-text.result.now c.append.new.self (place_of c.run_from.new.state) (S.meaning c.run_from.new.sink) c.in-Waits.rest.now c.as_bytes-left.result.now c.in-Waits.search h
    c.as_bytes-left.ensures.utf8 c.as_bytes-left.ensures.value c.as_str-text.ensures

pub keep-requires-in-Stops-clause-boundary : goal.keep-requires-in-Stops-clause-boundary
keep-requires-in-Stops-clause-boundary g c =
    let S = g.S.TokenSink in
    let h = rw c.in-Stops.is at c.in_ok-rest.ensures in
    halts_boundary S.reply_to S.after S.is_foreign (place_of c.reader.inside.state) (S.meaning c.args.sink.now) c.as_str-text.result.now c.append.new.self (stops_as S.node c.in-Stops.stop) (place_of c.run_from.new.state) (S.meaning c.run_from.new.sink) c.in-Stops.rest.now c.as_bytes-left-in-Stops.result.now h
    c.as_bytes-left-in-Stops.ensures.utf8 c.as_bytes-left-in-Stops.ensures.value c.as_str-text.ensures

pub invariant_of-reader-in-Waits : goal.invariant_of-reader-in-Waits
invariant_of-reader-in-Waits g c =
    let S = g.S.TokenSink in
    let h = rw c.in-Waits.is at c.in_ok-rest.ensures in
    let same = waits_keeps S.reply_to S.after S.is_foreign (place_of c.reader.inside.state) (S.meaning c.args.sink.now) c.as_str-text.result.now c.append.new.self (place_of c.run_from.new.state) (S.meaning c.run_from.new.sink) c.in-Waits.rest.now c.as_bytes-left.result.now c.keep.new.self c.in-Waits.search h c.as_bytes-left.ensures.value c.as_str-text.ensures c.keep.ensures in
    rw same h.pending

pub returns-in-Waits : goal.returns-in-Waits
returns-in-Waits g c =
    let S = g.S.TokenSink in
    let h = rw c.in-Waits.is at c.in_ok-rest.ensures in
    let same = waits_keeps S.reply_to S.after S.is_foreign (place_of c.reader.inside.state) (S.meaning c.args.sink.now) c.as_str-text.result.now c.append.new.self (place_of c.run_from.new.state) (S.meaning c.run_from.new.sink) c.in-Waits.rest.now c.as_bytes-left.result.now c.keep.new.self c.in-Waits.search h c.as_bytes-left.ensures.value c.as_str-text.ensures c.keep.ensures in
    let whole : c.as_str-text.result.now ≡ c.args.reader.now.held ++ c.args.input.now = c.as_str-text.ensures ∙ c.in_ok-append.ensures.ok.0 ∙ ap (λ l. l ++ c.args.input.now) (c.replace-buffer.ensures.value ∙ ap (λ (r : ReaderText). r.held) c.reader.view_is) in
    reads_all S.reply_to S.after S.is_foreign c.args.reader.now.place (S.meaning c.args.sink.now) (c.args.reader.now.held ++ c.args.input.now) (place_of c.reader.inside.state) c.as_str-text.result.now (place_of c.run_from.new.state) (S.meaning c.run_from.new.sink) c.in-Waits.rest.now c.keep.new.self c.append.new.other c.in-Waits.search
    (ap (λ (r : ReaderText). r.place) c.reader.view_is) whole same c.in_ok-append.ensures.ok.1 h

pub returns-in-Stops : goal.returns-in-Stops
returns-in-Stops g c =
    let S = g.S.TokenSink in
    let h = rw c.in-Stops.is at c.in_ok-rest.ensures in
    let same = halts_keeps S.reply_to S.after S.is_foreign (place_of c.reader.inside.state) (S.meaning c.args.sink.now) c.as_str-text.result.now c.append.new.self (stops_as S.node c.in-Stops.stop) (place_of c.run_from.new.state) (S.meaning c.run_from.new.sink) c.in-Stops.rest.now c.as_bytes-left-in-Stops.result.now c.keep-in-Stops.new.self h c.as_bytes-left-in-Stops.ensures.value c.as_str-text.ensures c.keep-in-Stops.ensures in
    let whole : c.as_str-text.result.now ≡ c.args.reader.now.held ++ c.args.input.now = c.as_str-text.ensures ∙ c.in_ok-append.ensures.ok.0 ∙ ap (λ l. l ++ c.args.input.now) (c.replace-buffer.ensures.value ∙ ap (λ (r : ReaderText). r.held) c.reader.view_is) in
    rw c.result_of.ensures
    (feeds_stop S.reply_to S.after S.is_foreign S.node c.args.reader.now.place (S.meaning c.args.sink.now) (c.args.reader.now.held ++ c.args.input.now) _ (S.meaning c.run_from.new.sink) c.keep-in-Stops.new.self c.in-Stops.stop
    (stops_at S.reply_to S.after S.is_foreign c.args.reader.now.place (S.meaning c.args.sink.now) (c.args.reader.now.held ++ c.args.input.now) (place_of c.reader.inside.state) c.as_str-text.result.now (stops_as S.node c.in-Stops.stop) (place_of c.run_from.new.state) (S.meaning c.run_from.new.sink) c.in-Stops.rest.now c.replace-buffer.new.dest c.keep-in-Stops.new.self
    (ap (λ (r : ReaderText). r.place) c.reader.view_is) whole same (c.replace-buffer.ensures.after ∙ c.new.ensures) h))

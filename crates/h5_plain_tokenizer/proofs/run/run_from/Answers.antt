use Rattle.h5_plain_tokenizer.specs.Steps.{place_of, Skipped}
use Rattle.h5_plain_tokenizer.proofs.MarkLaws.{waits_for_mark, runs_behind}
use Rattle.h5_plain_tokenizer.proofs.run.run_from.Goals as goal

pub returns-in-None : goal.returns-in-None
returns-in-None g c =
    let S = g.S.TokenSink in
    let h = c.in-None.ensures in
    waits_for_mark S.reply_to S.after S.is_foreign (place_of c.args.state.now) (S.meaning c.args.sink.now) c.args.text.now (place_of c.skip_mark.new.state) h.0 h.1 h.2

pub returns-in-Some : goal.returns-in-Some
returns-in-Some g c =
    let S = g.S.TokenSink in
    let h : Skipped (place_of c.args.state.now) c.args.text.now (place_of c.skip_mark.new.state) c.in-Some.rest.now c.in-Some.search = c.in-Some.ensures in
    runs_behind S.reply_to S.after S.is_foreign S.node (place_of c.args.state.now) (S.meaning c.args.sink.now) c.args.text.now (place_of c.skip_mark.new.state) c.in-Some.rest.now (place_of c.run.new.state) (S.meaning c.run.new.sink) c.run.result h.place h.behind c.run.ensures

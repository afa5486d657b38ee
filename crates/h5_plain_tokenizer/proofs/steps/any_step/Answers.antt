use Rattle.std.proofs.Common.{sym, arith}
use Rattle.h5_markup.specs.Matching.{Found, No}
use Rattle.h5_plain_tokenizer.specs.Front.{Gives, Turns}
use Rattle.h5_markup.proofs.TextTakes.{found_shorter}
use Rattle.h5_plain_tokenizer.specs.Steps.{place_of}
use Rattle.h5_plain_tokenizer.proofs.FrontTakes.{opening_eats}
use Rattle.h5_plain_tokenizer.proofs.StepLaws.{switch_moves, opening_at}
use Rattle.h5_plain_tokenizer.proofs.PlainLaws.{takes_bit}
use Rattle.h5_plain_tokenizer.proofs.steps.any_step.Goals as goal

pub text_step-requires-clause-begun : goal.text_step-requires-clause-begun
text_step-requires-clause-begun g c =
    let S = g.S.TokenSink in
    let state = c.args.state.now in
    let foreign = S.is_foreign (S.meaning c.args.sink.now) in
    rw c.new-text.ensures.bytes at
    (c.in_ok-after-in-No.ensures state.mode state.last foreign
    (opening_at state.mode state.last _ _ foreign c.args.rest.now No c.in-No.ensures c.as_str.ensures c.adjusted_current_node_present_but_not_in_html_namespace-foreign.ensures))

pub text_step-requires-in-Gives-clause-begun : goal.text_step-requires-in-Gives-clause-begun
text_step-requires-in-Gives-clause-begun g c =
    let S = g.S.TokenSink in
    let state = c.args.state.now in
    let foreign = S.is_foreign (S.meaning c.args.sink.now) in
    let found = rw c.in-Gives.is at c.in-Found.ensures in
    takes_bit {mode = state.mode} {last = state.last} foreign c.args.rest.now c.in-Found.after.now c.in-Gives.bit.now _ _
    (opening_at state.mode state.last _ _ foreign c.args.rest.now (Found (Gives c.in-Gives.bit.now) c.in-Found.after.now) found c.as_str.ensures c.adjusted_current_node_present_but_not_in_html_namespace-foreign.ensures)
    c.in_ok-text-in-Gives.ensures

pub newlines_passed-requires-in-Gives : goal.newlines_passed-requires-in-Gives
newlines_passed-requires-in-Gives g c =
    let found = rw c.in-Gives.is at c.in-Found.ensures in
    let less = found_shorter (Gives c.in-Gives.bit.now) c.args.rest.now c.in-Found.after.now (opening_eats c.args.state.now.mode _ _) (sym found) in
    omega (arith, less)

pub newlines_passed-requires-in-Turns : goal.newlines_passed-requires-in-Turns
newlines_passed-requires-in-Turns g c =
    let found = rw c.in-Turns.is at c.in-Found.ensures in
    let less = found_shorter (Turns c.in-Turns.mode) c.args.rest.now c.in-Found.after.now (opening_eats c.args.state.now.mode _ _) (sym found) in
    omega (arith, less)

pub returns-in-Turns : goal.returns-in-Turns
returns-in-Turns g c =
    let S = g.S.TokenSink in
    let state = c.args.state.now in
    let foreign = S.is_foreign (S.meaning c.args.sink.now) in
    let found = rw c.in-Turns.is at c.in-Found.ensures in
    switch_moves S.reply_to S.after S.is_foreign (place_of state) (S.meaning c.args.sink.now) c.args.rest.now c.in-Found.after.now c.in-Turns.mode c.newlines_passed-in-Turns.result c.newlines_passed-in-Turns.ensures c.requires.started
    (opening_at state.mode state.last _ _ foreign c.args.rest.now (Found (Turns c.in-Turns.mode) c.in-Found.after.now) found c.as_str.ensures c.adjusted_current_node_present_but_not_in_html_namespace-foreign.ensures)

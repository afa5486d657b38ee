use Rattle.std.proofs.Common.{◌≡◌, ◌<◌, ◌+◌, ◌==◌, ℕ, get_or, length, lit<, sym, ◌∙◌, arith, rules, subst}
use Rattle.std.specs.List.{slice_split}
use Rattle.std.proofs.lemmas.Iterator.Consumers.{YieldsList-turn, YieldsList-end}
use Rattle.std.proofs.lemmas.Iterator.Splits.{YieldsList-from_str_split}
use Rattle.std.proofs.lemmas.List.{length_push}
use Rattle.h5_print.specs.Items.{item_texts, items_read, items_of}
use Rattle.h5_print.proofs.ItemLaws.{one_more, bad_line, no_more, same_fault, fault_passed}
use Rattle.h5_print.proofs.items.parse.Goals as goal

pub loop-line-preserved : goal.loop-line-preserved
loop-line-preserved c =
    let pieces = slice_split (λ x. x == 10) c.args.text.now in
    let line = c.in-Some.line.now in
    let n = c.loop-line.number in
    let turn = YieldsList-turn (YieldsList-from_str_split 10 c.args.text.now (lit< tt) (cc) (cc) (cc)) c.loop-line.yielded _ c.loop-line.yielded_by _ _ c.in-Some.line c.in-Some.is c.next.ensures.steps in
    let within : n < length pieces = omega (arith, turn.0, c.loop-line.invariant.number) in
    let P : ℕ → Type 0 = λ k. line ≡ get_or pieces k line in
    let at = subst P (sym c.loop-line.invariant.number) turn.1 in
    record {
      number = omega (arith, length_push c.loop-line.yielded c.in-Some.line, c.loop-line.invariant.number);
      read = sym (one_more (n + 1) (item_texts c.loop-line.items.items) (item_texts c.read_line.new.items.items) pieces n line within at c.in_ok-read_line.ensures) ∙ c.loop-line.invariant.read;
    }

pub returns-in_err-read_line : goal.returns-in_err-read_line
returns-in_err-read_line c =
    let pieces = slice_split (λ x. x == 10) c.args.text.now in
    let line = c.in-Some.line.now in
    let n = c.loop-line.number in
    let items = item_texts c.loop-line.items.items in
    let turn = YieldsList-turn (YieldsList-from_str_split 10 c.args.text.now (lit< tt) (cc) (cc) (cc)) c.loop-line.yielded _ c.loop-line.yielded_by _ _ c.in-Some.line c.in-Some.is c.next.ensures.steps in
    let within : n < length pieces = omega (arith, turn.0, c.loop-line.invariant.number) in
    let P : ℕ → Type 0 = λ k. line ≡ get_or pieces k line in
    let at = subst P (sym c.loop-line.invariant.number) turn.1 in
    fault_passed (items_of c.args.text.now) c.from_residual.result c.in_err-read_line.field-0.0 c.from_residual.ensures.1
    (same_fault (items_of c.args.text.now) (items_read items (n + 1) line) (n + 1) (item_texts c.read_line.new.items.items) c.in_err-read_line.field-0.0 c.in_err-read_line.ensures
    (λ none. sym c.loop-line.invariant.read ∙ bad_line (n + 1) items pieces n line within at none))

pub returns : goal.returns
returns c =
    let pieces = slice_split (λ x. x == 10) c.args.text.now in
    let n = c.loop-line.number in
    let end = YieldsList-end (YieldsList-from_str_split 10 c.args.text.now (lit< tt) (cc) (cc) (cc)) c.loop-line.yielded _ c.loop-line.yielded_by _ _ c.in-None.is c.next.ensures.steps in
    sym c.loop-line.invariant.read ∙ no_more (n + 1) n (item_texts c.loop-line.items.items) pieces (c.loop-line.invariant.number ∙ end.1)

pub loop-line-init : goal.loop-line-init
loop-line-init c = search rules

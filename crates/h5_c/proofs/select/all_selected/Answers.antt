use Rattle.std.proofs.Common.{◌≡◌, ◌∙◌, ◌+◌, ◌<◌, ◌≤◌, ◌==◌, ℕ, arith, get_or, length, lit<, subst, sym}
use Rattle.std.specs.List.{slice_split}
use Rattle.std.specs.Str.{chars}
use Rattle.std.proofs.lemmas.Iterator.Consumers.{YieldsList-end, YieldsList-turn}
use Rattle.std.proofs.lemmas.Iterator.Splits.{YieldsList-from_str_split}
use Rattle.std.proofs.lemmas.List.{length-map, length_push}
use Rattle.h5_c.specs.Selecting.{all_asked_in, asked_in}
use Rattle.h5_c.proofs.AskLaws.{all_put, asked_at, one_is_wrong, one_more}
use Rattle.h5_c.proofs.select.all_selected.Goals as goal

pub loop-text-preserved : goal.loop-text-preserved
loop-text-preserved c =
    let pieces = slice_split (λ x. x == 0) c.args.texts.now in
    let text = c.in-Some.text.now in
    let k = c.loop-text.number in
    let turn = YieldsList-turn (YieldsList-from_str_split 0 c.args.texts.now (lit< tt) (cc) (cc) (cc)) c.loop-text.yielded _ c.loop-text.yielded_by _ _ c.in-Some.text c.in-Some.is c.next.ensures.steps in
    let within : k < length pieces = omega (arith, turn.0, c.loop-text.invariant.number) in
    let P : ℕ → Type 0 = λ n. text ≡ get_or pieces n text in
    let there = asked_at pieces k text within (subst P (sym c.loop-text.invariant.number) turn.1) in
    record {
      number = omega (arith, length_push c.loop-text.yielded c.in-Some.text, c.loop-text.invariant.number);
      put = one_more c.args.tree.now.view.block.now c.args.node (all_asked_in c.args.texts.now) k (asked_in text) c.loop-text.bytes.items c.put_selected.new.bytes.items
          there.0 there.1 c.loop-text.invariant.put c.in-Ok.ensures.put;
    }

pub returns-in-Err-clause-fault : goal.returns-in-Err-clause-fault
returns-in-Err-clause-fault c =
    let pieces = slice_split (λ x. x == 0) c.args.texts.now in
    let text = c.in-Some.text.now in
    let k = c.loop-text.number in
    let turn = YieldsList-turn (YieldsList-from_str_split 0 c.args.texts.now (lit< tt) (cc) (cc) (cc)) c.loop-text.yielded _ c.loop-text.yielded_by _ _ c.in-Some.text c.in-Some.is c.next.ensures.steps in
    let within : k < length pieces = omega (arith, turn.0, c.loop-text.invariant.number) in
    let P : ℕ → Type 0 = λ n. text ≡ get_or pieces n text in
    let there = asked_at pieces k text within (subst P (sym c.loop-text.invariant.number) turn.1) in
    one_is_wrong (all_asked_in c.args.texts.now) k (asked_in text) c.in-Err.fault (length (chars text)) there.0 there.1 c.in-Err.ensures.fault

pub returns-clause-found : goal.returns-clause-found
returns-clause-found c =
    let pieces = slice_split (λ x. x == 0) c.args.texts.now in
    let end = YieldsList-end (YieldsList-from_str_split 0 c.args.texts.now (lit< tt) (cc) (cc) (cc)) c.loop-text.yielded _ c.loop-text.yielded_by _ _ c.in-None.is c.next.ensures.steps in
    let all : length (all_asked_in c.args.texts.now) ≤ c.loop-text.number = omega (arith, end.1, c.loop-text.invariant.number, length-map pieces asked_in) in
    all_put c.args.tree.now.view.block.now c.args.node (all_asked_in c.args.texts.now) c.loop-text.number c.loop-text.bytes.items all c.loop-text.invariant.put

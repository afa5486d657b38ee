use Rattle.std.proofs.Common.{ℕ, List, ◌==◌, true, false, sym, refl, ◌+◌, ◌++◌, ◌∙◌, take, length, [], ◌≡◌, ap, arith}
use Rattle.std.proofs.lemmas.Bool.{eqb-true}
use Rattle.std.proofs.lemmas.List.{nil_from_length}
use Rattle.h5_tokenizer_states.specs.Numbered.{name_of}
use Rattle.h5_tokenizer_states.proofs.ClosedLemmas.{front_begins, front_ends}
use Rattle.h5_tokenizer_states.proofs.NarrowingLemmas.{begin_by, narrowed_more}
use Rattle.h5_tokenizer_states.proofs.ShortLemmas.{begins_no_shorter}
use Rattle.h5_tokenizer_states.proofs.search.further_len.Goals as goal

is_nothing : (seen : List ℕ) → true ≡ (length seen == 0) → seen ≡ []
is_nothing seen h = nil_from_length seen (eqb-true (length seen) 0 (sym h))

pub returns-in-Some-clause-within : goal.returns-in-Some-clause-within
returns-in-Some-clause-within c =
    omega (arith, ap length c.name.ensures, begins_no_shorter (name_of c.in-Some.number) c.args.text.now c.in-Some.ensures.in_front)

pub returns-in-Some-clause-begins : goal.returns-in-Some-clause-begins
returns-in-Some-clause-begins c = λ _.
    let nothing = is_nothing c.args.seen.now c.if-is_empty.ensures in
    rw (nothing, c.name.ensures) (front_begins c.args.text.now c.in-Some.number c.in-Some.ensures.within_table c.in-Some.ensures.in_front)

pub returns-in-Some-clause-some : goal.returns-in-Some-clause-some
returns-in-Some-clause-some c = λ _.
    let nothing = is_nothing c.args.seen.now c.if-is_empty.ensures in
    rw (nothing, c.name.ensures) (front_begins c.args.text.now c.in-Some.number c.in-Some.ensures.within_table c.in-Some.ensures.in_front)

pub returns-in-Some-clause-longest : goal.returns-in-Some-clause-longest
returns-in-Some-clause-longest c = λ lt.
    let nothing = is_nothing c.args.seen.now c.if-is_empty.ensures in
    rw (nothing, c.name.ensures) (front_ends c.args.text.now c.in-Some.number c.in-Some.ensures.closed c.in-Some.ensures.in_front (omega (arith, ap length c.name.ensures)))

pub returns-then-is_empty-2-clause-longest : goal.returns-then-is_empty-2-clause-longest
returns-then-is_empty-2-clause-longest c = λ lt.
    let seen = c.args.seen.now in
    let text = c.args.text.now in
    let len = c.loop-len.len in
    let was = c.loop-len.candidates in
    let is = c.narrowed-candidates.result in
    let are = narrowed_more seen text len (length seen + len) was.from was.to is.from is.to refl lt c.loop-len.invariant.are c.narrowed-candidates.ensures in
    sym (begin_by (seen ++ take (len + 1) text) is.from is.to true (sym c.is_empty-in-loop-len.ensures ∙ c.if-is_empty-2.true) is.ordered is.within_table are)

pub loop-len-preserved : goal.loop-len-preserved
loop-len-preserved c =
    let seen = c.args.seen.now in
    let text = c.args.text.now in
    let len = c.loop-len.len in
    let was = c.loop-len.candidates in
    let is = c.narrowed-candidates.result in
    let are = narrowed_more seen text len (length seen + len) was.from was.to is.from is.to refl c.loop-len-test.true c.loop-len.invariant.are c.narrowed-candidates.ensures in
    let begins = sym (begin_by (seen ++ take (len + 1) text) is.from is.to false (sym c.is_empty-in-loop-len.ensures ∙ c.if-is_empty-2.false) is.ordered is.within_table are) in
    record {
      are = are;
      begins = λ _. begins;
      some = λ _. begins;
    }

use Rattle.std.proofs.Common.{List, ℕ, ◌≡◌, ◌<◌, ◌+◌, [], true, length, take, drop, sym, ap, ◌∙◌, arith}
use Rattle.std.specs.Prelude.{Some}
use Rattle.h5_tokenizer_states.specs.declared.search.Named.{Named}
use Rattle.h5_tokenizer_states.specs.Found.{found_in}
use Rattle.h5_tokenizer_states.specs.Numbered.{name_of, text_of}
use Rattle.h5_tokenizer_states.proofs.ClosedLemmas.{front_is_longest}
use Rattle.h5_tokenizer_states.proofs.NarrowingLemmas.{begin_by, lt_by, narrowed_more}
use Rattle.h5_tokenizer_states.proofs.LongestLemmas.{longest_ends, longest_is_first, longest_stays}
use Rattle.h5_tokenizer_states.proofs.search.longest.Goals as goal
use Rattle.h5_tokenizer_states.proofs.search.longest.Goals.{then-name-depth, else-name-depth}

-- a reference, by its number
told_in : (seen : List ℕ) (named : Named) (n number : ℕ) → named.len ≡ n → named.text.now ≡ text_of number → found_in seen (Some named) ≡ Some (record { name = take n seen; text = text_of number; rest = drop n seen })
told_in seen named n number len text = cc

pub returns-in-Some : goal.returns-in-Some
returns-in-Some c =
    let seen = c.args.seen.now in
    let number = c.in-Some.number in
    told_in seen c.reference.result (length (name_of number)) number c.reference.ensures.len c.reference.ensures.text
    ∙ front_is_longest seen number c.in-Some.ensures.within_table c.in-Some.ensures.closed c.in-Some.ensures.in_front

pub returns-then-is_empty : goal.returns-then-is_empty
returns-then-is_empty c =
    let seen = c.args.seen.now in
    let depth = c.loop-depth.depth in
    let was = c.loop-depth.candidates in
    let is = c.narrowed-candidates.result in
    let lt = c.loop-depth-test.true in
    let are = narrowed_more [] seen depth depth was.from was.to is.from is.to (omega arith) lt c.loop-depth.invariant.are c.narrowed-candidates.ensures in
    c.loop-depth.invariant.longest
    ∙ longest_ends seen depth lt (sym (begin_by (take (depth + 1) seen) is.from is.to true (sym c.is_empty.ensures ∙ c.if-is_empty.true) is.ordered is.within_table are))

pub loop-depth-preserved : goal.loop-depth-preserved
loop-depth-preserved c =
    let seen = c.args.seen.now in
    let depth = c.loop-depth.depth in
    let was = c.loop-depth.candidates in
    let is = c.narrowed-candidates.result in
    let lt = c.loop-depth-test.true in
    let some : is.from < is.to = lt_by is.from is.to (sym c.is_empty.ensures ∙ c.if-is_empty.false) is.ordered in
    let are = narrowed_more [] seen depth depth was.from was.to is.from is.to (omega arith) lt c.loop-depth.invariant.are c.narrowed-candidates.ensures in
    let long = λ (e : length c.name.result.now ≡ depth + 1). sym (ap length c.name.ensures) ∙ e in
    record {
      are = are;
      longest = elim c.if-name-depth.branch [
        | then-name-depth w ↦
            ap (found_in seen) w.found-is
            ∙ (told_in seen w.reference-then-name-depth.result (depth + 1) is.from (w.reference-then-name-depth.ensures.len ∙ long w.if-name-depth.true) w.reference-then-name-depth.ensures.text
            ∙ sym (longest_is_first seen depth is.from is.to lt some is.within_table are (long w.if-name-depth.true)))
        | else-name-depth w ↦
            ap (found_in seen) w.found-is
            ∙ (c.loop-depth.invariant.longest
            ∙ sym (longest_stays seen depth is.from is.to lt some are (λ e. w.if-name-depth.false (ap length c.name.ensures ∙ e))))
      ];
    }

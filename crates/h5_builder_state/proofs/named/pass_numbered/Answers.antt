use Rattle.std.proofs.Common.{ap, arith, length, reverse, subst, sym, take, ◌<◌, ◌≤◌, ◌∙◌, ◌≡◌}
use Rattle.h5_builder_state.specs.Numbered.{newest_of, numbers}
use Rattle.h5_builder_state.specs.ListNumbers.{name_number}
use Rattle.h5_builder_state.proofs.NumberedLaws.{as_many}
use Rattle.h5_builder_state.proofs.ListWalkLaws.{above_all, above_newest, as_long, otherwise_named}
use Rattle.h5_builder_state.proofs.named.pass_numbered.Goals as goal

pub number_at-requires : goal.number_at-requires
number_at-requires g c = omega (arith, c.requires.below, c.args.entries.now.ok.0, c.len.ensures, c.if-below-len.false, as_many c.args.index.now.numbers c.args.entries.now.items c.requires.indexed.have_names)

pub returns-then-below-len-clause-others : goal.returns-then-below-len-clause-others
returns-then-below-len-clause-others g c = λ k x low high e.
    let stack = c.args.index.now.numbers in
    let items = c.args.entries.now.items in
    let all = c.requires.indexed.have_names in
    let there : k < length items = omega (arith, high, c.requires.below, c.args.entries.now.ok.0) in
    let newest : c.newest.result ≡ newest_of (name_number c.args.name.now) (reverse (numbers stack)) = c.newest.ensures.newest ∙ ap (λ n. newest_of n (reverse (numbers stack))) c.name_number-number.ensures in
    otherwise_named stack items all c.args.name.now k x there e (above_all stack items all (name_number c.args.name.now) k (subst (λ n. n ≤ k) newest low) there)

pub returns-then-number_at-number-clause-others : goal.returns-then-number_at-number-clause-others
returns-then-number_at-number-clause-others g c = λ k x low high e.
    let stack = c.args.index.now.numbers in
    let items = c.args.entries.now.items in
    let all = c.requires.indexed.have_names in
    let there : k < length items = omega (arith, high, c.requires.below, c.args.entries.now.ok.0) in
    let older : c.older.result ≡ newest_of (name_number c.args.name.now) (reverse (take c.args.below (numbers stack))) =
    c.older.ensures.older ∙ ap (λ n. newest_of n (reverse (take c.args.below (numbers stack)))) (sym c.number_at.ensures ∙ c.if-number_at-number.true ∙ c.name_number-number.ensures) in
    otherwise_named stack items all c.args.name.now k x there e
    (above_newest (numbers stack) (name_number c.args.name.now) c.args.below k (subst (λ n. n ≤ k) older low) high (omega (arith, c.requires.below, c.args.entries.now.ok.0, as_long stack items all)))

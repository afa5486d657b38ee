use Rattle.std.proofs.Common.{◌≡◌, ◌+◌, not, Some, take, drop, arith}
use Rattle.h5_markup.specs.Cuts.{is_in}
use Rattle.h5_markup.specs.Ending.{walk}
use Rattle.h5_markup.specs.declared.cut.Class.TheVariants.{BetweenAttributes}
use Rattle.h5_markup.specs.declared.ending.Inside.TheVariants.{BeforeAttributeName}
use Rattle.h5_markup.proofs.Endings.{walk_along}
use Rattle.h5_markup.proofs.Staying.{walk_stays, in_between}
use Rattle.h5_markup.proofs.quoted.passed_len.Goals as goal
use Rattle.h5_markup.proofs.quoted.passed_len.Goals.{After-quoted_len}

between : (c : After-quoted_len) → walk BeforeAttributeName (take c.first_index-between.result c.split_at.result.1.now) ≡ Some BeforeAttributeName
between c = walk_stays BeforeAttributeName (λ x. not (is_in BetweenAttributes x)) c.split_at.result.1.now c.first_index-between.result in_between (λ k lt. rw (c.first_index-between.ensures.passed k lt))

pub returns-in-None-clause-walked : goal.returns-in-None-clause-walked
returns-in-None-clause-walked c =
    let here : walk BeforeAttributeName (take c.first_index-between.result (drop c.attributes.n c.args.bytes.now)) ≡ Some BeforeAttributeName = rw c.split_at.ensures.back at (between (goal.at.returns-in-None-clause-walked c).After-quoted_len) in
    walk_along BeforeAttributeName BeforeAttributeName BeforeAttributeName c.args.bytes.now c.attributes.n c.first_index-between.result c.attributes.invariant.walked here

pub attributes-preserved : goal.attributes-preserved
attributes-preserved c =
    let n = c.first_index-between.result + c.in-Some.quoted in
    let last : walk BeforeAttributeName (take c.in-Some.quoted (drop c.first_index-between.result c.split_at.result.1.now)) ≡ Some BeforeAttributeName = rw c.split_at-in-attributes.ensures.back at c.in-Some.ensures.walked in
    let both : walk BeforeAttributeName (take n c.split_at.result.1.now) ≡ Some BeforeAttributeName =
    walk_along BeforeAttributeName BeforeAttributeName BeforeAttributeName c.split_at.result.1.now c.first_index-between.result c.in-Some.quoted (between (goal.at.attributes-preserved c).After-quoted_len) last in
    let here : walk BeforeAttributeName (take n (drop c.attributes.n c.args.bytes.now)) ≡ Some BeforeAttributeName = rw c.split_at.ensures.back at both in
    record {
      within = omega (arith, c.in-Some.ensures.within, c.first_index-between.ensures.within);
      walked = walk_along BeforeAttributeName BeforeAttributeName BeforeAttributeName c.args.bytes.now c.attributes.n n c.attributes.invariant.walked here;
    }

use Rattle.std.proofs.Common.{sym, ◌∙◌}
use Rattle.h5_token.proofs.Multisets.{counted, counted_back}
use Rattle.h5_token.proofs.alike.have_same_counts.Goals as goal

pub returns-then-each_is_as_often : goal.returns-then-each_is_as_often
returns-then-each_is_as_often c = (
  λ h. counted c.args.left.now c.args.right.now
      (sym c.each_is_as_often.ensures ∙ c.if-each_is_as_often.true)
      (sym c.each_is_as_often-then-each_is_as_often.ensures ∙ h),
  λ h. c.each_is_as_often-then-each_is_as_often.ensures ∙ counted_back c.args.left.now c.args.right.now c.args.right.now h,
)

pub returns-else-each_is_as_often : goal.returns-else-each_is_as_often
returns-else-each_is_as_often c =
    (λ h. cc, λ h. c.each_is_as_often.ensures ∙ counted_back c.args.left.now c.args.right.now c.args.left.now h)

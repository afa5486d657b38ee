use Rattle.std.proofs.Common.{◌≡◌, ◌+◌, drop, refl, ap, ◌∙◌, arith}
use Rattle.h5_markup.specs.Ending.{ends}
use Rattle.h5_markup.specs.declared.ending.Inside.TheVariants.{TagName}
use Rattle.h5_markup.proofs.Endings.{boundary_behind}
use Rattle.h5_markup.proofs.bare.cut_bare.Goals as goal

pub split_at-requires-2 : goal.split_at-requires-2
split_at-requires-2 c =
    let n = c.in_ok-n.n in
    let at = rw c.as_bytes.ensures.value at c.in_ok-n.ensures in
    let same : n ≡ 0 + n = omega arith in
    boundary_behind TagName c.args.text.now c.split_at.result.1.now 0 n c.utf8.text (c.split_at.ensures.back ∙ ap (λ k. drop k c.args.text.now) same) at.within (ap (ends TagName) at.ends)

pub returns : goal.returns
returns c = (
  refl,
  record {
    size = c.in_ok-n.n;
    is_name = rw c.as_bytes.ensures.value at c.in_ok-n.ensures;
    front = c.split_at.ensures.front;
    back = c.split_at-2.ensures.back ∙ ap (drop 1) c.split_at.ensures.back;
  },
)

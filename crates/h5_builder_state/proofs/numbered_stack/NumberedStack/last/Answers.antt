use Rattle.std.proofs.lemmas.Bool.{eqb-false, eqb-true}
use Rattle.std.proofs.Common.{arith, get_or, length, refl, subst, sym, ◌-◌, ◌<◌, ◌∙◌, ◌≡◌}
use Rattle.std.proofs.lemmas.Option.{slice_get_past, slice_get_read}
use Rattle.h5_builder_state.specs.Numbered.{values}
use Rattle.h5_builder_state.proofs.ItemLaws.{length-values}
use Rattle.h5_builder_state.proofs.numbered_stack.NumberedStack.last.Goals as goal

pub returns-then-is_empty : goal.returns-then-is_empty
returns-then-is_empty g c =
    let none : length c.args.self.now ≡ 0 = eqb-true (length c.args.self.now) 0 (sym c.is_empty.ensures ∙ c.if-is_empty.true) in
    sym (slice_get_past (values c.args.self.now) (length (values c.args.self.now) - 1) (omega (arith, none, length-values c.args.self.now)))

pub returns : goal.returns
returns g c =
    sym (slice_get_read (values c.args.self.now) (length (values c.args.self.now)) (length (values c.args.self.now) - 1) c.get.result.now refl some
    (subst (λ n. c.get.result.now ≡ get_or (values c.args.self.now) (n - 1) c.get.result.now) (c.len.ensures.count ∙ sym (length-values c.args.self.now)) c.get.ensures))
  where
    ne : length c.args.self.now ≡ 0 → ⊥
    ne = eqb-false (length c.args.self.now) 0 (sym c.is_empty.ensures ∙ c.if-is_empty.false)

    some : length (values c.args.self.now) - 1 < length (values c.args.self.now)
    some = omega (arith, ne, length-values c.args.self.now)

use Rattle.std.proofs.Common.{arith, refl, subst, sym, ◌-◌, ◌+◌, ◌≡◌, ◌∙◌}
use Rattle.h5_builder_state.specs.Items.{AreLinked}
use Rattle.h5_builder_state.proofs.places.take_back.Goals as goal

pub down-init : goal.down-init
down-init g c = record {
  high = omega (arith, c.requires.place, c.len-left.ensures, c.args.items.now.ok.0);
  low = omega (arith, c.len-left.ensures, c.args.items.now.ok.0);
  linked = subst (λ n. AreLinked c.args.items.now.items c.args.table.now.items n) (sym (c.len-left.ensures ∙ c.args.items.now.ok.0)) c.requires.linked;
  room = refl;
}

pub leave-requires-clause-linked : goal.leave-requires-clause-linked
leave-requires-clause-linked g c =
    let one_more : c.down.left ≡ c.down.left - 1 + 1 = omega arith in
    subst (λ n. AreLinked c.args.items.now.items c.down.table.items n) one_more c.down.invariant.linked

pub returns-clause-linked : goal.returns-clause-linked
returns-clause-linked g c =
    let all : c.down.left ≡ c.args.place = omega arith in
    subst (λ n. AreLinked c.args.items.now.items c.down.table.items n) all c.down.invariant.linked

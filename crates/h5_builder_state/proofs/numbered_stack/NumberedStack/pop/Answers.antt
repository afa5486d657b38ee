use Rattle.std.proofs.Common.{ap, arith, length, refl}
use Rattle.std.proofs.lemmas.Bool.{false≢true}
use Rattle.h5_builder_state.proofs.ItemLaws.{length-stack}
use Rattle.h5_builder_state.proofs.NumberedStackLaws.{one_more, popped, popped_reached, rest_unpopped, seen_rest, unpopped, value_popped, value_unpopped}
use Rattle.h5_builder_state.proofs.numbered_stack.NumberedStack.pop.Goals as goal

pub index_mut-requires : goal.index_mut-requires
index_mut-requires g c =
    omega (arith, popped_reached c.self.inside.items.items c.pop.new.self.items c.in-Some.item c.self.inside.table.items c.in-Some.ensures.items c.self.invariant, c.self.inside.table.ok.0)

pub invariant_of-self : goal.invariant_of-self
invariant_of-self g c = popped c.self.inside.items.items c.pop.new.self.items c.in-Some.item c.self.inside.table.items c.in-Some.ensures.items c.self.invariant

pub invariant_of-self-in-None : goal.invariant_of-self-in-None
invariant_of-self-in-None g c = unpopped c.self.inside.items.items c.pop.new.self.items c.self.inside.table.items c.in-None.ensures.items c.self.invariant

pub returns-in-Some-clause-some : goal.returns-in-Some-clause-some
returns-in-Some-clause-some g c =
    (λ e. omega (arith, one_more c.self.inside.items.items c.pop.new.self.items c.in-Some.item c.in-Some.ensures.items, length-stack c.self.inside.items.items, ap (λ z. length z) c.self.view_is), λ h. refl)

pub returns-in-Some-clause-value : goal.returns-in-Some-clause-value
returns-in-Some-clause-value g c = value_popped c.self.inside.items.items c.pop.new.self.items c.args.self.now c.in-Some.item c.self.view_is c.in-Some.ensures.items

pub returns-in-Some-clause-rest : goal.returns-in-Some-clause-rest
returns-in-Some-clause-rest g c = seen_rest c.self.inside.items.items c.pop.new.self.items c.args.self.now c.in-Some.item c.self.view_is c.in-Some.ensures.items

pub returns-in-None-clause-some : goal.returns-in-None-clause-some
returns-in-None-clause-some g c =
    (λ e. absurd (false≢true e), λ h. absurd (omega (arith, h, c.in-None.ensures.cases.0, c.self.inside.items.ok.0, length-stack c.self.inside.items.items, ap (λ z. length z) c.self.view_is)))

pub returns-in-None-clause-value : goal.returns-in-None-clause-value
returns-in-None-clause-value g c = value_unpopped c.self.inside.items.items c.pop.new.self.items c.args.self.now c.self.view_is c.in-None.ensures.items

pub returns-in-None-clause-rest : goal.returns-in-None-clause-rest
returns-in-None-clause-rest g c =
    rest_unpopped c.self.inside.items.items c.pop.new.self.items c.args.self.now c.self.view_is c.in-None.ensures.items (omega (arith, c.in-None.ensures.cases.0, c.self.inside.items.ok.0))

use Rattle.std.proofs.Common.{◌<◌, length, refl, sym, subst, ◌∙◌, ap}
use Rattle.h5_builder_spec.specs.Changes.{pop_while}
use Rattle.h5_builder_spec.specs.stack.Scope.{cut_through}
use Rattle.h5_builder_spec.specs.World.{World, names_of}
use Rattle.h5_builder_spec.proofs.changes.PopLaws.{cut_popped, first_is_open, pop_shorter, while_none, while_popped}
use Rattle.h5_builder_state.specs.View.{world}
use Rattle.h5_builder_state.proofs.open_elems.pop_while.Goals as goal

pub pop-requires : goal.pop-requires
pop-requires g c = record { sound = c.passing.invariant.sound; some = first_is_open _ _ (sym c.is_current.ensures ∙ c.passing-test.true) }

pub passing-smaller : goal.passing-smaller
passing-smaller g c =
    let w = world g.S.TreeSink.sees g.S.TreeSink.node c.passing.sink c.passing.state in
    let some : 0 < length w.stack = first_is_open _ w (sym c.is_current.ensures ∙ c.passing-test.true) in
    subst (λ (v : World). length v.stack < length w.stack) (sym c.pop.ensures.world) (pop_shorter g.S.TreeSink.choices w some)

pub passing-preserved : goal.passing-preserved
passing-preserved g c =
    let is = g.Is.NameTest.holds c.args.is.now in
    record {
      sound = c.pop.ensures.sound;
      quiet = c.pop.ensures.quiet ∙ c.passing.invariant.quiet;
      left = ap (λ (v : World). pop_while g.S.TreeSink.choices is (names_of v) v) c.pop.ensures.world
          ∙ while_popped g.S.TreeSink.choices is _ (sym c.is_current.ensures ∙ c.passing-test.true)
          ∙ c.passing.invariant.left;
    }

pub returns-clause-world : goal.returns-clause-world
returns-clause-world g c =
    let is = g.Is.NameTest.holds c.args.is.now in
    sym (while_none g.S.TreeSink.choices is _ _ (sym c.is_current.ensures ∙ c.passing-test.false)) ∙ c.passing.invariant.left

pub returns-clause-older : goal.returns-clause-older
returns-clause-older g c other apart =
    let is = g.Is.NameTest.holds c.args.is.now in
    let cut : World → _ = λ w. cut_through other (names_of w) w.stack in
    ap cut (sym (while_none g.S.TreeSink.choices is _ _ (sym c.is_current.ensures ∙ c.passing-test.false)) ∙ c.passing.invariant.left)
    ∙ cut_popped g.S.TreeSink.choices is other apart _ _ refl

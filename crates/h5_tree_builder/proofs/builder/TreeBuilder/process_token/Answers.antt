use Rattle.std.proofs.Common.{◌≡◌, false, ap, sym, subst, refl, rules, ◌∙◌}
use Rattle.h5_token.specs.Reply.{reply}
use Rattle.h5_token.specs.TokenText.{token_text}
use Rattle.h5_builder_spec.specs.Run.{View, is_counted, refuses_in, step}
use Rattle.h5_builder_spec.specs.World.{World}
use Rattle.h5_builder_state.specs.View.{world}
use Rattle.h5_tree_builder.specs.Builder.{Answered, Building}
use Rattle.h5_tree_builder.specs.Chains.{CameTo}
use Rattle.h5_tree_builder.specs.Held.{building}
use Rattle.h5_tree_builder.proofs.BuilderLaws.{answered}
use Rattle.h5_tree_builder.proofs.builder.TreeBuilder.process_token.Goals as goal

pub returns-clause-takes : goal.returns-clause-takes
returns-clause-takes g c =
    let k = g.Sink.TreeSink.choices in
    let node = g.Sink.TreeSink.node in
    let t = token_text c.args.token in
    let w = world g.Sink.TreeSink.sees node c.self.inside.sink c.self.inside.state in
    let new = world g.Sink.TreeSink.sees node c.take_token.new.sink c.take_token.new.state in
    let a = (g.Sink.TreeSink.sees c.self.inside.sink).errors in
    let b = (g.Sink.TreeSink.sees c.take_token.new.sink).errors in
    let taken = c.in_ok-taken.taken in
    let noted = world g.Sink.TreeSink.sees node c.note_line.new.sink c.self.inside.state in
    let after : Building = record { view = record { world = new; ended = c.self.inside.ended; failed = false }; turns = taken.turns; errors = b } in
    let came : CameTo node (step k t w) (is_counted t w) new a b taken = subst (λ (u : World). CameTo node (step k t u) (is_counted t u) new a b taken) c.note_line.ensures.done (subst (λ x. CameTo node (step k t noted) (is_counted t noted) new x b taken) c.note_line.ensures.quiet c.in_ok-taken.ensures.settles.came) in
    let comes : refuses_in w.mode t ≡ false = ap (λ m. refuses_in m t) (sym c.current_mode.ensures) ∙ sym c.refuses_in.ensures ∙ c.if-refuses_in.false in
    subst (λ h. Answered k t (building g.Sink.TreeSink.sees node h) after (reply node taken.answer)) c.self.view_is
    (answered k node t (record { view = record { world = w; ended = c.self.inside.ended; failed = c.self.inside.failed }; turns = c.self.inside.turns; errors = a }) after taken c.if-self.false c.if-self-2.false comes (ap (λ f. let x : View = record { world = new; ended = c.self.inside.ended; failed = f } in x) (sym c.if-self.false)) refl came)

pub invariant_of-self : goal.invariant_of-self
invariant_of-self g c = search rules

pub returns-then-self-clause-takes : goal.returns-then-self-clause-takes
returns-then-self-clause-takes g c = search rules

pub returns-then-self-2-clause-takes : goal.returns-then-self-2-clause-takes
returns-then-self-2-clause-takes g c = search rules

pub returns-then-self-2-clause-same : goal.returns-then-self-2-clause-same
returns-then-self-2-clause-same g c = search rules

pub returns-then-self-2-clause-sound : goal.returns-then-self-2-clause-sound
returns-then-self-2-clause-sound g c = search rules

pub returns-then-refuses_in-clause-takes : goal.returns-then-refuses_in-clause-takes
returns-then-refuses_in-clause-takes g c = search rules

pub returns-then-refuses_in-clause-same : goal.returns-then-refuses_in-clause-same
returns-then-refuses_in-clause-same g c = search rules

pub returns-then-refuses_in-clause-sound : goal.returns-then-refuses_in-clause-sound
returns-then-refuses_in-clause-sound g c = search rules

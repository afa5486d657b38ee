use Rattle.std.proofs.Common.{◌≡◌, ◌==◌, ◌<◌, ap, false, refl, subst, sym, true, ◌∙◌}
use Rattle.h5_token.specs.TokenText.{tag_text}
use Rattle.h5_tables.specs.TurnResult.{Done}
use Rattle.h5_tables.specs.TurnText.{TagTurn}
use Rattle.h5_interface.specs.Forest.{IsElement}
use Rattle.h5_builder_spec.specs.formatting.AdoptionAgency.{remove_from_stack}
use Rattle.h5_builder_spec.specs.stack.Closing.{generate_implied_end_tags}
use Rattle.h5_builder_spec.specs.modes.InBody.{form_in_scope}
use Rattle.h5_builder_spec.specs.Rows.{Follows}
use Rattle.h5_builder_spec.specs.World.{World, names_of, root}
use Rattle.h5_builder_spec.proofs.changes.SoundLaws.{element_is_node}
use Rattle.h5_builder_state.specs.Steps.{errors_of, world_of}
use Rattle.h5_builder_state.specs.View.{world}
use Rattle.h5_modes_body.proofs.EndLaws.{closes_scoped, closes_unscoped, form_expected, form_not_root, form_stays_element}
use Rattle.h5_modes_body.proofs.form.close_form_element.Goals as goal

pub is_node_in_scope-requires-clause-element : goal.is_node_in_scope-requires-clause-element
unfolding world
is_node_in_scope-requires-clause-element g c = c.requires.sound.sound.form_node (g.S.TreeSink.node c.in-Some.form) (sym c.in-Some.ensures.form)

pub same_node-expected-requires-clause-y : goal.same_node-expected-requires-clause-y
unfolding world
same_node-expected-requires-clause-y g c =
    let law = g.S.TreeSink in
    let w = world_of law c.args.sink.now c.args.state.now in
    let form = law.node c.in-Some.form in
    let v = world_of law c.generate_implied_end_tags.new.sink c.generate_implied_end_tags.new.state in
    element_is_node v.forest form
    (subst (λ (x : World). IsElement x.forest form) (sym (c.generate_implied_end_tags.ensures.made.world ∙ ap (generate_implied_end_tags law.choices) c.take_form.ensures.made.world))
    (form_stays_element law.choices w form c.requires.sound.sound (sym c.in-Some.ensures.form)))

pub returns-then-not-is_node_in_scope : goal.returns-then-not-is_node_in_scope
unfolding names_of
returns-then-not-is_node_in_scope g c =
    let law = g.S.TreeSink in
    let w = world_of law c.args.sink.now c.args.state.now in
    let v = world_of law c.report_error-then-not-is_node_in_scope.new.sink c.take_form.new.state in
    let form = law.node c.in-Some.form in
    let scope : form_in_scope form w ≡ false = ap (λ (x : World). form_in_scope form x) (sym c.take_form.ensures.made.world) ∙ sym c.is_node_in_scope.ensures ∙ c.if-not-is_node_in_scope.true in
    record {
      follows = subst (λ r. Follows law.choices law.node r (TagTurn (tag_text c.args.tag)) w v (errors_of law c.args.sink.now) (errors_of law c.report_error-then-not-is_node_in_scope.new.sink) Done)
          (sym (closes_unscoped form w (sym c.in-Some.ensures.form) scope))
          (record {
            world = c.report_error-then-not-is_node_in_scope.ensures.told.world ∙ c.take_form.ensures.made.world;
            ending = refl;
            quiet = λ h. absurd (cc);
            noted = λ h. c.report_error-then-not-is_node_in_scope.ensures.noted;
          });
      sound = c.report_error-then-not-is_node_in_scope.ensures.told.sound c.take_form.ensures.made.sound;
    }

pub remove_from_stack-requires-clause-element : goal.remove_from_stack-requires-clause-element
unfolding world
remove_from_stack-requires-clause-element g c =
    let law = g.S.TreeSink in
    let w = world_of law c.args.sink.now c.args.state.now in
    let form = law.node c.in-Some.form in
    subst (λ (x : World). IsElement x.forest form)
    (sym (c.expect_to_close.ensures.told.world ∙ c.generate_implied_end_tags.ensures.made.world ∙ ap (generate_implied_end_tags law.choices) c.take_form.ensures.made.world))
    (form_stays_element law.choices w form c.requires.sound.sound (sym c.in-Some.ensures.form))

pub remove_from_stack-requires-clause-root : goal.remove_from_stack-requires-clause-root
unfolding names_of
remove_from_stack-requires-clause-root g c =
    let law = g.S.TreeSink in
    let w = world_of law c.args.sink.now c.args.state.now in
    let form = law.node c.in-Some.form in
    let scope : form_in_scope form w ≡ true = ap (λ (x : World). form_in_scope form x) (sym c.take_form.ensures.made.world) ∙ sym c.is_node_in_scope.ensures ∙ c.if-not-is_node_in_scope.false in
    λ e. form_not_root law.choices w form c.requires.ready.sound c.requires.ready.root (sym c.in-Some.ensures.form) scope
    (e ∙ ap root (c.expect_to_close.ensures.told.world ∙ c.generate_implied_end_tags.ensures.made.world ∙ ap (generate_implied_end_tags law.choices) c.take_form.ensures.made.world))

pub returns : goal.returns
unfolding names_of
returns g c =
    let law = g.S.TreeSink in
    let w = world_of law c.args.sink.now c.args.state.now in
    let v = world_of law c.remove_from_stack.new.sink c.remove_from_stack.new.state in
    let form = law.node c.in-Some.form in
    let scope : form_in_scope form w ≡ true = ap (λ (x : World). form_in_scope form x) (sym c.take_form.ensures.made.world) ∙ sym c.is_node_in_scope.ensures ∙ c.if-not-is_node_in_scope.false in
    let left = world_of law c.generate_implied_end_tags.new.sink c.generate_implied_end_tags.new.state in
    let expected =
    c.same_node-expected.ensures
    ∙ ap (λ n. n == form) c.current_node-current.ensures.current
    ∙ form_expected law.choices w left form c.requires.ready.root (c.generate_implied_end_tags.ensures.made.world ∙ ap (generate_implied_end_tags law.choices) c.take_form.ensures.made.world) in
    record {
      follows = subst (λ r. Follows law.choices law.node r (TagTurn (tag_text c.args.tag)) w v (errors_of law c.args.sink.now) (errors_of law c.remove_from_stack.new.sink) Done)
          (sym (closes_scoped form w (sym c.in-Some.ensures.form) scope))
          (record {
            world = c.remove_from_stack.ensures.world ∙ ap (remove_from_stack law.choices form) (c.expect_to_close.ensures.told.world ∙ c.generate_implied_end_tags.ensures.made.world ∙ ap (generate_implied_end_tags law.choices) c.take_form.ensures.made.world);
            ending = refl;
            quiet = λ h. c.remove_from_stack.ensures.quiet ∙ c.expect_to_close.ensures.quiet (expected ∙ h) ∙ c.generate_implied_end_tags.ensures.made.quiet ∙ c.take_form.ensures.made.quiet;
            noted = λ h. subst (λ n. 0 < n) (sym c.remove_from_stack.ensures.quiet) (c.expect_to_close.ensures.noted (expected ∙ h));
          });
      sound = c.remove_from_stack.ensures.sound;
    }

use Rattle.std.proofs.Common.{◌<◌, ap, rules, subst, sym, ◌∙◌}
use Rattle.h5_builder_spec.specs.stack.Expected.{is_expected_item, is_expected_p, names_behind_item}
use Rattle.h5_builder_spec.specs.World.{names_of}
use Rattle.h5_builder_spec.proofs.BoolLaws.{and_both}
use Rattle.h5_builder_spec.proofs.changes.ExpectedLaws.{told_either}
use Rattle.h5_builder_actions.specs.Items.{item_names}
use Rattle.h5_builder_state.specs.Steps.{errors_of, world_of}
use Rattle.h5_modes_body.proofs.lists.in_body_start_item.Goals as goal

pub returns : goal.returns
unfolding names_of
returns g c =
    let law = g.S.TreeSink in
    let locals = item_names c.args.kind in
    let names = names_of (world_of law c.args.sink.now c.args.state.now) in
    let item = c.close_list_item-item_expected in
    let p = c.close_p_element_in_button_scope-p_expected in
    let flagged = ap names_of c.set_frameset_not_ok.ensures.world in
    let item_is = item.ensures.expected ∙ ap (is_expected_item locals) flagged in
    let behind = ap names_of c.expect_to_close.ensures.told.world ∙ item.ensures.names ∙ ap (names_behind_item locals) flagged in
    let p_is = p.ensures.expected ∙ ap is_expected_p behind in
    record {
      follows = record {
        world = search rules;
        ending = search rules;
        quiet = λ h.
            let both = and_both (is_expected_item locals names) (is_expected_p (names_behind_item locals names)) h in
            c.insert_tag.ensures.quiet
            ∙ c.expect_to_close-2.ensures.quiet (p_is ∙ both.1)
            ∙ p.ensures.made.quiet
            ∙ c.expect_to_close.ensures.quiet (item_is ∙ both.0)
            ∙ item.ensures.made.quiet ∙ c.set_frameset_not_ok.ensures.quiet;
        noted = λ h.
            subst (λ n. 0 < n) (sym c.insert_tag.ensures.quiet)
            (told_either (is_expected_item locals names) (is_expected_p (names_behind_item locals names)) (errors_of law p.new.sink) (errors_of law c.expect_to_close-2.new.sink)
            (λ e. subst (λ n. 0 < n) (sym p.ensures.made.quiet) (c.expect_to_close.ensures.noted (item_is ∙ e))) c.expect_to_close-2.ensures.told.rises
            (λ e. c.expect_to_close-2.ensures.noted (p_is ∙ e)) h);
      };
      sound = search rules;
    }

use Rattle.std.proofs.Common.{◌<◌, ◌&&◌, ap, rules, subst, sym, ◌∙◌}
use Rattle.std.proofs.lemmas.Bool.{not-false, not-true}
use Rattle.h5_builder_spec.specs.modes.InBody.{has_option_in_scope, is_expected_rule}
use Rattle.h5_builder_spec.specs.stack.Expected.{is_expected_p, names_behind_p}
use Rattle.h5_builder_spec.specs.World.{names_of}
use Rattle.h5_builder_spec.proofs.BoolLaws.{and_both}
use Rattle.h5_builder_spec.proofs.changes.ExpectedLaws.{told_either}
use Rattle.h5_builder_state.specs.Steps.{errors_of, world_of}
use Rattle.h5_modes_body.proofs.RuleLaws.{expected_rule, in_select, names_in_select}
use Rattle.h5_modes_body.proofs.input.in_body_start_hr.Goals as goal

pub returns : goal.returns
returns g c =
    let law = g.S.TreeSink in
    let names = names_of (world_of law c.args.sink.now c.args.state.now) in
    let closed = c.close_p_element_in_button_scope-expected in
    let left = names_of (world_of law c.generate_implied_end_in_select.new.sink c.generate_implied_end_in_select.new.state) in
    let behind = ap names_of c.expect_to_close.ensures.told.world ∙ closed.ensures.names in
    let told = in_select (names_behind_p names) && has_option_in_scope (names_in_select (names_behind_p names)) in
    let is_told =
    ap (λ b. b && has_option_in_scope left) (c.in_scope_named-in_select.ensures ∙ ap in_select behind)
    ∙ ap (λ ns. in_select (names_behind_p names) && has_option_in_scope ns) (c.generate_implied_end_in_select.ensures.names ∙ ap names_in_select behind) in
    record {
      follows = record {
        world = search rules;
        ending = search rules;
        quiet = λ h.
            let both = and_both (is_expected_p names) (is_expected_rule (names_behind_p names)) h in
            c.insert_and_pop_tag.ensures.quiet
            ∙ c.check_rule.ensures.quiet (is_told ∙ not-true told (sym (expected_rule (names_behind_p names)) ∙ both.1))
            ∙ c.generate_implied_end_in_select.ensures.made.quiet
            ∙ c.expect_to_close.ensures.quiet (closed.ensures.expected ∙ both.0)
            ∙ closed.ensures.made.quiet;
        noted = λ h.
            subst (λ n. 0 < n) (sym c.insert_and_pop_tag.ensures.quiet)
            (told_either (is_expected_p names) (is_expected_rule (names_behind_p names)) (errors_of law c.generate_implied_end_in_select.new.sink) (errors_of law c.check_rule.new.sink)
            (λ e. subst (λ n. 0 < n) (sym c.generate_implied_end_in_select.ensures.made.quiet) (c.expect_to_close.ensures.noted (closed.ensures.expected ∙ e))) c.check_rule.ensures.told.rises
            (λ e. c.check_rule.ensures.noted (is_told ∙ not-false told (sym (expected_rule (names_behind_p names)) ∙ e))) h);
      };
      sound = search rules;
    }

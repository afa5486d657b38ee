use Rattle.std.proofs.Common.{◌<◌, ap, not, rules, subst, sym, ◌∙◌}
use Rattle.h5_tables.specs.TagSets.{is_heading}
use Rattle.h5_builder_spec.specs.stack.Expected.{is_expected_p, names_behind_p}
use Rattle.h5_builder_spec.specs.stack.Scope.{first_passes}
use Rattle.h5_builder_spec.specs.World.{names_of}
use Rattle.h5_builder_spec.proofs.BoolLaws.{and_not}
use Rattle.std.proofs.lemmas.Bool.{not-false}
use Rattle.h5_builder_spec.proofs.changes.ExpectedLaws.{told_either}
use Rattle.h5_builder_state.specs.Steps.{errors_of, world_of}
use Rattle.h5_modes_body.proofs.blocks.in_body_start_heading.Goals as goal

pub returns : goal.returns
returns g c =
    let law = g.S.TreeSink in
    let names = names_of (world_of law c.args.sink.now c.args.state.now) in
    let closed = c.close_p_element_in_button_scope-expected in
    let behind = ap names_of c.expect_to_close.ensures.told.world ∙ closed.ensures.names in
    let heading = first_passes is_heading (names_behind_p names) in
    record {
      follows = record {
        world = search rules;
        ending = search rules;
        quiet = λ h.
            let none = and_not (is_expected_p names) heading h in
            c.insert_tag.ensures.quiet ∙ c.pop_heading.ensures.quiet
            ∙ c.check_heading.ensures.quiet (ap (first_passes is_heading) behind ∙ none.1)
            ∙ c.expect_to_close.ensures.quiet (closed.ensures.expected ∙ none.0)
            ∙ closed.ensures.made.quiet;
        noted = λ h.
            subst (λ n. 0 < n) (sym (c.insert_tag.ensures.quiet ∙ c.pop_heading.ensures.quiet))
            (told_either (is_expected_p names) (not heading) (errors_of law c.expect_to_close.new.sink) (errors_of law c.check_heading.new.sink)
            (λ e. c.expect_to_close.ensures.noted (closed.ensures.expected ∙ e)) c.check_heading.ensures.told.rises
            (λ e. c.check_heading.ensures.noted (ap (first_passes is_heading) behind ∙ not-false heading e)) h);
      };
      sound = search rules;
    }

use Rattle.std.proofs.Common.{◌<◌, ◌∷◌, ap, codes, not, refl, subst, sym, ◌∙◌}
use Rattle.std.proofs.lemmas.Bool.{not-false, not-true}
use Rattle.h5_token.specs.TokenText.{tag_text}
use Rattle.h5_tables.specs.TagSets.{is_default_scope, is_html_named}
use Rattle.h5_tables.specs.TurnResult.{Done}
use Rattle.h5_tables.specs.TurnText.{TagTurn}
use Rattle.h5_builder_spec.specs.Changes.{generate_implied_end_except}
use Rattle.h5_builder_spec.specs.modes.InBody.{in_body_opens, in_body_start_option}
use Rattle.h5_builder_spec.specs.modes.Shared.{current_is}
use Rattle.h5_builder_spec.specs.Rows.{Follows, GenerateImpliedEndExcept, IsDone, Pop, apply_all, choose, row, row_if}
use Rattle.h5_builder_spec.specs.stack.Scope.{drop_while, in_scope, is_implied_but}
use Rattle.h5_builder_spec.specs.World.{names_of}
use Rattle.h5_builder_spec.proofs.changes.PopLaws.{first_is_open}
use Rattle.h5_builder_state.specs.Steps.{errors_of, world_of}
use Rattle.h5_modes_body.proofs.select.in_body_start_option.Goals as goal

pub pop-requires : goal.pop-requires
pop-requires g c = record {
  sound = c.requires;
  some = first_is_open (is_html_named c.from_known-option.result) (world_of g.S.TreeSink c.args.sink.now c.args.state.now) (sym c.is_current_html.ensures ∙ c.if-is_current_html.true);
}

pub returns-then-in_scope_named : goal.returns-then-in_scope_named
unfolding in_body_start_option
returns-then-in_scope_named g c =
    let law = g.S.TreeSink in
    let tag = tag_text c.args.tag in
    let w = world_of law c.args.sink.now c.args.state.now in
    let v = world_of law c.open_element.new.sink c.open_element.new.state in
    let opens = in_body_opens tag in
    let option = in_scope (is_html_named (codes "option")) is_default_scope in
    let left = drop_while (is_implied_but (codes "optgroup")) (names_of w) in
    let behind = ap option (c.generate_implied_end_except.ensures.names ∙ ap (λ local. drop_while (is_implied_but local) (names_of w)) c.from_known-optgroup.ensures) in
    record {
      follows = subst (λ b. Follows law.choices law.node (choose b (row_if (not (option left)) (GenerateImpliedEndExcept (codes "optgroup") ∷ opens) IsDone) (choose (current_is (codes "option") w) (row (Pop ∷ opens) IsDone) (row opens IsDone))) (TagTurn tag) w v (errors_of law c.args.sink.now) (errors_of law c.open_element.new.sink) Done)
          (sym c.if-in_scope_named.true ∙ c.in_scope_named.ensures)
          (record {
            world = c.in_ok-open_element.ensures.done
                ∙ ap (apply_all law.choices opens) (c.check_option.ensures.told.world ∙ c.generate_implied_end_except.ensures.made.world ∙ ap (λ local. generate_implied_end_except law.choices local w) c.from_known-optgroup.ensures);
            ending = refl;
            quiet = λ h. c.open_element.ensures.quiet ∙ c.check_option.ensures.quiet (behind ∙ not-true (option left) h) ∙ c.generate_implied_end_except.ensures.made.quiet;
            noted = λ h. subst (λ n. 0 < n) (sym c.open_element.ensures.quiet) (c.check_option.ensures.noted (behind ∙ not-false (option left) h));
          });
      sound = c.open_element.ensures.sound;
    }

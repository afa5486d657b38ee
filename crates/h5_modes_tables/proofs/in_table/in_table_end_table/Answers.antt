use Rattle.std.proofs.Common.{[], ◌∷◌, ap, codes, refl, subst, ◌∙◌}
use Rattle.h5_tables.specs.TagSets.{is_html_named, is_table_scope}
use Rattle.h5_builder_spec.specs.stack.Scope.{in_scope}
use Rattle.h5_tables.specs.TurnResult.{Done}
use Rattle.h5_tables.specs.TurnText.{TagTurn}
use Rattle.h5_token.specs.TokenText.{tag_text}
use Rattle.h5_builder_spec.specs.Changes.{pop_until_named, set_mode}
use Rattle.h5_builder_spec.specs.modes.InTable.{in_table_end_table}
use Rattle.h5_builder_spec.specs.reset.Reset.{reset_mode}
use Rattle.h5_builder_spec.specs.Rows.{Follows, IsDone, PopUntilNamed, ResetMode, choose, ignored, row}
use Rattle.h5_builder_spec.specs.World.{World, names_of}
use Rattle.h5_builder_state.specs.Steps.{errors_of, world_of}
use Rattle.h5_modes_tables.proofs.in_table.in_table_end_table.Goals as goal

pub returns-in-Some : goal.returns-in-Some
unfolding in_table_end_table
returns-in-Some g c =
    let law = g.S.TreeSink in
    let tag = tag_text c.args.tag in
    let w = world_of law c.args.sink.now c.args.state.now in
    let u = world_of law c.args.sink.now c.pop_until_named.new.state in
    let v = world_of law c.args.sink.now c.set_mode.new.state in
    record {
      follows = subst (λ b. Follows law.choices law.node (choose b (row (PopUntilNamed (codes "table") ∷ ResetMode ∷ []) IsDone) ignored) (TagTurn tag) w v (errors_of law c.args.sink.now) (errors_of law c.args.sink.now) Done)
          (c.in-Some.ensures.found ∙ ap (λ local. in_scope (is_html_named local) is_table_scope (names_of w)) c.from_known-table.ensures)
          (record {
            world = c.set_mode.ensures.world
                ∙ ap (λ mode. set_mode mode u) c.reset_insertion_mode-mode.ensures
                ∙ ap (λ (x : World). set_mode (reset_mode x) x) (c.pop_until_named.ensures.world ∙ ap (λ local. pop_until_named local w) c.from_known-table.ensures);
            ending = refl;
            quiet = λ h. refl;
            noted = λ h. absurd (cc);
          });
      sound = c.set_mode.ensures.sound;
    }

pub returns : goal.returns
unfolding in_table_end_table
returns g c =
    let law = g.S.TreeSink in
    let tag = tag_text c.args.tag in
    let w = world_of law c.args.sink.now c.args.state.now in
    let v = world_of law c.unexpected_tag.new.sink c.args.state.now in
    record {
      follows = subst (λ b. Follows law.choices law.node (choose b (row (PopUntilNamed (codes "table") ∷ ResetMode ∷ []) IsDone) ignored) (TagTurn tag) w v (errors_of law c.args.sink.now) (errors_of law c.unexpected_tag.new.sink) Done)
          (c.in-None.ensures.found ∙ ap (λ local. in_scope (is_html_named local) is_table_scope (names_of w)) c.from_known-table.ensures)
          (record { world = c.unexpected_tag.ensures.told.world; ending = refl; quiet = λ h. absurd (cc); noted = λ h. c.unexpected_tag.ensures.noted });
      sound = c.unexpected_tag.ensures.told.sound c.requires;
    }

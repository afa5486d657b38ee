use Rattle.std.proofs.Common.{[], ◌∷◌, Some, ap, codes, refl, subst, sym, ◌∙◌}
use Rattle.h5_tables.specs.TagSets.{is_html_named, is_table_scope}
use Rattle.h5_builder_spec.specs.stack.Scope.{in_scope}
use Rattle.h5_tables.specs.TurnResult.{Done, Reprocess}
use Rattle.h5_tables.specs.TurnText.{TagTurn}
use Rattle.h5_token.specs.TokenText.{tag_text}
use Rattle.h5_builder_spec.specs.Changes.{pop_until_named}
use Rattle.h5_builder_spec.specs.modes.InTable.{in_table_start_table}
use Rattle.h5_builder_spec.specs.reset.Reset.{reset_mode}
use Rattle.h5_builder_spec.specs.Rows.{AgainBy, Follows, PopUntilNamed, choose, errs, ignored}
use Rattle.h5_builder_spec.specs.World.{World, names_of}
use Rattle.h5_builder_state.specs.Steps.{errors_of, world_of}
use Rattle.h5_modes_tables.proofs.in_table.in_table_start_table.Goals as goal

pub returns-in-Some : goal.returns-in-Some
unfolding in_table_start_table
returns-in-Some g c =
    let law = g.S.TreeSink in
    let tag = tag_text c.args.tag in
    let w = world_of law c.args.sink.now c.args.state.now in
    let u = world_of law c.report_tag.new.sink c.args.state.now in
    let v = world_of law c.report_tag.new.sink c.set_again.new.state in
    record {
      follows = subst (λ b. Follows law.choices law.node (choose b (errs (PopUntilNamed (codes "table") ∷ []) (AgainBy reset_mode)) ignored) (TagTurn tag) w v (errors_of law c.args.sink.now) (errors_of law c.report_tag.new.sink) (Reprocess c.reset_insertion_mode-mode.result c.set_again.new.state.again))
          (c.in-Some.ensures.found
          ∙ ap (λ local. in_scope (is_html_named local) is_table_scope (names_of u)) c.from_known-table.ensures
          ∙ ap (λ (x : World). in_scope (is_html_named (codes "table")) is_table_scope (names_of x)) c.report_tag.ensures.told.world)
          (record {
            world = c.set_again.ensures.kept.world ∙ c.pop_until_named.ensures.world ∙ ap (λ local. pop_until_named local u) c.from_known-table.ensures ∙ ap (pop_until_named (codes "table")) c.report_tag.ensures.told.world;
            ending = (ap (λ w. Some (reset_mode w)) c.set_again.ensures.kept.world ∙ ap Some (sym c.reset_insertion_mode-mode.ensures), c.set_again.ensures.token);
            quiet = λ h. absurd (cc);
            noted = λ h. c.report_tag.ensures.noted;
          });
      sound = c.set_again.ensures.kept.sound;
    }

pub returns-in-None : goal.returns-in-None
unfolding in_table_start_table
returns-in-None g c =
    let law = g.S.TreeSink in
    let tag = tag_text c.args.tag in
    let w = world_of law c.args.sink.now c.args.state.now in
    let u = world_of law c.report_tag.new.sink c.args.state.now in
    record {
      follows = subst (λ b. Follows law.choices law.node (choose b (errs (PopUntilNamed (codes "table") ∷ []) (AgainBy reset_mode)) ignored) (TagTurn tag) w u (errors_of law c.args.sink.now) (errors_of law c.report_tag.new.sink) Done)
          (c.in-None.ensures.found
          ∙ ap (λ local. in_scope (is_html_named local) is_table_scope (names_of u)) c.from_known-table.ensures
          ∙ ap (λ (x : World). in_scope (is_html_named (codes "table")) is_table_scope (names_of x)) c.report_tag.ensures.told.world)
          (record { world = c.report_tag.ensures.told.world; ending = refl; quiet = λ h. absurd (cc); noted = λ h. c.report_tag.ensures.noted });
      sound = c.report_tag.ensures.told.sound c.requires;
    }

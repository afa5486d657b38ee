use Rattle.std.proofs.Common.{◌<◌, codes, ap, rules, subst, sym, ◌∙◌}
use Rattle.h5_tables.specs.TagSets.{is_default_scope, is_html_named}
use Rattle.h5_builder_spec.specs.stack.Scope.{in_scope}
use Rattle.h5_builder_spec.specs.formatting.Formatting.{names_anew}
use Rattle.h5_builder_spec.specs.inner.Kept.{HasHtmlRoot}
use Rattle.h5_builder_spec.specs.World.{names_of}
use Rattle.h5_builder_spec.proofs.changes.FormattingLaws.{reconstruct_ready}
use Rattle.h5_builder_state.specs.Steps.{world_of}
use Rattle.h5_modes_body.proofs.formatting.in_body_start_nobr.Goals as goal
use Rattle.std.proofs.lemmas.Bool.{not-false, not-true}
use Rattle.h5_builder_spec.proofs.changes.ExpectedLaws.{names-reconstruct}

pub handle_misnested_nobr_tags-requires-clause-ready : goal.handle_misnested_nobr_tags-requires-clause-ready
handle_misnested_nobr_tags-requires-clause-ready g c =
    let law = g.S.TreeSink in
    let w = world_of law c.args.sink.now c.args.state.now in
    subst HasHtmlRoot (sym c.in_ok-reconstruct_active_formatting_elements.ensures.world) (reconstruct_ready law.choices w c.requires.ready)

pub returns : goal.returns
returns g c =
    let law = g.S.TreeSink in
    let w = world_of law c.args.sink.now c.args.state.now in
    let scope = in_scope (is_html_named (codes "nobr")) is_default_scope in
    let anew = ap scope (ap names_of c.in_ok-reconstruct_active_formatting_elements.ensures.world ∙ names-reconstruct law.choices w c.requires.sound.sound) in
    record {
      follows = record {
        world = search rules;
        ending = search rules;
        quiet = λ h.
            c.create_formatting_element.ensures.quiet
            ∙ c.handle_misnested_nobr_tags.ensures.quiet (anew ∙ not-true (scope (names_anew w)) h)
            ∙ c.reconstruct_active_formatting_elements.ensures.quiet;
        noted = λ h.
            subst (λ n. 0 < n) (sym c.create_formatting_element.ensures.quiet)
            (c.in_ok-handle_misnested_nobr_tags.ensures.noted (anew ∙ not-false (scope (names_anew w)) h));
      };
      sound = search rules;
    }

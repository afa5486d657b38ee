use Rattle.std.proofs.Common.{◌≡◌, ℕ, List, Option, Some, option_map, reverse, ap, sym, subst, ◌∙◌}
use Rattle.h5_tables.specs.declared.modes.InsertionMode.{InsertionMode}
use Rattle.h5_builder_spec.specs.Sound.{Sound}
use Rattle.h5_builder_spec.specs.World.{World, names_of}
use Rattle.h5_builder_state.specs.Summaries.{IsKept}
use Rattle.h5_builder_state.specs.View.{world}
use Rattle.h5_builder_state.proofs.StackLaws.{named}
use Rattle.h5_tree_builder.specs.Builder.{first_world}
use Rattle.h5_tree_builder.specs.Fragment.{context_modes, context_world}
use Rattle.h5_tree_builder.proofs.FragmentLaws.{context_stands, form_is_there, names_before_root}
use Rattle.h5_tree_builder.proofs.fragment.context_state.Goals as goal

abbrev with_context : World → List InsertionMode → Option ℕ → ℕ → World
with_context w modes form context = record w { template_modes = modes; form = form; context = Some context }

pub returns : goal.returns
unfolding world
returns g c =
    let node = g.S.TreeSink.node in
    let seen = g.S.TreeSink.sees c.args.sink.now in
    let context = node c.args.context in
    let form = option_map node c.args.form in
    let modes = reverse c.in_ok-template_modes.template_modes.items in
    let is_named = sym (named seen.forest context c.elem_name.result.now c.elem_name.ensures) in
    let same : with_context (world g.S.TreeSink.sees node c.args.sink.now c.first_state-state.result) modes form context ≡ context_world seen context form c.args.opts =
    ap (λ (w : World). with_context w modes form context) c.first_state-state.ensures.world
    ∙ ap (λ ms. with_context (first_world seen c.args.opts) ms form context) (c.in_ok-template_modes.ensures ∙ ap context_modes is_named) in
    let there = form_is_there node seen.forest c.args.form c.requires.form in
    record {
      world = same;
      sound = record {
        sound = subst Sound (sym same) (context_stands seen context form c.args.opts c.requires.is_forest c.requires.context there);
        kept = subst (IsKept c.first_state-state.result.open_elems) (sym (ap names_of same ∙ names_before_root seen context form c.args.opts c.requires.is_forest c.requires.context there)) c.first_state-state.ensures.kept;
        stamped = c.first_state-state.ensures.stamped;
      };
    }

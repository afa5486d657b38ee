use Rattle.std.proofs.Common.{◌≡◌, ℕ, None, Some, ap, codes, rules, subst, sym, ◌∙◌}
use Rattle.h5_names.specs.AttributeText.{attribute_texts}
use Rattle.h5_interface.specs.Seen.{changed}
use Rattle.h5_builder_spec.specs.Changes.{insert_and_pop_element, insert_and_pop_form, new_element}
use Rattle.h5_builder_spec.specs.insertion.FormOwner.{associates}
use Rattle.h5_builder_spec.specs.insertion.Place.{IsPlaceIn, place}
use Rattle.h5_builder_spec.specs.Sound.{Sound}
use Rattle.h5_builder_spec.specs.World.{World, names_of}
use Rattle.h5_builder_spec.proofs.changes.PlaceLaws.{current_place_is_there, form_stands}
use Rattle.h5_builder_spec.specs.formatting.FormattingNames.{html_name}
use Rattle.h5_builder_state.specs.View.{world}
use Rattle.h5_builder_actions.proofs.FormLaws.{form_unowned}
use Rattle.h5_builder_state.proofs.StackLaws.{seen_world}
use Rattle.h5_builder_state.proofs.StepLaws.{sound_rearranged}
use Rattle.h5_builder_actions.proofs.insert.insert_and_pop_form.Goals as goal

abbrev with_form : World → ℕ → World
with_form w n = record w { form = Some n }

pub insert_new_element-requires-clause-place : goal.insert_new_element-requires-clause-place
unfolding world
insert_new_element-requires-clause-place g c =
    let w = world g.S.TreeSink.sees g.S.TreeSink.node c.args.sink.now c.args.state.now in
    subst (IsPlaceIn w.forest) (sym c.current_place-place.ensures) (current_place_is_there w c.requires.sound)

pub returns : goal.returns
unfolding world names_of insert_and_pop_element insert_and_pop_form
returns g c =
    let choices = g.S.TreeSink.choices in
    let node = g.S.TreeSink.node in
    let seen = g.S.TreeSink.sees c.args.sink.now in
    let w = world g.S.TreeSink.sees node c.args.sink.now c.args.state.now in
    let u = world g.S.TreeSink.sees node c.insert_new_element.new.sink c.args.state.now in
    let attrs = attribute_texts c.args.attrs.items in
    let flag = c.args.had_duplicate_attributes in
    let name = c.html_qual_name-name.result in
    let k = sound_rearranged g.S.TreeSink c.args.sink.now c.insert_new_element.new.sink c.args.state.now c.requires c.insert_new_element.ensures.rearranged in
    let inserted : u ≡ insert_and_pop_element choices (codes "form") attrs flag w =
    ap (λ s. seen_world w s w.stack)
    (c.in_ok-form.ensures.done
    ∙ ap (λ p. changed (new_element choices p name attrs flag None) seen) c.current_place-place.ensures
    ∙ ap (λ n. changed (new_element choices (place w) n attrs flag None) seen) (c.html_qual_name-name.ensures ∙ ap html_name c.from_known.ensures)
    ∙ ap (λ o. changed (new_element choices (place w) (html_name (codes "form")) attrs flag (associates choices (choices.fresh w.forest) (place w) o)) seen) (sym (form_unowned attrs w))) in
    let same : with_form u (node c.in_ok-form.form) ≡ insert_and_pop_form choices attrs flag w =
    ap (λ v. with_form v (node c.in_ok-form.form)) inserted ∙ ap (with_form (insert_and_pop_element choices (codes "form") attrs flag w)) c.in_ok-form.ensures.handle in
    record {
      world = same;
      quiet = c.insert_new_element.ensures.quiet;
      sound = record {
        sound = subst Sound (sym same) (form_stands choices attrs flag w c.requires.sound (subst Sound inserted k.sound));
        kept = k.kept;
        stamped = k.stamped;
      };
    }

pub returns-in_err-form : goal.returns-in_err-form
returns-in_err-form g c = record {
  world = search rules;
  quiet = search rules;
  sound = sound_rearranged g.S.TreeSink _ _ _ c.requires c.insert_new_element.ensures.rearranged;
}

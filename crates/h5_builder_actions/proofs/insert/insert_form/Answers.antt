use Rattle.std.proofs.Common.{◌≡◌, Some, ap, codes, subst, sym, ◌∙◌}
use Rattle.h5_names.specs.AttributeText.{attribute_texts}
use Rattle.h5_builder_spec.specs.Changes.{insert_element}
use Rattle.h5_builder_spec.specs.Sound.{Sound}
use Rattle.h5_builder_spec.specs.World.{World, current, names_of}
use Rattle.h5_builder_state.specs.View.{world}
use Rattle.h5_builder_actions.proofs.FormLaws.{form_left, form_pushed, form_set, with_form}
use Rattle.h5_builder_actions.proofs.insert.insert_form.Goals as goal

pub returns-then-not-in_template : goal.returns-then-not-in_template
unfolding world names_of insert_element
returns-then-not-in_template g c =
    let choices = g.S.TreeSink.choices in
    let node = g.S.TreeSink.node in
    let w = world g.S.TreeSink.sees node c.args.sink.now c.args.state.now in
    let u = world g.S.TreeSink.sees node c.insert_element.new.sink c.insert_element.new.state in
    let attrs = attribute_texts c.args.attrs.items in
    let flag = c.args.had_duplicate_attributes in
    let inserted : u ≡ insert_element choices (codes "form") attrs flag w = c.in_ok-insert_element.ensures.world ∙ ap (λ local. insert_element choices local attrs flag w) c.from_known-form.ensures in
    let pushed = insert_element choices (codes "form") attrs flag w in
    let same : with_form u (Some (node c.current_node.result)) ≡ with_form pushed (Some (choices.fresh w.forest)) = ap (λ n. with_form u (Some n)) c.current_node.ensures.current ∙ ap (λ (v : World). with_form v (Some (current v))) inserted in
    record {
      world = same ∙ form_set choices attrs flag w (sym c.has_open_template-in_template.ensures ∙ c.if-not-in_template.true);
      quiet = c.insert_element.ensures.quiet;
      sound = record {
        sound = subst Sound (sym same) (form_pushed choices attrs flag w c.requires.sound (subst Sound inserted c.insert_element.ensures.sound.sound));
        kept = c.insert_element.ensures.sound.kept;
        stamped = c.insert_element.ensures.sound.stamped;
      };
    }

pub returns-else-not-in_template : goal.returns-else-not-in_template
returns-else-not-in_template g c =
    let choices = g.S.TreeSink.choices in
    let node = g.S.TreeSink.node in
    let w = world g.S.TreeSink.sees node c.args.sink.now c.args.state.now in
    let attrs = attribute_texts c.args.attrs.items in
    let flag = c.args.had_duplicate_attributes in
    record {
      world = c.in_ok-insert_element.ensures.world ∙ ap (λ local. insert_element choices local attrs flag w) c.from_known-form.ensures
          ∙ form_left choices attrs flag w (sym c.has_open_template-in_template.ensures ∙ c.if-not-in_template.false);
      quiet = c.insert_element.ensures.quiet;
      sound = c.insert_element.ensures.sound;
    }

use Rattle.std.proofs.Common.{◌≡◌, ℕ, Some, ap, codes, subst, sym, ◌∙◌}
use Rattle.h5_names.specs.AttributeText.{attribute_texts}
use Rattle.h5_builder_spec.specs.Changes.{insert_element, insert_head}
use Rattle.h5_builder_spec.specs.Sound.{Sound}
use Rattle.h5_builder_spec.specs.World.{World, current, names_of}
use Rattle.h5_builder_spec.proofs.changes.PlaceLaws.{head_stands}
use Rattle.h5_builder_state.specs.View.{world}
use Rattle.h5_builder_actions.proofs.insert.insert_head.Goals as goal

abbrev with_head : World → ℕ → World
with_head w n = record w { head = Some n }

pub returns : goal.returns
unfolding world names_of insert_head
returns g c =
    let choices = g.S.TreeSink.choices in
    let node = g.S.TreeSink.node in
    let w = world g.S.TreeSink.sees node c.args.sink.now c.args.state.now in
    let u = world g.S.TreeSink.sees node c.insert_element.new.sink c.insert_element.new.state in
    let attrs = attribute_texts c.args.attrs.items in
    let flag = c.args.had_duplicate_attributes in
    let inserted : u ≡ insert_element choices (codes "head") attrs flag w = c.in_ok-insert_element.ensures.world ∙ ap (λ local. insert_element choices local attrs flag w) c.from_known-head.ensures in
    let same : with_head u (node c.current_node.result) ≡ insert_head choices attrs flag w = ap (with_head u) c.current_node.ensures.current ∙ ap (λ (v : World). with_head v (current v)) inserted in
    record {
      world = same;
      quiet = c.insert_element.ensures.quiet;
      sound = record {
        sound = subst Sound (sym same) (head_stands choices attrs flag w c.requires.sound (subst Sound inserted c.insert_element.ensures.sound.sound));
        kept = c.insert_element.ensures.sound.kept;
        stamped = c.insert_element.ensures.sound.stamped;
      };
    }

use Rattle.std.proofs.Common.{ap, sym, ◌∙◌, arith, refl}
use Rattle.h5_names.specs.AttributeText.{attribute_texts}
use Rattle.h5_interface.specs.Changes.{add_missing_attributes}
use Rattle.h5_interface.specs.Seen.{changed}
use Rattle.h5_builder_spec.specs.Changes.{add_attrs_at, add_attrs_to_second}
use Rattle.h5_builder_spec.proofs.changes.SoundLaws.{errors_or_not}
use Rattle.h5_builder_state.proofs.ItemLaws.{length-values}
use Rattle.h5_builder_state.specs.View.{elements_of, open_node, world}
use Rattle.h5_builder_state.proofs.AttributeLaws.{on_ok, open_length, second_at, second_missing, added_rearranges}
use Rattle.h5_builder_actions.proofs.PutLaws.{same_world}
use Rattle.h5_builder_state.proofs.StackLaws.{element_at}
use Rattle.h5_builder_state.proofs.StepLaws.{sound_rearranged}
use Rattle.h5_builder_actions.proofs.attributes.add_attrs_to_second.Goals as goal

pub add_attrs_if_missing-requires : goal.add_attrs_if_missing-requires
unfolding world
add_attrs_if_missing-requires g c =
    let items = (elements_of c.args.state.now) in
    element_at (open_node g.S.TreeSink.node) items (g.S.TreeSink.sees c.args.sink.now).forest 1 c.get.result.now c.requires.sound.stands.elements (omega (arith, open_length (open_node g.S.TreeSink.node) items, c.if-len-gt1.true, c.len.ensures.count, length-values c.args.state.now.open_elems.elements)) c.get.ensures

pub returns-then-len-gt1 : goal.returns-then-len-gt1
unfolding world add_attrs_to_second
returns-then-len-gt1 g c =
    let node = open_node g.S.TreeSink.node in
    let seen = g.S.TreeSink.sees c.args.sink.now in
    let w = world g.S.TreeSink.sees g.S.TreeSink.node c.args.sink.now c.args.state.now in
    let items = (elements_of c.args.state.now) in
    let attrs = attribute_texts c.args.attrs.items in
    record {
      world = on_ok c.add_attrs_if_missing.result
          (λ e. same_world w (g.S.TreeSink.sees c.add_attrs_if_missing.new.self) (changed (add_missing_attributes (node c.get.result.now) attrs) seen) _ _ e refl
          ∙ ap (λ o. add_attrs_at o attrs w) (sym (second_at node items c.get.result.now (omega (arith, c.if-len-gt1.true, c.len.ensures.count, length-values c.args.state.now.open_elems.elements)) c.get.ensures)))
          c.add_attrs_if_missing.ensures.ok;
      quiet = errors_or_not c.add_attrs_if_missing.result seen (g.S.TreeSink.sees c.add_attrs_if_missing.new.self) (add_missing_attributes (node c.get.result.now) attrs)
          c.add_attrs_if_missing.ensures.ok c.add_attrs_if_missing.ensures.err;
      sound = sound_rearranged g.S.TreeSink c.args.sink.now c.add_attrs_if_missing.new.self c.args.state.now c.requires
          (added_rearranges c.add_attrs_if_missing.result seen (g.S.TreeSink.sees c.add_attrs_if_missing.new.self) (node c.get.result.now) attrs c.add_attrs_if_missing.ensures.ok c.add_attrs_if_missing.ensures.err c.requires.sound.stands.is_forest);
    }

pub returns-else-len-gt1 : goal.returns-else-len-gt1
unfolding world add_attrs_to_second
returns-else-len-gt1 g c =
    let w = world g.S.TreeSink.sees g.S.TreeSink.node c.args.sink.now c.args.state.now in
    record {
      world = ap (λ o. add_attrs_at o (attribute_texts c.args.attrs.items) w) (sym (second_missing (open_node g.S.TreeSink.node) (elements_of c.args.state.now) (omega (arith, c.if-len-gt1.false, c.len.ensures.count, length-values c.args.state.now.open_elems.elements))));
      quiet = refl;
      sound = c.requires;
    }

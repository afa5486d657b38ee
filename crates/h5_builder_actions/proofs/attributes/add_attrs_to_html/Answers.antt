use Rattle.std.proofs.Common.{ap, sym, ◌∙◌, arith, refl}
use Rattle.h5_names.specs.AttributeText.{attribute_texts}
use Rattle.h5_interface.specs.Changes.{add_missing_attributes}
use Rattle.h5_interface.specs.Seen.{changed}
use Rattle.h5_builder_spec.specs.Changes.{add_attrs_to_html, with_forest}
use Rattle.h5_builder_spec.proofs.changes.SoundLaws.{errors_or_not}
use Rattle.h5_builder_state.specs.View.{elements_of, open_node, world}
use Rattle.h5_builder_state.proofs.AttributeLaws.{on_ok, open_length, root_at, added_rearranges}
use Rattle.h5_builder_actions.proofs.PutLaws.{same_world}
use Rattle.h5_builder_state.proofs.StackLaws.{element_at}
use Rattle.h5_builder_state.proofs.StepLaws.{sound_rearranged}
use Rattle.h5_builder_actions.proofs.attributes.add_attrs_to_html.Goals as goal

pub add_attrs_if_missing-requires : goal.add_attrs_if_missing-requires
unfolding world
add_attrs_if_missing-requires g c = element_at (open_node g.S.TreeSink.node) (elements_of c.args.state.now) (g.S.TreeSink.sees c.args.sink.now).forest 0 c.get.result.now c.requires.sound.sound.stands.elements c.requires.some c.get.ensures

pub returns : goal.returns
unfolding world add_attrs_to_html
returns g c =
    let node = open_node g.S.TreeSink.node in
    let seen = g.S.TreeSink.sees c.args.sink.now in
    let w = world g.S.TreeSink.sees g.S.TreeSink.node c.args.sink.now c.args.state.now in
    let items = (elements_of c.args.state.now) in
    let attrs = attribute_texts c.args.attrs.items in
    record {
      world = on_ok c.add_attrs_if_missing.result
          (λ e. same_world w (g.S.TreeSink.sees c.add_attrs_if_missing.new.self) (changed (add_missing_attributes (node c.get.result.now) attrs) seen) _ _ e refl
          ∙ ap (λ n. with_forest (add_missing_attributes n attrs seen.forest) w) (sym (root_at node seen.forest.document items c.get.result.now (omega (arith, c.requires.some, open_length node items)) c.get.ensures)))
          c.add_attrs_if_missing.ensures.ok;
      quiet = errors_or_not c.add_attrs_if_missing.result seen (g.S.TreeSink.sees c.add_attrs_if_missing.new.self) (add_missing_attributes (node c.get.result.now) attrs) c.add_attrs_if_missing.ensures.ok c.add_attrs_if_missing.ensures.err;
      sound = sound_rearranged g.S.TreeSink c.args.sink.now c.add_attrs_if_missing.new.self c.args.state.now c.requires.sound
          (added_rearranges c.add_attrs_if_missing.result seen (g.S.TreeSink.sees c.add_attrs_if_missing.new.self) (node c.get.result.now) attrs c.add_attrs_if_missing.ensures.ok c.add_attrs_if_missing.ensures.err c.requires.sound.sound.stands.is_forest);
    }

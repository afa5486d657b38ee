use Rattle.std.proofs.Common.{ap, codes, false, None, ◌∙◌}
use Rattle.h5_names.specs.AttributeText.{attribute_texts}
use Rattle.h5_builder_spec.specs.Changes.{create_root, push_new}
use Rattle.h5_builder_spec.specs.insertion.Place.{LastChild}
use Rattle.h5_builder_state.specs.View.{world}
use Rattle.h5_builder_actions.proofs.PutLaws.{onok_then}
use Rattle.h5_builder_actions.proofs.insert.create_root.Goals as goal

pub returns : goal.returns
unfolding world create_root
returns g c =
    let choices = g.S.TreeSink.choices in
    let node = g.S.TreeSink.node in
    let w = world g.S.TreeSink.sees node c.args.sink.now c.args.state.now in
    let attrs = attribute_texts c.args.attrs.items in
    record {
      world = onok_then c.push_element_at.result (world g.S.TreeSink.sees node c.push_element_at.new.sink c.push_element_at.new.state) (push_new choices (LastChild (node c.get_document.result)) c.from_known.result attrs false None w) (create_root choices attrs w) c.push_element_at.ensures.done
          (ap (λ n. push_new choices (LastChild n) c.from_known.result attrs false None w) c.get_document.ensures.document
          ∙ ap (λ local. push_new choices (LastChild w.forest.document) local attrs false None w) c.from_known.ensures);
      quiet = c.push_element_at.ensures.quiet;
      sound = c.push_element_at.ensures.sound;
    }

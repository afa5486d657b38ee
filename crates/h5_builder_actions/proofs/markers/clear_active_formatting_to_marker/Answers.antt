use Rattle.std.proofs.Common.{ap, refl, IsTrue}
use Rattle.h5_builder_spec.specs.formatting.FormattingList.{clear_to_marker}
use Rattle.h5_builder_spec.specs.formatting.FormattingNames.{IsOfTag}
use Rattle.h5_builder_spec.proofs.entries.EachLaws.{each_cleared}
use Rattle.h5_tables.specs.TagSets.{formatting_names, is_one_of}
use Rattle.h5_builder_spec.specs.formatting.Formatting.{clear_active_formatting_to_marker}
use Rattle.h5_builder_state.specs.View.{listed_node, world}
use Rattle.h5_builder_actions.proofs.RenewLaws.{sound_with_list, with_list}
use Rattle.h5_builder_actions.proofs.EntryStampLaws.{stamped_entry_older}
use Rattle.h5_builder_actions.proofs.markers.clear_active_formatting_to_marker.Goals as goal

pub returns : goal.returns
unfolding world clear_active_formatting_to_marker
returns g c =
    let w = world g.S.TreeSink.sees g.S.TreeSink.node c.args.sink.now c.args.state.now in
    let cleared = ap (λ l. with_list l w) (c.clear_to_marker.ensures.cleared (listed_node g.S.TreeSink.node)) in
    record {
      world = cleared;
      quiet = refl;
      sound = sound_with_list g.S.TreeSink c.args.sink.now c.args.state.now _ (clear_to_marker w.formatting) cleared refl
          (each_cleared (IsOfTag w.forest) w.formatting c.requires.sound.listed)
          (each_cleared (λ n t. IsTrue (is_one_of formatting_names t.name)) w.formatting c.requires.sound.formatting)
          (stamped_entry_older g.S.TreeSink.node c.args.state.now.open_elems c.args.state.now.active_formatting _ c.clear_to_marker.ensures.older.0 c.clear_to_marker.ensures.older.1 c.requires.stamped)
          c.requires;
    }

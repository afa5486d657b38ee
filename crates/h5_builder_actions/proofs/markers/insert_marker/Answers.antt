use Rattle.std.proofs.Common.{◌∷◌, ap, refl, subst, sym}
use Rattle.h5_tables.specs.declared.entry.FormatEntry.TheVariants.{Marker}
use Rattle.h5_builder_spec.specs.formatting.FormattingList.{MarkerEntry}
use Rattle.h5_builder_spec.specs.formatting.Formatting.{insert_marker}
use Rattle.h5_builder_state.specs.View.{listed_node, world}
use Rattle.h5_builder_actions.proofs.ListLaws.{entries_pushed}
use Rattle.h5_builder_actions.proofs.RenewLaws.{sound_with_list, with_list}
use Rattle.h5_builder_state.specs.Stamps.{AreStamped}
use Rattle.h5_builder_actions.proofs.EntryStampLaws.{stamped_entry_pushed}
use Rattle.h5_builder_actions.proofs.markers.insert_marker.Goals as goal

pub returns-clause-made : goal.returns-clause-made
unfolding world insert_marker
returns-clause-made g c =
    let node = g.S.TreeSink.node in
    let w = world g.S.TreeSink.sees node c.args.sink.now c.args.state.now in
    let pushed = ap (λ l. with_list l w) (entries_pushed (listed_node node) c.args.state.now.active_formatting c.push.new.self Marker c.in_ok-push.ensures.ok) in
    record {
      world = pushed;
      quiet = refl;
      sound = sound_with_list g.S.TreeSink c.args.sink.now c.args.state.now _ (MarkerEntry ∷ w.formatting) pushed refl c.requires.sound.listed c.requires.sound.formatting
          (subst (AreStamped node c.args.state.now.open_elems) (sym c.in_ok-push.ensures.ok) (stamped_entry_pushed node c.args.state.now.open_elems c.args.state.now.active_formatting Marker tt c.requires.stamped)) c.requires;
    }

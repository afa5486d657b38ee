use Rattle.std.proofs.Common.{ap, sym, subst, ◌∙◌}
use Rattle.h5_builder_spec.specs.formatting.Adoption.{older_than}
use Rattle.h5_builder_spec.specs.formatting.FormattingList.{without_entry}
use Rattle.h5_builder_spec.specs.World.{World}
use Rattle.h5_builder_state.specs.Steps.{world_of}
use Rattle.h5_builder_actions.specs.FormattingPlaces.{IsEntryAt}
use Rattle.h5_builder_actions.proofs.AgencyLaws.{entry_still, found_entry}
use Rattle.h5_builder_actions.proofs.agency.close_at.Goals as goal

pub returns : goal.returns
returns g c = λ name f found open_at.
    let w = world_of g.S.TreeSink c.args.sink.now c.args.state.now in
    let closed = c.close_through.ensures f.node open_at in
    let gone = c.unlist.ensures f.node (subst (IsEntryAt f.node c.args.at) (sym closed.world) (entry_still f.node c.args.at w (older_than f.node w.stack) (found_entry w found))) in
    record {
      world = gone.world ∙ ap (λ (v : World). record v { formatting = without_entry f.node v.formatting }) closed.world;
      quiet = gone.quiet ∙ closed.quiet;
      sound = gone.sound;
    }

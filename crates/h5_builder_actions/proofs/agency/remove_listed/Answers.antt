use Rattle.std.proofs.Common.{ap, refl, subst, sym, ◌≢◌, ◌∙◌}
use Rattle.h5_builder_spec.specs.World.{World, root}
use Rattle.h5_builder_spec.specs.formatting.AdoptionAgency.{remove_from_stack}
use Rattle.h5_builder_state.specs.Steps.{world_of}
use Rattle.h5_builder_actions.proofs.GoneLaws.{all_gone, entry_is_inside, listed_there}
use Rattle.h5_builder_actions.proofs.agency.remove_listed.Goals as goal

pub unlist-requires-clause-at : goal.unlist-requires-clause-at
unlist-requires-clause-at g c =
    entry_is_inside (g.S.TreeSink.node c.args.element.now) c.args.at (world_of g.S.TreeSink c.args.sink.now c.args.state.now).formatting (sym c.is_listed_at.ensures ∙ c.if-is_listed_at.true)

pub remove_from_stack-requires-clause-sound : goal.remove_from_stack-requires-clause-sound
remove_from_stack-requires-clause-sound g c =
    let n = g.S.TreeSink.node c.args.element.now in
    (c.unlist.ensures n (listed_there n c.args.at (world_of g.S.TreeSink c.args.sink.now c.args.state.now) c.requires.listed (sym c.is_listed_at.ensures ∙ c.if-is_listed_at.true))).sound

pub remove_from_stack-requires-clause-root : goal.remove_from_stack-requires-clause-root
remove_from_stack-requires-clause-root g c =
    let n = g.S.TreeSink.node c.args.element.now in
    let done = c.unlist.ensures n (listed_there n c.args.at (world_of g.S.TreeSink c.args.sink.now c.args.state.now) c.requires.listed (sym c.is_listed_at.ensures ∙ c.if-is_listed_at.true)) in
    subst (λ (u : World). n ≢ root u) (sym done.world) c.requires.root

pub returns-then-is_listed_at : goal.returns-then-is_listed_at
returns-then-is_listed_at g c =
    let n = g.S.TreeSink.node c.args.element.now in
    let done = c.unlist.ensures n (listed_there n c.args.at (world_of g.S.TreeSink c.args.sink.now c.args.state.now) c.requires.listed (sym c.is_listed_at.ensures ∙ c.if-is_listed_at.true)) in
    record {
      world = c.remove_from_stack.ensures.world ∙ ap (remove_from_stack g.S.TreeSink.choices n) done.world;
      quiet = c.remove_from_stack.ensures.quiet ∙ done.quiet;
      sound = c.remove_from_stack.ensures.sound;
    }

pub returns-else-is_listed_at : goal.returns-else-is_listed_at
returns-else-is_listed_at g c = record {
  world = all_gone g.S.TreeSink.choices (g.S.TreeSink.node c.args.element.now) c.args.at (world_of g.S.TreeSink c.args.sink.now c.args.state.now) c.requires.listed c.requires.open (sym c.is_listed_at.ensures ∙ c.if-is_listed_at.false);
  quiet = refl;
  sound = c.requires.sound;
}

use Rattle.std.proofs.Common.{ap, ◌∙◌}
use Rattle.h5_builder_spec.specs.stack.Closing.{generate_implied_end_thoroughly}
use Rattle.h5_builder_spec.specs.World.{names_of}
use Rattle.h5_builder_spec.proofs.changes.ClosingLaws.{names-thorough_implied}
use Rattle.h5_builder_state.specs.Steps.{world_of}
use Rattle.h5_builder_actions.proofs.thorough_ends.generate_implied_end_thoroughly.Goals as goal

pub returns-clause-made : goal.returns-clause-made
unfolding generate_implied_end_thoroughly
returns-clause-made g c = record { world = c.pop_while.ensures.world; quiet = c.pop_while.ensures.quiet; sound = c.pop_while.ensures.sound }

pub returns-clause-names : goal.returns-clause-names
unfolding generate_implied_end_thoroughly
returns-clause-names g c = ap names_of c.pop_while.ensures.world ∙ names-thorough_implied g.S.TreeSink.choices (world_of g.S.TreeSink c.args.sink.now c.args.state.now)

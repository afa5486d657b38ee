use Rattle.std.proofs.Common.{ap, cond, ◌∙◌}
use Rattle.h5_builder_spec.specs.Changes.{generate_implied_end_except, pop_until_named}
use Rattle.h5_builder_spec.specs.stack.Closing.{close_named}
use Rattle.h5_builder_state.specs.Steps.{world_of}
use Rattle.h5_builder_actions.proofs.ends.close_named.Goals as goal

pub returns-in-Some : goal.returns-in-Some
unfolding close_named
returns-in-Some g c =
    let choices = g.S.TreeSink.choices in
    let name = c.args.name.now in
    let w = world_of g.S.TreeSink c.args.sink.now c.args.state.now in
    record {
      world = c.pop_until_named.ensures.world
          ∙ ap (pop_until_named name) c.generate_implied_end_except.ensures.made.world
          ∙ ap (λ b. cond b (pop_until_named name (generate_implied_end_except choices name w)) w) c.in-Some.ensures.found;
      quiet = c.pop_until_named.ensures.quiet ∙ c.generate_implied_end_except.ensures.made.quiet;
      sound = c.pop_until_named.ensures.sound;
    }

use Rattle.std.proofs.Common.{rules}
use Rattle.h5_builder_state.specs.Steps.{world_of}
use Rattle.h5_tree_builder.proofs.EndLaws.{lists_popped}
use Rattle.h5_tree_builder.proofs.builder.TreeBuilder.end.Goals as goal

pub pop_all-requires : goal.pop_all-requires
pop_all-requires g c = search rules

pub invariant_of-self : goal.invariant_of-self
invariant_of-self g c =
    let law = g.Sink.TreeSink in
    record {
      sound = c.pop_all.ensures.sound;
      fits = λ works ended. absurd (cc);
      lists = λ works. lists_popped law.choices (world_of law c.self.inside.sink c.self.inside.state) (world_of law c.pop_all.new.sink c.pop_all.new.state) c.pop_all.ensures.done c.pop_all.ensures.none (c.self.invariant.lists works);
      closed = λ ended. c.pop_all.ensures.none;
    }

pub returns-clause-view : goal.returns-clause-view
returns-clause-view g c = search rules

pub returns-clause-again : goal.returns-clause-again
returns-clause-again g c = search rules

pub returns-clause-lists : goal.returns-clause-lists
returns-clause-lists g c = (invariant_of-self g c).lists

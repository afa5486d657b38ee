use Rattle.std.proofs.Common.{refl, string_bytes}
use Rattle.h5_interface.specs.Forest.{InstructionNode}
use Rattle.h5_interface.specs.Seen.{plain}
use Rattle.h5_interface.proofs.MakingLaws.{make_rearranges, plain_lone}
use Rattle.h5_arena.specs.ArenaModel.{arena_choices, forest_in}
use Rattle.h5_arena.proofs.NoteLaws.{notes_made}
use Rattle.h5_arena.proofs.sink.ArenaTreeSink.create_pi.Goals as goal

pub invariant_of-self-2 : goal.invariant_of-self-2
invariant_of-self-2 c =
    rw c.in_ok-push_plain.ensures.ok (record {
      is_forest = (make_rearranges arena_choices (forest_in c.self.inside.nodes.items) (plain (InstructionNode (string_bytes c.args.target) (string_bytes c.args.«data»))) c.self.invariant.is_forest (plain_lone (InstructionNode (string_bytes c.args.target) (string_bytes c.args.«data»)))).is_forest;
      notes = notes_made arena_choices (forest_in c.self.inside.nodes.items) (plain (InstructionNode (string_bytes c.args.target) (string_bytes c.args.«data»))) c.self.invariant.is_forest refl c.self.invariant.notes;
    })

use Rattle.std.proofs.Common.{[], refl}
use Rattle.h5_arena.specs.ArenaModel.{forest_seen}
use Rattle.h5_arena.proofs.WalkLaws.{begins_one, begins_refused}
use Rattle.h5_arena.proofs.walk.begin_child.Goals as goal

pub returns-in_err-write_text-in-Text-clause-calls : goal.returns-in_err-write_text-in-Text-clause-calls
returns-in_err-write_text-in-Text-clause-calls g c =
    let made = rw c.as_str.ensures.value at c.in_err-write_text-in-Text.ensures in
    rw c.in-Text.is (begins_refused g.S.Serializer.answer g.S.Serializer.after g.S.Serializer.writes g.S.Serializer.breaks (forest_seen c.args.arena.now) _ [] _ refl c.from_residual.ensures.1 made)

pub returns-in_ok-write_text-in-Text-clause-calls : goal.returns-in_ok-write_text-in-Text-clause-calls
returns-in_ok-write_text-in-Text-clause-calls g c =
    let made = rw c.as_str.ensures.value at c.in_ok-write_text-in-Text.ensures in
    rw c.in-Text.is (begins_one g.S.Serializer.answer g.S.Serializer.after g.S.Serializer.writes g.S.Serializer.breaks (forest_seen c.args.arena.now) _ refl made)

use Rattle.std.proofs.Common.{ap}
use Rattle.h5_interface.specs.Seen.{Seen, child_of, with_last_child}
use Rattle.h5_arena.specs.ArenaModel.{forest_seen, place}
use Rattle.h5_arena.proofs.ChildViews.{on_err}
use Rattle.h5_arena.proofs.EditLaws.{same_from_seen}
use Rattle.h5_arena.proofs.KindLaws.{elements_after, last_child_kinds, same_kinds}
use Rattle.h5_arena.proofs.tree.Arena.try_append.Goals as goal

pub returns-in_err-append-clause-err : goal.returns-in_err-append-clause-err
returns-in_err-append-clause-err c = on_err _ (same_from_seen c.append.new.self c.args.self.now c.in_err-append.ensures.err c.in_err-append.ensures.errors)

pub returns-in_err-append-clause-elements : goal.returns-in_err-append-clause-elements
returns-in_err-append-clause-elements c =
    let f = forest_seen c.args.self.now in
    elements_after f f (forest_seen c.append.new.self) (ap (λ (s : Seen). s.forest) c.in_err-append.ensures.err) (same_kinds f)

pub returns-clause-elements : goal.returns-clause-elements
returns-clause-elements c =
    let f = forest_seen c.args.self.now in
    elements_after f (with_last_child c.args.parent.index (child_of place c.args.child) f) (forest_seen c.append.new.self) (ap (λ (s : Seen). s.forest) c.in_ok-append.ensures.ok) (last_child_kinds c.args.parent.index (child_of place c.args.child) f)

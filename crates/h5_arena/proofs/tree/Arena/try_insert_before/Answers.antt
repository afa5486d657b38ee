use Rattle.std.proofs.Common.{ap}
use Rattle.h5_interface.specs.Seen.{Seen, child_of, with_child_before}
use Rattle.h5_arena.specs.ArenaModel.{forest_seen, place}
use Rattle.h5_arena.proofs.ChildViews.{on_err}
use Rattle.h5_arena.proofs.EditLaws.{same_from_seen}
use Rattle.h5_arena.proofs.KindLaws.{child_before_kinds, elements_after, same_kinds}
use Rattle.h5_arena.proofs.tree.Arena.try_insert_before.Goals as goal

pub returns-in_err-append_before_sibling-clause-err : goal.returns-in_err-append_before_sibling-clause-err
returns-in_err-append_before_sibling-clause-err c =
    on_err _ (same_from_seen c.append_before_sibling.new.self c.args.self.now c.in_err-append_before_sibling.ensures.err c.in_err-append_before_sibling.ensures.errors)

pub returns-in_err-append_before_sibling-clause-elements : goal.returns-in_err-append_before_sibling-clause-elements
returns-in_err-append_before_sibling-clause-elements c =
    let f = forest_seen c.args.self.now in
    elements_after f f (forest_seen c.append_before_sibling.new.self) (ap (λ (s : Seen). s.forest) c.in_err-append_before_sibling.ensures.err) (same_kinds f)

pub returns-clause-elements : goal.returns-clause-elements
returns-clause-elements c =
    let f = forest_seen c.args.self.now in
    elements_after f (with_child_before c.args.sibling.index (child_of place c.args.child) f) (forest_seen c.append_before_sibling.new.self) (ap (λ (s : Seen). s.forest) c.in_ok-append_before_sibling.ensures.ok) (child_before_kinds c.args.sibling.index (child_of place c.args.child) f)

use Rattle.std.proofs.Common.{All, ◌∙◌, ap, length, subst, sym}
use Rattle.h5_interface.specs.Forest.{children_of}
use Rattle.h5_arena.specs.ArenaModel.{forest_seen, seen_of}
use Rattle.h5_edit.specs.Editing.{inserted_after, placed_after, with_children}
use Rattle.h5_edit.specs.Moving.{IsWithin, passed}
use Rattle.h5_edit.proofs.MoveLaws.{inserted_within}
use Rattle.h5_edit.proofs.edit.insert_after.Goals as goal

pub set_children-requires-clause-children : goal.set_children-requires-clause-children
set_children-requires-clause-children c =
    let count = length c.args.arena.now.nodes in
    subst (λ xs. All (IsWithin count) xs) (sym c.in_ok-children.ensures)
    (inserted_within count c.args.id.index (passed c.in_ok-more.more.items) (passed c.in_ok-beside.beside.items) c.in_ok-more.ensures.within c.in_ok-beside.ensures.within)

pub returns-clause-ok : goal.returns-clause-ok
returns-clause-ok c =
    let n = c.args.id.index in
    let p = c.in_ok-parent.parent.index in
    let s = seen_of c.args.arena.now in
    let more = children_of (forest_seen c.args.arena.now) c.args.from.index in
    c.in_ok-set_children.ensures.ok
    ∙ ap (λ xs. with_children p xs s) c.in_ok-children.ensures
    ∙ ap (λ ms. with_children p (inserted_after n ms (passed c.in_ok-beside.beside.items)) s) c.in_ok-more.ensures.children
    ∙ ap (λ xs. with_children p (inserted_after n more xs) s) c.in_ok-beside.ensures.children
    ∙ sym (ap (λ o. placed_after n more o s) c.in_ok-parent.ensures.parent)

use Rattle.std.proofs.Common.{◌≡◌, ◌∙◌, ap, arith, length, sym}
use Rattle.h5_arena.specs.ArenaModel.{child_views}
use Rattle.h5_arena.proofs.ChildViews.{appended_apart, appended_first}
use Rattle.h5_arena.proofs.children.append_children.Goals as goal

pub returns-then-is_empty-clause-ok : goal.returns-then-is_empty-clause-ok
returns-then-is_empty-clause-ok c =
    let none : length c.args.children.now.items ≡ 0 = grind arith in
    ap (λ v. child_views v.items) c.swap.ensures.x_after ∙ appended_first c.args.children.now.items c.args.moved.now.items none c.requires.parted_moved

pub returns-clause-ok : goal.returns-clause-ok
returns-clause-ok c =
    appended_apart c.args.children.now.items c.args.moved.now.items _ c.in_ok-append.ensures.items
    (rw (c.as_slice.ensures.value, c.as_slice-2.ensures.value) at (sym c.have_meeting_texts.ensures ∙ c.if-have_meeting_texts.false)) c.requires.parted c.requires.parted_moved

use Rattle.std.proofs.Common.{◌≡◌, ◌∙◌, sym, arith, refl, true, false, ◌+◌, ◌-◌}
use Rattle.h5_arena.specs.ArenaModel.{child_view, child_views}
use Rattle.h5_arena.specs.ChildTests.{is_child_text}
use Rattle.h5_arena.proofs.ChildTexts.{around_at}
use Rattle.h5_arena.proofs.ChildViews.{child_at}
use Rattle.h5_arena.proofs.children.has_texts_around.Goals as goal

pub returns-then-before : goal.returns-then-before
returns-then-before c =
    let w : is_child_text (child_view c.index-children-at.result) ≡ true = sym c.is_text-before.ensures ∙ c.if-before.true in
    c.is_text-after.ensures ∙ sym (around_at (child_views c.args.children.now) c.args.at (c.args.at - 1) (c.args.at + 1) (child_view c.index-children-at.result) (child_view c.index-children-at-2.result) (omega arith) (omega arith)
    (child_at c.args.children.now (c.args.at - 1) c.index-children-at.result (omega arith) c.index-children-at.is) (child_at c.args.children.now (c.args.at + 1) c.index-children-at-2.result (omega arith) c.index-children-at-2.is) ∙ rw w refl)

pub returns-else-before : goal.returns-else-before
returns-else-before c =
    let w : is_child_text (child_view c.index-children-at.result) ≡ false = sym c.is_text-before.ensures ∙ c.if-before.false in
    c.if-before.false ∙ sym (around_at (child_views c.args.children.now) c.args.at (c.args.at - 1) (c.args.at + 1) (child_view c.index-children-at.result) (child_view c.index-children-at-2.result) (omega arith) (omega arith)
    (child_at c.args.children.now (c.args.at - 1) c.index-children-at.result (omega arith) c.index-children-at.is) (child_at c.args.children.now (c.args.at + 1) c.index-children-at-2.result (omega arith) c.index-children-at-2.is) ∙ rw w refl)

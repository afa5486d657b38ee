use Rattle.std.proofs.Common.{◌≡◌, ◌∙◌, ◌-◌, arith, false, length, refl, sym, true}
use Rattle.h5_arena.specs.ArenaModel.{child_view}
use Rattle.h5_arena.specs.ChildTests.{is_child_text}
use Rattle.h5_arena.proofs.ChildViews.{meet_at}
use Rattle.h5_arena.proofs.children.have_meeting_texts.Goals as goal

pub returns-then-last : goal.returns-then-last
returns-then-last c =
    let w : is_child_text (child_view c.index-children-count.result) ≡ true = sym c.is_text-last.ensures ∙ c.if-last.true in
    c.is_text-first.ensures ∙ sym (meet_at c.args.children.now c.args.moved.now (length c.args.children.now - 1) c.index-children-count.result c.index-moved-0.result (omega arith) c.index-children-count.is (omega arith) c.index-moved-0.is ∙ rw w refl)

pub returns-else-last : goal.returns-else-last
returns-else-last c =
    let w : is_child_text (child_view c.index-children-count.result) ≡ false = sym c.is_text-last.ensures ∙ c.if-last.false in
    c.if-last.false ∙ sym (meet_at c.args.children.now c.args.moved.now (length c.args.children.now - 1) c.index-children-count.result c.index-moved-0.result (omega arith) c.index-children-count.is (omega arith) c.index-moved-0.is ∙ rw w refl)

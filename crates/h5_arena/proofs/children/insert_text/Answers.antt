use Rattle.std.proofs.Common.{◌∙◌, arith, refl, string_bytes, sym}
use Rattle.h5_arena.proofs.ChildViews.{inserted_apart, inserted_first, inserted_to_text, text_at}
use Rattle.h5_arena.proofs.children.insert_text.Goals as goal

pub returns-then-at-eq0-clause-ok : goal.returns-then-at-eq0-clause-ok
returns-then-at-eq0-clause-ok c = λ s g one.
    inserted_first c.args.children.now.items _ c.args.at s (string_bytes c.args.text) _ (omega arith) c.in_ok-insert.ensures.items refl c.requires.parted g one

pub push_to_text-requires-clause-text : goal.push_to_text-requires-clause-text
push_to_text-requires-clause-text c = text_at c.args.children.now.items _ c.index.result.now (omega arith) c.index.ensures (sym c.is_text.ensures ∙ c.if-is_text.true)

pub returns-then-is_text-clause-ok : goal.returns-then-is_text-clause-ok
returns-then-is_text-clause-ok c = λ s g one.
    rw (← c.as_str.ensures.value)
    (inserted_to_text c.args.children.now.items _ c.args.at s c.as_str.result.now c.index.result.now (omega arith) (omega arith) c.index.ensures (sym c.is_text.ensures ∙ c.if-is_text.true) c.in_ok-push_to_text.ensures.ok c.requires.parted g one)

pub returns-clause-ok : goal.returns-clause-ok
returns-clause-ok c = λ s g one.
    inserted_apart c.args.children.now.items _ c.args.at s (string_bytes c.args.text) c.index.result.now _ (omega arith) (omega arith) c.in_ok-insert-2.ensures.items refl c.index.ensures (sym c.is_text.ensures ∙ c.if-is_text.false)
    c.requires.parted g one

use Rattle.std.proofs.Common.{◌∙◌, arith, refl, sym}
use Rattle.h5_arena.proofs.ChildViews.{pushed_after_node, pushed_to_text}
use Rattle.h5_arena.proofs.children.push_text.Goals as goal

pub returns-then-is_text-clause-ok : goal.returns-then-is_text-clause-ok
returns-then-is_text-clause-ok c =
    rw (← c.as_str.ensures.value)
    (pushed_to_text c.args.children.now.items _ _ c.index.result.now c.as_str.result.now (omega arith) c.index.ensures (sym c.is_text.ensures ∙ c.if-is_text.true) c.requires c.in_ok-push_to_text.ensures.ok)

pub returns-clause-ok : goal.returns-clause-ok
returns-clause-ok c =
    rw c.in_ok-push-2.ensures.items
    (pushed_after_node c.args.children.now.items _ c.index.result.now _ _ (omega arith) c.index.ensures (sym c.is_text.ensures ∙ c.if-is_text.false) refl c.requires)

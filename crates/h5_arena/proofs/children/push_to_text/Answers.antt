use Rattle.std.proofs.Common.{◌∙◌, ap, arith, string_bytes, sym}
use Rattle.h5_interface.specs.Forest.{ChildText}
use Rattle.h5_arena.specs.ArenaModel.{child_view}
use Rattle.h5_arena.proofs.ChildViews.{grown, not_both, on_err, same_child}
use Rattle.h5_arena.proofs.children.push_to_text.Goals as goal

pub returns-in_err-push_str-in-Text-clause-err : goal.returns-in_err-push_str-in-Text-clause-err
returns-in_err-push_str-in-Text-clause-err c =
    on_err _ (same_child _ _ c.index_mut.result.now _ c.index_mut.ensures.value (ap ChildText c.in_err-push_str-in-Text.ensures.bytes ∙ ap child_view (sym c.in-Text.is)))

pub unreachable-requires : goal.unreachable-requires
unreachable-requires c =
    not_both c.args.children.now.items c.args.at c.index_mut.result.now c.in-Node.field-0.index c.requires.text.0 (omega arith) c.index_mut.ensures.value (ap child_view c.in-Node.is) c.requires.text.1

pub returns-clause-ok : goal.returns-clause-ok
returns-clause-ok c = λ t e.
    grown c.args.children.now.items c.args.at c.index_mut.result.now _ t (string_bytes c.in-Text.before) c.args.text.now (omega arith) c.index_mut.ensures.value (ap child_view c.in-Text.is)
    (ap ChildText c.in_ok-push_str-in-Text.ensures.bytes) e

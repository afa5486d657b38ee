use Rattle.std.proofs.Common.{◌∙◌, ◌+◌, ap, arith, refl, sym}
use Rattle.h5_interface.specs.Forest.{ChildText}
use Rattle.h5_arena.specs.ArenaModel.{child_view}
use Rattle.h5_arena.proofs.ChildViews.{joined_around, no_text, put_back, text_after, text_before_held, within_around}
use Rattle.h5_arena.proofs.children.remove_between.Goals as goal

pub unreachable-requires : goal.unreachable-requires
unreachable-requires c =
    let is = text_after c.args.children.now.items c.args.at (c.args.at + 1) c.index_mut.result.now (omega arith) c.requires.around c.index_mut.ensures.value in
    no_text c.replace.result (rw (← c.replace.ensures.value) at is) c.in_default.not-Text

pub push_to_text-requires-clause-text : goal.push_to_text-requires-clause-text
push_to_text-requires-clause-text c = text_before_held c.args.children.now.items c.args.at _ _ c.replace.new.dest refl refl c.requires.around

pub returns-in-Err-clause-err : goal.returns-in-Err-clause-err
returns-in-Err-clause-err c =
    put_back c.args.children.now.items _ (c.args.at + 1) c.replace.new.dest c.index_mut.result.now _ (within_around c.args.children.now.items c.args.at c.requires.around) c.index_mut.ensures.value
    (ap child_view (sym c.in-Text.is ∙ c.replace.ensures.value)) c.in-Err.ensures.err

pub returns-clause-ok : goal.returns-clause-ok
returns-clause-ok c =
    joined_around c.args.children.now.items _ _ _ c.args.at _ _ c.args.id.index c.replace.new.dest c.index_mut.result.now c.as_str.result.now refl refl c.requires.around c.requires.node c.index_mut.ensures.value
    (ap child_view (sym c.replace.ensures.value ∙ c.in-Text.is) ∙ ap ChildText (sym c.as_str.ensures.value)) c.requires.parted c.in_default-push_to_text.ensures.ok c.remove.ensures.items c.remove-2.ensures.items

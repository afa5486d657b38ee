use Rattle.std.proofs.Common.{◌∙◌, ap, arith, sym}
use Rattle.h5_interface.specs.Forest.{ChildText}
use Rattle.h5_arena.specs.ArenaModel.{child_view, child_views}
use Rattle.h5_arena.proofs.ChildViews.{appended_meeting, meeting_last}
use Rattle.h5_arena.proofs.children.append_meeting.Goals as goal

pub push_to_text-requires-clause-text : goal.push_to_text-requires-clause-text
push_to_text-requires-clause-text c = meeting_last c.args.children.now.items _ (child_views c.args.moved.now.items) _ c.reserve.ensures.items (omega arith) c.requires.meet

pub returns-clause-ok : goal.returns-clause-ok
returns-clause-ok c =
    appended_meeting c.args.children.now.items _ c.args.moved.now.items _ _ _ _ c.as_str.result.now c.index.result.now c.reserve.ensures.items c.remove.ensures.items c.in-Ok.ensures.items (omega arith) c.index.ensures (omega arith)
    (ap child_view c.in-Text.is ∙ ap ChildText (sym c.as_str.ensures.value)) c.in_ok-push_to_text-in-Text.ensures.ok c.requires.meet c.requires.parted c.requires.parted_moved

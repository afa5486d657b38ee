use Rattle.std.proofs.Common.{string_bytes}
use Rattle.h5_interface.specs.Forest.{ChildNode, ChildText}
use Rattle.h5_interface.proofs.CallLaws.{last_child_keeps}
use Rattle.h5_arena.specs.ArenaModel.{forest_in}
use Rattle.h5_arena.proofs.NodeWrites.{seen_after}
use Rattle.h5_arena.proofs.NoteLaws.{notes_last_child}
use Rattle.h5_arena.proofs.sink.ArenaTreeSink.append.Goals as goal

pub invariant_of-self-in-AppendNode : goal.invariant_of-self-in-AppendNode
invariant_of-self-in-AppendNode c =
    let may = (rw (← c.self.view_is, c.in-AppendNode.is) at c.requires) in
    rw c.in_ok-append_node-in-AppendNode.ensures.ok (record {
      is_forest = last_child_keeps (forest_in c.self.inside.nodes.items) c.args.parent.now.index (ChildNode c.in-AppendNode.id.index) c.self.invariant.is_forest may;
      notes = notes_last_child (forest_in c.self.inside.nodes.items) c.args.parent.now.index (ChildNode c.in-AppendNode.id.index) c.self.invariant.notes;
    })

pub invariant_of-self-in-AppendText : goal.invariant_of-self-in-AppendText
invariant_of-self-in-AppendText c =
    let may = (rw (← c.self.view_is, c.in-AppendText.is) at c.requires) in
    rw c.in_ok-append_text-in-AppendText.ensures.ok (record {
      is_forest = last_child_keeps (forest_in c.self.inside.nodes.items) c.args.parent.now.index (ChildText (string_bytes c.in-AppendText.text)) c.self.invariant.is_forest may;
      notes = notes_last_child (forest_in c.self.inside.nodes.items) c.args.parent.now.index (ChildText (string_bytes c.in-AppendText.text)) c.self.invariant.notes;
    })

pub returns-in_ok-append_node-in-AppendNode-clause-ok : goal.returns-in_ok-append_node-in-AppendNode-clause-ok
returns-in_ok-append_node-in-AppendNode-clause-ok c = rw (← c.self.view_is, c.in-AppendNode.is) (seen_after _ _ _ _ c.in_ok-append_node-in-AppendNode.ensures.ok)

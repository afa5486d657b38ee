use Rattle.std.proofs.Common.{string_bytes}
use Rattle.h5_interface.specs.Forest.{ChildNode, ChildText}
use Rattle.h5_interface.proofs.CallLaws.{child_before_keeps}
use Rattle.h5_arena.specs.ArenaModel.{forest_in}
use Rattle.h5_arena.proofs.NoteLaws.{notes_child_before}
use Rattle.h5_arena.proofs.sink.ArenaTreeSink.append_before_sibling.Goals as goal

pub invariant_of-self-in-AppendNode : goal.invariant_of-self-in-AppendNode
invariant_of-self-in-AppendNode c =
    let may = (rw (← c.self.view_is, c.in-AppendNode.is) at c.requires) in
    rw c.in_ok-insert_node_before-in-AppendNode.ensures.ok (record {
      is_forest = child_before_keeps (forest_in c.self.inside.nodes.items) c.args.sibling.now.index (ChildNode c.in-AppendNode.id.index) c.self.invariant.is_forest may;
      notes = notes_child_before (forest_in c.self.inside.nodes.items) c.args.sibling.now.index (ChildNode c.in-AppendNode.id.index) c.self.invariant.notes;
    })

pub invariant_of-self-in-AppendText : goal.invariant_of-self-in-AppendText
invariant_of-self-in-AppendText c =
    let may = (rw (← c.self.view_is, c.in-AppendText.is) at c.requires) in
    rw c.in_ok-insert_text_before-in-AppendText.ensures.ok (record {
      is_forest = child_before_keeps (forest_in c.self.inside.nodes.items) c.args.sibling.now.index (ChildText (string_bytes c.in-AppendText.text)) c.self.invariant.is_forest may;
      notes = notes_child_before (forest_in c.self.inside.nodes.items) c.args.sibling.now.index (ChildText (string_bytes c.in-AppendText.text)) c.self.invariant.notes;
    })

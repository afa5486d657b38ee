use Rattle.std.proofs.Common.{◌∙◌, ap}
use Rattle.h5_interface.specs.Forest.{children_of}
use Rattle.h5_arena.specs.ArenaModel.{forest_in}
use Rattle.h5_arena.specs.Edits.{with_text}
use Rattle.h5_arena.proofs.KindLaws.{elements_after, text_kinds}
use Rattle.h5_arena.proofs.NodeWrites.{held_is_node, seen_after}
use Rattle.h5_arena.proofs.TextEditLaws.{text_below, with_text_keeps}
use Rattle.h5_arena.proofs.tree.Arena.set_text.Goals as goal

pub invariant_of-self-2 : goal.invariant_of-self-2
invariant_of-self-2 c =
    rw c.in_ok-set_text.ensures.ok
    (with_text_keeps (forest_in c.self.inside.nodes.items) c.args.id.index c.args.text.now (held_is_node c.self.inside.nodes.items c.args.id.index (rw (← c.self.view_is) at c.requires)) c.self.invariant)

pub returns-clause-ok : goal.returns-clause-ok
returns-clause-ok c = rw (← c.self.view_is) (seen_after _ _ _ _ c.in_ok-set_text.ensures.ok)

pub returns-clause-elements : goal.returns-clause-elements
returns-clause-elements c =
    let f = forest_in c.self.inside.nodes.items in
    rw (← c.self.view_is) (elements_after f (with_text c.args.id.index c.args.text.now f) (forest_in c.set_text.new.nodes.items) c.in_ok-set_text.ensures.ok (text_kinds c.args.id.index c.args.text.now f))

pub returns-clause-text : goal.returns-clause-text
returns-clause-text c =
    ap (λ g. children_of g c.args.id.index) c.in_ok-set_text.ensures.ok
    ∙ text_below (forest_in c.self.inside.nodes.items) c.args.id.index c.args.text.now (held_is_node c.self.inside.nodes.items c.args.id.index (rw (← c.self.view_is) at c.requires))

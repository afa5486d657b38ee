use Rattle.std.proofs.Common.{◌≡◌, ◌++◌, ℕ, List, [], ◌∷◌, length, sym, ap, ◌∙◌, arith, subst, string_bytes}
use Rattle.h5_interface.specs.Forest.{Node, ChildText, ChildNode}
use Rattle.h5_arena.specs.ArenaModel.{child_view, child_views}
use Rattle.h5_print.specs.Frames.{AreHeld, GoesOn, Opens}
use Rattle.h5_print.specs.Nodes.{line, quoted}
use Rattle.h5_print.specs.declared.tree.Frame.{Frame}
use Rattle.h5_print.proofs.FrameLaws.{node_there, look_at, closes, text_goes, opens_goes, opens_held, held_both, on_ok, next}
use Rattle.h5_print.proofs.HeldLaws.{child_held, child_next, no_child}
use Rattle.h5_print.proofs.tree.print_next.Goals as goal

pub returns-then-frame-children-clause-goes_on : goal.returns-then-frame-children-clause-goes_on
returns-then-frame-children-clause-goes_on c =
    let a = c.args.arena.now in
    let f = c.args.frame in
    let there = node_there a f.node c.requires.held in
    let children = look_at a f.node (λ (d : Node). d.children) there.0 (child_views c.children-children.result.now) there.1 c.children-children.ensures.children in
    closes a c.args.stack.now.items f there.0 (string_bytes c.args.out.now) there.1 (no_child there.0.children c.children-children.result.now f.printed children (omega arith))

pub print_node-requires-clause-held : goal.print_node-requires-clause-held
print_node-requires-clause-held c =
    child_held c.args.arena.now c.children-children.result.now c.args.frame.printed c.index-children-frame.result c.in-Node.node c.children-children.ensures.held (omega arith) (sym c.index-children-frame.is) c.in-Node.is

pub returns-in-Text-clause-goes_on : goal.returns-in-Text-clause-goes_on
returns-in-Text-clause-goes_on c =
    let a = c.args.arena.now in
    let f = c.args.frame in
    let xs = c.args.stack.now.items in
    let was = string_bytes c.args.out.now in
    let there = node_there a f.node c.requires.held in
    let children = look_at a f.node (λ (d : Node). d.children) there.0 (child_views c.children-children.result.now) there.1 c.children-children.ensures.children in
    let text = string_bytes c.in-Text.text in
    let child = child_next there.0.children c.children-children.result.now f.printed c.index-children-frame.result (ChildText text) children (omega arith) (sym c.index-children-frame.is) (ap child_view c.in-Text.is) in
    let level : c.len-level.result ≡ length xs = omega (arith, c.len-level.ensures, c.args.stack.now.ok.0) in
    let goes = text_goes a xs f there.0 was text there.1 child in
    on_ok c.print_text.result (λ printed.
    subst (λ (fs : List Frame). GoesOn a (xs ++ f ∷ []) was fs (string_bytes c.print_text.new.out)) (sym c.in_ok-push.ensures.items)
    (subst (λ (u : List ℕ). GoesOn a (xs ++ f ∷ []) was (xs ++ next f ∷ []) u) (sym (printed ∙ (λ i. was ++ line (level i) (quoted (c.as_str.ensures.value i))))) goes)) c.print_text.ensures

pub returns-in-Node-clause-held : goal.returns-in-Node-clause-held
returns-in-Node-clause-held c =
    let a = c.args.arena.now in
    let frames = subst (AreHeld a) (sym c.in_ok-push.ensures.items) (held_both a c.args.stack.now.items (next c.args.frame) c.requires.stack c.requires.held) in
    let node = child_held a c.children-children.result.now c.args.frame.printed c.index-children-frame.result c.in-Node.node c.children-children.ensures.held (omega arith) (sym c.index-children-frame.is) c.in-Node.is in
    on_ok c.print_node.result (opens_held a c.in-Node.node c.len-level.result c.push.new.self.items (string_bytes c.args.out.now) c.print_node.new.stack.items (string_bytes c.print_node.new.out) frames node) c.print_node.ensures

pub returns-in-Node-clause-goes_on : goal.returns-in-Node-clause-goes_on
returns-in-Node-clause-goes_on c =
    let a = c.args.arena.now in
    let f = c.args.frame in
    let xs = c.args.stack.now.items in
    let id = c.in-Node.node in
    let was = string_bytes c.args.out.now in
    let new = c.print_node.new.stack.items in
    let is = string_bytes c.print_node.new.out in
    let there = node_there a f.node c.requires.held in
    let children = look_at a f.node (λ (d : Node). d.children) there.0 (child_views c.children-children.result.now) there.1 c.children-children.ensures.children in
    let child = child_next there.0.children c.children-children.result.now f.printed c.index-children-frame.result (ChildNode id.index) children (omega arith) (sym c.index-children-frame.is) (ap child_view c.in-Node.is) in
    let level : c.len-level.result ≡ length xs = omega (arith, c.len-level.ensures, c.args.stack.now.ok.0) in
    on_ok c.print_node.result (λ opens.
    opens_goes a xs f id there.0 was new is there.1 child
    (subst (λ (fs : List Frame). Opens a id (length xs) fs was new is) c.in_ok-push.ensures.items (subst (λ n. Opens a id n c.push.new.self.items was new is) level opens))) c.print_node.ensures

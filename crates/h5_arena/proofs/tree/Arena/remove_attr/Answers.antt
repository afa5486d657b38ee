use Rattle.std.proofs.Common.{◌∙◌, ap}
use Rattle.h5_interface.specs.Forest.{attrs_of}
use Rattle.h5_arena.specs.ArenaModel.{forest_in, value_of}
use Rattle.h5_arena.specs.Edits.{edit_attrs, without_named}
use Rattle.h5_arena.proofs.EditLaws.{attrs_edited, edit_attrs_keeps, others_left, value_gone}
use Rattle.h5_arena.proofs.KindLaws.{attrs_kinds, elements_after}
use Rattle.h5_arena.proofs.NodeWrites.{held_is_node, seen_after}
use Rattle.h5_arena.proofs.tree.Arena.remove_attr.Goals as goal

pub invariant_of-self : goal.invariant_of-self
invariant_of-self c =
    rw c.remove_attr.ensures.changed
    (edit_attrs_keeps c.self.inside.names c.forget.new.self (forest_in c.self.inside.nodes.items) c.args.id.index (without_named c.args.name.now) (held_is_node c.self.inside.nodes.items c.args.id.index (rw (← c.self.view_is) at c.requires))
    c.forget.ensures.none c.forget.ensures.others c.self.invariant)

pub returns-clause-changed : goal.returns-clause-changed
returns-clause-changed c = rw (← c.self.view_is) (seen_after _ _ _ _ c.remove_attr.ensures.changed)

pub returns-clause-none : goal.returns-clause-none
returns-clause-none c =
    ap (value_of c.args.name.now)
    (attrs_edited (forest_in c.self.inside.nodes.items) (forest_in c.remove_attr.new.nodes.items) c.args.id.index (without_named c.args.name.now) c.remove_attr.ensures.changed
    (held_is_node c.self.inside.nodes.items c.args.id.index (rw (← c.self.view_is) at c.requires)))
    ∙ value_gone c.args.name.now (attrs_of (forest_in c.self.inside.nodes.items) c.args.id.index)

pub returns-clause-others : goal.returns-clause-others
returns-clause-others c = λ other apart.
    let f = forest_in c.self.inside.nodes.items in
    let edited = attrs_edited f (forest_in c.remove_attr.new.nodes.items) c.args.id.index (without_named c.args.name.now) c.remove_attr.ensures.changed (held_is_node c.self.inside.nodes.items c.args.id.index (rw (← c.self.view_is) at c.requires)) in
    rw (← c.self.view_is) (ap (value_of other) edited ∙ others_left c.args.name.now other (attrs_of f c.args.id.index) apart)

pub returns-clause-elements : goal.returns-clause-elements
returns-clause-elements c =
    let f = forest_in c.self.inside.nodes.items in
    rw (← c.self.view_is) (elements_after f (edit_attrs c.args.id.index (without_named c.args.name.now) f) (forest_in c.remove_attr.new.nodes.items) c.remove_attr.ensures.changed (attrs_kinds c.args.id.index (without_named c.args.name.now) f))

use Rattle.std.proofs.Common.{◌∙◌, ap, arith}
use Rattle.h5_interface.specs.Forest.{attrs_of}
use Rattle.h5_arena.specs.ArenaModel.{forest_in, value_of}
use Rattle.h5_arena.specs.Edits.{edit_attrs, with_value}
use Rattle.h5_arena.proofs.ChildViews.{on_err}
use Rattle.h5_arena.proofs.EditLaws.{attrs_edited, edit_attrs_keeps, forget_keeps, others_stay, same_view, value_set}
use Rattle.h5_arena.proofs.KindLaws.{attrs_kinds, elements_after}
use Rattle.h5_arena.proofs.NodeWrites.{element_within, seen_after, within_is_node}
use Rattle.h5_arena.proofs.tree.Arena.set_attr.Goals as goal

pub set_attr-requires : goal.set_attr-requires
set_attr-requires c =
    let there = element_within c.self.inside.nodes.items c.args.id.index (rw (← c.self.view_is) at c.requires) in
    omega (arith, there)

pub invariant_of-self : goal.invariant_of-self
invariant_of-self c =
    let there = element_within c.self.inside.nodes.items c.args.id.index (rw (← c.self.view_is) at c.requires) in
    rw c.in_err-set_attr.ensures.err
    (forget_keeps c.self.inside.names c.forget.new.self (forest_in c.self.inside.nodes.items) c.args.id.index (within_is_node c.self.inside.nodes.items c.args.id.index there) c.forget.ensures.none c.forget.ensures.others c.self.invariant)

pub returns-in_err-set_attr-clause-err : goal.returns-in_err-set_attr-clause-err
returns-in_err-set_attr-clause-err c = rw (← c.self.view_is) (on_err _ (same_view _ _ _ _ _ _ c.in_err-set_attr.ensures.err))

pub invariant_of-self-2 : goal.invariant_of-self-2
invariant_of-self-2 c =
    let there = element_within c.self.inside.nodes.items c.args.id.index (rw (← c.self.view_is) at c.requires) in
    rw c.in_ok-set_attr.ensures.ok
    (edit_attrs_keeps c.self.inside.names c.forget.new.self (forest_in c.self.inside.nodes.items) c.args.id.index (with_value c.args.name.now c.args.value.now) (within_is_node c.self.inside.nodes.items c.args.id.index there)
    c.forget.ensures.none c.forget.ensures.others c.self.invariant)

pub returns-clause-ok : goal.returns-clause-ok
returns-clause-ok c = rw (← c.self.view_is) (seen_after _ _ _ _ c.in_ok-set_attr.ensures.ok)

pub returns-clause-value : goal.returns-clause-value
returns-clause-value c =
    let there = element_within c.self.inside.nodes.items c.args.id.index (rw (← c.self.view_is) at c.requires) in
    ap (value_of c.args.name.now)
    (attrs_edited (forest_in c.self.inside.nodes.items) (forest_in c.set_attr.new.nodes.items) c.args.id.index (with_value c.args.name.now c.args.value.now) c.in_ok-set_attr.ensures.ok (within_is_node c.self.inside.nodes.items c.args.id.index there))
    ∙ value_set c.args.name.now c.args.value.now (attrs_of (forest_in c.self.inside.nodes.items) c.args.id.index)

pub returns-clause-others : goal.returns-clause-others
returns-clause-others c = λ other apart.
    let there = element_within c.self.inside.nodes.items c.args.id.index (rw (← c.self.view_is) at c.requires) in
    let f = forest_in c.self.inside.nodes.items in
    let edited = attrs_edited f (forest_in c.set_attr.new.nodes.items) c.args.id.index (with_value c.args.name.now c.args.value.now) c.in_ok-set_attr.ensures.ok (within_is_node c.self.inside.nodes.items c.args.id.index there) in
    rw (← c.self.view_is) (ap (value_of other) edited ∙ others_stay c.args.name.now other c.args.value.now (attrs_of f c.args.id.index) apart)

pub returns-clause-elements : goal.returns-clause-elements
returns-clause-elements c =
    let f = forest_in c.self.inside.nodes.items in
    rw (← c.self.view_is) (elements_after f (edit_attrs c.args.id.index (with_value c.args.name.now c.args.value.now) f) (forest_in c.set_attr.new.nodes.items) c.in_ok-set_attr.ensures.ok (attrs_kinds c.args.id.index (with_value c.args.name.now c.args.value.now) f))

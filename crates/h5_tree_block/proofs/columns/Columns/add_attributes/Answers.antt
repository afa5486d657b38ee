use Rattle.std.proofs.Common.{[], ◌∷◌, ◌∙◌, ap, map, rules, sym}
use Rattle.std.specs.Iterator.{Drains}
use Rattle.std.proofs.lemmas.List.{map-append}
use Rattle.h5_tree_block.specs.Columns.{held, with_attribute, with_attributes}
use Rattle.h5_tree_block.proofs.HeldLaws.{attributes_more, no_attributes}
use Rattle.h5_tree_block.proofs.columns.Columns.add_attributes.Goals as goal

pub loop-attr-init : goal.loop-attr-init
loop-attr-init g c = sym (no_attributes (held c.args.self.now))

pub loop-attr-preserved : goal.loop-attr-preserved
loop-attr-preserved g c =
    let attribute = g.T.AttrRef.attribute in
    let attr = c.in-Some.attr in
    c.in_ok-add_attribute.ensures
    ∙ ap (λ h. with_attribute h (attribute attr)) c.loop-attr.invariant
    ∙ sym (attributes_more (held c.args.self.now) (map attribute c.loop-attr.yielded) (attribute attr))
    ∙ ap (with_attributes (held c.args.self.now)) (sym (map-append attribute c.loop-attr.yielded (attr ∷ [])))

pub returns : goal.returns
returns g c =
    let drains : Drains g.I.Iterator.next_gives c.args.attrs c.loop-attr.yielded = search rules in
    (c.loop-attr.yielded, drains, c.loop-attr.invariant)

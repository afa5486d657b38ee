use Rattle.std.proofs.Common.{◌∙◌, ◌+◌, ◌-◌, length, sym, ap}
use Rattle.h5_encodings.specs.Prescan.{attributes, inside_tag}
use Rattle.h5_encodings.proofs.PrescanLaws.{attributes_cut, attributes_end, attributes_more, attributes_none}
use Rattle.h5_encodings.proofs.prescan.inside_tag.Goals as goal

pub returns-in-Cut : goal.returns-in-Cut
unfolding inside_tag
returns-in-Cut c =
    let l = c.loop-attribute in
    sym (attributes_cut (length c.args.text.now) l._attribute l.said l.rest.now c.loop-attribute-test.true (sym c.in-Cut.ensures)) ∙ l.invariant

pub returns-in-NoMore : goal.returns-in-NoMore
unfolding inside_tag
returns-in-NoMore c =
    let l = c.loop-attribute in
    sym (attributes_end (length c.args.text.now) l._attribute l.said l.rest.now c.in-NoMore.end.now c.loop-attribute-test.true (sym c.in-NoMore.ensures)) ∙ l.invariant

pub loop-attribute-preserved : goal.loop-attribute-preserved
loop-attribute-preserved c =
    let l = c.loop-attribute in
    let n = length c.args.text.now in
    let got = c.in-Attribute in
    ap (λ said. attributes (n - (l._attribute + 1)) said got.behind.now) c.in_ok-said-in-Attribute.ensures
    ∙ sym (attributes_more n l._attribute l.said l.rest.now got.name got.value.now got.behind.now c.loop-attribute-test.true (sym got.ensures)) ∙ l.invariant

pub returns : goal.returns
unfolding inside_tag
returns c =
    let l = c.loop-attribute in
    sym (attributes_none (length c.args.text.now) l._attribute l.said l.rest.now c.loop-attribute-test.false) ∙ l.invariant

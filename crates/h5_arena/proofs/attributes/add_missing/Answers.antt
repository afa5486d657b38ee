use Rattle.std.proofs.Common.{◌≡◌, ◌∙◌, arith, ap, false, sym, take, true}
use Rattle.std.specs.List.{list_any}
use Rattle.h5_names.specs.AttributeText.{is_same_name}
use Rattle.h5_arena.proofs.AttributeLaws.{added, first_stay, left_out}
use Rattle.h5_arena.proofs.attributes.add_missing.Goals as goal

pub loop-attribute-preserved-in_default : goal.loop-attribute-preserved-in_default
loop-attribute-preserved-in_default c =
    let has : list_any (λ a. is_same_name a.name c.in-Some.attribute.name) c.args.attrs.now.items ≡ false = sym (ap (λ xs. list_any (λ a. is_same_name a.name c.in-Some.attribute.name) xs) (ap (take c.len-had.result) c.deref.ensures.value ∙ c.loop-attribute.invariant.0))
    ∙ sym c.has_name.ensures ∙ c.if-not-has_name.true in (
      rw c.in_default.ensures.items (first_stay c.loop-attribute.attrs.items c.args.attrs.now.items c.in-Some.attribute c.len-had.result (omega arith) c.loop-attribute.invariant.0),
      rw c.in_default.ensures.items (added c.args.attrs.now.items c.loop-attribute.yielded c.loop-attribute.attrs.items c.in-Some.attribute has c.loop-attribute.invariant.1),
    )

pub loop-attribute-preserved : goal.loop-attribute-preserved
loop-attribute-preserved c =
    let has : list_any (λ a. is_same_name a.name c.in-Some.attribute.name) c.args.attrs.now.items ≡ true = sym (ap (λ xs. list_any (λ a. is_same_name a.name c.in-Some.attribute.name) xs) (ap (take c.len-had.result) c.deref.ensures.value ∙ c.loop-attribute.invariant.0))
    ∙ sym c.has_name.ensures ∙ c.if-not-has_name.false in
    (c.loop-attribute.invariant.0, left_out c.args.attrs.now.items c.loop-attribute.yielded c.loop-attribute.attrs.items c.in-Some.attribute has c.loop-attribute.invariant.1)

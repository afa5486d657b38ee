use Rattle.std.proofs.Common.{◌≡◌, ◌++◌, List, ap, arith, subst, sym, take, ◌∙◌, Bor}
use Rattle.std.specs.List.{flat_map}
use Rattle.std.proofs.lemmas.List.{take_all}
use Rattle.std.proofs.lemmas.List.Folds.{flat_map-map}
use Rattle.std.specs.List.Sorted.{IsPermutation}
use Rattle.h5_names.specs.AttributeText.{attribute_texts}
use Rattle.h5_names.specs.declared.qualified.Attribute.{Attribute}
use Rattle.h5_token.specs.Keys.{attribute_key}
use Rattle.h5_token.specs.Lent.{lent_text, lent_texts}
use Rattle.h5_token.proofs.key.tag_key.Goals as goal

pub returns : goal.returns
returns c =
    let attrs = c.in_ok-attrs.attrs.items in
    let lent = c.deref-attribute-items.result.now in
    let same : lent ≡ attrs = c.deref-attribute-items.ensures.value in
    let whole : take c.loop-attribute.attribute-index lent ≡ attrs = take_all c.loop-attribute.attribute-index lent (omega (arith, c.loop-attribute-test.false)) ∙ same in
    record {
      attrs = lent_texts attrs;
      all = subst (λ (xs : List Attribute). IsPermutation (attribute_texts xs) (lent_texts attrs)) c.deref.ensures.value c.in_ok-attrs.ensures.all;
      sorted = c.in_ok-attrs.ensures.sorted;
      is = c.loop-attribute.invariant
          ∙ ap (λ (xs : List (Bor Attribute)). c.args.tag.now.name ++ flat_map (λ x. attribute_key (lent_text x)) xs) whole
          ∙ sym (ap (λ bs. c.args.tag.now.name ++ bs) (flat_map-map attribute_key lent_text attrs));
    }

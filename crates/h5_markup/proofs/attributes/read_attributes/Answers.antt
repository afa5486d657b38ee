use Rattle.std.proofs.Common.{◌∷◌, true, ap, sym, ◌∙◌, subst, IsUtf8, ◌||◌}
use Rattle.std.proofs.lemmas.Bool.{eqb-true}
use Rattle.h5_names.specs.AttributeText.{attribute_texts}
use Rattle.h5_markup.specs.Attributes.{attributes_of, attribute_named, distinct, repeats}
use Rattle.h5_markup.specs.Text.{text_of}
use Rattle.h5_markup.specs.Writing.{written}
use Rattle.h5_markup.proofs.AttributeLaws.{attributes_none, attributes_one, attributes_shorter, or_false}
use Rattle.h5_markup.proofs.attributes.read_attributes.Goals as goal

pub returns-then-is_empty-clause-attributes : goal.returns-then-is_empty-clause-attributes
returns-then-is_empty-clause-attributes c =
    let none = attributes_none c.attributes.rest.now c.skip-front.result.now c.skip-front.ensures (eqb-true _ _ (sym c.is_empty.ensures ∙ c.if-is_empty.true)) in
    ap attribute_texts c.shrink_to_fit.ensures.items ∙ sym (ap (distinct (attribute_texts c.attributes.kept.attributes.items)) none) ∙ c.attributes.invariant.distinct

pub returns-then-is_empty-clause-duplicates : goal.returns-then-is_empty-clause-duplicates
returns-then-is_empty-clause-duplicates c =
    let none = attributes_none c.attributes.rest.now c.skip-front.result.now c.skip-front.ensures (eqb-true _ _ (sym c.is_empty.ensures ∙ c.if-is_empty.true)) in
    or_false c.attributes.kept.duplicates _ (sym (ap (λ l. c.attributes.kept.duplicates || repeats (attribute_texts c.attributes.kept.attributes.items) l) none) ∙ c.attributes.invariant.repeats)

pub attributes-smaller : goal.attributes-smaller
attributes-smaller c = attributes_shorter c.attributes.rest.now c.skip-front.result.now (written c.cut_attribute-attribute.result) c.skip-front.ensures c.cut_attribute-attribute.ensures

pub attributes-preserved : goal.attributes-preserved
attributes-preserved c =
    let w = written c.cut_attribute-attribute.result in
    let one = attributes_one c.attributes.rest.now c.skip-front.result.now w c.skip-front.ensures c.cut_attribute-attribute.ensures in
    let others = attributes_of c.cut_attribute-attribute.result.rest.now in
    let name = c.in_ok-name.ensures in
    record {
      utf8 = subst IsUtf8 c.as_bytes-bytes.ensures.value c.as_bytes-bytes.ensures.utf8;
      distinct = c.in_ok-keep.ensures.attributes others
          ∙ ap (λ n. distinct (attribute_texts c.attributes.kept.attributes.items) (attribute_named n (text_of true c.cut_attribute-attribute.result.value.now) ∷ others)) name
          ∙ sym (ap (distinct (attribute_texts c.attributes.kept.attributes.items)) one) ∙ c.attributes.invariant.distinct;
      repeats = c.in_ok-keep.ensures.duplicates others
          ∙ ap (λ n. c.attributes.kept.duplicates || repeats (attribute_texts c.attributes.kept.attributes.items) (attribute_named n (text_of true c.cut_attribute-attribute.result.value.now) ∷ others)) name
          ∙ sym (ap (λ l. c.attributes.kept.duplicates || repeats (attribute_texts c.attributes.kept.attributes.items) l) one) ∙ c.attributes.invariant.repeats;
    }

use Rattle.std.proofs.Common.{◌≡◌, ◌||◌, [], length}
use denote.Text.{Utf8}
use denote.Shadow.{shadow}
use Rattle.h5_names.specs.AttributeText.{attribute_texts}
use Rattle.h5_markup.specs.Attributes.{attributes_of, distinct, repeats}
use Rattle.h5_markup.proofs.attributes.read_attributes.Given as goal

abbrev pub invariant-attributes : goal.invariant-attributes
invariant-attributes l = record {
  utf8 : shadow (Utf8 l.rest);
  distinct : distinct (attribute_texts l.kept.attributes.items) (attributes_of l.rest) ≡ distinct [] (attributes_of l.text);
  repeats : (l.kept.duplicates || repeats (attribute_texts l.kept.attributes.items) (attributes_of l.rest)) ≡ repeats [] (attributes_of l.text);
}

abbrev pub decreases-attributes : goal.decreases-attributes
decreases-attributes l = length l.rest

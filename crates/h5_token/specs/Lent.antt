-- Borrowed attributes, independent of where their texts are in memory, and the lengths of their texts.
use Rattle.std.specs.Borrow.{Bor}
use Rattle.std.specs.Prelude.{ℕ, ◌+◌, List, length, map}
use Rattle.h5_names.specs.AttributeText.{AttributeText, attribute_text}
use Rattle.h5_names.specs.declared.qualified.Attribute.{Attribute}

abbrev pub lent_text : Bor Attribute → AttributeText
lent_text lent = attribute_text lent.now

abbrev pub lent_texts : List (Bor Attribute) → List AttributeText
lent_texts = map lent_text

-- the length of the local name and the value
abbrev pub attribute_len : AttributeText → ℕ
attribute_len a = length a.name.local + length a.value

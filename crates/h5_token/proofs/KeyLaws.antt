-- Tags that are alike have the same key.
use Rattle.std.proofs.Common.{◌++◌, ap, sym, ◌∙◌}
use Rattle.std.specs.List.{flat_map}
use Rattle.h5_token.specs.Keys.{KeysAreEqual, attribute_key}
use Rattle.h5_token.proofs.SortedAttributes.{same_in_order}

pub keys_are_equal : KeysAreEqual
keys_are_equal x y key other alike k o =
    k.is
    ∙ ap (λ name. name ++ flat_map attribute_key k.attrs) alike.name
    ∙ ap (λ attrs. y.name ++ flat_map attribute_key attrs) ((same_in_order x.attrs y.attrs k.attrs o.attrs k.all o.all k.sorted o.sorted).1 alike.attrs)
    ∙ sym o.is

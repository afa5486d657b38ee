use Rattle.std.proofs.Common.{◌≡◌, take}
use Rattle.h5_names.specs.AttributeText.{attribute_texts}
use Rattle.h5_interface.specs.Changes.{with_missing}
use Rattle.h5_arena.proofs.attributes.add_missing.Given as goal

-- those that were there come first, and then those that were missing so far
abbrev pub invariant-loop-attribute : goal.invariant-loop-attribute
invariant-loop-attribute l =
    (take l.had l.attrs.items ≡ l.initial.attrs.items)
    × (attribute_texts l.attrs.items ≡ with_missing (attribute_texts l.yielded) (attribute_texts l.initial.attrs.items))

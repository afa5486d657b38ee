use Rattle.std.proofs.Common.{◌≡◌, ◌||◌, take}
use Rattle.std.specs.BTreeSet.{contains}
use Rattle.std.specs.List.{list_any}
use Rattle.h5_names.specs.AttributeText.{is_same_name}
use Rattle.h5_names.specs.declared.qualified.Attribute.{Attribute}
use Rattle.h5_names.specs.declared.qualified.QualName.{QualName}
use Rattle.h5_arena.specs.AttributeNames.{name_cmp}
use Rattle.h5_arena.proofs.attribute_names.add_names.Given as goal

-- the names so far are there, and those that were there before
abbrev pub invariant-loop-attribute : goal.invariant-loop-attribute
invariant-loop-attribute l =
    (q : QualName) → contains name_cmp l.names q ≡ (contains name_cmp l.initial.names q || list_any (λ (a : Attribute). is_same_name a.name q) (take l.attribute-index l.attrs))

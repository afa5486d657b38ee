-- The stored names of the attributes of nodes.
use Rattle.std.specs.Prelude.{◌≡◌, ℕ, List, Option, Some}
use Rattle.std.specs.BTreeMap.{get}
use Rattle.std.specs.BTreeSet.{BTreeSet, contains}
use Rattle.std.specs.Cmp.Lexicographic.{slice_cmp}
use Rattle.std.specs.Option.{option_cmp}
use Rattle.std.specs.Ordering.{nat_cmp, ordering_then}
use Rattle.std.specs.declared.cmp.Ordering.{Ordering}
use Rattle.h5_names.specs.AttributeText.{AttributeText}
use Rattle.h5_names.specs.declared.qualified.QualName.{QualName}
use Rattle.h5_interface.specs.Changes.{has_attribute}
use Rattle.h5_arena.specs.declared.attribute_names.AttributeNames.{AttributeNames}

-- the order of names: by prefix, namespace and local name
abbrev pub name_cmp : QualName → QualName → Ordering
name_cmp x y = ordering_then (option_cmp (slice_cmp nat_cmp) x.prefix y.prefix) (ordering_then (slice_cmp nat_cmp x.ns y.ns) (slice_cmp nat_cmp x.local y.local))

-- a set has exactly the names of these attributes
abbrev pub AreNames : BTreeSet QualName → List AttributeText → Type 0
AreNames names attrs = (q : QualName) → contains name_cmp names q ≡ has_attribute q attrs

-- the stored names of a node
abbrev pub names_at : AttributeNames → ℕ → Option (BTreeSet QualName)
names_at names n = get nat_cmp names.by_node n

-- if names are stored for a node, they are those of these attributes
abbrev pub AreNamesAt : AttributeNames → ℕ → List AttributeText → Type 0
AreNamesAt names n attrs = (found : BTreeSet QualName) → names_at names n ≡ Some found → AreNames found attrs

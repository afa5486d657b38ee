use Rattle.std.proofs.Common.{◌≡◌, map, drop, take}
use Rattle.h5_names.specs.AttributeText.{attribute_texts}
use Rattle.h5_tables.specs.AdjustedNames.{renamed}
use Rattle.h5_tables.specs.Tables.{names_in}
use Rattle.h5_tables.proofs.attributes.rename_all.Given as goal

-- the attributes so far have their names, and the others are unchanged
abbrev pub invariant-loop-attribute : goal.invariant-loop-attribute
invariant-loop-attribute l = record {
  done : attribute_texts (take l.attribute-index l.attribute-items) ≡ map (renamed (names_in l.table)) (attribute_texts (take l.attribute-index l.fn.attrs.items));
  rest : drop l.attribute-index l.attribute-items ≡ drop l.attribute-index l.fn.attrs.items;
}

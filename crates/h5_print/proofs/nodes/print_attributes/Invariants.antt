use Rattle.std.proofs.Common.{◌≡◌, ◌++◌, take, string_bytes}
use Rattle.h5_names.specs.AttributeText.{attribute_texts}
use Rattle.h5_print.specs.Nodes.{attribute_lines}
use Rattle.h5_print.proofs.nodes.print_attributes.Given as goal

abbrev pub invariant-loop-attribute : goal.invariant-loop-attribute
invariant-loop-attribute l = string_bytes l.out ≡ string_bytes l.initial.out ++ attribute_lines l.level (attribute_texts (take l.attribute-index l.attrs))

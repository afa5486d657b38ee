-- The texts, names and attributes of a block.
use Rattle.std.specs.Prelude.{ℕ, ◌+◌, ◌==◌, if◌then◌else◌, List, [], ◌∷◌, ◌++◌, Option, None, Some, codes, drop, length, nat_le, take}
use Rattle.std.specs.Option.{option_map_or}
use Rattle.std.specs.Str.{is_utf8}
use Prim.Native.Nat.{zero, suc}
use Rattle.h5_names.specs.AttributeText.{AttributeText}
use Rattle.h5_names.specs.Urls.{html_text, mathml_text, svg_text, xlink_text, xml_text, xmlns_text}
use Rattle.h5_names.specs.declared.qualified.QualName.{QualName}
use Rattle.h5_tree_block.specs.Block.{name_text_in, namespace_in, nothing, prefix_in, row_count_in, row_in, text_in}
use Rattle.h5_tree_block.specs.declared.view.Row.{Row}
use Rattle.h5_tree_block.specs.declared.view.Span.{Span}

-- the bytes of a span; none if it isn't within the block
unfoldable pub bytes_in : (block : List ℕ) → Span → List ℕ
bytes_in b span = if nat_le (span.at + span.count) (length b) then take span.count (drop span.at b) else []

-- the text of a span; empty if the bytes aren't UTF-8
unfoldable pub str_in : (block : List ℕ) → Span → List ℕ
str_in b span = if is_utf8 (bytes_in b span) then bytes_in b span else []

-- the namespace and the prefix with these numbers
unfoldable pub namespace_named : ℕ → List ℕ
namespace_named n =
    if n == 1 then html_text
    else (if n == 2 then mathml_text
    else (if n == 3 then svg_text
    else (if n == 4 then xlink_text
    else (if n == 5 then xml_text
    else (if n == 6 then xmlns_text
    else [])))))

unfoldable pub prefix_named : ℕ → Option (List ℕ)
prefix_named n =
    if n == 1 then Some (codes "xlink")
    else (if n == 2 then Some (codes "xml")
    else (if n == 3 then Some (codes "xmlns")
    else None))

-- the local name of a name
abbrev pub local_of : (block : List ℕ) → (name : ℕ) → List ℕ
local_of b n = option_map_or (str_in b) (name_text_in b n) []

-- the name with a number
unfoldable pub name_of : (block : List ℕ) → (name : ℕ) → QualName
name_of b n = record {
  prefix = prefix_named (prefix_in b n);
  ns = namespace_named (namespace_in b n);
  local = local_of b n;
}

-- the text of a node, and the value of one of its rows
unfoldable pub text_of : (block : List ℕ) → (node : ℕ) → List ℕ
text_of b n = option_map_or (str_in b) (text_in b n) []

unfoldable pub value_of : (block : List ℕ) → (node index : ℕ) → List ℕ
value_of b n index = option_map_or (λ (row : Row). str_in b row.value) (row_in b n index) []

abbrev pub row_name_of : (block : List ℕ) → (node index : ℕ) → ℕ
row_name_of b n index = option_map_or (λ (row : Row). row.name) (row_in b n index) nothing

-- a row as an attribute, and all rows of a node
unfoldable pub attribute_of : (block : List ℕ) → (node index : ℕ) → AttributeText
attribute_of b n index = record {
  name = name_of b (row_name_of b n index);
  value = value_of b n index;
}

abbrev pub attributes_below : (block : List ℕ) → (node count : ℕ) → List AttributeText
attributes_below b n zero = []
attributes_below b n (suc index) = attributes_below b n index ++ attribute_of b n index ∷ []

abbrev pub attributes_of : (block : List ℕ) → (node : ℕ) → List AttributeText
attributes_of b n = attributes_below b n (row_count_in b n)

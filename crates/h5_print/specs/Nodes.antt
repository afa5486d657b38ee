-- The lines of one node.
use Rattle.std.specs.Prelude.{ℕ, zero, suc, Bool, true, false, ◌&&◌, List, [], ◌∷◌, ◌++◌, if◌then◌else◌, codes}
use Rattle.std.specs.List.{flat_map}
use Rattle.h5_names.specs.AttributeText.{AttributeText, is_same_text}
use Rattle.h5_interface.specs.Forest.{Kind, DocumentNode, DoctypeNode, ElementNode, CommentNode, InstructionNode, FragmentNode}
use Rattle.h5_print.specs.Escapes.{escape}

-- two spaces for each level
abbrev pub indent : ℕ → List ℕ
indent zero = []
indent (suc n) = 32 ∷ 32 ∷ indent n

-- a line at a level
abbrev pub line : ℕ → List ℕ → List ℕ
line level text = indent level ++ text ++ 10 ∷ []

-- an escaped text in quotes
abbrev pub quoted : List ℕ → List ℕ
quoted text = codes "\"" ++ escape text ++ codes "\""

-- the text before the name of an element, by its namespace
abbrev pub element_prefix : List ℕ → List ℕ
element_prefix ns =
    if is_same_text ns (codes "http://www.w3.org/2000/svg") then codes "svg "
    else (if is_same_text ns (codes "http://www.w3.org/1998/Math/MathML") then codes "math "
    else [])

-- the text before the name of an attribute, by its namespace
abbrev pub attribute_prefix : List ℕ → List ℕ
attribute_prefix ns =
    if is_same_text ns (codes "http://www.w3.org/1999/xlink") then codes "xlink "
    else (if is_same_text ns (codes "http://www.w3.org/XML/1998/namespace") then codes "xml "
    else (if is_same_text ns (codes "http://www.w3.org/2000/xmlns/") then codes "xmlns "
    else []))

abbrev pub is_empty : List ℕ → Bool
is_empty [] = true
is_empty (x ∷ xs) = false

-- both identifiers of a doctype, if either isn't empty
abbrev pub identifiers : List ℕ → List ℕ → List ℕ
identifiers public_id system_id =
    if is_empty public_id && is_empty system_id then []
    else codes " " ++ quoted public_id ++ codes " " ++ quoted system_id

-- the first line of a node; documents and fragments have none
abbrev pub kind_line : ℕ → Kind → List ℕ
kind_line level DocumentNode = []
kind_line level (DoctypeNode name public_id system_id) =
    line level (codes "<!DOCTYPE " ++ name ++ identifiers public_id system_id ++ codes ">")
kind_line level (ElementNode name) = line level (codes "<" ++ element_prefix name.ns ++ name.local ++ codes ">")
kind_line level (CommentNode text) = line level (codes "<!-- " ++ escape text ++ codes " -->")
kind_line level (InstructionNode target text) = line level (codes "<?" ++ target ++ codes " " ++ escape text ++ codes ">")
kind_line level FragmentNode = []

-- the lines of attributes, in order
abbrev pub attribute_line : ℕ → AttributeText → List ℕ
attribute_line level a = line level (attribute_prefix a.name.ns ++ a.name.local ++ codes "=" ++ quoted a.value)

abbrev pub attribute_lines : ℕ → List AttributeText → List ℕ
attribute_lines level = flat_map (attribute_line level)

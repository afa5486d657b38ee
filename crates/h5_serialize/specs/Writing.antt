-- The text of a call (HTML standard, section 13.3, "Serializing HTML fragments").
use Rattle.std.specs.Prelude.{ℕ, true, false, List, [], ◌++◌, if◌then◌else◌, codes}
use Rattle.std.specs.List.{flat_map}
use Rattle.h5_names.specs.AttributeText.{AttributeText, is_same_text}
use Rattle.h5_names.specs.declared.qualified.QualName.{QualName}
use Rattle.h5_serialize.specs.Call.{Call, StartOf, EndOf, TextOf, CommentOf, DoctypeOf, InstructionOf}
use Rattle.h5_serialize.specs.Escape.{escape}
use Rattle.h5_serialize.specs.Openers.{are_hidden, is_raw}
use Rattle.h5_serialize.specs.declared.openers.Opener.{Opener}

-- the prefix of an attribute's local name
abbrev pub attribute_prefix : QualName → List ℕ
attribute_prefix name =
    if is_same_text name.ns [] then []
    else (if is_same_text name.ns (codes "http://www.w3.org/XML/1998/namespace") then codes "xml:"
    else (if is_same_text name.ns (codes "http://www.w3.org/2000/xmlns/")
    then (if is_same_text name.local (codes "xmlns") then [] else codes "xmlns:")
    else (if is_same_text name.ns (codes "http://www.w3.org/1999/xlink") then codes "xlink:"
    else codes "unknown_namespace:")))

-- the start of an attribute, up to its value
abbrev pub attribute_front : QualName → List ℕ
attribute_front name = codes " " ++ attribute_prefix name ++ name.local ++ codes "=\""

-- an attribute up to the end of its value; an attribute that follows another one, and closes that one's value
abbrev pub attribute_begun : AttributeText → List ℕ
attribute_begun attribute = attribute_front attribute.name ++ escape true attribute.value

abbrev pub attribute_next : AttributeText → List ℕ
attribute_next attribute = codes "\"" ++ attribute_begun attribute

abbrev pub attribute_written : AttributeText → List ℕ
attribute_written attribute =
    codes " " ++ attribute_prefix attribute.name ++ attribute.name.local
    ++ codes "=\"" ++ escape true attribute.value ++ codes "\""

abbrev pub start_tag : QualName → List AttributeText → List ℕ
start_tag name attrs = codes "<" ++ name.local ++ flat_map attribute_written attrs ++ codes ">"

abbrev pub end_tag : QualName → List ℕ
end_tag name = codes "</" ++ name.local ++ codes ">"

-- the two tags of an element with this local name and without attributes
abbrev pub both_tags : List ℕ → List ℕ
both_tags name = (codes "<" ++ name ++ codes ">") ++ (codes "</" ++ name ++ codes ">")

-- the text of a call, by its openers
abbrev pub written : List Opener → Call → List ℕ
written openers (StartOf name attrs) = if are_hidden openers then [] else start_tag name attrs
written openers (EndOf name) = if are_hidden openers then [] else end_tag name
written openers (TextOf text) = if is_raw openers then text else escape false text
written openers (CommentOf text) = codes "<!--" ++ text ++ codes "-->"
written openers (DoctypeOf name) = codes "<!DOCTYPE " ++ name ++ codes ">"
written openers (InstructionOf target content) =
    codes "<?" ++ target ++ codes " " ++ content ++ codes ">"

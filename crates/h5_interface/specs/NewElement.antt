-- The flags of an element, by its name and its attributes (HTML standard, section 13.2.6.1, create an element for a token; section 13.2.6,
-- HTML integration point).
use Rattle.std.specs.Prelude.{Bool, ◌&&◌, ◌||◌, List, [], ℕ, codes}
use Rattle.std.specs.List.{list_any}
use Rattle.std.specs.Str.{str_eq_ignore_ascii_case}
use Rattle.h5_names.specs.declared.qualified.QualName.{QualName}
use Rattle.h5_names.specs.AttributeText.{AttributeText, is_same_text}
use Rattle.h5_interface.specs.declared.marks.ElementFlags.{ElementFlags}

-- true if a name has this namespace and this local name
abbrev pub is_expanded : List ℕ → List ℕ → QualName → Bool
is_expanded ns local name = is_same_text name.ns ns && is_same_text name.local local

abbrev pub is_html_template : QualName → Bool
is_html_template = is_expanded (codes "http://www.w3.org/1999/xhtml") (codes "template")

abbrev pub is_annotation_xml : QualName → Bool
is_annotation_xml = is_expanded (codes "http://www.w3.org/1998/Math/MathML") (codes "annotation-xml")

-- true if an attribute is `encoding`, without a namespace, and is an ASCII case-insensitive match for the type of HTML or XHTML
abbrev pub is_html_encoding : AttributeText → Bool
is_html_encoding a =
    is_expanded [] (codes "encoding") a.name
    && (str_eq_ignore_ascii_case a.value (codes "text/html") || str_eq_ignore_ascii_case a.value (codes "application/xhtml+xml"))

abbrev pub flags_of : QualName → List AttributeText → (had_duplicate_attributes : Bool) → ElementFlags
flags_of name attrs duplicates = record {
  template = is_html_template name;
  mathml_annotation_xml_integration_point = is_annotation_xml name && list_any is_html_encoding attrs;
  had_duplicate_attributes = duplicates;
}

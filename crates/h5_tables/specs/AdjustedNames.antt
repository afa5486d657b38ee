-- Names that are adjusted inside SVG and MathML (HTML standard, section 13.2.6.1, "adjust MathML attributes", "adjust SVG attributes" and
-- "adjust foreign attributes", and section 13.2.6.5, the table of SVG tag names). A tokenizer emits names in ASCII lower case; the tables
-- have the adjusted names. The tables are the constants that the code reads; `.ci/tables` compares them with the standard's.
use Rattle.std.specs.Prelude.{ℕ, List, [], ◌∷◌, map, codes, Option, Some, None, if◌then◌else◌, unwrap_or}
use Rattle.h5_names.specs.AttributeText.{AttributeText, is_same_text}
use Rattle.h5_names.specs.KnownNames.{name_text}
use Rattle.h5_names.specs.Urls.{xlink_text, xml_text, xmlns_text}
use Rattle.h5_names.specs.declared.qualified.QualName.{QualName}
use Rattle.h5_tables.specs.declared.attribute_names.TheConstants.{FOREIGN_ATTRIBUTES, MATHML_ATTRIBUTES, SVG_ATTRIBUTES}
use Rattle.h5_tables.specs.declared.place.Place.{Place}
use Rattle.h5_tables.specs.declared.place.Place.TheVariants.{Unqualified, XLink, Xml, Xmlns, XmlnsPrefixed}
use Rattle.h5_tables.specs.declared.svg_tags.TheConstants.{SVG_TAGS}

-- a table: the values of names
abbrev pub Table : Type 0 → Type 0
Table A = List (List ℕ × A)

-- the value of a key, if there is one
abbrev pub found_at : {A : Type 0} → Table A → List ℕ → Option A
found_at [] l = None
found_at (row ∷ rows) l = if is_same_text l row.0 then Some row.1 else found_at rows l

-- SVG tags
unfoldable pub svg_tags : Table (List ℕ)
svg_tags = map (λ row. (row.0.now, name_text row.1)) SVG_TAGS

-- the adjusted name of an SVG tag
abbrev pub adjusted_svg_tag : List ℕ → List ℕ
adjusted_svg_tag l = unwrap_or (found_at svg_tags l) l

-- the prefix and the namespace of an adjusted attribute. A name without a colon that is in the XMLNS namespace has the empty prefix
abbrev pub prefix_at : Place → Option (List ℕ)
prefix_at Unqualified = None
prefix_at XLink = Some (codes "xlink")
prefix_at Xml = Some (codes "xml")
prefix_at Xmlns = Some []
prefix_at XmlnsPrefixed = Some (codes "xmlns")

abbrev pub namespace_at : Place → List ℕ
namespace_at Unqualified = []
namespace_at XLink = xlink_text
namespace_at Xml = xml_text
namespace_at Xmlns = xmlns_text
namespace_at XmlnsPrefixed = xmlns_text

-- a local name with its prefix and its namespace
abbrev pub name_at : Place → List ℕ → QualName
name_at place local = record { prefix = prefix_at place; ns = namespace_at place; local = local }

-- attributes of SVG, of MathML, and of other namespaces
unfoldable pub svg_attributes : Table QualName
svg_attributes = map (λ row. (row.0.now, name_at row.1.0 row.1.1.now)) SVG_ATTRIBUTES

unfoldable pub mathml_attributes : Table QualName
mathml_attributes = map (λ row. (row.0.now, name_at row.1.0 row.1.1.now)) MATHML_ATTRIBUTES

unfoldable pub foreign_attributes : Table QualName
foreign_attributes = map (λ row. (row.0.now, name_at row.1.0 row.1.1.now)) FOREIGN_ATTRIBUTES

-- an attribute gets its name in a table, and keeps its value
abbrev pub renamed : Table QualName → AttributeText → AttributeText
renamed table a = record a { name = unwrap_or (found_at table a.name.local) a.name }

-- Names that HTML knows, namespaces, and the order of names.
use Rattle.std.proofs.Common.{◌≡◌, ℕ, Bool, true, false, List, [], ◌∷◌, map, length, refl, codes, Some, None, Less, Greater}
use Rattle.std.specs.Char.{to_ascii_lowercase}
use Rattle.h5_names.specs.AttributeText.{AttributeText, is_same_name, is_same_text}
use Rattle.h5_names.specs.KnownNames.{known_name_of, known_names, lowercase_name, name_text}
use Rattle.h5_names.specs.Laws.{attribute_order, name_order, text_order}
use Rattle.h5_names.specs.Urls.{html_text, known_text, mathml_text, svg_text}
use Rattle.h5_names.specs.declared.known_name.KnownName.TheVariants.{AnnotationXml, Div, ForeignObject, Other, Table, Tbody, Title, Tr}
use Rattle.h5_names.specs.declared.namespaces.TheConstants as url
use Rattle.h5_names.specs.declared.namespace_url.Known.TheVariants.{NoNamespace, Html, MathMl, Svg, XLink, Xml, Xmlns}
use Rattle.h5_names.specs.declared.qualified.QualName.{QualName}

foreign_object : known_name_of (codes "foreignObject") ≡ ForeignObject
unfolding known_name_of known_names
foreign_object = refl

blink : known_name_of (codes "blink") ≡ Other
unfolding known_name_of known_names
blink = refl

annotation : name_text AnnotationXml ≡ codes "annotation-xml"
annotation = refl

table_body : known_name_of (codes "tbody") ≡ Tbody
unfolding known_name_of known_names
table_body = refl

table_bodies : known_name_of (codes "tbodies") ≡ Other
unfolding known_name_of known_names
table_bodies = refl

table_row : is_same_text (codes "tr") (name_text Tr) ≡ true
table_row = refl

table : name_text Table ≡ codes "table"
table = refl

-- the adjusted names of SVG (HTML standard, section 13.2.6.5, "any other start tag"), in lower case and as they are
unfoldable svg_names : List (List ℕ × List ℕ)
svg_names =
    (codes "altglyph", codes "altGlyph") ∷
    (codes "altglyphdef", codes "altGlyphDef") ∷
    (codes "altglyphitem", codes "altGlyphItem") ∷
    (codes "animatecolor", codes "animateColor") ∷
    (codes "animatemotion", codes "animateMotion") ∷
    (codes "animatetransform", codes "animateTransform") ∷
    (codes "clippath", codes "clipPath") ∷
    (codes "feblend", codes "feBlend") ∷
    (codes "fecolormatrix", codes "feColorMatrix") ∷
    (codes "fecomponenttransfer", codes "feComponentTransfer") ∷
    (codes "fecomposite", codes "feComposite") ∷
    (codes "feconvolvematrix", codes "feConvolveMatrix") ∷
    (codes "fediffuselighting", codes "feDiffuseLighting") ∷
    (codes "fedisplacementmap", codes "feDisplacementMap") ∷
    (codes "fedistantlight", codes "feDistantLight") ∷
    (codes "fedropshadow", codes "feDropShadow") ∷
    (codes "feflood", codes "feFlood") ∷
    (codes "fefunca", codes "feFuncA") ∷
    (codes "fefuncb", codes "feFuncB") ∷
    (codes "fefuncg", codes "feFuncG") ∷
    (codes "fefuncr", codes "feFuncR") ∷
    (codes "fegaussianblur", codes "feGaussianBlur") ∷
    (codes "feimage", codes "feImage") ∷
    (codes "femerge", codes "feMerge") ∷
    (codes "femergenode", codes "feMergeNode") ∷
    (codes "femorphology", codes "feMorphology") ∷
    (codes "feoffset", codes "feOffset") ∷
    (codes "fepointlight", codes "fePointLight") ∷
    (codes "fespecularlighting", codes "feSpecularLighting") ∷
    (codes "fespotlight", codes "feSpotLight") ∷
    (codes "fetile", codes "feTile") ∷
    (codes "feturbulence", codes "feTurbulence") ∷
    (codes "foreignobject", codes "foreignObject") ∷
    (codes "glyphref", codes "glyphRef") ∷
    (codes "lineargradient", codes "linearGradient") ∷
    (codes "radialgradient", codes "radialGradient") ∷
    (codes "textpath", codes "textPath") ∷ []

abbrev lower : List ℕ × List ℕ → List ℕ
lower row = row.0

abbrev mixed : List ℕ × List ℕ → List ℕ
mixed row = row.1

names_of_svg : map (λ row. name_text (known_name_of (mixed row))) svg_names ≡ map mixed svg_names
unfolding svg_names known_name_of known_names
names_of_svg = refl

names_of_svg_in_lower_case : map (λ row. name_text (known_name_of (lower row))) svg_names ≡ map lower svg_names
unfolding svg_names known_name_of known_names
names_of_svg_in_lower_case = refl

names_of_svg_are_lowered : map (λ row. lowercase_name (known_name_of (mixed row))) svg_names ≡ map (λ row. known_name_of (lower row)) svg_names
unfolding svg_names known_name_of known_names
names_of_svg_are_lowered = refl

texts_of_svg_are_lowered : map (λ row. map to_ascii_lowercase (mixed row)) svg_names ≡ map lower svg_names
unfolding svg_names
texts_of_svg_are_lowered = refl

mixed_in_another_way : known_name_of (codes "feblenD") ≡ Other
unfolding known_name_of known_names
mixed_in_another_way = refl

div_is_in_lower_case : lowercase_name Div ≡ Div
div_is_in_lower_case = refl

-- HTML, MathML or SVG
abbrev kinds : List ℕ → List Bool
kinds url = is_same_text url html_text ∷ is_same_text url mathml_text ∷ is_same_text url svg_text ∷ []

html_alone : kinds (codes "http://www.w3.org/1999/xhtml") ≡ true ∷ false ∷ false ∷ []
html_alone = refl

mathml_alone : kinds (codes "http://www.w3.org/1998/Math/MathML") ≡ false ∷ true ∷ false ∷ []
mathml_alone = refl

svg_alone : kinds (codes "http://www.w3.org/2000/svg") ≡ false ∷ false ∷ true ∷ []
svg_alone = refl

-- the constants, as they are written
abbrev urls : List (List ℕ)
urls = url.NONE.now ∷ url.HTML.now ∷ url.MATHML.now ∷ url.SVG.now ∷ url.XLINK.now ∷ url.XML.now ∷ url.XMLNS.now ∷ []

lengths_of_urls : map length urls ≡ 0 ∷ 28 ∷ 34 ∷ 26 ∷ 28 ∷ 36 ∷ 29 ∷ []
lengths_of_urls = refl

texts_of_urls : urls ≡ map known_text (NoNamespace ∷ Html ∷ MathMl ∷ Svg ∷ XLink ∷ Xml ∷ Xmlns ∷ [])
texts_of_urls = refl

no_namespace_is_first : text_order (known_text NoNamespace) html_text ≡ Less
no_namespace_is_first = refl

prefixes_in_order : text_order (codes "xml") (codes "xlink") ≡ Greater
prefixes_in_order = refl

abbrev html_title : QualName
html_title = record { prefix = None; ns = html_text; local = name_text Title }

abbrev svg_title : QualName
svg_title = record { prefix = Some (codes "svg"); ns = svg_text; local = name_text Title }

titles_differ : is_same_name html_title svg_title ≡ false
titles_differ = refl

namespaces_of_titles_differ : is_same_text html_title.ns svg_title.ns ≡ false
namespaces_of_titles_differ = refl

no_prefix_is_first : name_order html_title svg_title ≡ Less
no_prefix_is_first = refl

text_of_title : name_text Title ≡ codes "title"
text_of_title = refl

abbrev id : List ℕ → AttributeText
id value = record { name = record { prefix = None; ns = []; local = codes "id" }; value = value }

values_in_order : attribute_order (id (codes "1")) (id (codes "2")) ≡ Less
values_in_order = refl

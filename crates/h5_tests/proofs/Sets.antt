-- Sets of elements: examples of members and of others.
use Rattle.std.proofs.Common.{◌≡◌, Bool, true, false, not, List, [], ◌∷◌, refl, codes, None}
use Rattle.std.specs.List.{list_all}
use Rattle.h5_names.specs.KnownNames.{name_text}
use Rattle.h5_names.specs.Urls.{html_text, mathml_text, svg_text}
use Rattle.h5_names.specs.declared.known_name.KnownName.{KnownName}
use Rattle.h5_names.specs.declared.known_name.KnownName.TheVariants.{AnnotationXml, B, Bgsound, Body, Br, Button, H6, Keygen, Marquee, Mtext, Other, Rtc, Search, Table, Td, Tfoot, Th, Title, Tr, Ul}
use Rattle.h5_names.specs.declared.qualified.QualName.{QualName}
use Rattle.h5_tables.specs.ElementSets.{holds_element}
use Rattle.h5_tables.specs.NameSets.{names_of}
use Rattle.h5_tables.specs.declared.element_sets.ElementSet.TheVariants as set
use Rattle.h5_tables.specs.declared.name_sets.NameSet.TheVariants.{RawText, Void}
use Rattle.h5_tables.specs.TagSets.{body_end_names, button_scope_names, cell_names, formatting_names, head_content_names, heading_names, html_namespace, implied_names, is_body_end_ok, is_button_scope, is_cell, is_default_scope, is_foreign_special, is_formatting, is_head_content, is_heading, is_html_named, is_implied, is_list_item_scope, is_mathml_text_point, is_one_of, is_special, is_svg_html_point, is_table_body_context, is_table_outer, is_table_row_context, is_table_scope, is_thorough_implied, list_item_scope_names, mathml_namespace, mathml_special_names, mathml_text_points, raw_names, scope_names, special_names, svg_html_points, svg_namespace, table_body_context_names, table_outer_names, table_row_context_names, table_scope_names, thorough_implied_names, void_names}

abbrev html : KnownName → QualName
html known = record { prefix = None; ns = html_text; local = name_text known }

abbrev math : KnownName → QualName
math known = record { prefix = None; ns = mathml_text; local = name_text known }

abbrev svg : KnownName → QualName
svg known = record { prefix = None; ns = svg_text; local = name_text known }

-- a test holds for each member, and for no other example
abbrev Separates : (QualName → Bool) → (members strangers : List QualName) → Type 0
Separates is members strangers = (list_all is members ≡ true) × (list_all (λ name. not (is name)) strangers ≡ true)

default_scope : Separates is_default_scope
    (html Marquee ∷ html Td ∷ math Mtext ∷ math AnnotationXml ∷ svg Title ∷ [])
    (html Ul ∷ html AnnotationXml ∷ html Search ∷ [])
unfolding is_default_scope html_namespace scope_names is_foreign_special mathml_namespace svg_namespace mathml_special_names mathml_text_points svg_html_points
default_scope = (refl, refl)

list_item_scope : Separates is_list_item_scope (html Ul ∷ []) (html Button ∷ [])
unfolding is_list_item_scope list_item_scope_names is_default_scope html_namespace scope_names is_foreign_special mathml_namespace svg_namespace mathml_special_names mathml_text_points svg_html_points
list_item_scope = (refl, refl)

button_scope : Separates is_button_scope (html Button ∷ []) (html Ul ∷ [])
unfolding is_button_scope button_scope_names is_default_scope html_namespace scope_names is_foreign_special mathml_namespace svg_namespace mathml_special_names mathml_text_points svg_html_points
button_scope = (refl, refl)

table_scope : Separates is_table_scope (html Table ∷ []) (html Body ∷ [])
unfolding is_table_scope table_scope_names html_namespace
table_scope = (refl, refl)

table_body_context : Separates is_table_body_context (html Tfoot ∷ []) (html Body ∷ [])
unfolding is_table_body_context table_body_context_names html_namespace
table_body_context = (refl, refl)

table_row_context : Separates is_table_row_context (html Tr ∷ []) (html Body ∷ [])
unfolding is_table_row_context table_row_context_names html_namespace
table_row_context = (refl, refl)

special : Separates is_special
    (html Ul ∷ html Search ∷ html Keygen ∷ html Title ∷ math Mtext ∷ math AnnotationXml ∷ svg Title ∷ [])
    (html B ∷ html AnnotationXml ∷ math Title ∷ [])
unfolding is_special special_names html_namespace is_foreign_special mathml_namespace svg_namespace mathml_special_names mathml_text_points svg_html_points
special = (refl, refl)

formatting : Separates is_formatting (html B ∷ []) (html Ul ∷ [])
unfolding is_formatting formatting_names html_namespace
formatting = (refl, refl)

head_content : Separates is_head_content (html Bgsound ∷ []) (html B ∷ [])
unfolding is_head_content head_content_names html_namespace
head_content = (refl, refl)

cursory_implied_end : Separates is_implied (html Rtc ∷ []) (html Tr ∷ [])
unfolding is_implied implied_names html_namespace
cursory_implied_end = (refl, refl)

thorough_implied_end : Separates is_thorough_implied (html Tr ∷ []) (html Ul ∷ [])
unfolding is_thorough_implied implied_names thorough_implied_names html_namespace
thorough_implied_end = (refl, refl)

body_end_ok : Separates is_body_end_ok (html Tr ∷ []) (html Ul ∷ [])
unfolding is_body_end_ok body_end_names html_namespace
body_end_ok = (refl, refl)

heading : Separates is_heading (html H6 ∷ []) (html Ul ∷ [])
unfolding is_heading heading_names html_namespace
heading = (refl, refl)

td_th : Separates is_cell (html Th ∷ []) (html Tr ∷ [])
unfolding is_cell cell_names html_namespace
td_th = (refl, refl)

table_outer : Separates is_table_outer (html Tr ∷ []) (html Ul ∷ [])
unfolding is_table_outer table_outer_names html_namespace
table_outer = (refl, refl)

mathml_text_integration_point : Separates is_mathml_text_point (math Mtext ∷ []) (math AnnotationXml ∷ [])
unfolding is_mathml_text_point mathml_text_points mathml_namespace
mathml_text_integration_point = (refl, refl)

svg_html_integration_point : Separates is_svg_html_point (svg Title ∷ []) (html Title ∷ math Title ∷ [])
unfolding is_svg_html_point svg_html_points svg_namespace
svg_html_integration_point = (refl, refl)

td_th_as_a_value : Separates (holds_element set.TdTh) (html Td ∷ []) (html Ul ∷ [])
unfolding is_cell cell_names html_namespace
td_th_as_a_value = (refl, refl)

default_scope_as_a_value : Separates (holds_element set.DefaultScope) (html Td ∷ []) (html Ul ∷ [])
unfolding is_default_scope html_namespace scope_names is_foreign_special mathml_namespace svg_namespace mathml_special_names mathml_text_points svg_html_points
default_scope_as_a_value = (refl, refl)

list_item_scope_as_a_value : Separates (holds_element set.ListItemScope) (html Ul ∷ []) (html Button ∷ [])
unfolding is_list_item_scope list_item_scope_names is_default_scope html_namespace scope_names is_foreign_special mathml_namespace svg_namespace mathml_special_names mathml_text_points svg_html_points
list_item_scope_as_a_value = (refl, refl)

heading_as_a_value : Separates (holds_element set.Heading) (html H6 ∷ []) (html Ul ∷ [])
unfolding is_heading heading_names html_namespace
heading_as_a_value = (refl, refl)

a_void_name : is_one_of (names_of Void) (name_text Br) ≡ true
unfolding void_names
a_void_name = refl

no_raw_name : is_one_of (names_of RawText) (name_text Br) ≡ false
unfolding raw_names
no_raw_name = refl

html_by_name : Separates (is_html_named (codes "title")) (html Title ∷ []) (svg Title ∷ [])
unfolding is_html_named html_namespace
html_by_name = (refl, refl)

html_by_local_name : Separates (is_html_named (svg Title).local) (html Title ∷ []) (svg Title ∷ [])
unfolding is_html_named html_namespace
html_by_local_name = (refl, refl)

html_by_known_name : is_html_named (name_text Title) (html Title) ≡ true
unfolding is_html_named html_namespace
html_by_known_name = refl

not_by_other : is_html_named (name_text Other) (html Title) ≡ false
unfolding is_html_named html_namespace
not_by_other = refl

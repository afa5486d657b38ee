-- What an element's attributes say about how it is shown.
use Rattle.std.specs.Prelude.{ℕ, Bool, false, ◌&&◌, ◌||◌, if◌then◌else◌, List, [], ◌∷◌, Option, None, Some, bytes_eq, codes}
use Rattle.std.specs.List.{list_any}
use Rattle.html_tree_builder.specs.AttributeText.{AttributeText, is_same_text}
use Rattle.html_tree_builder.specs.Urls.{html_text, svg_text}
use Rattle.h5_page.specs.Styles.{hides}

-- an attribute hides an element of this namespace: `hidden` one of HTML (HTML standard, section 6.1), and `style` one of HTML or SVG
abbrev pub is_hiding : (ns : List ℕ) → AttributeText → Bool
is_hiding ns attribute =
    if bytes_eq attribute.name.local (codes "hidden") then is_same_text ns html_text
    else if bytes_eq attribute.name.local (codes "style") then (is_same_text ns html_text || is_same_text ns svg_text) && hides attribute.value
    else false

abbrev pub is_hidden : (ns : List ℕ) → List AttributeText → Bool
is_hidden ns = list_any (is_hiding ns)

abbrev pub is_reversed : List AttributeText → Bool
is_reversed = list_any (λ (attribute : AttributeText). bytes_eq attribute.name.local (codes "reversed"))

-- the first attribute with a name counts
abbrev pub first_value : (asked : List ℕ) → List AttributeText → Option (List ℕ)
first_value asked [] = None
first_value asked (attribute ∷ attributes) = if bytes_eq attribute.name.local asked then Some attribute.value else first_value asked attributes

-- whether it is hidden, whether its numbers are reversed, and the value of the attribute that its display uses
pub record SaidText : Type 0 where
  pub is_hidden : Bool
  pub is_reversed : Bool
  pub value : Option (List ℕ)

abbrev pub said_of : (ns asked : List ℕ) → List AttributeText → SaidText
said_of ns asked attributes = record {
  is_hidden = is_hidden ns attributes;
  is_reversed = is_reversed attributes;
  value = first_value asked attributes;
}

-- one attribute more
abbrev pub or_value_of : (asked : List ℕ) → Option (List ℕ) → AttributeText → Option (List ℕ)
or_value_of asked (Some found) attribute = Some found
or_value_of asked None attribute = first_value asked (attribute ∷ [])

abbrev pub with_attribute : (ns asked : List ℕ) → SaidText → AttributeText → SaidText
with_attribute ns asked said attribute = record {
  is_hidden = said.is_hidden || is_hiding ns attribute;
  is_reversed = said.is_reversed || bytes_eq attribute.name.local (codes "reversed");
  value = or_value_of asked said.value attribute;
}

-- The elements that a selector matches (Selectors Level 4; HTML standard, section 4.16.2, "Case-sensitivity of selectors").
use Rattle.std.specs.Prelude.{ℕ, ◌+◌, ◌==◌, ◌&&◌, ◌||◌, Bool, true, false, if◌then◌else◌, not, is_some, length, List, map, Option, codes, string_bytes}
use Rattle.std.specs.List.{filter, list_any}
use Rattle.std.specs.Option.{option_map_or}
use Rattle.h5_names.specs.AttributeText.{AttributeText, is_same_text}
use Rattle.h5_names.specs.declared.qualified.QualName.{QualName}
use Rattle.h5_interface.specs.Forest.{Forest, attrs_of}
use Rattle.h5_arena.specs.ArenaModel.{value_of}
use Rattle.h5_selectors.specs.AnPlusB.{is_index}
use Rattle.h5_selectors.specs.Languages.{has_language}
use Rattle.h5_selectors.specs.Values.{are_same, compares, includes}
use Rattle.h5_selectors.specs.Ways.{counted, is_root, led}
use Rattle.h5_tree.specs.Elements.{has_name, is_empty, is_html, is_same_type}
use Rattle.h5_selectors.specs.declared.formula.AttrTest.{AttrTest}
use Rattle.h5_selectors.specs.declared.formula.Formula.{Formula, Any, Name, Id, Class, Attr, Root, Scope, Empty, Link, Html, Lang, NthOfType, Nth', Not', And', Or', Leads'}
use Rattle.h5_selectors.specs.declared.formula.Written.{Written}

-- the name to compare with: for HTML elements, or for others
abbrev pub name_for : Written → (in_html : Bool) → List ℕ
name_for written in_html = if in_html then written.lower else written.exact

abbrev pub is_named : Written → QualName → Bool
is_named written name = is_same_text name.local (name_for written (is_html name))

abbrev pub compares_case : AttrTest → (in_html : Bool) → Bool
compares_case test in_html = if in_html then test.ignores_case_in_html else test.ignores_case

abbrev pub has_value : AttrTest → (in_html : Bool) → List AttributeText → Bool
has_value test in_html attrs =
    option_map_or (compares test.operator (compares_case test in_html) (string_bytes test.text)) (value_of (name_for test.name in_html) attrs) false

-- an HTML link: an `a` or an `area` with an `href` (HTML standard, section 4.16.3, ":link")
abbrev pub is_link : QualName → List AttributeText → Bool
is_link name attrs = is_html name && ((is_same_text name.local (codes "a") || is_same_text name.local (codes "area")) && is_some (value_of (codes "href") attrs))

-- in a forest, with ids and classes compared ASCII case-insensitively in quirks mode, and with a scope element or none
module _ (f : Forest) (quirky : Bool) (scope : Option ℕ) where
  abbrev pub has_id : List ℕ → ℕ → Bool
  has_id text n = option_map_or (are_same quirky text) (value_of (codes "id") (attrs_of f n)) false

  abbrev pub has_class : List ℕ → ℕ → Bool
  has_class text n = option_map_or (includes quirky text) (value_of (codes "class") (attrs_of f n)) false

  abbrev pub is_scope : ℕ → Bool
  is_scope n = option_map_or (λ s. s == n) scope (is_root f n)

  -- true if the condition holds for an element
  abbrev pub holds : Formula → ℕ → Bool
  holds Any n = true
  holds (Name written) n = has_name f (is_named written) n
  holds (Id text) n = has_id (string_bytes text) n
  holds (Class text) n = has_class (string_bytes text) n
  holds (Attr test) n = has_name f (λ name. has_value test (is_html name) (attrs_of f n)) n
  holds Root n = is_root f n
  holds Scope n = is_scope n
  holds Empty n = is_empty f n
  holds Link n = has_name f (λ name. is_link name (attrs_of f n)) n
  holds Html n = has_name f is_html n
  holds (Lang ranges) n = has_language f (map string_bytes ranges.items) n
  holds (NthOfType indices side) n = is_index indices (length (filter (is_same_type f n) (counted side f n)) + 1)
  holds (Nth' indices side p of) n = holds of n && is_index indices (length (filter (holds of) (counted side f n)) + 1)
  holds (Not' p inner) n = not (holds inner n)
  holds (And' p one q other) n = holds one n && holds other n
  holds (Or' p one q other) n = holds one n || holds other n
  holds (Leads' way p inner) n = list_any (holds inner) (led way f n)

  -- true if one of a list of selectors matches
  abbrev pub matches : List Formula → ℕ → Bool
  matches list n = list_any (λ selector. holds selector n) list

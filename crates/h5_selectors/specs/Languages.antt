-- The languages of elements (HTML standard, section 3.2.6.2, "The lang and xml:lang attributes"), and language ranges (Selectors Level 4,
-- section 7.2, "The Language Pseudo-class: :lang()"; RFC 4647, section 3.3.2, "Extended Filtering").
use Rattle.std.specs.Prelude.{ℕ, ◌==◌, ◌&&◌, ◌||◌, Bool, true, false, bytes_eq, codes, if◌then◌else◌, length, List, [], ◌∷◌, ◌++◌, Option, None, Some, unwrap_or}
use Rattle.std.specs.List.{find, list_any}
use Rattle.std.specs.Option.{option_and_then, option_map, option_map_or, option_or}
use Rattle.h5_names.specs.AttributeText.{AttributeText, is_same_text}
use Rattle.h5_names.specs.Urls.{html_text, svg_text, xml_text}
use Rattle.h5_names.specs.declared.qualified.QualName.{QualName}
use Rattle.h5_interface.specs.Forest.{Forest, attrs_of}
use Rattle.h5_arena.specs.ArenaModel.{value_of}
use Rattle.h5_selectors.specs.Values.{are_same, is_nothing}
use Rattle.h5_selectors.specs.Ways.{ancestors}
use Rattle.h5_tree.specs.Elements.{name_of}

-- true for the name `lang` in the XML namespace; the value of the first attribute with it
abbrev pub is_xml_language : QualName → Bool
is_xml_language name = is_same_text name.ns xml_text && is_same_text name.local (codes "lang")

abbrev pub xml_language : List AttributeText → Option (List ℕ)
xml_language attrs = option_map (λ a. a.value) (find (λ a. is_xml_language a.name) attrs)

-- the language that an element's attributes give: `lang` without a namespace counts for elements of HTML and SVG
abbrev pub given_language : QualName → List AttributeText → Option (List ℕ)
given_language name attrs =
    option_or (xml_language attrs) (if is_same_text name.ns html_text || is_same_text name.ns svg_text then value_of (codes "lang") attrs else None)

-- in a forest
module _ (f : Forest) where
  abbrev pub own_language : ℕ → Option (List ℕ)
  own_language n = option_and_then (λ name. given_language name (attrs_of f n)) (name_of f n)

  -- the language of the first of some elements that gives one
  abbrev pub first_language : List ℕ → Option (List ℕ)
  first_language [] = None
  first_language (n ∷ ns) = option_or (own_language n) (first_language ns)

  -- the language of an element: its own, or that of the nearest ancestor that has one. An unknown language is the empty text
  abbrev pub language : ℕ → List ℕ
  language n = unwrap_or (first_language (n ∷ ancestors f n)) []

-- the subtags of a language tag or a range, separated by hyphens. `subtag` is the beginning of the first subtag
abbrev pub subtags_behind : (subtag text : List ℕ) → List (List ℕ)
subtags_behind subtag [] = subtag ∷ []
subtags_behind subtag (c ∷ text) = if c == 45 then subtag ∷ subtags_behind [] text else subtags_behind (subtag ++ c ∷ []) text

abbrev pub subtags : List ℕ → List (List ℕ)
subtags text = subtags_behind [] text

abbrev pub is_wildcard : (wanted : List ℕ) → Bool
is_wildcard wanted = bytes_eq wanted (codes "*")

abbrev pub is_subtag : (wanted subtag : List ℕ) → Bool
is_subtag wanted subtag = are_same true wanted subtag

-- the subtags of a tag after the first one that matches, steps 3.B to E; none if there is a singleton before it, or none that matches
abbrev pub behind_match : (wanted : List ℕ) → (tag : List (List ℕ)) → Option (List (List ℕ))
behind_match wanted [] = None
behind_match wanted (subtag ∷ tag) = if is_subtag wanted subtag then Some tag else (if length subtag == 1 then None else behind_match wanted tag)

-- the subtags of a tag after those that a subtag of a range takes: a wildcard takes none, step 3.A
abbrev pub behind_wanted : (wanted : List ℕ) → (tag : List (List ℕ)) → Option (List (List ℕ))
behind_wanted wanted tag = if is_wildcard wanted then Some tag else behind_match wanted tag

-- the subtags of a range after its first one, step 3
abbrev pub matches_further : (range tag : List (List ℕ)) → Bool
matches_further [] tag = true
matches_further (wanted ∷ range) tag = option_map_or (matches_further range) (behind_wanted wanted tag) false

-- the first subtags, step 2
abbrev pub matches_tag : (range tag : List (List ℕ)) → Bool
matches_tag [] tag = false
matches_tag (wanted ∷ range) [] = false
matches_tag (wanted ∷ range) (subtag ∷ tag) = (is_wildcard wanted || is_subtag wanted subtag) && matches_further range tag

-- an empty language is in the empty range alone
abbrev pub is_in_range : (language range : List ℕ) → Bool
is_in_range language range = if is_nothing language || is_nothing range then is_nothing language && is_nothing range else matches_tag (subtags range) (subtags language)

-- true if the language of an element is in one of some ranges
abbrev pub has_language : Forest → (ranges : List (List ℕ)) → ℕ → Bool
has_language f ranges n = list_any (is_in_range (language f n)) ranges

-- The policy for texts: what a writer of comments, posts and pages needs.
use Rattle.std.specs.Prelude.{ℕ, nat_eq, ◌&&◌, ◌||◌, Bool, true, false, not, List, [], ◌∷◌, map, Option, Some, None, codes, if◌then◌else◌}
use Rattle.std.specs.Char.{is_ascii_whitespace}
use Rattle.std.specs.List.{list_any, starts_with}
use Rattle.h5_names.specs.AttributeText.{is_same_text}
use Rattle.h5_tables.specs.TagSets.{is_one_of}
use Rattle.h5_clean.specs.declared.lists.TheConstants.{ALIGNED, CITING, DROPPED, GLOBAL, KEEPINGS, UNNAMED}
use Rattle.h5_clean.specs.Kinds.{is_known, kind_of}
use Rattle.h5_clean.specs.Policies.{Rules}
use Rattle.h5_clean.specs.Urls.{scheme_of}

-- elements that have a kind and aren't allowed
unfoldable pub unnamed : List (List ℕ)
unnamed = map (λ name. name.now) UNNAMED

-- elements that are dropped with their content
unfoldable pub dropped_names : List (List ℕ)
dropped_names = map (λ name. name.now) DROPPED

-- attributes that any element keeps
unfoldable pub global_names : List (List ℕ)
global_names = map (λ name. name.now) GLOBAL

-- attributes that some elements keep: an element, and its attributes
pub record Keeping : Type 0 where
  pub element : List ℕ
  pub attributes : List (List ℕ)

abbrev pub keeping : List ℕ → List (List ℕ) → Keeping
keeping element attributes = record { element = element; attributes = attributes }

unfoldable pub keepings : List Keeping
keepings = map (λ row. keeping row.0.now (map (λ name. name.now) row.1.now)) KEEPINGS

abbrev pub keeps_by : List Keeping → (element attribute : List ℕ) → Bool
keeps_by [] element attribute = false
keeps_by (k ∷ ks) element attribute = if is_same_text k.element element then is_one_of k.attributes attribute else keeps_by ks element attribute

-- elements that keep `align`, and elements that keep `cite`
unfoldable pub aligned_names : List (List ℕ)
aligned_names = map (λ name. name.now) ALIGNED

unfoldable pub citing_names : List (List ℕ)
citing_names = map (λ name. name.now) CITING

abbrev pub keeps_of_many : (element attribute : List ℕ) → Bool
keeps_of_many element attribute =
    if is_same_text attribute (codes "align") then is_one_of aligned_names element
    else is_same_text attribute (codes "cite") && is_one_of citing_names element

-- ---- URLs

unfoldable pub link_schemes : List (List ℕ)
link_schemes = codes "http" ∷ codes "https" ∷ codes "mailto" ∷ []

unfoldable pub image_schemes : List (List ℕ)
image_schemes = codes "http" ∷ codes "https" ∷ []

-- a URL without a scheme, or with one of these
abbrev pub has_scheme_of : List (List ℕ) → Option (List ℕ) → Bool
has_scheme_of schemes None = true
has_scheme_of schemes (Some scheme) = is_one_of schemes scheme

-- a class that names the language of code: one word with this prefix
abbrev pub is_language : List ℕ → Bool
is_language value = starts_with nat_eq value (codes "language-") && not (list_any is_ascii_whitespace value)

-- a URL has an allowed scheme; a class names a language
abbrev pub is_good : (attribute value : List ℕ) → Bool
is_good attribute value =
    if is_same_text attribute (codes "href") || is_same_text attribute (codes "cite") then has_scheme_of link_schemes (scheme_of value)
    else (if is_same_text attribute (codes "src") then has_scheme_of image_schemes (scheme_of value)
    else (if is_same_text attribute (codes "class") then is_language value
    else true))

abbrev pub keeps_attribute : (element attribute value : List ℕ) → Bool
keeps_attribute element attribute value =
    (is_one_of global_names attribute || (keeps_by keepings element attribute || keeps_of_many element attribute)) && is_good attribute value

-- the rules; `rel` separates a linked page from the page that links to it
abbrev pub default_rules : Rules
default_rules = record {
  names = λ name. is_known (kind_of name) && not (is_one_of unnamed name);
  drops = λ name. is_one_of dropped_names name;
  keeps = keeps_attribute;
  rel = Some (codes "noopener noreferrer");
  prefix = None;
  classes = None;
  around = record { in_p = false; in_heading = false; in_item = true; in_description = true; in_link = false };
  depth = 256;
}

-- A policy that is a table.
use Rattle.std.specs.Prelude.{◌≡◌, ℕ, nat_eq, ◌&&◌, ◌||◌, Bool, true, not, List, [], ◌∷◌, Option, Some, None, codes, if◌then◌else◌, is_some}
use Rattle.std.specs.List.{list_any, starts_with}
use Rattle.h5_names.specs.AttributeText.{AttributeText, is_same_text}
use Rattle.h5_tables.specs.TagSets.{is_one_of}
use Rattle.h5_clean.specs.Policies.{Rules}
use Rattle.h5_clean.specs.DefaultPolicy.{Keeping}
use Rattle.h5_clean.specs.Urls.{is_fragment, is_url_name, scheme_of}
use Rattle.h5_clean.specs.declared.place.Around.{Around}

-- elements; elements that are dropped with their content; attributes of any element, by their names and by prefixes of
-- them, and of some elements; prefixes of classes; attributes that hold a URL in addition to those that always do;
-- schemes of URLs; permission of relative URLs; the `rel` of each `a`; the prefix of ids; what may be open around the
-- text; and the maximal depth
pub record Table : Type 0 where
  pub elements : List (List ℕ)
  pub dropped : List (List ℕ)
  pub attributes : List (List ℕ)
  pub attribute_prefixes : List (List ℕ)
  pub attributes_of : List Keeping
  pub classes : List (List ℕ)
  pub urls : List (List ℕ)
  pub schemes : List (List ℕ)
  pub relative : Bool
  pub rel : Option (List ℕ)
  pub prefix : Option (List ℕ)
  pub around : Around
  pub depth : ℕ

-- an attribute is listed for an element
abbrev pub is_listed_for : (element attribute : List ℕ) → Keeping → Bool
is_listed_for element attribute k = is_same_text k.element element && is_one_of k.attributes attribute

abbrev pub is_listed : Table → (element attribute : List ℕ) → Bool
is_listed t element attribute =
    is_one_of t.attributes attribute
    || (list_any (starts_with nat_eq attribute) t.attribute_prefixes || list_any (is_listed_for element attribute) t.attributes_of)

abbrev pub holds_url : Table → (attribute : List ℕ) → Bool
holds_url t attribute = is_url_name attribute || is_one_of t.urls attribute

-- a relative URL, if these are allowed, or one with a listed scheme
abbrev pub leads_by : (relative : Bool) (schemes : List (List ℕ)) → Option (List ℕ) → Bool
leads_by relative schemes None = relative
leads_by relative schemes (Some scheme) = is_one_of schemes scheme

-- such a URL, or one of a place in the page
abbrev pub leads_well : (relative : Bool) (schemes : List (List ℕ)) → (url : List ℕ) → Bool
leads_well relative schemes url = if is_fragment url then true else leads_by relative schemes (scheme_of url)

-- the prefixes of classes, if there are any
abbrev pub class_rule : List (List ℕ) → Option (List (List ℕ))
class_rule [] = None
class_rule (prefix ∷ prefixes) = Some (prefix ∷ prefixes)

-- a class is left, if the attribute has classes and each is left or dropped by itself
abbrev pub has_classes : Table → (attribute value : List ℕ) → Bool
has_classes t attribute [] = not (is_same_text attribute (codes "class") && is_some (class_rule t.classes))
has_classes t attribute (b ∷ value) = true

-- the attribute is listed, a class of it is left, and its URL is allowed, if it has classes or holds a URL
abbrev pub keeps_listed : Table → (element attribute value : List ℕ) → Bool
keeps_listed t element attribute value =
    is_listed t element attribute && (has_classes t attribute value && (not (holds_url t attribute) || leads_well t.relative t.schemes value))

abbrev pub table_rules : Table → Rules
table_rules t = record {
  names = is_one_of t.elements;
  drops = is_one_of t.dropped;
  keeps = keeps_listed t;
  rel = t.rel;
  prefix = t.prefix;
  classes = class_rule t.classes;
  around = t.around;
  depth = t.depth;
}

-- each URL in an attribute of HTML is relative, if these are allowed, or of a place in the page, or has a listed scheme
abbrev pub LeadWell : Table → List AttributeText → Type 0
LeadWell t [] = Unit {0}
LeadWell t (a ∷ attrs) = (is_url_name a.name.local ≡ true → leads_well t.relative t.schemes a.value ≡ true) × LeadWell t attrs

-- The list of active formatting elements, with the newest entry first (HTML standard, section 13.2.4.3, "The list of
-- active formatting elements"; there the newest is the last).
use Rattle.std.specs.Prelude.{ℕ, suc, ◌==◌, nat_le, Bool, true, false, ◌&&◌, if◌then◌else◌, List, [], ◌∷◌, ◌++◌}
use Rattle.std.specs.List.{list_all}
use Rattle.h5_names.specs.AttributeText.{AttributeText, is_same_text}
use Rattle.h5_token.specs.Occurrences.{occurrences}
use Rattle.h5_token.specs.TokenText.{TagText}
use Rattle.h5_token.specs.declared.tag.TagKind.{TagKind}
use Rattle.h5_token.specs.declared.tag.TagKind.TheVariants.{StartTag, EndTag}
use Rattle.h5_builder_spec.specs.stack.Order.{is_in}

-- a marker, or an element with the tag for which it was created
pub data Entry : Type 0 where
  MarkerEntry : Entry
  ElementEntry : (node : ℕ) → (tag : TagText) → Entry

-- the elements that are listed
abbrev pub nodes_of : List Entry → List ℕ
nodes_of [] = []
nodes_of (MarkerEntry ∷ l) = nodes_of l
nodes_of (ElementEntry n t ∷ l) = n ∷ nodes_of l

-- a condition holds for each listed element with its tag
abbrev pub EachEntry : (ℕ → TagText → Type 0) → List Entry → Type 0
EachEntry P [] = Unit {0}
EachEntry P (MarkerEntry ∷ l) = EachEntry P l
EachEntry P (ElementEntry n t ∷ l) = P n t × EachEntry P l

-- the entries after the last marker
abbrev pub after_marker : List Entry → List Entry
after_marker [] = []
after_marker (MarkerEntry ∷ l) = []
after_marker (ElementEntry n t ∷ l) = ElementEntry n t ∷ after_marker l

-- "clear the list of active formatting elements up to the last marker", including the marker
abbrev pub clear_to_marker : List Entry → List Entry
clear_to_marker [] = []
clear_to_marker (MarkerEntry ∷ l) = l
clear_to_marker (ElementEntry n t ∷ l) = clear_to_marker l

-- the list without the entry of an element
abbrev pub without_entry : ℕ → List Entry → List Entry
without_entry m [] = []
without_entry m (MarkerEntry ∷ l) = MarkerEntry ∷ without_entry m l
without_entry m (ElementEntry n t ∷ l) = if n == m then l else ElementEntry n t ∷ without_entry m l

-- "the same tag name, namespace, and attributes": kind and name are equal, and the attributes in some order
abbrev pub is_same_kind : TagKind → TagKind → Bool
is_same_kind StartTag StartTag = true
is_same_kind EndTag EndTag = true
is_same_kind _ _ = false

abbrev pub has_same_attributes : List AttributeText → List AttributeText → Bool
has_same_attributes xs ys = list_all (λ a. occurrences a xs == occurrences a ys) (xs ++ ys)

unfoldable pub is_alike : TagText → TagText → Bool
is_alike x y = is_same_kind x.kind y.kind && (is_same_text x.name y.name && has_same_attributes x.attrs y.attrs)

-- the number of entries after the last marker that are alike to a tag
abbrev pub count_alike : TagText → List Entry → ℕ
count_alike t [] = 0
count_alike t (MarkerEntry ∷ l) = 0
count_alike t (ElementEntry n u ∷ l) = if is_alike t u then suc (count_alike t l) else count_alike t l

-- the list without the earliest entry after the last marker that is alike to a tag
abbrev pub without_earliest : TagText → List Entry → List Entry
without_earliest t [] = []
without_earliest t (MarkerEntry ∷ l) = MarkerEntry ∷ l
without_earliest t (ElementEntry n u ∷ l) =
    if count_alike t l == 0 then (if is_alike t u then l else ElementEntry n u ∷ l) else ElementEntry n u ∷ without_earliest t l

-- "push onto the list of active formatting elements": if three entries are alike already, the earliest of them is
-- removed
abbrev pub push_formatting : ℕ → TagText → List Entry → List Entry
push_formatting n t l = ElementEntry n t ∷ (if nat_le 3 (count_alike t l) then without_earliest t l else l)

-- the entries that "reconstruct the active formatting elements" creates new elements for: from the newest on, up to the
-- first one that is a marker or has an open element (`s`: the open elements)
abbrev pub closed_front : List ℕ → List Entry → List Entry
closed_front s [] = []
closed_front s (MarkerEntry ∷ l) = []
closed_front s (ElementEntry n t ∷ l) = if is_in n s then [] else ElementEntry n t ∷ closed_front s l

-- the entries that keep their elements
abbrev pub open_rest : List ℕ → List Entry → List Entry
open_rest s [] = []
open_rest s (MarkerEntry ∷ l) = MarkerEntry ∷ l
open_rest s (ElementEntry n t ∷ l) = if is_in n s then ElementEntry n t ∷ l else open_rest s l

-- entries with new elements, the newest first in both lists
abbrev pub made_anew : List ℕ → List Entry → List Entry
made_anew [] l = []
made_anew (m ∷ ms) [] = []
made_anew (m ∷ ms) (MarkerEntry ∷ l) = []
made_anew (m ∷ ms) (ElementEntry n t ∷ l) = ElementEntry m t ∷ made_anew ms l

-- the list after reconstructing; the open elements are then `fresh ++ s`
abbrev pub reconstructed : List ℕ → List ℕ → List Entry → List Entry
reconstructed fresh s l = made_anew fresh (closed_front s l) ++ open_rest s l

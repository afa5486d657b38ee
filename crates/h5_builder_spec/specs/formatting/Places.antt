-- The places in stack and list that the standard's algorithms look for, both with the newest first: each is a list that
-- is split there (HTML standard, sections 13.2.4.3 and 13.2.6.4.7).
use Rattle.std.specs.Prelude.{◌≡◌, ℕ, Bool, true, false, List, [], ◌∷◌, ◌++◌}
use Rattle.std.specs.List.{list_any}
use Rattle.h5_token.specs.TokenText.{IsAlike, TagText}
use Rattle.h5_builder_spec.specs.formatting.Adoption.{FormattingElement, FurthestBlock}
use Rattle.h5_builder_spec.specs.formatting.FormattingList.{EachEntry, ElementEntry, Entry, MarkerEntry, count_alike, nodes_of}
use Rattle.h5_builder_spec.specs.stack.Order.{IsIn}

-- no entry is a marker
abbrev pub NoMarker : List Entry → Type 0
NoMarker [] = Unit {0}
NoMarker (MarkerEntry ∷ l) = ⊥
NoMarker (ElementEntry n t ∷ l) = NoMarker l

-- the earliest entry after the last marker that is alike to a tag, and the list without it
pub record EarliestGoes (t : TagText) (l left : List Entry) : Type 0 where
  pub newer : List Entry
  pub node : ℕ
  pub tag : TagText
  pub older : List Entry
  pub cut : l ≡ newer ++ ElementEntry node tag ∷ older
  pub gone : left ≡ newer ++ older
  pub unmarked : NoMarker newer
  pub alike : IsAlike t tag
  pub is_earliest : count_alike t older ≡ 0

-- the first entry, if there is one, is a marker or has an open element
abbrev pub StartsOpen : List ℕ → List Entry → Type 0
StartsOpen s [] = Unit {0}
StartsOpen s (MarkerEntry ∷ l) = Unit {0}
StartsOpen s (ElementEntry n t ∷ l) = IsIn n s

-- the entries that get new elements: none is a marker or has an open element, and the next one, if there is one, is or
-- has
pub record RewindsTo (s : List ℕ) (l front rest : List Entry) : Type 0 where
  pub cut : l ≡ front ++ rest
  pub unmarked : NoMarker front
  pub none_open : (n : ℕ) → IsIn n (nodes_of front) → ¬ (IsIn n s)
  pub stops : StartsOpen s rest

-- the formatting element: after the last marker, of the name, and no newer one has the name
pub record NewestNamedAt (name : List ℕ) (f : FormattingElement) (l : List Entry) : Type 0 where
  pub newer : List Entry
  pub older : List Entry
  pub cut : l ≡ newer ++ ElementEntry f.node f.tag ∷ older
  pub unmarked : NoMarker newer
  pub named : f.tag.name ≡ name
  pub is_newest : EachEntry (λ n t. ¬ (t.name ≡ name)) newer

-- the furthest block: special, and newer than the formatting element; no older such element is special
pub record FurthestBlockAt (special : ℕ → Bool) (k : FurthestBlock) (s : List ℕ) : Type 0 where
  pub cut : s ≡ k.newer ++ k.block ∷ k.between
  pub is_special : special k.block ≡ true
  pub is_furthest : list_any special k.between ≡ false

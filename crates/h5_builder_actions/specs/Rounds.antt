-- A round of the adoption agency, by places of the stack and of the list.
use Rattle.std.specs.Prelude.{◌≡◌, ℕ, ◌+◌, Bool, if◌then◌else◌, List, ◌∷◌, ◌++◌, length, Some}
use Rattle.std.specs.List.{list_any}
use Rattle.h5_token.specs.TokenText.{TagText}
use Rattle.h5_interface.specs.SinkChoices.{SinkChoices}
use Rattle.h5_tables.specs.TagSets.{is_default_scope, is_special}
use Rattle.h5_builder_spec.specs.formatting.Adoption.{FormattingElement, FurthestBlock, furthest_block, newer_than, newest_named, older_than}
use Rattle.h5_builder_spec.specs.formatting.FormattingList.{ElementEntry, Entry}
use Rattle.h5_builder_spec.specs.formatting.AdoptionAgency.{MayAdopt, adopt_at}
use Rattle.h5_builder_spec.specs.inner.Kept.{HasHtmlRoot}
use Rattle.h5_builder_spec.specs.World.{World, name_in}
use Rattle.h5_builder_state.specs.OpenPlaces.{IsOpenAt}

-- the premises of a round for a name: the formatting element and its furthest block are at these places of the stack,
-- and its entry is at this place of the list
pub record IsRound (name : List ℕ) (f : FormattingElement) (k : FurthestBlock) (place at block : ℕ) (w : World) : Type 0 where
  pub may : MayAdopt name f k w
  pub ready : HasHtmlRoot w
  pub open_at : place ≡ length (older_than f.node w.stack)
  pub newer : List Entry
  pub older : List Entry
  pub cut : w.formatting ≡ newer ++ ElementEntry f.node f.tag ∷ older
  pub listed_at : at ≡ length older
  pub block_at : block ≡ place + 1 + length k.between

-- for some name
pub record SomeRound (place at block : ℕ) (w : World) : Type 0 where
  pub name : List ℕ
  pub element : FormattingElement
  pub furthest : FurthestBlock
  pub round : IsRound name element furthest place at block w

-- an element's entry is at a place of the list
pub record IsElementEntry (at : ℕ) (w : World) : Type 0 where
  pub node : ℕ
  pub tag : TagText
  pub newer : List Entry
  pub older : List Entry
  pub cut : w.formatting ≡ newer ++ ElementEntry node tag ∷ older
  pub here : at ≡ length older

-- the formatting element of a name is listed at this place
pub record IsFound (name : List ℕ) (f : FormattingElement) (at : ℕ) (w : World) : Type 0 where
  pub newest : newest_named name w.formatting ≡ Some f
  pub ready : HasHtmlRoot w
  pub newer : List Entry
  pub older : List Entry
  pub cut : w.formatting ≡ newer ++ ElementEntry f.node f.tag ∷ older
  pub listed_at : at ≡ length older

pub record SomeFound (node at : ℕ) (w : World) : Type 0 where
  pub name : List ℕ
  pub element : FormattingElement
  pub found : IsFound name element at w
  pub same : element.node ≡ node

-- the formatting element of some name is listed at the second place, and open at the first
pub record SomeOpen (place at : ℕ) (w : World) : Type 0 where
  pub name : List ℕ
  pub element : FormattingElement
  pub found : IsFound name element at w
  pub open_at : IsOpenAt element.node place w

-- a round that another may follow: the world after all rounds is that after the following ones
abbrev pub then_again : Bool → (World → World) → World → World
then_again more again w = if more then again w else w

-- a round if the formatting element is open
abbrev pub adopt_open : (World → World) → SinkChoices → FormattingElement → World → World
adopt_open again choices f w =
    if list_any (λ n. is_default_scope (name_in w.forest n)) (newer_than f.node w.stack) then w
    else adopt_at again choices f (furthest_block (λ n. is_special (name_in w.forest n)) (newer_than f.node w.stack)) w

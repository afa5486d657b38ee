-- Nodes that may be moved, and clones that were created.
use Rattle.std.specs.Prelude.{◌≢◌, ℕ, ◌-◌, List, [], ◌∷◌, ◌++◌, map, take, Option, Some, None}
use Rattle.h5_token.specs.TokenText.{TagText}
use Rattle.h5_interface.specs.Forest.{DocumentNode, Forest, FragmentNode, IsNode, kind_of}
use Rattle.h5_interface.specs.SinkChoices.{SinkChoices}
use Rattle.h5_builder_spec.specs.stack.Root.{IsRootOpen}
use Rattle.h5_builder_spec.specs.formatting.Adoption.{FormattingElement, FurthestBlock}
use Rattle.h5_builder_spec.specs.stack.Order.{Before}
use Rattle.h5_builder_spec.specs.formatting.AdoptionAgency.{IsLoose, MayAdopt, Nest, wrapped}
use Rattle.h5_builder_spec.specs.World.{World, names_of}
use Rattle.h5_builder_state.specs.View.{stack_under}
use Rattle.h5_builder_state.specs.declared.state.State.{State}
use Rattle.h5_builder_state.specs.OpenPlaces.{IsOpenAt}
use Rattle.h5_builder_actions.specs.declared.clones.Clones.{Clones}

-- a node that may get another parent
pub record MayHang (f : Forest) (n : ℕ) : Type 0 where
  pub is_node : IsNode f n
  pub no_document : kind_of f n ≢ Some DocumentNode
  pub no_fragment : kind_of f n ≢ Some FragmentNode

-- the open elements from the first place up to the second, without that one, the newest first
abbrev pub open_between : {H : Type 0} → (H → ℕ) → State H → (first block : ℕ) → List ℕ
open_between node state first block = take (block - first) (stack_under node state block)

-- the clones that were created, and the forest after that
abbrev pub nest_of : {H : Type 0} → (H → ℕ) → Forest → Clones H → Nest
nest_of node f clones = record { forest = f; clones = map node clones.made.items; outermost = node clones.outermost }

-- clones before those of a nest
abbrev pub with_clones : List ℕ → Nest → Nest
with_clones made n = record { forest = n.forest; clones = made ++ n.clones; outermost = n.outermost }

-- one more clone, for this tag, around the others
abbrev pub with_clone : SinkChoices → TagText → Nest → Nest
with_clone choices tag n = record {
  forest = wrapped choices (Some tag) n.outermost n.forest;
  clones = n.clones ++ choices.fresh n.forest ∷ [];
  outermost = choices.fresh n.forest;
}

abbrev pub with_clone_by : SinkChoices → Option TagText → Nest → Nest
with_clone_by choices None n = n
with_clone_by choices (Some tag) n = with_clone choices tag n

-- a node is loose around an open element that isn't the root
pub record IsLooseOver (w : World) (last : ℕ) : Type 0 where
  pub block : ℕ
  pub older : ℕ
  pub under : Before w.stack block older
  pub loose : IsLoose w.forest w.stack block last

-- the furthest block with its clones may be moved; the formatting element is at this place
pub record MayMove (place last : ℕ) (w : World) : Type 0 where
  pub name : List ℕ
  pub element : FormattingElement
  pub furthest : FurthestBlock
  pub may : MayAdopt name element furthest w
  pub loose : IsLoose w.forest w.stack furthest.block last
  pub root : IsRootOpen (names_of w)
  pub at : IsOpenAt element.node place w

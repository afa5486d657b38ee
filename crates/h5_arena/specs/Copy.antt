-- A node and its copy (DOM standard, section 4.4, "clone a node", with its subtree; HTML standard, sections 4.12.1 and 4.12.3, the
-- cloning steps of a script and of a template).
use Rattle.std.specs.Prelude.{◌≡◌, ◌≢◌, ◌<◌, ◌≤◌, ℕ, List, [], ◌∷◌, Option, None, Some}
use Prim.Native.Nat.{zero, suc}
use Rattle.h5_interface.specs.Forest.{Child, ChildNode, ChildText, DocumentNode, Forest, Node, kind_of, parent_of}
use Rattle.h5_arena.specs.declared.fault.EditError.{EditError}
use Rattle.h5_arena.specs.declared.fault.EditError.TheVariants.{IsDocument, Memory}

-- the reason that a node is not copied: it is the document. An allocation can fail only if it isn't
abbrev pub KeepsFromCopy : Forest → ℕ → EditError → Type 0
KeepsFromCopy f n IsDocument = kind_of f n ≡ Some DocumentNode
KeepsFromCopy f n Memory = kind_of f n ≢ Some DocumentNode
KeepsFromCopy f n fault = ⊥

-- each node from an index on, but the first of them, is directly below one of them that comes before it
abbrev pub AreBelowFirst : Forest → (first : ℕ) → (bound : ℕ) → Type 0
AreBelowFirst f first bound = (n : ℕ) → first < n → n < bound → (p : ℕ) × (parent_of f n ≡ Some p) × (first ≤ p) × (p < n)

-- both are present and related, or both are missing
abbrev pub ForBoth : {A : Type 0} → (A → A → Type 0) → Option A → Option A → Type 0
ForBoth same None None = Unit {0}
ForBoth same (Some x) (Some y) = same x y
ForBoth same x y = ⊥

-- one by one, the texts are equal, and the nodes correspond
abbrev pub StandFor : (stands : ℕ → ℕ → Type 0) → List Child → List Child → Type 0
StandFor stands [] [] = Unit {0}
StandFor stands (ChildText t ∷ cs) (ChildText u ∷ ds) = (u ≡ t) × StandFor stands cs ds
StandFor stands (ChildNode n ∷ cs) (ChildNode m ∷ ds) = stands n m × StandFor stands cs ds
StandFor stands cs ds = ⊥

-- a copy has the data of its original, and the nodes below it correspond to those below the original. It has no form owner
pub record IsLike (stands : ℕ → ℕ → Type 0) (original copy : Node) : Type 0 where
  pub kind : copy.kind ≡ original.kind
  pub attrs : copy.attrs ≡ original.attrs
  pub flags : copy.marks.flags ≡ original.marks.flags
  pub started : copy.marks.started ≡ original.marks.started
  pub form : copy.marks.form ≡ None
  pub children : StandFor stands original.children copy.children
  pub contents : ForBoth stands original.contents copy.contents

-- a node of g is a copy of one of f, down to this number of levels
abbrev pub IsCopyWithin : ℕ → (f g : Forest) → ℕ → ℕ → Type 0
IsCopyWithin zero f g n m = Unit {0}
IsCopyWithin (suc levels) f g n m = ForBoth (IsLike (IsCopyWithin levels f g)) (f.node n) (g.node m)

-- at all levels
abbrev pub IsCopyOf : (f g : Forest) → ℕ → ℕ → Type 0
IsCopyOf f g n m = (levels : ℕ) → IsCopyWithin levels f g n m

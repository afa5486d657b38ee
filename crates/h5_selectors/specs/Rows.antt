-- Rows: a node and the elements below it, with links between the rows.
use Rattle.std.specs.Prelude.{◌≡◌, ◌≢◌, ◌<◌, ℕ, ◌+◌, All, List, [], ◌∷◌, ◌++◌, Option, None, Some, IfSome, get_or, length, map, slice_get, true}
use Rattle.std.specs.List.{flat_map}
use Prim.Native.Nat.{zero, suc}
use Rattle.h5_interface.specs.Forest.{Forest}
use Rattle.h5_arena.specs.Kin.{tree_parent}
use Rattle.h5_tree.specs.Elements.{before, behind, below, child_elements}
use Rattle.h5_tree.specs.Shape.{IsShaped}
use Rattle.h5_selectors.specs.Query.{Context}
use Rattle.h5_selectors.specs.declared.rows.Links.{Links}
use Rattle.h5_selectors.specs.declared.rows.Rows.{Rows}

-- an element, and those below it
abbrev pub with_below : Forest → ℕ → List ℕ
with_below f n = n ∷ below f n

-- in a forest, with these nodes in the rows
module _ (f : Forest) (ns : List ℕ) where
  abbrev pub node_in : ℕ → ℕ
  node_in row = get_or ns row 0

  -- there is no sibling element before a row's element, or the last one is in this earlier row
  abbrev pub IsBefore : (row : ℕ) → Option ℕ → Type 0
  IsBefore k None = before f (node_in k) ≡ []
  IsBefore k (Some q) = (0 < q) × (q < k) × (before f (node_in k) ≡ before f (node_in q) ++ node_in q ∷ [])

  -- there is no sibling element after it, or the first one is in this later row
  abbrev pub IsBehind : (row : ℕ) → Option ℕ → Type 0
  IsBehind k None = behind f (node_in k) ≡ []
  IsBehind k (Some r) = (k < r) × (r < length ns) × (behind f (node_in k) ≡ node_in r ∷ behind f (node_in r))

  -- it has no child element, or the first one is in this later row
  abbrev pub IsFirst : (row : ℕ) → Option ℕ → Type 0
  IsFirst k None = child_elements f (node_in k) ≡ []
  IsFirst k (Some c) = (k < c) × (c < length ns) × (child_elements f (node_in k) ≡ node_in c ∷ behind f (node_in c))

  -- the rows of the parent, and of the siblings next to it
  pub record AreBeside (row parent : ℕ) (previous next : Option ℕ) : Type 0 where
    pub earlier : parent < row
    pub parent_is : tree_parent f (node_in row) ≡ Some (node_in parent)
    pub previous_is : IsBefore row previous
    pub next_is : IsBehind row next

  -- the row of the first child; everything below an element is in its child elements or below them
  pub record AreBelow (row : ℕ) (first : Option ℕ) : Type 0 where
    pub first_is : IsFirst row first
    pub below_are : below f (node_in row) ≡ flat_map (with_below f) (child_elements f (node_in row))

  -- the links of a row are right
  pub record IsLinked (row : ℕ) (links : Links) : Type 0 where
    pub beside : IfSome links.parent (λ p. AreBeside row p links.previous links.next)
    pub children : links.knows_children ≡ true → AreBelow row links.first
    pub end : row < links.end

  -- all links of a row are known, except those of the first row to a parent and siblings
  pub record IsKnown (row : ℕ) (links : Links) : Type 0 where
    pub children : AreBelow row links.first
    pub beside : 0 < row → (p : ℕ) × (links.parent ≡ Some p) × AreBeside row p links.previous links.next

  abbrev pub AreLinked : List Links → Type 0
  AreLinked all = (k : ℕ) (d : Links) → k < length all → IsLinked k (get_or all k d)

-- rows in increasing order
abbrev pub AreRising : List ℕ → Type 0
AreRising rows = (i : ℕ) → i + 1 < length rows → get_or rows i 0 < get_or rows (i + 1) 0

-- rows after a row, and below a number of rows
abbrev pub AreWithin : (row count : ℕ) → List ℕ → Type 0
AreWithin row count = All (λ r. (row < r) × (r < count))

-- the entries before and after an index
abbrev pub entry_before : List ℕ → ℕ → Option ℕ
entry_before rows zero = None
entry_before rows (suc i) = Some (get_or rows i 0)

abbrev pub entry_behind : List ℕ → ℕ → Option ℕ
entry_behind rows i = slice_get rows (i + 1)

-- these are the rows of a row's child elements
abbrev pub AreChildRows : Forest → List ℕ → (parent : ℕ) → List ℕ → Type 0
AreChildRows f ns parent rows = (i : ℕ) → i < length rows → AreBeside f ns (get_or rows i 0) parent (entry_before rows i) (entry_behind rows i)

module _ {N : Type 0} (place : N → ℕ) where
  -- the nodes of rows
  abbrev pub nodes_in : Rows N → List ℕ
  nodes_in rows = map place rows.ids.items

  -- the node of a row
  abbrev pub node_of : Rows N → ℕ → ℕ
  node_of rows row = get_or (nodes_in rows) row 0

  -- rows on which a query can be tested: all links are known, except those of the first row to a parent and siblings
  pub record AreRows (c : Context) (rows : Rows N) : Type 0 where
    pub shape : IsShaped c.forest
    pub count : length rows.links.items ≡ length rows.ids.items
    pub links : AreLinked c.forest (nodes_in rows) rows.links.items
    pub parents : (k : ℕ) (d : Links) → 0 < k → k < length rows.links.items → (get_or rows.links.items k d).parent ≢ None
    pub children : (k : ℕ) (d : Links) → k < length rows.links.items → (get_or rows.links.items k d).knows_children ≡ true

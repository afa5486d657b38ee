-- Tables: for each row, the result of a test on its node.
use Rattle.std.specs.Prelude.{◌≡◌, ◌<◌, ℕ, ◌+◌, ◌&&◌, ◌||◌, Bool, true, false, List, [], ◌∷◌, ◌++◌, Option, None, Some, cond, get_or, length, nat_lt}
use Rattle.std.specs.List.{filter, list_any}
use Rattle.h5_interface.specs.Forest.{Forest}
use Rattle.h5_arena.specs.Kin as kin
use Rattle.h5_selectors.specs.AnPlusB.{is_index}
use Rattle.h5_tree.specs.Elements.{before, behind, elements, is_element, is_same_type}
use Rattle.h5_selectors.specs.Query.{Context, holds_by, seen_by}
use Rattle.h5_selectors.specs.Rows.{node_of, with_below}
use Rattle.h5_selectors.specs.Ways.{counted}
use Rattle.h5_selectors.specs.declared.formula.AnPlusB.{AnPlusB}
use Rattle.h5_selectors.specs.declared.formula.Formula.{Formula, And', Leads'}
use Rattle.h5_selectors.specs.declared.formula.Side.{Side}
use Rattle.h5_selectors.specs.declared.formula.Side.TheVariants.{First, Last}
use Rattle.h5_selectors.specs.declared.formula.Way.{Way}
use Rattle.h5_selectors.specs.declared.formula.Way.TheVariants.{Ancestor, Below, Child, Earlier, Later, Next, Parent, Previous}
use Rattle.h5_selectors.specs.declared.rows.Links.{Links}
use Rattle.h5_selectors.specs.declared.rows.Rows.{Rows}

module _ {N : Type 0} (place : N → ℕ) where
  -- a table has the result of a test on each row's node
  abbrev pub Tells : (test : ℕ → Bool) → Rows N → (table : List Bool) → Type 0
  Tells test rows table = (k : ℕ) → k < length rows.ids.items → get_or table k false ≡ test (node_of place rows k)

  -- a table has the result of a test for the rows of a set, and false for others
  abbrev pub Narrows : (test : ℕ → Bool) → Rows N → (set table : List Bool) → Type 0
  Narrows test rows set table = (k : ℕ) → k < length rows.ids.items → get_or table k false ≡ (get_or set k false && test (node_of place rows k))

-- the conditions after the combinators along a condition, the nearest first
abbrev pub stations_of : Formula → List Formula
stations_of (And' p one q other) = stations_of other
stations_of (Leads' way p inner) = inner ∷ stations_of inner
stations_of formula = []

-- a table has the result of the first of some conditions on each row's node, if there is one
abbrev pub IsTableOf : {N : Type 0} → (N → ℕ) → Context → Rows N → List Formula → (table : List Bool) → Type 0
IsTableOf place c rows [] table = Unit {0}
IsTableOf place c rows (formula ∷ further) table = (length table ≡ length rows.ids.items) × Tells place (holds_by c formula) rows table

-- the entry of a linked row
abbrev pub told : List Bool → Option ℕ → Bool
told table None = false
told table (Some row) = get_or table row false

-- the link to the row that is looked up for a relation
abbrev pub link_to : Way → Links → Option ℕ
link_to Parent links = links.parent
link_to Ancestor links = links.parent
link_to Previous links = links.previous
link_to Earlier links = links.previous
link_to Next links = links.next
link_to Later links = links.next
link_to Child links = links.first
link_to Below links = links.first

-- true if a relation may have the first row as its target
abbrev pub leads_up : Way → Bool
leads_up Parent = true
leads_up Ancestor = true
leads_up way = false

-- true if the first row can have elements outside the rows in a relation
abbrev pub leads_out : Way → Bool
leads_out Child = false
leads_out Below = false
leads_out way = true

-- the entry to look up for a relation: true if a test passes for that node, or for one further along
module _ (f : Forest) (test : ℕ → Bool) where
  abbrev pub there : Way → ℕ → Bool
  there Parent n = is_element f n && test n
  there Ancestor n = list_any test (elements f (n ∷ kin.ancestors f n))
  there Previous n = test n
  there Earlier n = list_any test (before f n ++ n ∷ [])
  there Next n = test n
  there Later n = list_any test (n ∷ behind f n)
  there Child n = list_any test (n ∷ behind f n)
  there Below n = list_any (λ m. list_any test (with_below f m)) (n ∷ behind f n)

-- the number of siblings with a node's name, before or after it
abbrev pub count_alike : Forest → Side → ℕ → ℕ
count_alike f side n = length (filter (is_same_type f n) (counted side f n))

module _ {N : Type 0} (place : N → ℕ) (f : Forest) where
  -- a table with the entry to look up for each row that may be the target of a relation
  abbrev pub TellsAhead : (test : ℕ → Bool) → Way → Rows N → (table : List Bool) → Type 0
  TellsAhead test way rows table = (k : ℕ) → (nat_lt 0 k || leads_up way) ≡ true → k < length rows.ids.items → get_or table k false ≡ there f test way (node_of place rows k)

  -- the number of siblings that pass, before or after the nodes of all rows except the first
  abbrev pub Counts : (test : ℕ → Bool) → Side → Rows N → (counts : List ℕ) → Type 0
  Counts test side rows counts = (k : ℕ) → 0 < k → k < length rows.ids.items → get_or counts k 0 ≡ length (filter test (counted side f (node_of place rows k)))

  -- the nearest sibling with the name of a row's node, before or after it: its count is less by 1
  abbrev pub IsAlikeBefore : Rows N → (row : ℕ) → Option ℕ → Type 0
  IsAlikeBefore rows k None = count_alike f First (node_of place rows k) ≡ 0
  IsAlikeBefore rows k (Some q) = (0 < q) × (q < k) × (count_alike f First (node_of place rows k) ≡ count_alike f First (node_of place rows q) + 1)

  abbrev pub IsAlikeBehind : Rows N → (row : ℕ) → Option ℕ → Type 0
  IsAlikeBehind rows k None = count_alike f Last (node_of place rows k) ≡ 0
  IsAlikeBehind rows k (Some r) = (k < r) × (r < length rows.ids.items) × (count_alike f Last (node_of place rows k) ≡ count_alike f Last (node_of place rows r) + 1)

  -- these counts for all rows except the first
  abbrev pub CountsAlike : Side → Rows N → (counts : List ℕ) → Type 0
  CountsAlike side rows counts = (k : ℕ) → 0 < k → k < length rows.ids.items → get_or counts k 0 ≡ count_alike f side (node_of place rows k)

-- the count of a linked row, plus 1 if that row is in a set
abbrev pub counted_at : List ℕ → List Bool → Option ℕ → ℕ
counted_at counts set None = 0
counted_at counts set (Some row) = get_or counts row 0 + cond (get_or set row false) 1 0

-- true if an index among siblings is one of these
abbrev pub is_nth_by : Context → AnPlusB → Side → Formula → ℕ → Bool
is_nth_by c indices side of n = holds_by c of n && is_index indices (length (filter (holds_by c of) (counted side (seen_by c) n)) + 1)

abbrev pub one_more : List ℕ → Option ℕ → ℕ
one_more counts None = 0
one_more counts (Some row) = get_or counts row 0 + 1

-- One pass of the adoption agency over the stack of open elements and the list of active formatting elements,
-- both with the newest first (HTML standard, section 13.2.6.4.7, "adoption agency algorithm").
use Rattle.std.specs.Prelude.{◌≡◌, ℕ, ◌==◌, Bool, ◌⊎◌, if◌then◌else◌, List, [], ◌∷◌, ◌++◌, filter, take, Option, Some, None}
use Rattle.h5_names.specs.AttributeText.{is_same_text}
use Rattle.h5_token.specs.TokenText.{TagText}
use Rattle.h5_builder_spec.specs.formatting.FormattingList.{Entry, MarkerEntry, ElementEntry, nodes_of, without_entry}
use Rattle.h5_builder_spec.specs.stack.Order.{first_or, is_in}

-- the formatting element: of the entries after the last marker whose tag has the name, the newest
pub record FormattingElement : Type 0 where
  pub node : ℕ
  pub tag : TagText

abbrev pub newest_named : List ℕ → List Entry → Option FormattingElement
newest_named name [] = None
newest_named name (MarkerEntry ∷ l) = None
newest_named name (ElementEntry n t ∷ l) = if is_same_text t.name name then Some (record { node = n; tag = t }) else newest_named name l

-- the open elements that are newer than one; those that are older; and all others
abbrev pub newer_than : ℕ → List ℕ → List ℕ
newer_than f [] = []
newer_than f (n ∷ s) = if n == f then [] else n ∷ newer_than f s

abbrev pub older_than : ℕ → List ℕ → List ℕ
older_than f [] = []
older_than f (n ∷ s) = if n == f then s else older_than f s

abbrev pub without_node : ℕ → List ℕ → List ℕ
without_node f [] = []
without_node f (n ∷ s) = if n == f then s else n ∷ without_node f s

-- the furthest block: of the elements that are newer than the formatting element, the oldest special one; with the
-- elements that are newer than it, and those between the two
pub record FurthestBlock : Type 0 where
  pub newer : List ℕ
  pub block : ℕ
  pub between : List ℕ

abbrev pub block_or : ℕ → Bool → List ℕ → Option FurthestBlock → Option FurthestBlock
block_or n is_special s (Some k) = Some (record { newer = n ∷ k.newer; block = k.block; between = k.between })
block_or n is_special s None = if is_special then Some (record { newer = []; block = n; between = s }) else None

abbrev pub furthest_block : (ℕ → Bool) → List ℕ → Option FurthestBlock
furthest_block special [] = None
furthest_block special (n ∷ s) = block_or n (special n) s (furthest_block special s)

-- the elements between that are cloned: those that are listed and among the three nearest to the block
abbrev pub to_clone : List Entry → List ℕ → List ℕ
to_clone l between = filter (λ n. is_in n (nodes_of l)) (take 3 between)

-- the replacement of an element: its clone if it has one; none if it is between and has none; otherwise itself
abbrev pub replaced_by : (between originals clones : List ℕ) → ℕ → Option ℕ
replaced_by between [] ys n = if is_in n between then None else Some n
replaced_by between (x ∷ xs) [] n = if is_in n between then None else Some n
replaced_by between (x ∷ xs) (y ∷ ys) n = if n == x then Some y else replaced_by between xs ys n

-- y is the clone of x
abbrev pub IsCloneOf : (originals clones : List ℕ) → (y x : ℕ) → Type 0
IsCloneOf [] ys y x = ⊥
IsCloneOf (a ∷ xs) [] y x = ⊥
IsCloneOf (a ∷ xs) (b ∷ ys) y x = ((x ≡ a) × (y ≡ b)) ⊎ IsCloneOf xs ys y x

-- the list with elements replaced
abbrev pub entry_as : Option ℕ → TagText → List Entry → List Entry
entry_as None t l = l
entry_as (Some m) t l = ElementEntry m t ∷ l

abbrev pub replaced : (ℕ → Option ℕ) → List Entry → List Entry
replaced w [] = []
replaced w (MarkerEntry ∷ l) = MarkerEntry ∷ replaced w l
replaced w (ElementEntry n t ∷ l) = entry_as (w n) t (replaced w l)

-- the list with a new entry, which is the next newer one after that of an element
abbrev pub inserted_after : ℕ → Entry → List Entry → List Entry
inserted_after a e [] = []
inserted_after a e (MarkerEntry ∷ l) = MarkerEntry ∷ inserted_after a e l
inserted_after a e (ElementEntry n t ∷ l) = if n == a then e ∷ ElementEntry n t ∷ l else ElementEntry n t ∷ inserted_after a e l

-- The stack after a round is made from `newer ++ b ∷ between ++ f ∷ older`, where f is the formatting element, b the
-- furthest block, and c the clone of f: clones replace the elements between, f is removed, and c comes right below b,
-- as the next newer element.
abbrev pub round_stack : List ℕ → ℕ → ℕ → List ℕ → List ℕ → List ℕ
round_stack newer c b clones older = newer ++ c ∷ b ∷ (clones ++ older)

-- the list after a round: the same elements are replaced, and c comes after the newest of the clones, or takes the
-- place of f
abbrev pub round_list : ℕ → TagText → List ℕ → List ℕ → ℕ → List Entry → List Entry
round_list f t between clones c l =
    without_entry f (inserted_after (first_or f clones) (ElementEntry c t) (replaced (replaced_by between (to_clone l between) clones) l))

-- stack and list
pub record StackAndList : Type 0 where
  pub stack : List ℕ
  pub formatting : List Entry

-- One pass, if the formatting element is open and in scope. Without a furthest block the elements up to and including
-- the formatting element are popped, and its entry is removed; otherwise it is a round as above. Given are a clone of
-- each element that needs one, in the stack's order, and the clone of the formatting element.
abbrev pub clones_wanted_at : Option FurthestBlock → List Entry → List ℕ
clones_wanted_at None l = []
clones_wanted_at (Some k) l = to_clone l k.between

abbrev pub clones_wanted : (ℕ → Bool) → FormattingElement → List ℕ → List Entry → List ℕ
clones_wanted special f s l = clones_wanted_at (furthest_block special (newer_than f.node s)) l

abbrev pub adopted_at : FormattingElement → List ℕ → ℕ → Option FurthestBlock → List ℕ → List Entry → StackAndList
adopted_at f clones c None older l = record { stack = older; formatting = without_entry f.node l }
adopted_at f clones c (Some k) older l = record {
  stack = round_stack k.newer c k.block clones older;
  formatting = round_list f.node f.tag k.between clones c l;
}

abbrev pub adopted : (ℕ → Bool) → FormattingElement → List ℕ → ℕ → List ℕ → List Entry → StackAndList
adopted special f clones c s l = adopted_at f clones c (furthest_block special (newer_than f.node s)) (older_than f.node s) l

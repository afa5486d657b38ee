-- Relations between the elements of a forest (DOM standard, section 1.1, "Trees"). Nodes that aren't elements are ignored.
use Rattle.std.specs.Prelude.{ℕ, Bool, List, [], ◌∷◌}
use Rattle.std.specs.Option.{option_and_then, option_to_list}
use Rattle.h5_interface.specs.Forest.{Forest, kind_of}
use Rattle.h5_arena.specs.Kin as kin
use Rattle.h5_arena.specs.Kin.{tree_parent}
use Rattle.h5_tree.specs.Elements.{before, behind, below, child_elements, elements, is_document}
use Rattle.h5_selectors.specs.declared.formula.Side.{Side}
use Rattle.h5_selectors.specs.declared.formula.Side.TheVariants.{First, Last}
use Rattle.h5_selectors.specs.declared.formula.Way.{Way}
use Rattle.h5_selectors.specs.declared.formula.Way.TheVariants.{Ancestor, Below, Child as ToChild, Earlier, Later, Next, Parent, Previous}

-- the parent, if it is an element
abbrev pub parent_element : Forest → ℕ → List ℕ
parent_element f n = elements f (option_to_list (tree_parent f n))

-- the ancestors that are elements, the nearest first, and the elements below a node, in tree order
abbrev pub ancestors : Forest → ℕ → List ℕ
ancestors f n = elements f (kin.ancestors f n)

abbrev pub first_of : List ℕ → List ℕ
first_of [] = []
first_of (x ∷ xs) = x ∷ []

abbrev pub last_of : List ℕ → List ℕ
last_of [] = []
last_of (x ∷ []) = x ∷ []
last_of (x ∷ y ∷ ys) = last_of (y ∷ ys)

-- the elements in a relation to an element
abbrev pub led : Way → Forest → ℕ → List ℕ
led Parent f n = parent_element f n
led Ancestor f n = ancestors f n
led Previous f n = last_of (before f n)
led Earlier f n = before f n
led ToChild f n = child_elements f n
led Below f n = below f n
led Next f n = first_of (behind f n)
led Later f n = behind f n

-- the siblings that are counted for an index
abbrev pub counted : Side → Forest → ℕ → List ℕ
counted First f n = before f n
counted Last f n = behind f n

abbrev pub is_root : Forest → ℕ → Bool
is_root f n = is_document (option_and_then (kind_of f) (tree_parent f n))

-- The elements that a list of selectors matches and selects.
use Rattle.std.specs.Prelude.{ℕ, ◌&&◌, ◌++◌, Bool, true, false, if◌then◌else◌, List, [], ◌∷◌, Option, None, Some}
use Rattle.std.specs.List.{filter}
use Rattle.h5_interface.specs.Forest.{Forest}
use Rattle.h5_interface.specs.declared.marks.QuirksMode.{QuirksMode}
use Rattle.h5_interface.specs.declared.marks.QuirksMode.TheVariants.{LimitedQuirks, NoQuirks, Quirks}
use Rattle.h5_tree.specs.Elements.{below, elements, is_element}
use Rattle.h5_selectors.specs.Holds.{matches}
use Rattle.h5_selectors.specs.Ways.{ancestors}
use Rattle.h5_selectors.specs.declared.formula.Formula.{Formula}

-- in quirks mode, ids and classes are compared ASCII case-insensitively
abbrev pub is_quirky : QuirksMode → Bool
is_quirky Quirks = true
is_quirky LimitedQuirks = false
is_quirky NoQuirks = false

-- the scope: the node of the query, if it is an element
abbrev pub scope_in : Forest → ℕ → Option ℕ
scope_in f n = if is_element f n then Some n else None

-- true if one of the selectors matches an element
abbrev pub matches_in : Forest → QuirksMode → (scope : ℕ) → List Formula → ℕ → Bool
matches_in f mode scope = matches f (is_quirky mode) (scope_in f scope)

-- true if one of the selectors matches a node, which is its own scope
abbrev pub is_match : Forest → QuirksMode → ℕ → List Formula → Bool
is_match f mode n list = is_element f n && matches_in f mode n list n

-- the elements below a node that one of the selectors matches, in tree order
abbrev pub selected : Forest → QuirksMode → ℕ → List Formula → List ℕ
selected f mode n list = filter (matches_in f mode n list) (below f n)

-- the elements among a node and its ancestors that one of the selectors matches, the nearest first
abbrev pub matching_upwards : Forest → QuirksMode → ℕ → List Formula → List ℕ
matching_upwards f mode n list = filter (matches_in f mode n list) (elements f (n ∷ []) ++ ancestors f n)

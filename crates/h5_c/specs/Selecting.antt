-- The results of the calls with texts of selectors.
use Rattle.std.specs.Prelude.{◌≡◌, ◌<◌, ◌⊎◌, ◌==◌, ◌++◌, ℕ, if◌then◌else◌, List, ◌∷◌, Some, length, map, slice_get, true, unwrap_or}
use Rattle.std.specs.List.{flat_map, slice_split}
use Rattle.std.specs.Str.{chars}
use Rattle.html_tree_builder.specs.Asking.{Asked, asked}
use Rattle.html_tree_builder.specs.Fault.{Outcome, Found, Wrong}
use Rattle.html_tree_builder.specs.Grammar.{selectors_of}
use Rattle.html_tree_builder.specs.Selected.{is_match, matching_upwards, selected}
use Rattle.h5_selectors.specs.declared.fault.SelectorError.{SelectorError}
use Rattle.h5_selectors.specs.declared.fault.SelectorError.TheVariants.{Invalid, Memory}
use Rattle.h5_selectors.specs.declared.fault.SelectorProblem.{SelectorProblem}
use Rattle.h5_selectors.specs.declared.formula.Formula.{Formula}
use Rattle.h5_tree_block.specs.Block as b
use Rattle.h5_tree_block.specs.Packed.{bytes_of_words}
use Rattle.h5_tree_block.specs.Sound as s
use Rattle.h5_tree.specs.BlockForest.{forest_in, mode_in}
use Rattle.h5_c.specs.Status.{HandsOutSuch}

-- a sound block that has a node with this number
pub record HasNode (block : List ℕ) (number : ℕ) : Type 0 where
  pub is_block : b.is_block block ≡ true
  pub is_node : number < b.nodes_in block
  pub is_sound : s.is_sound block ≡ true

module _ (block : List ℕ) (number : ℕ) where
  -- the numbers of the elements below a node that one of these selectors matches, in tree order; and how many these are, before them
  abbrev pub selected_in : List Formula → List ℕ
  selected_in list = selected (forest_in block) (mode_in block) number list

  abbrev pub counted_in : List Formula → List ℕ
  counted_in list = length (selected_in list) ∷ selected_in list

  -- their bytes: for selectors, and for several lists of selectors
  abbrev pub AreSelected : List Formula → (bytes : List ℕ) → Type 0
  AreSelected list bytes = bytes ≡ bytes_of_words (selected_in list)

  abbrev pub AreAllSelected : List (List Formula) → (bytes : List ℕ) → Type 0
  AreAllSelected lists bytes = bytes ≡ bytes_of_words (flat_map counted_in lists)

  -- the number of the first of these elements, or none
  abbrev pub first_in : List Formula → ℕ
  first_in list = unwrap_or (slice_get (selected_in list) 0) b.nothing

  -- the number of the nearest of the node and its ancestors that one of these selectors matches, or none
  abbrev pub nearest_from : List Formula → ℕ
  nearest_from list = unwrap_or (slice_get (matching_upwards (forest_in block) (mode_in block) number list) 0) b.nothing

  -- a text isn't a node of the forest, so that begins at its parent
  abbrev pub start_in : ℕ
  start_in = if b.kind_in block number == 3 then b.parent_in block number else number

  -- 1 if one of these selectors matches the node, else 0
  abbrev pub match_in : List Formula → ℕ
  match_in list = if is_match (forest_in block) (mode_in block) number list then 1 else 0

abbrev pub nearest_in : (block : List ℕ) → (number : ℕ) → List Formula → ℕ
nearest_in block number = nearest_from block (start_in block number)

-- the selectors of a text, and those of several texts, with a NUL between two
abbrev pub asked_in : (text : List ℕ) → Outcome (List Asked)
asked_in text = selectors_of (chars text)

abbrev pub all_asked_in : (texts : List ℕ) → List (Outcome (List Asked))
all_asked_in texts = map asked_in (slice_split (λ byte. byte == 0) texts)

-- a text is valid, or invalid, and one of several texts is invalid
pub record IsValid (outcome : Outcome (List Asked)) : Type 0 where
  pub selector : List Asked
  pub is : outcome ≡ Found selector

pub record IsWrong (outcome : Outcome (List Asked)) : Type 0 where
  pub problem : SelectorProblem
  pub left : ℕ
  pub is : outcome ≡ Wrong problem left

pub record IsOneWrong (outcomes : List (Outcome (List Asked))) : Type 0 where
  pub index : ℕ
  pub outcome : Outcome (List Asked)
  pub is : slice_get outcomes index ≡ Some outcome
  pub is_wrong : IsWrong outcome

-- the elements that the selectors of a text select, and those of several texts
pub record AreAsked (block : List ℕ) (number : ℕ) (outcome : Outcome (List Asked)) (bytes : List ℕ) : Type 0 where
  pub list : List Formula
  pub asks : outcome ≡ Found (map asked list)
  pub are_selected : AreSelected block number list bytes

pub record AreAllAsked (block : List ℕ) (number : ℕ) (outcomes : List (Outcome (List Asked))) (bytes : List ℕ) : Type 0 where
  pub lists : List (List Formula)
  pub ask : outcomes ≡ map (λ list. Found (map asked list)) lists
  pub are_selected : AreAllSelected block number lists bytes

-- the bytes before and after those that the selectors of a text select were appended, after their number
pub record IsPut (block : List ℕ) (number : ℕ) (outcome : Outcome (List Asked)) (before after : List ℕ) : Type 0 where
  pub list : List Formula
  pub asks : outcome ≡ Found (map asked list)
  pub put : after ≡ before ++ bytes_of_words (counted_in block number list)

-- the error of one of several texts; after a failed allocation, nothing is known
abbrev pub IsFaultOfOne : List (Outcome (List Asked)) → SelectorError → Type 0
IsFaultOfOne outcomes (Invalid at problem) = IsOneWrong outcomes
IsFaultOfOne outcomes Memory = Unit {0}

-- a number that the selectors of a text lead to
pub record IsAsked (number_for : List Formula → ℕ) (outcome : Outcome (List Asked)) (number : ℕ) : Type 0 where
  pub list : List Formula
  pub asks : outcome ≡ Found (map asked list)
  pub is : number ≡ number_for list

-- a message is returned, which isn't empty; or an allocation fails
abbrev pub HandsOutMessage : (status count : ℕ) → Type 0
HandsOutMessage status count = (status ≡ 1) ⊎ ((status ≡ 5) × (0 < count))

-- the elements are returned; or the text is invalid, and a message is returned; or an allocation fails
abbrev pub Answers : (block : List ℕ) → (number : ℕ) → Outcome (List Asked) → (status count : ℕ) → Type 0
Answers block number outcome status count =
    HandsOutSuch (AreAsked block number outcome) status count ⊎ (IsWrong outcome × HandsOutMessage status count)

abbrev pub AnswersAll : (block : List ℕ) → (number : ℕ) → List (Outcome (List Asked)) → (status count : ℕ) → Type 0
AnswersAll block number outcomes status count =
    HandsOutSuch (AreAllAsked block number outcomes) status count ⊎ (IsOneWrong outcomes × HandsOutMessage status count)

-- an allocation fails, or the text is invalid
abbrev pub Refuses : Outcome (List Asked) → (status : ℕ) → Type 0
Refuses outcome status = (status ≡ 1) ⊎ (IsWrong outcome × (status ≡ 5))

-- a number is returned; or an allocation fails, or the text is invalid
abbrev pub AnswersNumber : (List Formula → ℕ) → Outcome (List Asked) → (status number : ℕ) → Type 0
AnswersNumber number_for outcome status number = ((status ≡ 0) × IsAsked number_for outcome number) ⊎ Refuses outcome status

-- the text is valid; or it is invalid, and a message is returned; or an allocation fails
abbrev pub Checks : Outcome (List Asked) → (status count : ℕ) → Type 0
Checks outcome status count =
    (status ≡ 1) ⊎ ((status ≡ 0) × IsValid outcome) ⊎ (IsWrong outcome × HandsOutMessage status count)

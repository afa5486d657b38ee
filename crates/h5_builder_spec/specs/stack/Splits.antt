-- What the standard says about the stack of open elements and about closing them, as a list of names that is split in
-- two, with the current node's name first (HTML standard, section 13.2.4.2, "The stack of open elements").
use Rattle.std.specs.Prelude.{◌≡◌, ℕ, Bool, true, false, ◌⊎◌, List, [], ◌∷◌, ◌++◌}
use Rattle.std.specs.List.{list_all, list_any}
use Rattle.h5_names.specs.declared.qualified.QualName.{QualName}
use Rattle.h5_tables.specs.TagSets.{is_html_named}
use Rattle.h5_builder_spec.specs.stack.Scope.{first_passes}

-- "have a particular element in scope": no element that is newer than the newest such element ends the scope
pub record HasInScope (is ends : QualName → Bool) (names : List QualName) : Type 0 where
  pub newer : List QualName
  pub found : QualName
  pub older : List QualName
  pub cut : names ≡ newer ++ found ∷ older
  pub is_such : is found ≡ true
  pub is_newest : list_any is newer ≡ false
  pub none_ends : list_any ends newer ≡ false

-- "while the current node is such an element, pop it": all popped elements are such elements, and the current node
-- then, if any, isn't one
pub record PopsAll (is : QualName → Bool) (names left : List QualName) : Type 0 where
  pub popped : List QualName
  pub cut : names ≡ popped ++ left
  pub are_such : list_all is popped ≡ true
  pub stops : first_passes is left ≡ false

-- "pop elements until such an element has been popped": the newest one is the last that is popped
pub record PopsThrough (is : QualName → Bool) (names left : List QualName) : Type 0 where
  pub newer : List QualName
  pub found : QualName
  pub cut : names ≡ newer ++ found ∷ left
  pub is_such : is found ≡ true
  pub is_newest : list_any is newer ≡ false

-- "clear the stack back to" such an element: no popped element is one, and the current node then, if any, is one
pub record PopsDownTo (is : QualName → Bool) (names left : List QualName) : Type 0 where
  pub popped : List QualName
  pub cut : names ≡ popped ++ left
  pub none_is : list_any is popped ≡ false
  pub stops : (left ≡ []) ⊎ (first_passes is left ≡ true)

-- the second element from the root on is an HTML element of this name
pub record HasSecond (local : List ℕ) (names : List QualName) : Type 0 where
  pub newer : List QualName
  pub second : QualName
  pub root : QualName
  pub cut : names ≡ newer ++ second ∷ root ∷ []
  pub is_named : is_html_named local second ≡ true

-- the current node is such an element
pub record HasCurrent (is : QualName → Bool) (names : List QualName) : Type 0 where
  pub current : QualName
  pub older : List QualName
  pub cut : names ≡ current ∷ older
  pub is_such : is current ≡ true

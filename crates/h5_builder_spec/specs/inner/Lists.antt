-- How the list of active formatting elements agrees with the stack of open elements, both with the newest first
-- (HTML standard, sections 13.2.4.2 and 13.2.4.3).
use Rattle.std.specs.Prelude.{◌≡◌, ◌≤◌, ℕ, ◌⊎◌, List, [], ◌∷◌}
use Rattle.h5_token.specs.TokenText.{TagText}
use Rattle.h5_builder_spec.specs.formatting.FormattingList.{Entry, MarkerEntry, ElementEntry, after_marker, count_alike, nodes_of}
use Rattle.h5_builder_spec.specs.stack.Order.{Before, Distinct, IsIn}

-- the entry of x is newer than that of y, and no marker is between them
abbrev pub Beside : List Entry → ℕ → ℕ → Type 0
Beside [] x y = ⊥
Beside (MarkerEntry ∷ l) x y = Beside l x y
Beside (ElementEntry n t ∷ l) x y = ((x ≡ n) × IsIn y (nodes_of (after_marker l))) ⊎ Beside l x y

-- between two markers, and after the last, at most three entries are alike to a tag
abbrev pub FewAlike : TagText → List Entry → Type 0
FewAlike t [] = Unit {0}
FewAlike t (MarkerEntry ∷ l) = FewAlike t l
FewAlike t (ElementEntry n u ∷ l) = (count_alike t (ElementEntry n u ∷ l) ≤ 3) × FewAlike t l

-- between two markers no open element is newer than one that isn't open
abbrev pub OpenFirst : List ℕ → List Entry → Type 0
OpenFirst s l = (x y : ℕ) → Beside l x y → IsIn x s → IsIn y s

-- no element is listed twice; listed elements that are open are in the stack's order, and after the ones between the
-- same markers that aren't open
pub record Agrees (s : List ℕ) (l : List Entry) : Type 0 where
  pub once : Distinct (nodes_of l)
  pub order : (x y : ℕ) → IsIn x s → IsIn y s → Before (nodes_of l) x y → Before s x y
  pub open_first : OpenFirst s l

-- what holds between tokens: the list agrees, and at most three entries between two markers are alike
pub record Lists (s : List ℕ) (l : List Entry) : Type 0 where
  pub agrees : Agrees s l
  pub alike : (t : TagText) → FewAlike t l

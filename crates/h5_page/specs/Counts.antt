-- The number of items of each numbered list: if its numbers are reversed, they begin with it (HTML standard, section 4.4.5,
-- "The ol element").
use Rattle.std.specs.Prelude.{ℕ, Bool, true, nat_lt, if◌then◌else◌, length, List, [], ◌∷◌, ◌++◌, Option, None, Some, slice_index_or, slice_set}
use Rattle.html_tree_builder.specs.Call.{Call, StartOf, EndOf}
use Rattle.html_tree_builder.specs.Walk.{after_each}
use Rattle.h5_page.specs.Attributes.{is_hidden}
use Rattle.h5_page.specs.Displays.{display_of}
use Rattle.h5_page.specs.Numbers.{one_more}
use Rattle.h5_page.specs.declared.display.Display.{Display}
use Rattle.h5_page.specs.declared.display.Display.TheVariants as show

-- the counts, in the order in which the lists begin; and for each open element, the innermost first, which of the lists it is,
-- if any
pub record Counted : Type 0 where
  pub counts : List ℕ
  pub elements : List (Option ℕ)

abbrev pub nothing_counted : Counted
nothing_counted = record { counts = []; elements = [] }

abbrev pub raised : (list : ℕ) → List ℕ → List ℕ
raised list counts = if nat_lt list (length counts) then slice_set counts list (one_more (slice_index_or counts list 0)) else counts

-- an item counts for its parent, if that is a numbered list
abbrev pub raised_for : List (Option ℕ) → List ℕ → List ℕ
raised_for (Some list ∷ elements) counts = raised list counts
raised_for elements counts = counts

abbrev pub entered : Option ℕ → Counted → Counted
entered list k = record k { elements = list ∷ k.elements }

-- a hidden item isn't counted
abbrev pub started : Display → (is_hidden : Bool) → Counted → Counted
started show.Numbered is_hidden k = record { counts = k.counts ++ 0 ∷ []; elements = Some (length k.counts) ∷ k.elements }
started show.Item is_hidden k = entered None (if is_hidden then k else record k { counts = raised_for k.elements k.counts })
started display is_hidden k = entered None k

abbrev pub without_first : List (Option ℕ) → List (Option ℕ)
without_first [] = []
without_first (list ∷ elements) = elements

abbrev pub stopped : Counted → Counted
stopped k = record k { elements = without_first k.elements }

-- scripting matters neither to lists nor to items
abbrev pub after_call : Counted → Call → Counted
after_call k (StartOf name attrs) = started (display_of true name) (is_hidden name.ns attrs) k
after_call k (EndOf name) = stopped k
after_call k call = k

abbrev pub counts_of : List Call → List ℕ
counts_of calls = (after_each after_call nothing_counted calls).counts

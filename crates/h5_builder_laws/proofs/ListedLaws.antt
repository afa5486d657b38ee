-- The list of active formatting elements in the middle of inlines.
use Rattle.std.proofs.Common.{◌≡◌, ℕ, ◌==◌, Bool, true, false, ◌||◌, cond, List, [], ◌∷◌, ◌++◌, codes, refl, ap}
use Rattle.std.proofs.lemmas.Bool.{eq-eqb}
use Rattle.h5_names.specs.AttributeText.{AttributeText, is_same_text}
use Rattle.h5_builder_spec.specs.formatting.FormattingList.{ElementEntry, Entry, MarkerEntry, closed_front, nodes_of}
use Rattle.h5_builder_spec.specs.stack.Order.{is_in}
use Rattle.h5_builder_laws.proofs.RuleLaws.{start}
use Rattle.h5_builder_spec.proofs.BoolLaws.{later_true}

-- below the open formatting elements of a block the list is empty, or begins with a marker
pub data IsBase : List Entry → Type 0 where
  NoEntry : IsBase []
  AtMarker : {l : List Entry} → IsBase (MarkerEntry ∷ l)

-- an open formatting element, and its name, or another open element
pub data OpenFormat : Type 0 where
  Formats : (node : ℕ) → (name : List ℕ) → OpenFormat
  Other : (node : ℕ) → OpenFormat

abbrev pub open_nodes : List OpenFormat → List ℕ
open_nodes [] = []
open_nodes (Formats n name ∷ path) = n ∷ open_nodes path
open_nodes (Other n ∷ path) = n ∷ open_nodes path

-- whether a link is open
abbrev pub has_link : List OpenFormat → Bool
has_link [] = false
has_link (Formats n name ∷ path) = is_same_text name (codes "a") || has_link path
has_link (Other n ∷ path) = has_link path

-- the entries above the base are of the open formatting elements, in their order; some may have gone as the fourth
-- alike came
pub data Entries (base : List Entry) : List OpenFormat → List Entry → Type 0 where
  Bottom : Entries base [] base
  Kept : {n : ℕ} {name : List ℕ} {attrs : List AttributeText} {path : List OpenFormat} {l : List Entry} → is_in n (nodes_of l) ≡ false → Entries base path l
      → Entries base (Formats n name ∷ path) (ElementEntry n (start name attrs) ∷ l)
  Lost : {n : ℕ} {name : List ℕ} {path : List OpenFormat} {l : List Entry} → is_in n (nodes_of l) ≡ false → Entries base path l → Entries base (Formats n name ∷ path) l
  Passed : {n : ℕ} {path : List OpenFormat} {l : List Entry} → Entries base path l → Entries base (Other n ∷ path) l

-- of another element there is none
pub passed : {base : List Entry} {n : ℕ} {path : List OpenFormat} {l : List Entry} → Entries base (Other n ∷ path) l → Entries base path l
passed (Passed r) = r

closed_pushed : (n : ℕ) (s : List ℕ) (l : List Entry) → closed_front s l ≡ [] → closed_front (n ∷ s) l ≡ []
closed_pushed n s [] e = refl
closed_pushed n s (MarkerEntry ∷ l) e = refl
closed_pushed n s (ElementEntry m t ∷ l) e = at (is_in m s) refl e
  where
    at : (b : Bool) → is_in m s ≡ b → ◌≡◌ {A = List Entry} (cond b [] (ElementEntry m t ∷ closed_front s l)) [] → closed_front (n ∷ s) (ElementEntry m t ∷ l) ≡ []
    at true h k = ap (λ b. cond b [] (ElementEntry m t ∷ closed_front (n ∷ s) l)) (later_true (m == n) (is_in m s) h)
    at false h k = absurd (cc)

base_closed : (s : List ℕ) {base : List Entry} → IsBase base → closed_front s base ≡ []
base_closed s NoEntry = refl
base_closed s AtMarker = refl

-- so nothing is to be reconstructed
pub entries_closed : {base : List Entry} {path : List OpenFormat} {l : List Entry} (under : List ℕ) → IsBase base → Entries base path l → closed_front (open_nodes path ++ under) l ≡ []
entries_closed under k Bottom = base_closed under k
entries_closed under k (Kept {n} {name} {attrs} {path} {l} o r) =
    ap (λ b. cond (cond b true (is_in n (open_nodes path ++ under))) [] (ElementEntry n (start name attrs) ∷ closed_front (n ∷ (open_nodes path ++ under)) l)) (eq-eqb n n refl)
entries_closed under k (Lost {n} {name} {path} {l} o r) = closed_pushed n (open_nodes path ++ under) l (entries_closed under k r)
entries_closed under k (Passed {n} {path} {l} r) = closed_pushed n (open_nodes path ++ under) l (entries_closed under k r)

-- no element is listed that was not
abbrev pub Fewer : List Entry → List Entry → Type 0
Fewer l m = (n : ℕ) → is_in n (nodes_of m) ≡ false → is_in n (nodes_of l) ≡ false

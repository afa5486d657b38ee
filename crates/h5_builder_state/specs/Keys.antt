-- The numbers of keys, by which the entries are found that may be alike to a tag.
use Rattle.std.specs.Prelude.{◌≡◌, ◌≢◌, ◌<◌, ℕ, false, IfSome, List, Option, Some, length, slice_index, slice_index_or}
use Rattle.std.specs.List.{AllZip}
use Rattle.h5_token.specs.Keys.{IsKeyOf}
use Rattle.h5_token.specs.TokenText.{IsAlike, TagText, tag_text}
use Rattle.h5_tables.specs.declared.entry.FormatEntry.{FormatEntry}
use Rattle.h5_tables.specs.declared.entry.FormatEntry.TheVariants.{Element, Marker}
use Rattle.h5_builder_state.specs.Numbered.{Numbered, numbers}
use Rattle.h5_builder_state.specs.Numbering.{number_of}
use Rattle.h5_builder_state.specs.declared.index.Index.{Index}
use Rattle.h5_builder_state.specs.declared.keys.KeyNumbers.{KeyNumbers}
use Rattle.h5_builder_state.specs.Listed.{is_alike_entry}
use Rattle.h5_builder_state.specs.ListNumbers.{AreNumbered}

-- the number of a key, if it has one
abbrev pub key_number : KeyNumbers → List ℕ → Option ℕ
key_number keys key = number_of keys.texts key

-- the key of a tag has this number
pub record HasKeyNumber (keys : KeyNumbers) (tag : TagText) (number : ℕ) : Type 0 where
  pub key : List ℕ
  pub is : IsKeyOf tag key
  pub has : key_number keys key ≡ Some number

-- an entry has the number of its tag's key, or 0
abbrev pub IsKeyed : {H : Type 0} → KeyNumbers → ℕ → FormatEntry H → Type 0
IsKeyed keys number (Element handle tag) = number ≢ 0 → HasKeyNumber keys (tag_text tag) number
IsKeyed keys number Marker = number ≡ 0

-- each entry has its number
abbrev pub AreKeyed : {H T : Type 0} → KeyNumbers → List (Numbered T) → List (FormatEntry H) → Type 0
AreKeyed keys stack items = AllZip (IsKeyed keys) (numbers stack) items

-- both stacks have the right number for each entry
pub record AreKept {H T U : Type 0} (named : List (Numbered T)) (keyed : List (Numbered U)) (keys : KeyNumbers) (items : List (FormatEntry H)) : Type 0 where
  pub have_names : AreNumbered named items
  pub have_keys : AreKeyed keys keyed items

-- an index has both numbers of each entry
abbrev pub IsIndexOf : {H : Type 0} → Index → List (FormatEntry H) → Type 0
IsIndexOf index items = AreKept index.numbers index.keys index.key_numbers items

-- the index, if the list has one, is right
abbrev pub IsIndexed : {H : Type 0} → Option Index → List (FormatEntry H) → Type 0
IsIndexed {H} index items = IfSome index (λ (one : Index). IsIndexOf one items)

-- assigned numbers stay
abbrev pub StayKeyed : KeyNumbers → KeyNumbers → Type 0
StayKeyed old new = (key : List ℕ) (number : ℕ) → key_number old key ≡ Some number → key_number new key ≡ Some number

-- any tag that is alike to this one and whose key has a number, has this number
pub record IsNumberOfAlike (keys : KeyNumbers) (tag : TagText) (number : ℕ) : Type 0 where
  pub some : number ≢ 0
  pub same : (other : TagText) (n : ℕ) → IsAlike tag other → HasKeyNumber keys other n → n ≡ number

-- an entry with a number other than this one isn't alike to a tag
pub record AreOthers {H : Type 0} (tag : TagText) (number : ℕ) (keys : List ℕ) (items : List (FormatEntry H)) : Type 0 where
  pub as_many : length keys ≡ length items
  pub some : number ≢ 0
  pub others : (k : ℕ) (x : FormatEntry H) → k < length items → x ≡ slice_index_or items k x → slice_index keys k ≢ 0 → slice_index keys k ≢ number → is_alike_entry tag x ≡ false

-- The attributes of a tag (HTML standard, sections 13.2.5.32 to 13.2.5.40).
use Rattle.std.specs.Prelude.{ℕ, zero, suc, Bool, true, false, List, [], ◌∷◌, ◌++◌, ◌==◌, if◌then◌else◌, length, drop, None}
use Rattle.std.specs.List.{list_any}
use Rattle.h5_names.specs.AttributeText.{AttributeText, is_same_text}
use Rattle.h5_markup.specs.Cuts.{is_in, before, from, past}
use Rattle.h5_markup.specs.declared.cut.Class.{Class}
use Rattle.h5_markup.specs.declared.cut.Class.TheVariants.{Blank, BetweenAttributes, AttributeNameEnd, ValueEnd, DoubleQuote, SingleQuote}
use Rattle.h5_markup.specs.Text.{text_of, name_of}

-- an attribute as it is written, and the text after it
pub record Written : Type 0 where
  pub name : List ℕ
  pub value : List ℕ
  pub rest : List ℕ

-- a value up to a byte of this class
abbrev pub value_to : Class → List ℕ → List ℕ → List ℕ → Written
value_to class name xs rest = record { name = name; value = before (is_in class) xs; rest = rest }

-- the value after a '=' and whitespace
abbrev pub valued : List ℕ → List ℕ → Written
valued name [] = record { name = name; value = []; rest = [] }
valued name (x ∷ xs) =
    if x == 34 then value_to DoubleQuote name xs (drop 1 (from (is_in DoubleQuote) xs))
    else (if x == 39 then value_to SingleQuote name xs (drop 1 (from (is_in SingleQuote) xs))
    else value_to ValueEnd name (x ∷ xs) (from (is_in ValueEnd) (x ∷ xs)))

-- a name, and the part after it and after whitespace
abbrev pub with_value : List ℕ → List ℕ → Written
with_value name [] = record { name = name; value = []; rest = [] }
with_value name (x ∷ xs) = if x == 61 then valued name (past Blank xs) else record { name = name; value = []; rest = x ∷ xs }

-- an attribute; a '=' as its first byte belongs to its name
abbrev pub attribute_at : ℕ → List ℕ → Written
attribute_at x xs = with_value (x ∷ before (is_in AttributeNameEnd) xs) (past Blank (from (is_in AttributeNameEnd) xs))

abbrev pub attribute_named : List ℕ → List ℕ → AttributeText
attribute_named name value = record { name = record { prefix = None; ns = []; local = name }; value = value }

abbrev pub attribute_of : Written → AttributeText
attribute_of w = attribute_named (name_of w.name) (text_of true w.value)

abbrev pub one_and_more : (List ℕ → List AttributeText) → List ℕ → List AttributeText
one_and_more more [] = []
one_and_more more (x ∷ xs) = attribute_of (attribute_at x xs) ∷ more (attribute_at x xs).rest

-- the attributes of a tag, including duplicates; there are at most as many as bytes
abbrev pub attributes_up_to : ℕ → List ℕ → List AttributeText
attributes_up_to zero xs = []
attributes_up_to (suc n) xs = one_and_more (attributes_up_to n) (past BetweenAttributes xs)

unfoldable pub attributes_of : List ℕ → List AttributeText
attributes_of xs = attributes_up_to (length xs) xs

-- true if an attribute has this name
abbrev pub is_named_in : List ℕ → List AttributeText → Bool
is_named_in name = list_any (λ a. is_same_text a.name.local name)

-- attributes, followed by those of others whose name didn't come before
abbrev pub distinct : List AttributeText → List AttributeText → List AttributeText
distinct kept [] = kept
distinct kept (a ∷ others) = if is_named_in a.name.local kept then distinct kept others else distinct (kept ++ a ∷ []) others

-- true if a name is among those before, or comes twice
abbrev pub repeats : List AttributeText → List AttributeText → Bool
repeats kept [] = false
repeats kept (a ∷ others) = if is_named_in a.name.local kept then true else repeats (kept ++ a ∷ []) others

abbrev pub has_duplicates : List AttributeText → Bool
has_duplicates = repeats []

-- attributes with one more, unless its name is among them
abbrev pub kept_with : List ℕ → List ℕ → List AttributeText → List AttributeText
kept_with name value kept = if is_named_in name kept then kept else kept ++ attribute_named name value ∷ []

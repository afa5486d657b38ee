-- The formatting elements, and what holds for the listed ones.
use Rattle.std.specs.Prelude.{◌≡◌, ℕ, false, List, codes, IsTrue, Some, None}
use Rattle.h5_names.specs.declared.qualified.QualName.{QualName}
use Rattle.h5_token.specs.TokenText.{TagText}
use Rattle.h5_interface.specs.Forest.{ElementNode, Forest, kind_of}
use Rattle.h5_tables.specs.TagSets.{formatting_names, is_one_of, is_special}
use Rattle.h5_builder_spec.specs.formatting.FormattingList.{EachEntry, Entry}

-- each listed element was created for a tag with such a name
abbrev pub AllFormatting : List Entry → Type 0
AllFormatting l = EachEntry (λ n t. IsTrue (is_one_of formatting_names t.name)) l

-- an HTML element of this name
abbrev pub html_name : List ℕ → QualName
html_name local = record { prefix = None; ns = codes "http://www.w3.org/1999/xhtml"; local = local }

-- a node is an HTML element of the tag's name
abbrev pub IsOfTag : Forest → ℕ → TagText → Type 0
IsOfTag f n t = kind_of f n ≡ Some (ElementNode (html_name t.name))

-- each listed element is one of its tag's name, also if it isn't open any more
abbrev pub AllOfTags : Forest → List Entry → Type 0
AllOfTags f l = EachEntry (IsOfTag f) l

-- a node is an HTML element that isn't special
pub record IsPlain (f : Forest) (n : ℕ) : Type 0 where
  pub local : List ℕ
  pub kind : kind_of f n ≡ Some (ElementNode (html_name local))
  pub is_plain : is_special (html_name local) ≡ false

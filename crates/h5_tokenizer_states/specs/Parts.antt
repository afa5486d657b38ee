-- What is being built in a machine, in the definition's terms.
use Rattle.std.specs.Prelude.{ℕ, Bool, true, false, List, Option, Some, None}
use Rattle.h5_token.specs.TokenText.{DoctypeText}
use Rattle.h5_tokenizer_spec.specs.Construction.{Tag, Attribute}

pub record Parts : Type 0 where
  pub tag : Tag
  pub comment : List ℕ
  pub doctype : DoctypeText
  -- the temporary buffer
  pub buffer : List ℕ
  -- what was seen of a character reference
  pub seen : List ℕ
  pub code : ℕ

-- the current attribute of a tag, if there is one
abbrev pub current_of : Bool → List ℕ → List ℕ → Option Attribute
current_of true name value = Some (record { name = name; value = value })
current_of false name value = None

-- a name so far: the one that was made, or else the bytes
abbrev pub name_so_far : Option (List ℕ) → List ℕ → List ℕ
name_so_far (Some name) text = name
name_so_far None text = text

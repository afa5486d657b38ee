-- Tokens, independent of where their texts are in memory.
use Rattle.std.specs.Prelude.{◌≡◌, ℕ, Bool, List, Option, string_bytes}
use Rattle.std.specs.List.{find}
use Rattle.std.specs.Option.{option_map}
use Rattle.h5_names.specs.AttributeText.{AttributeText, attribute_texts, is_same_text}
use Rattle.h5_token.specs.Occurrences.{HaveSameAttributes}
use Rattle.h5_token.specs.OptionalText.{optional_text}
use Rattle.h5_token.specs.declared.doctype.Doctype.{Doctype}
use Rattle.h5_token.specs.declared.tag.Tag.{Tag}
use Rattle.h5_token.specs.declared.tag.TagKind.{TagKind}
use Rattle.h5_token.specs.declared.tokens.Token.{Token}
use Rattle.h5_token.specs.declared.tokens.Token.TheVariants.{DoctypeToken, TagToken, CommentToken, CharacterTokens, NullCharacterToken, EOFToken, ParseError}

pub record DoctypeText : Type 0 where
  pub name : Option (List ℕ)
  pub public_id : Option (List ℕ)
  pub system_id : Option (List ℕ)
  pub force_quirks : Bool

pub record TagText : Type 0 where
  pub kind : TagKind
  pub name : List ℕ
  pub self_closing : Bool
  pub attrs : List AttributeText
  pub had_duplicate_attributes : Bool

pub data TokenText : Type 0 where
  DoctypeIs : (doctype : DoctypeText) → TokenText
  TagIs : (tag : TagText) → TokenText
  CommentIs : (text : List ℕ) → TokenText
  Characters : (text : List ℕ) → TokenText
  NullCharacter : TokenText
  EndOfFile : TokenText
  ParseErrorIs : (message : List ℕ) → TokenText

abbrev pub doctype_text : Doctype → DoctypeText
doctype_text d = record {
  name = optional_text d.name;
  public_id = optional_text d.public_id;
  system_id = optional_text d.system_id;
  force_quirks = d.force_quirks;
}

abbrev pub tag_text : Tag → TagText
tag_text t = record {
  kind = t.kind;
  name = t.name;
  self_closing = t.self_closing;
  attrs = attribute_texts t.attrs.items;
  had_duplicate_attributes = t.had_duplicate_attributes;
}

abbrev pub token_text : Token → TokenText
token_text (DoctypeToken doctype) = DoctypeIs (doctype_text doctype)
token_text (TagToken tag) = TagIs (tag_text tag)
token_text (CommentToken text) = CommentIs (string_bytes text)
token_text (CharacterTokens text) = Characters (string_bytes text)
token_text NullCharacterToken = NullCharacter
token_text EOFToken = EndOfFile
token_text (ParseError message) = ParseErrorIs (string_bytes message)

-- kind and name are equal, and the attributes are equal in some order
pub record IsAlike (x y : TagText) : Type 0 where
  pub kind : x.kind ≡ y.kind
  pub name : x.name ≡ y.name
  pub attrs : HaveSameAttributes x.attrs y.attrs

-- the value of the first attribute with this local name
abbrev pub first_value : List ℕ → List AttributeText → Option (List ℕ)
first_value name attrs = option_map (λ a. a.value) (find (λ a. is_same_text a.name.local name) attrs)

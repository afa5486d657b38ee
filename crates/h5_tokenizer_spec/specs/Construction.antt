-- What is built while a tag or a doctype is read, and how it grows.
use Rattle.std.specs.Prelude.{ℕ, Bool, true, false, List, [], ◌∷◌, ◌++◌, Option, Some, None, if◌then◌else◌}
use Rattle.std.specs.Option.{option_map}
use Rattle.h5_names.specs.AttributeText.{AttributeText}
use Rattle.h5_token.specs.TokenText.{TokenText, TagIs, DoctypeText}
use Rattle.h5_token.specs.declared.tag.TagKind.{TagKind}
use Rattle.h5_markup.specs.Attributes.{attribute_named, is_named_in}
use Rattle.h5_tokenizer_spec.specs.declared.kinds.Identifier.{Identifier}
use Rattle.h5_tokenizer_spec.specs.declared.kinds.Identifier.TheVariants.{Public, System}

-- the current attribute of a tag, so far
pub record Attribute : Type 0 where
  pub name : List ℕ
  pub value : List ℕ

-- a tag so far: its complete attributes, and its current one
pub record Tag : Type 0 where
  pub kind : TagKind
  pub name : List ℕ
  pub self_closing : Bool
  pub attrs : List AttributeText
  pub duplicates : Bool
  pub current : Option Attribute

abbrev pub new_tag : TagKind → List ℕ → Tag
new_tag kind name = record { kind = kind; name = name; self_closing = false; attrs = []; duplicates = false; current = None }

abbrev pub named_further : List ℕ → Tag → Tag
named_further more t = record t { name = t.name ++ more }

-- the tag already has an attribute with the name of the current one
abbrev pub is_repeated_in : List AttributeText → Option Attribute → Bool
is_repeated_in attrs None = false
is_repeated_in attrs (Some a) = is_named_in a.name attrs

abbrev pub is_repeated : Tag → Bool
is_repeated t = is_repeated_in t.attrs t.current

-- The current attribute is complete. It is dropped if the tag already has one with its name. The standard drops it when its
-- name is complete; after that, nothing uses it except what builds its own value.
abbrev pub with_complete : Tag → Option Attribute → Tag
with_complete t None = t
with_complete t (Some a) =
    if is_named_in a.name t.attrs then record t { duplicates = true; current = None }
    else record t { attrs = t.attrs ++ attribute_named a.name a.value ∷ []; current = None }

abbrev pub completed : Tag → Tag
completed t = with_complete t t.current

-- a new attribute begins, with this name so far
abbrev pub with_attribute : List ℕ → Tag → Tag
with_attribute name t = record (completed t) { current = Some (record { name = name; value = [] }) }

abbrev pub attribute_named_further : List ℕ → Tag → Tag
attribute_named_further more t = record t { current = option_map (λ (a : Attribute). record a { name = a.name ++ more }) t.current }

abbrev pub value_further : List ℕ → Tag → Tag
value_further more t = record t { current = option_map (λ (a : Attribute). record a { value = a.value ++ more }) t.current }

abbrev pub self_closed : Tag → Tag
self_closed t = record t { self_closing = true }

abbrev pub token_of : Tag → TokenText
token_of t = TagIs (record {
  kind = t.kind;
  name = t.name;
  self_closing = t.self_closing;
  attrs = t.attrs;
  had_duplicate_attributes = t.duplicates;
})

abbrev pub nameless : DoctypeText
nameless = record { name = None; public_id = None; system_id = None; force_quirks = true }

abbrev pub new_doctype : List ℕ → DoctypeText
new_doctype name = record { name = Some name; public_id = None; system_id = None; force_quirks = false }

abbrev pub doctype_named_further : List ℕ → DoctypeText → DoctypeText
doctype_named_further more d = record d { name = option_map (λ name. name ++ more) d.name }

abbrev pub quirky : DoctypeText → DoctypeText
quirky d = record d { force_quirks = true }

-- an identifier is set to the empty string
abbrev pub with_identifier : Identifier → DoctypeText → DoctypeText
with_identifier Public d = record d { public_id = Some [] }
with_identifier System d = record d { system_id = Some [] }

abbrev pub identifier_further : Identifier → List ℕ → DoctypeText → DoctypeText
identifier_further Public more d = record d { public_id = option_map (λ id. id ++ more) d.public_id }
identifier_further System more d = record d { system_id = option_map (λ id. id ++ more) d.system_id }

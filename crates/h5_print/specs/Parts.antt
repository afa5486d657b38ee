-- Parts of tokens: what the lines after that of a doctype or a tag add to it.
use Rattle.std.specs.Prelude.{ℕ, true, List, [], ◌∷◌, ◌++◌, Option, Some, None, if◌then◌else◌, string_bytes, is_some}
use Rattle.std.specs.List.{list_any}
use Rattle.std.specs.Option.{option_map}
use Rattle.h5_names.specs.AttributeText.{AttributeText, attribute_text, is_same_name}
use Rattle.h5_token.specs.TokenText.{DoctypeText, TagText, TokenText, DoctypeIs, TagIs, CommentIs, Characters, NullCharacter, EndOfFile, ParseErrorIs}
use Rattle.h5_print.specs.declared.line.Part.{Part}
use Rattle.h5_print.specs.declared.line.Part.TheVariants as part

pub data PartText : Type 0 where
  PublicIdIs : (id : List ℕ) → PartText
  SystemIdIs : (id : List ℕ) → PartText
  ForcesQuirks : PartText
  AttributeIs : (attribute : AttributeText) → PartText
  ClosesItself : PartText

-- a part, independent of where its texts are in memory
abbrev pub part_text : Part → PartText
part_text (part.PublicId id) = PublicIdIs (string_bytes id)
part_text (part.SystemId id) = SystemIdIs (string_bytes id)
part_text part.ForceQuirks = ForcesQuirks
part_text (part.Attribute attribute) = AttributeIs (attribute_text attribute)
part_text part.SelfClosing = ClosesItself

-- a doctype can have each identifier once, and "force quirks" any number of times
abbrev pub doctype_with : DoctypeText → PartText → Option DoctypeText
doctype_with d (PublicIdIs id) = if is_some d.public_id then None else Some (record d { public_id = Some id })
doctype_with d (SystemIdIs id) = if is_some d.system_id then None else Some (record d { system_id = Some id })
doctype_with d ForcesQuirks = Some (record d { force_quirks = true })
doctype_with d (AttributeIs attribute) = None
doctype_with d ClosesItself = None

-- a tag can have an attribute of each name once, and the self-closing flag any number of times
abbrev pub tag_with : TagText → PartText → Option TagText
tag_with t (PublicIdIs id) = None
tag_with t (SystemIdIs id) = None
tag_with t ForcesQuirks = None
tag_with t (AttributeIs attribute) =
    if list_any (λ a. is_same_name a.name attribute.name) t.attrs then None
    else Some (record t { attrs = t.attrs ++ attribute ∷ [] })
tag_with t ClosesItself = Some (record t { self_closing = true })

-- no other token can have parts
abbrev pub token_with : TokenText → PartText → Option TokenText
token_with (DoctypeIs d) p = option_map DoctypeIs (doctype_with d p)
token_with (TagIs t) p = option_map TagIs (tag_with t p)
token_with (CommentIs text) p = None
token_with (Characters text) p = None
token_with NullCharacter p = None
token_with EndOfFile p = None
token_with (ParseErrorIs message) p = None

-- The meaning of a line.
use Rattle.std.specs.Prelude.{ℕ, Bool, false, List, [], ◌∷◌, Option, Some, None, ◌==◌, if◌then◌else◌, not, option_and_then}
use Rattle.std.specs.List.{list_any}
use Rattle.std.specs.Option.{option_map}
use Rattle.h5_token.specs.TokenText.{TokenText, token_text, DoctypeIs, TagIs, CommentIs, Characters, NullCharacter, EndOfFile, ParseErrorIs}
use Rattle.h5_token.specs.declared.tag.TagKind.{TagKind}
use Rattle.h5_token.specs.declared.tag.TagKind.TheVariants as kind
use Rattle.h5_print.specs.Escapes.{unescape}
use Rattle.h5_print.specs.Parts.{PartText, part_text, PublicIdIs, SystemIdIs, ForcesQuirks, AttributeIs, ClosesItself}
use Rattle.h5_print.specs.Words.{Cut, cut, word_of}
use Rattle.h5_print.specs.declared.words.Word.{Word}
use Rattle.h5_print.specs.declared.words.Word.TheVariants as word
use Rattle.h5_print.specs.declared.line.Line.{Line}
use Rattle.h5_print.specs.declared.line.Line.TheVariants as line

pub data LineText : Type 0 where
  IsBlank : LineText
  TokenIs : (token : TokenText) → LineText
  PartIs : (p : PartText) → LineText
  Ends : LineText

-- a line, independent of where its texts are in memory
abbrev pub line_text : Line → LineText
line_text line.Blank = IsBlank
line_text (line.Token token) = TokenIs (token_text token)
line_text (line.Part p) = PartIs (part_text p)
line_text line.End = Ends

-- a text without its escapes; without its space it is empty
abbrev pub text_in : Option (List ℕ) → Option (List ℕ)
text_in None = Some []
text_in (Some text) = unescape text

-- a name isn't empty, contains no space, and has no escapes
abbrev pub is_name : List ℕ → Bool
is_name [] = false
is_name (c ∷ cs) = not (list_any (λ d. d == 32) (c ∷ cs))

abbrev pub named : List ℕ → Option (List ℕ)
named name = if is_name name then Some name else None

-- a doctype may be without its name, and then without the space
abbrev pub doctype_named : Option (List ℕ) → LineText
doctype_named name = TokenIs (DoctypeIs (record { name = name; public_id = None; system_id = None; force_quirks = false }))

abbrev pub doctype_in : Option (List ℕ) → Option LineText
doctype_in None = Some (doctype_named None)
doctype_in (Some name) = option_map (λ n. doctype_named (Some n)) (named name)

abbrev pub tag_named : TagKind → List ℕ → LineText
tag_named tag_kind name =
    TokenIs (TagIs (record { kind = tag_kind; name = name; self_closing = false; attrs = []; had_duplicate_attributes = false }))

abbrev pub tag_in : TagKind → Option (List ℕ) → Option LineText
tag_in tag_kind operand = option_map (tag_named tag_kind) (option_and_then named operand)

-- an attribute: its name and, after a space, its value
abbrev pub attribute_named : List ℕ → List ℕ → LineText
attribute_named name value = PartIs (AttributeIs (record { name = record { prefix = None; ns = []; local = name }; value = value }))

abbrev pub attribute_at : Cut → Option LineText
attribute_at c = option_and_then (λ name. option_map (attribute_named name) (text_in c.operand)) (named c.word)

abbrev pub attribute_in : Option (List ℕ) → Option LineText
attribute_in operand = option_and_then (λ text. attribute_at (cut text)) operand

-- a word that nothing follows, not even a space
abbrev pub alone : LineText → Option (List ℕ) → Option LineText
alone l None = Some l
alone l (Some operand) = None

-- a line with this word, and the text after its space
abbrev pub line_with : Word → Option (List ℕ) → Option LineText
line_with word.Doctype operand = doctype_in operand
line_with word.PublicId operand = option_map (λ id. PartIs (PublicIdIs id)) (text_in operand)
line_with word.SystemId operand = option_map (λ id. PartIs (SystemIdIs id)) (text_in operand)
line_with word.ForceQuirks operand = alone (PartIs ForcesQuirks) operand
line_with word.StartTag operand = tag_in kind.StartTag operand
line_with word.EndTag operand = tag_in kind.EndTag operand
line_with word.Attribute operand = attribute_in operand
line_with word.SelfClosing operand = alone (PartIs ClosesItself) operand
line_with word.Text operand = option_map (λ text. TokenIs (Characters text)) (text_in operand)
line_with word.Comment operand = option_map (λ text. TokenIs (CommentIs text)) (text_in operand)
line_with word.Null operand = alone (TokenIs NullCharacter) operand
line_with word.ParseError operand = option_map (λ message. TokenIs (ParseErrorIs message)) (text_in operand)
line_with word.EndOfFile operand = alone (TokenIs EndOfFile) operand
line_with word.End operand = alone Ends operand

-- the meaning of a line; none if it is invalid itself
abbrev pub line_of : List ℕ → Option LineText
line_of [] = Some IsBlank
line_of (c ∷ cs) = option_and_then (λ w. line_with w (cut (c ∷ cs)).operand) (word_of (cut (c ∷ cs)).word)

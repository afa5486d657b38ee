-- Tokens that take turns, independent of where their texts are in memory.
use Rattle.std.specs.Prelude.{◌≢◌, ℕ, Bool, false, List, [], string_bytes}
use Rattle.h5_token.specs.TokenText.{TagText, tag_text}
use Rattle.h5_token.specs.declared.tag.TagKind.{TagKind}
use Rattle.h5_token.specs.declared.tag.TagKind.TheVariants.{StartTag, EndTag}
use Rattle.h5_tables.specs.declared.modes.SplitStatus.{SplitStatus}
use Rattle.h5_tables.specs.declared.turns.Token.{Token}
use Rattle.h5_tables.specs.declared.turns.Token.TheVariants.{Tag, Comment, Characters, NullCharacter, Eof}

pub data TurnText : Type 0 where
  TagTurn : (tag : TagText) → TurnText
  CommentTurn : (text : List ℕ) → TurnText
  TextTurn : (status : SplitStatus) → (text : List ℕ) → TurnText
  NullTurn : TurnText
  EofTurn : TurnText

abbrev pub turn_text : Token → TurnText
turn_text (Tag tag) = TagTurn (tag_text tag)
turn_text (Comment text) = CommentTurn (string_bytes text)
turn_text (Characters status text) = TextTurn status (string_bytes text)
turn_text NullCharacter = NullTurn
turn_text Eof = EofTurn

-- a text that takes turns isn't empty
abbrev pub HasText : TurnText → Type 0
HasText (TagTurn tag) = Unit {0}
HasText (CommentTurn text) = Unit {0}
HasText (TextTurn status text) = text ≢ []
HasText NullTurn = Unit {0}
HasText EofTurn = Unit {0}

-- true for a start tag whose self-closing flag is set
abbrev pub is_self_closing_start : TagKind → Bool → Bool
is_self_closing_start StartTag flag = flag
is_self_closing_start EndTag flag = false

abbrev pub is_self_closing : TurnText → Bool
is_self_closing (TagTurn tag) = is_self_closing_start tag.kind tag.self_closing
is_self_closing (CommentTurn text) = false
is_self_closing (TextTurn status text) = false
is_self_closing NullTurn = false
is_self_closing EofTurn = false

-- The end of a comment, a doctype or a tag (HTML standard, sections 13.2.5.6 to 13.2.5.54).
use Rattle.std.specs.Prelude.{ℕ, Bool, true, false, List, [], ◌∷◌, ◌==◌, ◌||◌, if◌then◌else◌, Option, Some, None}
use Rattle.std.specs.Char.{is_ascii_whitespace}
use Rattle.h5_markup.specs.Matching.{Match, Open, Found, prefixed}
use Rattle.h5_markup.specs.declared.ending.Inside.{Inside}
use Rattle.h5_markup.specs.declared.ending.Inside.TheVariants.{Comment, CommentEndDash, CommentEnd, Doctype, TagName, BeforeAttributeName, AttributeName, AfterAttributeName, BeforeAttributeValue, AttributeValueDoubleQuoted, AttributeValueSingleQuoted, AttributeValueUnquoted}

-- true if a '>' ends it in this state: in a comment only after two dashes, in a tag anywhere except in quotes
abbrev pub may_end : Inside → Bool
may_end Comment = false
may_end CommentEndDash = false
may_end CommentEnd = true
may_end Doctype = true
may_end TagName = true
may_end BeforeAttributeName = true
may_end AttributeName = true
may_end AfterAttributeName = true
may_end BeforeAttributeValue = true
may_end AttributeValueDoubleQuoted = false
may_end AttributeValueSingleQuoted = false
may_end AttributeValueUnquoted = true

abbrev pub ends : Inside → ℕ → Bool
ends place x = if x == 62 then may_end place else false

-- the state after a byte of an attribute's name, or after a byte that follows the name and whitespace
abbrev pub named : ℕ → Inside
named x = if is_ascii_whitespace x then AfterAttributeName
    else (if x == 47 then BeforeAttributeName else (if x == 61 then BeforeAttributeValue else AttributeName))

-- the state at the next byte
abbrev pub next : Inside → ℕ → Inside
next Comment x = if x == 45 then CommentEndDash else Comment
next CommentEndDash x = if x == 45 then CommentEnd else Comment
next CommentEnd x = if x == 45 then CommentEnd else Comment
next Doctype x = Doctype
next TagName x = if is_ascii_whitespace x || x == 47 then BeforeAttributeName else TagName
next BeforeAttributeName x = if is_ascii_whitespace x || x == 47 then BeforeAttributeName else AttributeName
next AttributeName x = named x
next AfterAttributeName x = named x
next BeforeAttributeValue x = if is_ascii_whitespace x then BeforeAttributeValue
    else (if x == 34 then AttributeValueDoubleQuoted else (if x == 39 then AttributeValueSingleQuoted else AttributeValueUnquoted))
next AttributeValueDoubleQuoted x = if x == 34 then BeforeAttributeName else AttributeValueDoubleQuoted
next AttributeValueSingleQuoted x = if x == 39 then BeforeAttributeName else AttributeValueSingleQuoted
next AttributeValueUnquoted x = if is_ascii_whitespace x then BeforeAttributeName else AttributeValueUnquoted

-- the bytes before the '>' that ends it; the '>' is consumed
abbrev pub up_to_end : Inside → List ℕ → Match (List ℕ)
up_to_end place [] = Open
up_to_end place (x ∷ xs) = if ends place x then Found [] xs else prefixed x (up_to_end (next place x) xs)

-- the state after some bytes
abbrev pub place_after : Inside → List ℕ → Inside
place_after place [] = place
place_after place (x ∷ xs) = place_after (next place x) xs

-- the state after some bytes, if none of them ends it
abbrev pub walk : Inside → List ℕ → Option Inside
walk place [] = Some place
walk place (x ∷ xs) = if ends place x then None else walk (next place x) xs

-- The tokens that a reading emits.
use Rattle.std.specs.Prelude.{List, [], ◌∷◌}
use Rattle.h5_token.specs.TokenText.{TokenText, DoctypeIs, TagIs, CommentIs, Characters, NullCharacter, EndOfFile, ParseErrorIs}

-- not a parse error, not an empty text, and not the end-of-file token, which only the end of the input emits
abbrev pub IsProper : TokenText → Type 0
IsProper (DoctypeIs doctype) = Unit {0}
IsProper (TagIs tag) = Unit {0}
IsProper (CommentIs text) = Unit {0}
IsProper (Characters []) = ⊥
IsProper (Characters (x ∷ xs)) = Unit {0}
IsProper NullCharacter = Unit {0}
IsProper EndOfFile = ⊥
IsProper (ParseErrorIs message) = ⊥

abbrev pub AreProper : List TokenText → Type 0
AreProper [] = Unit {0}
AreProper (t ∷ ts) = IsProper t × AreProper ts

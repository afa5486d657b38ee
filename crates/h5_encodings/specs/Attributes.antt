-- An attribute, as the prescan reads it (HTML standard, section 13.2.3.2, "get an attribute").
use Rattle.std.specs.Prelude.{ℕ, ◌==◌, ◌||◌, if◌then◌else◌, List, [], ◌∷◌, codes}
use Rattle.h5_markup.specs.Cuts.{before, from}
use Rattle.h5_encodings.specs.declared.cut.Class.TheVariants.{Blank, BetweenAttributes, NameEnd, ValueEnd, Byte}
use Rattle.h5_encodings.specs.declared.attribute.Name.{Name}
use Rattle.h5_encodings.specs.declared.attribute.Name.TheVariants.{HttpEquiv, Content, Charset, Other}
use Rattle.h5_encodings.specs.declared.attribute.Got as code
use Rattle.h5_encodings.specs.declared.attribute.Got.TheVariants as c
use Rattle.h5_encodings.specs.Cuts.{is_in, past}
use Rattle.h5_encodings.specs.Labels.{is_same_word}

-- an attribute, and what follows it; no attribute before a `>`; or the bytes end first
pub data Got : Type 0 where
  Cut : Got
  NoMore : (rest : List ℕ) → Got
  Attribute : (name : Name) (value rest : List ℕ) → Got

-- the result, with texts as lists of bytes
abbrev pub got_of : code.Got → Got
got_of c.Cut = Cut
got_of (c.NoMore rest) = NoMore rest.now
got_of (c.Attribute name value rest) = Attribute name value.now rest.now

-- the names that matter, in any ASCII case
abbrev pub name_of : List ℕ → Name
name_of text =
    if is_same_word text (codes "http-equiv") then HttpEquiv
    else if is_same_word text (codes "content") then Content
    else if is_same_word text (codes "charset") then Charset
    else Other

-- a value without quotes, which ends before ASCII whitespace or `>`
abbrev pub unquoted : Name → (value rest : List ℕ) → Got
unquoted name value [] = Cut
unquoted name value (b ∷ t) = Attribute name value (b ∷ t)

-- a value up to its closing quote, and the bytes from there on
abbrev pub quoted : Name → (value rest : List ℕ) → Got
quoted name value [] = Cut
quoted name value (b ∷ t) = Attribute name value t

-- what follows `=` and whitespace
abbrev pub value_at : Name → List ℕ → Got
value_at name [] = Cut
value_at name (b ∷ t) =
    if b == 34 || b == 39 then quoted name (before (is_in (Byte b)) t) (from (is_in (Byte b)) t)
    else unquoted name (before (is_in ValueEnd) (b ∷ t)) (from (is_in ValueEnd) (b ∷ t))

-- what follows a name and whitespace
abbrev pub behind_name : Name → List ℕ → Got
behind_name name [] = Cut
behind_name name (b ∷ t) = if b == 61 then value_at name (past Blank t) else Attribute name [] (b ∷ t)

-- a `=` as the first byte is part of the name, which then doesn't matter
abbrev pub attribute_at : List ℕ → Got
attribute_at [] = Cut
attribute_at (b ∷ t) =
    if b == 62 then NoMore (b ∷ t)
    else if b == 61 then behind_name Other (past Blank (from (is_in NameEnd) t))
    else behind_name (name_of (before (is_in NameEnd) (b ∷ t))) (past Blank (from (is_in NameEnd) (b ∷ t)))

unfoldable pub attribute : List ℕ → Got
attribute text = attribute_at (past BetweenAttributes text)

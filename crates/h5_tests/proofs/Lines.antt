-- Tokens as lines of text.
use Rattle.std.proofs.Common.{◌≡◌, ℕ, true, false, List, [], ◌∷◌, ◌++◌, map, refl, codes, Some, None, Ok, Err}
use Rattle.h5_names.specs.AttributeText.{AttributeText}
use Rattle.h5_names.specs.KnownNames.{name_text}
use Rattle.h5_names.specs.declared.known_name.KnownName.TheVariants.{Br}
use Rattle.h5_token.specs.TokenText.{Characters, DoctypeIs, TagIs, TokenText}
use Rattle.h5_token.specs.declared.tag.TagKind.TheVariants.{StartTag}
use Rattle.h5_print.specs.Escapes.{escape, unescape}
use Rattle.h5_print.specs.Items.{TheEnd, TokenAt, items_of}
use Rattle.h5_print.specs.Lines.{IsBlank, PartIs, line_of}
use Rattle.h5_print.specs.Parts.{AttributeIs}

abbrev written : List ℕ
written = codes "a\\n\\t\\f\\r\\0\\\\" ++ 195 ∷ 169 ∷ []

-- an a, LF, TAB, FF, CR, NUL, a backslash and U+00E9
abbrev text : List ℕ
text = codes "a" ++ 10 ∷ 9 ∷ 12 ∷ 13 ∷ 0 ∷ 92 ∷ 195 ∷ 169 ∷ []

escapes_are_read : unescape written ≡ Some text
escapes_are_read = refl

escapes_are_written : escape text ≡ written
escapes_are_written = refl

bad_escapes : map unescape (codes "\\x" ∷ codes "a\\" ∷ []) ≡ None ∷ None ∷ []
bad_escapes = refl

abbrev attribute : List ℕ → List ℕ → AttributeText
attribute name value = record { name = record { prefix = None; ns = []; local = name }; value = value }

line_of_an_attribute : line_of (codes "A id x y\\n") ≡ Some (PartIs (AttributeIs (attribute (codes "id") (codes "x y\n"))))
line_of_an_attribute = refl

blank_line : line_of [] ≡ Some IsBlank
blank_line = refl

bad_lines : map line_of (codes "S " ∷ codes "S a b" ∷ codes "A" ∷ codes "D " ∷ codes "N " ∷ codes "T \\x" ∷ codes "Q x" ∷ [])
    ≡ None ∷ None ∷ None ∷ None ∷ None ∷ None ∷ None ∷ []
bad_lines = refl

abbrev doctype : TokenText
doctype = DoctypeIs (record { name = Some (codes "html"); public_id = Some []; system_id = None; force_quirks = true })

abbrev line_break : TokenText
line_break = TagIs (record {
  kind = StartTag;
  name = name_text Br;
  self_closing = true;
  attrs = attribute (codes "a") [] ∷ attribute (codes "b") (codes "1") ∷ [];
  had_duplicate_attributes = false;
})

lines_together : items_of (codes "\nD html\n\nDp\nDq\nS br\nA a\nA b 1\n/\n/\nX\nT")
    ≡ Ok (TokenAt doctype 2 ∷ TokenAt line_break 6 ∷ TheEnd ∷ TokenAt (Characters []) 12 ∷ [])
lines_together = refl

first_bad_lines : map items_of (codes "Q x" ∷ codes "\nS a\nA b\nA b\nQ" ∷ codes "D\nDs\nDp\nDs" ∷ codes "S a\nT x\n/" ∷ codes "N\r\n" ∷ [])
    ≡ Err 1 ∷ Err 4 ∷ Err 4 ∷ Err 3 ∷ Err 1 ∷ []
first_bad_lines = refl

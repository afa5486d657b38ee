-- The escape of a text (HTML standard, section 13.3: escaping a string).
use Rattle.std.specs.Prelude.{ℕ, Bool, List, ◌==◌, ◌&&◌, if◌then◌else◌, codes}
use Rattle.std.specs.Char.{encode_utf8}
use Rattle.std.specs.List.{flat_map}
use Rattle.std.specs.Str.{chars}

-- the escape of a character: `&`, U+00A0, `<`, `>` and, in the attribute mode, `"` have a reference
abbrev pub escape_char : (attr_mode : Bool) → ℕ → List ℕ
escape_char attr_mode c =
    if c == 0x26 then codes "&amp;"
    else (if c == 0xa0 then codes "&nbsp;"
    else (if c == 0x3c then codes "&lt;"
    else (if c == 0x3e then codes "&gt;"
    else (if attr_mode && (c == 0x22) then codes "&quot;"
    else encode_utf8 c))))

-- character by character
abbrev pub escape : (attr_mode : Bool) → List ℕ → List ℕ
escape attr_mode text = flat_map (escape_char attr_mode) (chars text)

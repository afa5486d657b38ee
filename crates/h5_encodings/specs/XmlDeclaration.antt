-- The encoding that an XML declaration declares (HTML standard, section 13.2.3.2, "get an XML encoding").
use Rattle.std.specs.Prelude.{ℕ, ◌==◌, ◌||◌, if◌then◌else◌, List, [], ◌∷◌, codes, Option, Some, None}
use Rattle.h5_markup.specs.Cuts.{before, from}
use Rattle.h5_encodings.specs.declared.encoding.Encoding.{Encoding}
use Rattle.h5_encodings.specs.declared.cut.Class.TheVariants.{UpToSpace, Byte}
use Rattle.h5_encodings.specs.Cuts.{begins, behind, is_in, past}
use Rattle.h5_encodings.specs.Labels.{encoding_labelled}
use Rattle.h5_encodings.specs.Said.{instead_of_utf16}

abbrev pub read_as : Option Encoding → Option Encoding
read_as None = None
read_as (Some encoding) = Some (instead_of_utf16 encoding)

-- a label with a byte up to SPACE isn't valid
abbrev pub without_space : (label from_space : List ℕ) → Option Encoding
without_space label [] = read_as (encoding_labelled label)
without_space label (b ∷ t) = None

abbrev pub in_quotes : (label from_quote : List ℕ) → Option Encoding
in_quotes label [] = None
in_quotes label (b ∷ t) = without_space label (from (is_in UpToSpace) label)

abbrev pub quote_at : List ℕ → Option Encoding
quote_at [] = None
quote_at (b ∷ t) = if b == 34 || b == 39 then in_quotes (before (is_in (Byte b)) t) (from (is_in (Byte b)) t) else None

abbrev pub equals_at : List ℕ → Option Encoding
equals_at [] = None
equals_at (b ∷ t) = if b == 61 then quote_at (past UpToSpace t) else None

-- what follows the first `encoding`
abbrev pub behind_encoding : Option (List ℕ) → Option Encoding
behind_encoding None = None
behind_encoding (Some t) = equals_at (past UpToSpace t)

-- the declaration ends before its `>`
abbrev pub in_declaration : (declaration from_end : List ℕ) → Option Encoding
in_declaration declaration [] = None
in_declaration declaration (b ∷ t) = behind_encoding (behind (codes "encoding") declaration)

unfoldable pub xml_encoding : List ℕ → Option Encoding
xml_encoding t = if begins (codes "<?xml") t then in_declaration (before (is_in (Byte 62)) t) (from (is_in (Byte 62)) t) else None

-- The encoding that the attributes of a `meta` declare (HTML standard, section 13.2.3.2, "prescan a byte stream to determine
-- its encoding", step 2, the case of a `meta`).
use Rattle.std.specs.Prelude.{ℕ, Bool, false, true, if◌then◌else◌, List, codes, flat_map, encode_utf8, Option, Some, None}
use Rattle.h5_tables.specs.MetaEncoding.{meta_encoding}
use Rattle.h5_encodings.specs.declared.encoding.Encoding.{Encoding}
use Rattle.h5_encodings.specs.declared.encoding.Encoding.TheVariants as e
use Rattle.h5_encodings.specs.declared.encoding.SingleByte.TheVariants.{Windows1252}
use Rattle.h5_encodings.specs.declared.attribute.Name.{Name}
use Rattle.h5_encodings.specs.declared.attribute.Name.TheVariants.{HttpEquiv, Content, Charset, Other}
use Rattle.h5_encodings.specs.declared.said.Declared.{Declared}
use Rattle.h5_encodings.specs.declared.said.Declared.TheVariants.{Nothing, ByContent, ByCharset}
use Rattle.h5_encodings.specs.declared.said.Said.{Said}
use Rattle.h5_encodings.specs.Labels.{encoding_labelled, is_same_word}

-- nothing is declared yet
abbrev pub nothing_said : Said
nothing_said = record { has_equiv = false; has_pragma = false; has_content = false; declared = Nothing }

-- the encoding of a label, if there is one
abbrev pub labelled : Option (List ℕ) → Option Encoding
labelled None = None
labelled (Some label) = encoding_labelled label

-- each byte as the character with its number
abbrev pub isomorphic : List ℕ → List ℕ
isomorphic = flat_map encode_utf8

-- the encoding that a `content` declares
unfoldable pub encoding_in_content : List ℕ → Option Encoding
encoding_in_content value = labelled (meta_encoding (isomorphic value))

-- a `content` counts if it has an encoding and nothing was declared before
abbrev pub by_content : Declared → Option Encoding → Declared
by_content Nothing None = Nothing
by_content Nothing (Some encoding) = ByContent encoding
by_content (ByContent old) named = ByContent old
by_content (ByCharset old) named = ByCharset old

-- the first `charset` counts, even if it isn't a label
abbrev pub by_charset : Declared → Option Encoding → Declared
by_charset Nothing named = ByCharset named
by_charset (ByContent old) named = ByCharset named
by_charset (ByCharset old) named = ByCharset old

-- the first attribute with each name counts
abbrev pub says : Said → Name → List ℕ → Said
says said HttpEquiv value = if said.has_equiv then said else record said { has_equiv = true; has_pragma = is_same_word value (codes "content-type") }
says said Content value = if said.has_content then said else record said { has_content = true; declared = by_content said.declared (encoding_in_content value) }
says said Charset value = record said { declared = by_charset said.declared (encoding_labelled value) }
says said Other value = said

-- a `content` needs the pragma
abbrev pub declared_by : (has_pragma : Bool) → Declared → Option Encoding
declared_by has_pragma Nothing = None
declared_by has_pragma (ByContent encoding) = if has_pragma then Some encoding else None
declared_by has_pragma (ByCharset named) = named

-- the encoding that replaces one in which the declaration couldn't have been found
abbrev pub instead_of_utf16 : Encoding → Encoding
instead_of_utf16 e.Utf8 = e.Utf8
instead_of_utf16 e.Gbk = e.Gbk
instead_of_utf16 e.Gb18030 = e.Gb18030
instead_of_utf16 e.Big5 = e.Big5
instead_of_utf16 e.EucJp = e.EucJp
instead_of_utf16 e.Iso2022Jp = e.Iso2022Jp
instead_of_utf16 e.ShiftJis = e.ShiftJis
instead_of_utf16 e.EucKr = e.EucKr
instead_of_utf16 e.Replacement = e.Replacement
instead_of_utf16 e.Utf16be = e.Utf8
instead_of_utf16 e.Utf16le = e.Utf8
instead_of_utf16 e.XUserDefined = e.XUserDefined
instead_of_utf16 (e.SingleByte encoding) = e.SingleByte encoding

abbrev pub instead_of : Encoding → Encoding
instead_of e.Utf8 = e.Utf8
instead_of e.Gbk = e.Gbk
instead_of e.Gb18030 = e.Gb18030
instead_of e.Big5 = e.Big5
instead_of e.EucJp = e.EucJp
instead_of e.Iso2022Jp = e.Iso2022Jp
instead_of e.ShiftJis = e.ShiftJis
instead_of e.EucKr = e.EucKr
instead_of e.Replacement = e.Replacement
instead_of e.Utf16be = e.Utf8
instead_of e.Utf16le = e.Utf8
instead_of e.XUserDefined = e.SingleByte Windows1252
instead_of (e.SingleByte encoding) = e.SingleByte encoding

abbrev pub stands_for : Option Encoding → Option Encoding
stands_for None = None
stands_for (Some encoding) = Some (instead_of encoding)

-- THE ENCODING that a `meta` declares, if any
abbrev pub named_by : Said → Option Encoding
named_by said = stands_for (declared_by said.has_pragma said.declared)

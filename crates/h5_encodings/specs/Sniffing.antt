-- The encoding of a page (HTML standard, section 13.2.3.2, "Determining the character encoding").
use Rattle.std.specs.Prelude.{ℕ, List, [], ◌∷◌, if◌then◌else◌, Option, Some, None}
use Rattle.h5_encodings.specs.declared.encoding.Encoding.{Encoding}
use Rattle.h5_encodings.specs.declared.encoding.Encoding.TheVariants as e
use Rattle.h5_encodings.specs.declared.encoding.SingleByte.TheVariants.{Windows1252}
use Rattle.h5_encodings.specs.declared.sniffing.EncodingOpts.{EncodingOpts}
use Rattle.h5_encodings.specs.declared.sniffing.Source.{Source}
use Rattle.h5_encodings.specs.declared.sniffing.Source.TheVariants.{Mark, Transport, Meta, Default}
use Rattle.h5_encodings.specs.Cuts.{begins}
use Rattle.h5_encodings.specs.Prescan.{prescan}

-- no transport encoding; the default is that of browsers
abbrev pub default_opts : EncodingOpts
default_opts = record { transport = None; default = e.SingleByte Windows1252 }

-- the encoding of a byte order mark
abbrev pub marked : List ℕ → Option Encoding
marked t =
    if begins (0xEF ∷ 0xBB ∷ 0xBF ∷ []) t then Some e.Utf8
    else if begins (0xFE ∷ 0xFF ∷ []) t then Some e.Utf16be
    else if begins (0xFF ∷ 0xFE ∷ []) t then Some e.Utf16le
    else None

abbrev pub by_meta : Option Encoding → EncodingOpts → Encoding × Source
by_meta (Some encoding) opts = (encoding, Meta)
by_meta None opts = (opts.default, Default)

abbrev pub by_transport : Option Encoding → EncodingOpts → List ℕ → Encoding × Source
by_transport (Some encoding) opts t = (encoding, Transport)
by_transport None opts t = by_meta (prescan t) opts

abbrev pub by_mark : Option Encoding → EncodingOpts → List ℕ → Encoding × Source
by_mark (Some encoding) opts t = (encoding, Mark)
by_mark None opts t = by_transport opts.transport opts t

-- THE ENCODING of a page by its first bytes, and where it comes from: a byte order mark, the transport, a declaration in the
-- page, or the default
unfoldable pub encoding_of : EncodingOpts → List ℕ → Encoding × Source
encoding_of opts t = by_mark (marked t) opts t

-- The characters of the bytes from 128 on in the single-byte encodings: the tables that the code reads. They stay closed, so that
-- no proof computes with them. `write_tables.py` writes this file.
use Rattle.std.specs.Prelude.{ℕ, List}
use Rattle.h5_encodings.specs.declared.encoding.SingleByte.{SingleByte}
use Rattle.h5_encodings.specs.declared.encoding.SingleByte.TheVariants.{Ibm866, Iso8859_2, Iso8859_3, Iso8859_4, Iso8859_5, Iso8859_6, Iso8859_7, Iso8859_8, Iso8859_8I, Iso8859_10, Iso8859_13, Iso8859_14, Iso8859_15, Iso8859_16, Koi8R, Koi8U, Macintosh, Windows874, Windows1250, Windows1251, Windows1252, Windows1253, Windows1254, Windows1255, Windows1256, Windows1257, Windows1258, XMacCyrillic}
use Rattle.h5_encodings.specs.declared.upper_halves.TheConstants.{IBM866, ISO_8859_2, ISO_8859_3, ISO_8859_4, ISO_8859_5, ISO_8859_6, ISO_8859_7, ISO_8859_8, ISO_8859_10, ISO_8859_13, ISO_8859_14, ISO_8859_15, ISO_8859_16, KOI8_R, KOI8_U, MACINTOSH, WINDOWS_874, WINDOWS_1250, WINDOWS_1251, WINDOWS_1252, WINDOWS_1253, WINDOWS_1254, WINDOWS_1255, WINDOWS_1256, WINDOWS_1257, WINDOWS_1258, X_MAC_CYRILLIC}

unfoldable pub upper_half : SingleByte → List ℕ
upper_half Ibm866 = IBM866
upper_half Iso8859_2 = ISO_8859_2
upper_half Iso8859_3 = ISO_8859_3
upper_half Iso8859_4 = ISO_8859_4
upper_half Iso8859_5 = ISO_8859_5
upper_half Iso8859_6 = ISO_8859_6
upper_half Iso8859_7 = ISO_8859_7
upper_half Iso8859_8 = ISO_8859_8
upper_half Iso8859_8I = ISO_8859_8
upper_half Iso8859_10 = ISO_8859_10
upper_half Iso8859_13 = ISO_8859_13
upper_half Iso8859_14 = ISO_8859_14
upper_half Iso8859_15 = ISO_8859_15
upper_half Iso8859_16 = ISO_8859_16
upper_half Koi8R = KOI8_R
upper_half Koi8U = KOI8_U
upper_half Macintosh = MACINTOSH
upper_half Windows874 = WINDOWS_874
upper_half Windows1250 = WINDOWS_1250
upper_half Windows1251 = WINDOWS_1251
upper_half Windows1252 = WINDOWS_1252
upper_half Windows1253 = WINDOWS_1253
upper_half Windows1254 = WINDOWS_1254
upper_half Windows1255 = WINDOWS_1255
upper_half Windows1256 = WINDOWS_1256
upper_half Windows1257 = WINDOWS_1257
upper_half Windows1258 = WINDOWS_1258
upper_half XMacCyrillic = X_MAC_CYRILLIC

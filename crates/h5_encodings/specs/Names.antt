-- The names of the encodings (Encoding Standard, section 4.2, "Names and labels"). `write_tables.py` writes this file.
use Rattle.std.specs.Prelude.{ℕ, List, codes}
use Rattle.h5_encodings.specs.declared.encoding.Encoding.{Encoding}
use Rattle.h5_encodings.specs.declared.encoding.Encoding.TheVariants as e
use Rattle.h5_encodings.specs.declared.encoding.SingleByte.{SingleByte}
use Rattle.h5_encodings.specs.declared.encoding.SingleByte.TheVariants.{Ibm866, Iso8859_2, Iso8859_3, Iso8859_4, Iso8859_5, Iso8859_6, Iso8859_7, Iso8859_8, Iso8859_8I, Iso8859_10, Iso8859_13, Iso8859_14, Iso8859_15, Iso8859_16, Koi8R, Koi8U, Macintosh, Windows874, Windows1250, Windows1251, Windows1252, Windows1253, Windows1254, Windows1255, Windows1256, Windows1257, Windows1258, XMacCyrillic}

abbrev pub single_byte_name : SingleByte → List ℕ
single_byte_name Ibm866 = codes "IBM866"
single_byte_name Iso8859_2 = codes "ISO-8859-2"
single_byte_name Iso8859_3 = codes "ISO-8859-3"
single_byte_name Iso8859_4 = codes "ISO-8859-4"
single_byte_name Iso8859_5 = codes "ISO-8859-5"
single_byte_name Iso8859_6 = codes "ISO-8859-6"
single_byte_name Iso8859_7 = codes "ISO-8859-7"
single_byte_name Iso8859_8 = codes "ISO-8859-8"
single_byte_name Iso8859_8I = codes "ISO-8859-8-I"
single_byte_name Iso8859_10 = codes "ISO-8859-10"
single_byte_name Iso8859_13 = codes "ISO-8859-13"
single_byte_name Iso8859_14 = codes "ISO-8859-14"
single_byte_name Iso8859_15 = codes "ISO-8859-15"
single_byte_name Iso8859_16 = codes "ISO-8859-16"
single_byte_name Koi8R = codes "KOI8-R"
single_byte_name Koi8U = codes "KOI8-U"
single_byte_name Macintosh = codes "macintosh"
single_byte_name Windows874 = codes "windows-874"
single_byte_name Windows1250 = codes "windows-1250"
single_byte_name Windows1251 = codes "windows-1251"
single_byte_name Windows1252 = codes "windows-1252"
single_byte_name Windows1253 = codes "windows-1253"
single_byte_name Windows1254 = codes "windows-1254"
single_byte_name Windows1255 = codes "windows-1255"
single_byte_name Windows1256 = codes "windows-1256"
single_byte_name Windows1257 = codes "windows-1257"
single_byte_name Windows1258 = codes "windows-1258"
single_byte_name XMacCyrillic = codes "x-mac-cyrillic"

abbrev pub name_of : Encoding → List ℕ
name_of e.Utf8 = codes "UTF-8"
name_of e.Gbk = codes "GBK"
name_of e.Gb18030 = codes "gb18030"
name_of e.Big5 = codes "Big5"
name_of e.EucJp = codes "EUC-JP"
name_of e.Iso2022Jp = codes "ISO-2022-JP"
name_of e.ShiftJis = codes "Shift_JIS"
name_of e.EucKr = codes "EUC-KR"
name_of e.Replacement = codes "replacement"
name_of e.Utf16be = codes "UTF-16BE"
name_of e.Utf16le = codes "UTF-16LE"
name_of e.XUserDefined = codes "x-user-defined"
name_of (e.SingleByte encoding) = single_byte_name encoding

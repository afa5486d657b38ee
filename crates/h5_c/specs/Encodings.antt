-- The declared encoding of a page, and its text.
use Rattle.std.specs.Prelude.{ℕ, Bool, true, false, List, [], ◌∷◌, Option, Some, None, take}
use Rattle.h5_encodings.specs.Decoding.{start, text_from}
use Rattle.h5_encodings.specs.Labels.{encoding_labelled}
use Rattle.h5_encodings.specs.Names.{name_of}
use Rattle.h5_encodings.specs.Sniffing.{default_opts, encoding_of}
use Rattle.h5_encodings.specs.declared.encoding.Encoding.{Encoding}
use Rattle.h5_encodings.specs.declared.encoding.Encoding.TheVariants.{Utf8}
use Rattle.h5_encodings.specs.declared.sniffing.EncodingOpts.{EncodingOpts}
use Rattle.h5_encodings.specs.declared.sniffing.Source.{Source}
use Rattle.h5_encodings.specs.declared.sniffing.Source.TheVariants.{Mark, Transport, Meta, Default}

-- how the encoding of a page is found, if the transport declares this label
abbrev pub opts_by : Option Encoding → EncodingOpts
opts_by transport = record { transport = transport; default = default_opts.default }

-- the name of its encoding, or None if none is declared
abbrev pub name_said : Encoding × Source → List ℕ
name_said (encoding, Mark) = name_of encoding
name_said (encoding, Transport) = name_of encoding
name_said (encoding, Meta) = name_of encoding
name_said (encoding, Default) = []

-- as above, for a page that is UTF-8 if none is declared
abbrev pub page_opts : Option Encoding → EncodingOpts
page_opts transport = record { transport = transport; default = Utf8 }

-- the text of a page in the encoding that the label or the page declares
abbrev pub page_text : (label page : List ℕ) → List ℕ
page_text label page = text_from (start (encoding_of (page_opts (encoding_labelled label)) (take 1024 page)).0) page

-- there is a label, and no encoding has it
abbrev pub names_nothing : (label : List ℕ) → Option Encoding → Bool
names_nothing label (Some encoding) = false
names_nothing [] None = false
names_nothing (b ∷ label) None = true

abbrev pub is_unknown : (label : List ℕ) → Bool
is_unknown label = names_nothing label (encoding_labelled label)

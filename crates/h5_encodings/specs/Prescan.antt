-- The encoding that the first bytes of a page declare (HTML standard, section 13.2.3.2, "prescan a byte stream to determine its
-- encoding").
use Rattle.std.specs.Prelude.{ℕ, zero, suc, ◌-◌, ◌&&◌, ◌||◌, Bool, nat_le, if◌then◌else◌, List, [], ◌∷◌, length, take, drop, codes, Option, Some, None}
use Rattle.h5_markup.specs.Cuts.{from}
use Rattle.h5_encodings.specs.declared.encoding.Encoding.{Encoding}
use Rattle.h5_encodings.specs.declared.encoding.Encoding.TheVariants as e
use Rattle.h5_encodings.specs.declared.cut.Class.TheVariants.{BetweenAttributes, ValueEnd, Letter, Byte}
use Rattle.h5_encodings.specs.declared.said.Said.{Said}
use Rattle.h5_encodings.specs.declared.prescan.Kind.{Kind}
use Rattle.h5_encodings.specs.declared.prescan.Kind.TheVariants.{Comment, Meta, Tag, Declaration, Text}
use Rattle.h5_encodings.specs.declared.prescan.Inside as code
use Rattle.h5_encodings.specs.declared.prescan.Inside.TheVariants as i
use Rattle.h5_encodings.specs.declared.prescan.Here as found
use Rattle.h5_encodings.specs.declared.prescan.Here.TheVariants as h
use Rattle.h5_encodings.specs.Attributes.{Got, Cut, NoMore, Attribute, attribute}
use Rattle.h5_encodings.specs.Cuts.{begins, begins_in, behind, is_in}
use Rattle.h5_encodings.specs.Labels.{is_same_word}
use Rattle.h5_encodings.specs.Said.{named_by, nothing_said, says}
use Rattle.h5_encodings.specs.XmlDeclaration.{xml_encoding}

-- what the attributes of a tag declare, and the bytes from its `>` on; or the bytes end first
pub data Inside : Type 0 where
  CutOff : Inside
  Ended : Said → (rest : List ℕ) → Inside

abbrev pub inside_of : code.Inside → Inside
inside_of i.CutOff = CutOff
inside_of (i.Ended said rest) = Ended said rest.now

-- what follows at a position for an attribute
abbrev pub behind_attribute : Got → Said → (Said → List ℕ → Inside) → Inside
behind_attribute Cut said next = CutOff
behind_attribute (NoMore rest) said next = Ended said rest
behind_attribute (Attribute name value rest) said next = next (says said name value) rest

-- at most `most` attributes
abbrev pub attributes : (most : ℕ) → Said → List ℕ → Inside
attributes zero said t = CutOff
attributes (suc most) said t = behind_attribute (attribute t) said (λ more rest. attributes most more rest)

-- the attributes after a tag's name: each has at least one byte, so there are no more than bytes
unfoldable pub inside_tag : List ℕ → Inside
inside_tag t = attributes (length t) nothing_said t

-- the result at one position: the bytes end first; an encoding; or no encoding, and the bytes that are read next
pub data Here : Type 0 where
  Over : Here
  Names : Encoding → Here
  Passes : (rest : List ℕ) → Here

abbrev pub here_of : found.Here → Here
here_of h.Over = Over
here_of (h.Names encoding) = Names encoding
here_of (h.Passes rest) = Passes rest.now

abbrev pub is_meta : List ℕ → Bool
is_meta t = (nat_le 5 (length t) && is_same_word (take 5 t) (codes "<meta")) && begins_in BetweenAttributes (drop 5 t)

abbrev pub is_tag : List ℕ → Bool
is_tag t = (begins (codes "<") t && begins_in Letter (drop 1 t)) || (begins (codes "</") t && begins_in Letter (drop 2 t))

abbrev pub is_declaration : List ℕ → Bool
is_declaration t = begins (codes "<!") t || (begins (codes "</") t || begins (codes "<?") t)

-- what bytes begin with
unfoldable pub kind_of : List ℕ → Kind
kind_of t =
    if begins (codes "<!--") t then Comment
    else if is_meta t then Meta
    else if is_tag t then Tag
    else if is_declaration t then Declaration
    else Text

abbrev pub past_comment : Option (List ℕ) → Here
past_comment None = Over
past_comment (Some rest) = Passes rest

abbrev pub named : Option Encoding → List ℕ → Here
named None rest = Passes rest
named (Some encoding) rest = Names encoding

abbrev pub past_meta : Inside → Here
past_meta CutOff = Over
past_meta (Ended said rest) = named (named_by said) rest

abbrev pub past_tag : Inside → Here
past_tag CutOff = Over
past_tag (Ended said rest) = Passes rest

abbrev pub past_declaration : List ℕ → Here
past_declaration [] = Over
past_declaration (b ∷ t) = Passes (b ∷ t)

-- a comment ends with the first `-->` after its `<!`, so it may share the dashes of its `<!--`
abbrev pub here_in : Kind → List ℕ → Here
here_in Comment t = past_comment (behind (codes "-->") (drop 2 t))
here_in Meta t = past_meta (inside_tag (drop 5 t))
here_in Tag t = past_tag (inside_tag (from (is_in ValueEnd) t))
here_in Declaration t = past_declaration (from (is_in (Byte 62)) t)
here_in Text t = Passes (drop 1 t)

unfoldable pub found_here : List ℕ → Here
found_here t = here_in (kind_of t) t

-- the encoding that was found, or that of what is read next
abbrev pub found_or : Here → (List ℕ → Option Encoding) → Option Encoding
found_or Over next = None
found_or (Names encoding) next = Some encoding
found_or (Passes rest) next = next rest

-- the encoding that a `meta` declares; `skipped` bytes of the text were read already
abbrev pub scan : (skipped : ℕ) → List ℕ → Option Encoding
scan skipped [] = None
scan (suc skipped) (b ∷ t) = scan skipped t
scan zero (b ∷ t) = found_or (found_here (b ∷ t)) (λ rest. scan (length t - length rest) t)

abbrev pub first_of : Option Encoding → Option Encoding → Option Encoding
first_of None other = other
first_of (Some encoding) other = Some encoding

-- THE ENCODING that bytes declare: by `<?x` in UTF-16, by a `meta`, or by an XML declaration
unfoldable pub prescan : List ℕ → Option Encoding
prescan t =
    if begins (60 ∷ 0 ∷ 63 ∷ 0 ∷ 120 ∷ 0 ∷ []) t then Some e.Utf16le
    else if begins (0 ∷ 60 ∷ 0 ∷ 63 ∷ 0 ∷ 120 ∷ []) t then Some e.Utf16be
    else first_of (scan 0 t) (xml_encoding t)

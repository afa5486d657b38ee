-- What the input begins with, in each state of the plain tokenizer (HTML standard, section 13.2.5).
use Rattle.std.specs.Prelude.{ℕ, Bool, true, false, List, [], ◌∷◌, if◌then◌else◌, codes}
use Rattle.std.specs.Char.{is_ascii_alphabetic}
use Rattle.h5_token.specs.TokenText.{TokenText, NullCharacter}
use Rattle.h5_token.specs.declared.states.RawKind.{RawKind}
use Rattle.h5_token.specs.declared.states.RawKind.TheVariants.{Rcdata, Rawtext, ScriptData}
use Rattle.h5_markup.specs.Matching.{Match, Open, No, Found, and_then, or_else, literal, word, peek, ahead}
use Rattle.h5_markup.specs.Cuts.{is_in}
use Rattle.h5_markup.specs.Ending.{up_to_end}
use Rattle.h5_markup.specs.declared.cut.Class.TheVariants.{NameEnd}
use Rattle.h5_markup.specs.Text.{escape, reference, newline, cleaned}
use Rattle.h5_plain_tokenizer.specs.Tokens.{start_of, token_of}
use Rattle.h5_plain_tokenizer.specs.declared.front.Mode.{Mode}
use Rattle.h5_plain_tokenizer.specs.declared.front.Mode.TheVariants.{Data, RawData, Plaintext, Cdata}
use Rattle.h5_plain_tokenizer.specs.declared.front.Construct.{Construct}
use Rattle.h5_plain_tokenizer.specs.declared.front.Construct.TheVariants.{Comment, Doctype, StartTag, EndTag, RawEndTag}

-- the beginning of something other than plain text: a construct, something that a text replaces, a NUL that is a token, or a
-- switch to another state
pub data Opening : Type 0 where
  Begins : (construct : Construct) → Opening
  Gives : (text : List ℕ) → Opening
  Null : Opening
  Turns : (mode : Mode) → Opening

abbrev pub says : {A : Type 0} → Opening → Match A → Match Opening
says opening m = and_then m (λ _ rest. Found opening rest)

abbrev pub stands_for : Match (List ℕ) → Match Opening
stands_for m = and_then m (λ text rest. Found (Gives text) rest)

abbrev pub comment : List ℕ → Match Opening
comment xs = says (Begins Comment) (literal (codes "<!--") xs)

abbrev pub doctype : List ℕ → Match Opening
doctype xs = says (Begins Doctype) (word (codes "<!DOCTYPE") xs)

-- only if the adjusted current node isn't in the HTML namespace
abbrev pub cdata : Bool → List ℕ → Match Opening
cdata foreign xs = if foreign then says (Turns Cdata) (literal (codes "<![CDATA[") xs) else No

abbrev pub end_tag : List ℕ → Match Opening
end_tag xs = and_then (literal (codes "</") xs) (λ _ rest. says (Begins EndTag) (peek is_ascii_alphabetic rest))

abbrev pub start_tag : List ℕ → Match Opening
start_tag xs = and_then (literal (codes "<") xs) (λ _ rest. says (Begins StartTag) (peek is_ascii_alphabetic rest))

abbrev pub null : List ℕ → Match Opening
null xs = says Null (literal (0 ∷ []) xs)

abbrev pub in_data : Bool → List ℕ → Match Opening
in_data foreign xs =
    or_else (comment xs) (or_else (doctype xs) (or_else (cdata foreign xs) (or_else (end_tag xs) (or_else (start_tag xs)
    (or_else (stands_for (reference xs)) (or_else (stands_for (newline xs)) (null xs)))))))

-- the end tag of the current raw element, whose name is the last start tag's
abbrev pub raw_end_tag : List ℕ → List ℕ → Match Opening
raw_end_tag [] xs = No
raw_end_tag (c ∷ cs) xs = and_then (literal (codes "</") xs) (λ _ rest.
    says (Begins RawEndTag) (ahead (and_then (word (c ∷ cs) rest) (λ _ behind. peek (is_in NameEnd) behind)) rest))

abbrev pub reads_references : RawKind → Bool
reads_references Rcdata = true
reads_references Rawtext = false
reads_references ScriptData = false

abbrev pub in_raw : RawKind → List ℕ → List ℕ → Match Opening
in_raw kind last xs = or_else (raw_end_tag last xs) (stands_for (escape (reads_references kind) xs))

abbrev pub in_cdata : List ℕ → Match Opening
in_cdata xs = or_else (says (Turns Data) (literal (codes "]]>") xs)) (stands_for (cleaned xs))

-- the beginning of something other than a byte of plain text
abbrev pub opening : Mode → List ℕ → Bool → List ℕ → Match Opening
opening Data last foreign xs = in_data foreign xs
opening (RawData kind) last foreign xs = in_raw kind last xs
opening Plaintext last foreign xs = stands_for (cleaned xs)
opening Cdata last foreign xs = in_cdata xs

-- a part of the input: a bit of text, a token, or a switch to another state
pub data Piece : Type 0 where
  Bit : (text : List ℕ) → Piece
  Whole : (token : TokenText) → Piece
  Switch : (mode : Mode) → Piece

-- a construct, up to its end
abbrev pub concluded : Construct → Match (List ℕ) → Match Piece
concluded construct m = and_then m (λ text rest. Found (Whole (token_of construct text)) rest)

abbrev pub finished : Opening → List ℕ → Match Piece
finished (Begins construct) rest = concluded construct (up_to_end (start_of construct) rest)
finished (Gives text) rest = Found (Bit text) rest
finished Null rest = Found (Whole NullCharacter) rest
finished (Turns mode) rest = Found (Switch mode) rest

-- a byte of text
abbrev pub other : List ℕ → Match Piece
other [] = Open
other (x ∷ xs) = Found (Bit (x ∷ [])) xs

-- the state of the tokenizer: true if a byte order mark may come, the state between tokens, the last start tag's name, and the
-- line in which the next token begins
pub record ReaderPlace : Type 0 where
  pub at_start : Bool
  pub mode : Mode
  pub last : List ℕ
  pub line : ℕ

-- the byte order mark, U+FEFF
abbrev pub mark : List ℕ → Match (Unit {0})
mark xs = literal (0xef ∷ 0xbb ∷ 0xbf ∷ []) xs

-- the part that the input begins with
abbrev pub front : Mode → List ℕ → Bool → List ℕ → Match Piece
front mode last foreign xs = or_else (and_then (opening mode last foreign xs) finished) (other xs)

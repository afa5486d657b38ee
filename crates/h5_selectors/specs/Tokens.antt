-- The tokens of a selector, parsed character by character (CSS Syntax Level 3, section 4, "Tokenization"). Each definition parses the start
-- of a text.
use Rattle.std.specs.Prelude.{ℕ, ◌+◌, ◌*◌, ◌-◌, ◌^◌, ◌==◌, ◌&&◌, ◌||◌, Bool, true, false, if◌then◌else◌, List, [], ◌∷◌, ◌++◌, Option, None, Some, drop, length, min, nat_le, not, unwrap_or}
use Prim.Native.Nat.{zero, suc}
use Rattle.std.specs.Char.{digit_value, is_digit}
use lib.Utf8.{scalar}
use Rattle.std.specs.Option.{option_map_or, option_to_list}
use Rattle.std.specs.Str.{encode_utf8_all}
use Rattle.h5_selectors.specs.Fault.{Found, Outcome, wrong_at}
use Rattle.h5_selectors.specs.declared.fault.SelectorProblem.{SelectorProblem}
use Rattle.h5_selectors.specs.declared.fault.SelectorProblem.TheVariants.{Name, Namespace, Unclosed}

-- a result, and the text after it
pub record Reading (A : Type 0) : Type 0 where
  pub value : A
  pub rest : List ℕ

abbrev pub reading : {A : Type 0} → A → List ℕ → Reading A
reading value rest = record { value = value; rest = rest }

abbrev pub backslash : ℕ
backslash = 92

abbrev pub replacement : ℕ
replacement = 0xfffd

-- true if the first character passes a test
abbrev pub begins : (ℕ → Bool) → List ℕ → Bool
begins test [] = false
begins test (c ∷ text) = test c

abbrev pub begins_with : ℕ → List ℕ → Bool
begins_with wanted = begins (λ c. c == wanted)

-- true at this character, and at the end
abbrev pub ends : ℕ → List ℕ → Bool
ends wanted [] = true
ends wanted (c ∷ text) = c == wanted

-- a piece and the result after it; nothing without a piece
abbrev pub joined : {A : Type 0} → Option (Reading (List A)) → (List ℕ → Reading (List A)) → List ℕ → Reading (List A)
joined None behind text = reading [] text
joined (Some piece) behind text = reading (piece.value ++ (behind piece.rest).value) (behind piece.rest).rest

-- pieces, as many as there are: no more than characters
unfoldable pub pieces_within : {A : Type 0} → (List ℕ → Option (Reading (List A))) → ℕ → List ℕ → Reading (List A)
pieces_within piece zero text = reading [] text
pieces_within piece (suc n) text = joined (piece text) (pieces_within piece n) text

abbrev pub pieces : {A : Type 0} → (List ℕ → Option (Reading (List A))) → List ℕ → Reading (List A)
pieces piece text = pieces_within piece (length text) text

-- section 4.2, "Definitions"; CR and FF are also newlines here, since the input isn't preprocessed (section 3.3)
abbrev pub is_newline : ℕ → Bool
is_newline c = c == 10 || (c == 13 || c == 12)

abbrev pub is_blank : ℕ → Bool
is_blank c = (c == 32 || c == 9) || is_newline c

abbrev pub is_letter : ℕ → Bool
is_letter c = (nat_le 97 c && nat_le c 122) || (nat_le 65 c && nat_le c 90)

-- a NUL is read as U+FFFD
abbrev pub begins_name : ℕ → Bool
begins_name c = (is_letter c || (c == 95 || c == 0)) || nat_le 128 c

abbrev pub is_in_name : ℕ → Bool
is_in_name c = begins_name c || (is_digit c 10 || c == 45)

abbrev pub cleaned : ℕ → ℕ
cleaned c = if c == 0 then replacement else c

-- from after `/*` to after the first `*/`, or to the end (section 4.3.2, "Consume comments")
abbrev pub behind_comment : List ℕ → List ℕ
behind_comment [] = []
behind_comment (c ∷ text) = if c == 42 && begins_with 47 text then drop 1 text else behind_comment text

abbrev pub is_comment : List ℕ → Bool
is_comment text = begins_with 47 text && begins_with 42 (drop 1 text)

-- a comment, which has no characters
abbrev pub comment_at : List ℕ → Option (Reading (List ℕ))
comment_at text = if is_comment text then Some (reading [] (behind_comment (drop 2 text))) else None

-- whitespace or a comment
abbrev pub blank_at : List ℕ → Option (Reading (List ℕ))
blank_at [] = None
blank_at (c ∷ text) = if is_blank c then Some (reading (c ∷ []) text) else comment_at (c ∷ text)

-- the text after comments; the whitespace among comments and whitespace, and the text after these
unfoldable pub behind_comments : List ℕ → List ℕ
behind_comments text = (pieces comment_at text).rest

unfoldable pub blanks : List ℕ → Reading (List ℕ)
blanks text = pieces blank_at text

-- true if there is whitespace, maybe after comments
abbrev pub is_spaced : List ℕ → Bool
is_spaced text = begins (λ _. true) (blanks text).value

abbrev pub behind_blanks : List ℕ → List ℕ
behind_blanks text = (blanks text).rest

abbrev pub digit_at : (radix : ℕ) → List ℕ → Option (Reading (List ℕ))
digit_at radix [] = None
digit_at radix (c ∷ text) = if is_digit c radix then Some (reading (digit_value c ∷ []) text) else None

-- a number with another digit, at most the greatest number
abbrev pub appended : (radix : ℕ) → Option ℕ → ℕ → ℕ
appended radix number digit = min (unwrap_or number 0 * radix + digit) (2 ^ 32 - 1)

-- a number with these digits appended, if there are any
abbrev pub with_digits : (radix : ℕ) → Option ℕ → List ℕ → Option ℕ
with_digits radix number [] = number
with_digits radix number (digit ∷ digits) = with_digits radix (Some (appended radix number digit)) digits

-- at most this number of digits
unfoldable pub number_within : (radix most : ℕ) → List ℕ → Reading (Option ℕ)
number_within radix most text = reading (with_digits radix None (pieces_within (digit_at radix) most text).value) (pieces_within (digit_at radix) most text).rest

abbrev pub number_at : List ℕ → Reading (Option ℕ)
number_at text = number_within 10 (length text) text

-- the text after one whitespace, if there is one; CR LF is one
abbrev pub behind_blank : List ℕ → List ℕ
behind_blank text =
    if begins_with 13 text && begins_with 10 (drop 1 text) then drop 2 text
    else (if begins is_blank text then drop 1 text else text)

abbrev pub char_of : ℕ → ℕ
char_of number = if number == 0 then replacement else (if scalar number then number else replacement)

-- an escape, from after its `\` (section 4.3.7, "Consume an escaped code point"); without a number, the character means itself
abbrev pub escape_of : Reading (Option ℕ) → List ℕ → Reading ℕ
escape_of number [] = reading replacement []
escape_of number (c ∷ text) =
    elim number.value [
      | Some code ↦ reading (char_of code) (behind_blank number.rest)
      | None ↦ reading (cleaned c) text
    ]

unfoldable pub escape_at : List ℕ → Reading ℕ
escape_at text = escape_of (number_within 16 6 text) text

-- section 4.3.8, "Check if two code points are a valid escape"
abbrev pub is_escape : List ℕ → Bool
is_escape text = begins_with backslash text && not (begins is_newline (drop 1 text))

-- section 4.3.9, "Check if three code points would start an ident sequence"
abbrev pub is_at_name : List ℕ → Bool
is_at_name text =
    if begins_with 45 text then begins (λ c. c == 45 || begins_name c) (drop 1 text) || is_escape (drop 1 text)
    else begins begins_name text || is_escape text

-- section 4.3.11, "Consume an ident sequence"
abbrev pub name_piece_at : List ℕ → Option (Reading (List ℕ))
name_piece_at [] = None
name_piece_at (c ∷ text) =
    if is_escape (c ∷ text) then Some (reading ((escape_at text).value ∷ []) (escape_at text).rest)
    else (if is_in_name c then Some (reading (cleaned c ∷ []) text) else None)

unfoldable pub name_at : List ℕ → Reading (List ℕ)
name_at text = pieces name_piece_at text

-- the text after a newline; CR LF is one
abbrev pub behind_newline : List ℕ → List ℕ
behind_newline text = if begins_with 13 text && begins_with 10 (drop 1 text) then drop 2 text else drop 1 text

-- section 4.3.5, "Consume a string token": an escaped newline has no character, nor has a `\` at the end; an escape; a character
abbrev pub string_escape_at : List ℕ → Option (Reading (List ℕ))
string_escape_at [] = Some (reading [] [])
string_escape_at (c ∷ text) =
    if is_newline c then Some (reading [] (behind_newline (c ∷ text)))
    else Some (reading ((escape_at (c ∷ text)).value ∷ []) (escape_at (c ∷ text)).rest)

abbrev pub string_piece_at : (quote : ℕ) → List ℕ → Option (Reading (List ℕ))
string_piece_at quote [] = None
string_piece_at quote (c ∷ text) =
    if c == backslash then string_escape_at text
    else (if c == quote || is_newline c then None else Some (reading (cleaned c ∷ []) text))

-- in UTF-8, as texts are stored
abbrev pub in_utf8 : Reading (List ℕ) → Reading (List ℕ)
in_utf8 read = reading (encode_utf8_all read.value) read.rest

-- from after a quote to after the other, or to the end; it has no newline
unfoldable pub string_at : (quote : ℕ) → List ℕ → Outcome (Reading (List ℕ))
string_at quote text =
    let body = pieces (string_piece_at quote) text in
    if ends quote body.rest then Found (reading (encode_utf8_all body.value) (drop 1 body.rest)) else wrong_at Unclosed body.rest

-- a name; otherwise there is this problem
unfoldable pub named_or : SelectorProblem → List ℕ → Outcome (Reading (List ℕ))
named_or problem text = if is_at_name text then Found (in_utf8 (name_at text)) else wrong_at problem text

abbrev pub named_at : List ℕ → Outcome (Reading (List ℕ))
named_at text = named_or Name text

-- the bracket that closes a bracket
abbrev pub closing_of : ℕ → Option ℕ
closing_of c = if c == 40 then Some 41 else (if c == 91 then Some 93 else (if c == 123 then Some 125 else None))

-- the closing brackets that are missing, the innermost first, after one more character
abbrev pub missing_behind : ℕ → List ℕ → List ℕ
missing_behind c [] = option_to_list (closing_of c)
missing_behind c (closing ∷ missing) = if c == closing then missing else option_to_list (closing_of c) ++ closing ∷ missing

-- a comma or `)` outside of all brackets
abbrev pub is_component_end : ℕ → (missing : List ℕ) → Bool
is_component_end c [] = c == 44 || c == 41
is_component_end c (closing ∷ missing) = false

abbrev pub behind_string : (quote : ℕ) → List ℕ → List ℕ
behind_string quote text =
    let rest = (pieces (string_piece_at quote) text).rest in
    if begins_with quote rest then drop 1 rest else rest

-- a comment, an escape, a string or another character of component values, with the brackets that are missing after it (section 5.4.7,
-- "Consume a component value"); nothing at their end
abbrev pub character_at : (missing : List ℕ) → List ℕ → Option (Reading (List ℕ))
character_at missing [] = None
character_at missing (c ∷ text) =
    if c == 34 || c == 39 then Some (reading missing (behind_string c text))
    else (if is_component_end c missing then None else Some (reading (missing_behind c missing) text))

abbrev pub component_at : (missing : List ℕ) → List ℕ → Option (Reading (List ℕ))
component_at missing text =
    elim (comment_at text) [
      | Some comment ↦ Some (reading missing comment.rest)
      | None ↦ if is_escape text then Some (reading missing (escape_at (drop 1 text)).rest) else character_at missing text
    ]

unfoldable pub components_within : ℕ → (missing : List ℕ) → List ℕ → List ℕ
components_within zero missing text = text
components_within (suc n) missing text = option_map_or (λ one. components_within n one.value one.rest) (component_at missing text) text

-- the text after component values, up to a comma or a closing bracket; there are no more of them than characters
abbrev pub behind_values : List ℕ → List ℕ
behind_values text = components_within (length text) [] text

-- a closing bracket or the end, maybe after whitespace (section 5.4.8, "Consume a simple block"); otherwise there is this problem
unfoldable pub closed_at : (bracket : ℕ) → SelectorProblem → List ℕ → Outcome (Reading (Unit {0}))
closed_at bracket problem text =
    if ends bracket (behind_blanks text) then Found (reading tt (drop 1 (behind_blanks text))) else wrong_at problem (behind_blanks text)

-- a namespace prefix before a name or after `*`
abbrev pub has_namespace : List ℕ → Bool
has_namespace text = (begins_with 124 text && not (begins_with 61 (drop 1 text))) || (begins_with 42 text && begins_with 124 (drop 1 text))

-- no namespace prefix
unfoldable pub unqualified_at : List ℕ → Outcome (Reading (Unit {0}))
unqualified_at text = if has_namespace text then wrong_at Namespace text else Found (reading tt text)

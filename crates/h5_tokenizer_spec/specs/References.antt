-- Character references (HTML standard, sections 13.2.5.72 to 13.2.5.80).
use Rattle.std.specs.Prelude.{ℕ, zero, suc, ◌+◌, ◌*◌, ◌-◌, ◌%◌, Bool, true, false, not, List, [], ◌∷◌, ◌++◌, ◌==◌, ◌&&◌, ◌||◌, nat_lt, nat_le, if◌then◌else◌, codes, Option, Some, None, length, take, drop, encode_utf8}
use Rattle.std.specs.List.{list_any}
use Rattle.std.specs.Char.{is_ascii_digit, to_ascii_lowercase}
use Rattle.h5_names.specs.AttributeText.{is_same_text}
use Rattle.h5_tokenizer_spec.specs.declared.errors.ParseError.{ParseError}
use Rattle.h5_tokenizer_spec.specs.declared.errors.ParseError.TheVariants.{MissingSemicolonAfterCharacterReference, UnknownNamedCharacterReference, AbsenceOfDigitsInNumericCharacterReference, NullCharacterReference, CharacterReferenceOutsideUnicodeRange, SurrogateCharacterReference, NoncharacterCharacterReference, ControlCharacterReference}
use Rattle.h5_tokenizer_spec.specs.Signs.{number_sign, semicolon, equals_sign, is_alphanumeric, is_hex_digit, replacement}
use Rattle.h5_tokenizer_spec.specs.Words.{begins, same}
use Rattle.h5_tokenizer_spec.specs.Construction.{value_further}
use Rattle.h5_tokenizer_spec.specs.States.{Return, ToData, ToRcdata, ToValue, returned, NamedCharacterReference, AmbiguousAmpersand, NumericCharacterReference, HexadecimalStart, DecimalStart, Hexadecimal, Decimal, NumericCharacterReferenceEnd}
use Rattle.h5_tokenizer_spec.specs.Turn.{Turn, wrong, wrong_if, to, emit, again, emit_again, flush, flush_again}

-- a name, without the '&', and its characters
abbrev pub Reference : Type 0
Reference = List ℕ × List ℕ

-- a name of the table begins with this
abbrev pub is_beginning : List Reference → List ℕ → Bool
is_beginning table seen = list_any (λ reference. begins same seen reference.0) table

-- the characters of a name, if it is in the table
abbrev pub meaning_of : List Reference → List ℕ → Option (List ℕ)
meaning_of [] name = None
meaning_of (reference ∷ table) name = if is_same_text reference.0 name then Some reference.1 else meaning_of table name

-- the longest prefix of what was seen that is a name, and what follows it
pub record Longest : Type 0 where
  pub name : List ℕ
  pub text : List ℕ
  pub rest : List ℕ

abbrev pub or_shorter : List ℕ → ℕ → Option (List ℕ) → Option Longest → Option Longest
or_shorter seen n None shorter = shorter
or_shorter seen n (Some text) shorter = Some (record { name = take n seen; text = text; rest = drop n seen })

abbrev pub longest_within : List Reference → ℕ → List ℕ → Option Longest
longest_within table zero seen = None
longest_within table (suc n) seen = or_shorter seen (suc n) (meaning_of table (take (suc n) seen)) (longest_within table n seen)

abbrev pub longest : List Reference → List ℕ → Option Longest
longest table seen = longest_within table (length seen) seen

abbrev pub ends_in : ℕ → List ℕ → Bool
ends_in byte [] = false
ends_in byte (x ∷ []) = x == byte
ends_in byte (x ∷ y ∷ xs) = ends_in byte (y ∷ xs)

abbrev pub first_of : List ℕ → ℕ → ℕ
first_of [] x = x
first_of (y ∷ ys) x = y

abbrev pub is_in_attribute : Return → Bool
is_in_attribute ToData = false
is_in_attribute ToRcdata = false
is_in_attribute (ToValue value tag) = true

-- 13.2.5.72 Character reference state
abbrev pub character_reference_state : Return → ℕ → Turn
character_reference_state return x =
    if is_alphanumeric x then again (NamedCharacterReference return [])
    else if x == number_sign then to (NumericCharacterReference return)
    else flush_again return (codes "&")

-- no name was found: what was seen is text, by the ambiguous ampersand state for letters and digits
abbrev pub unnamed : Return → List ℕ → Turn
unnamed ToData text = emit_again text (AmbiguousAmpersand ToData)
unnamed ToRcdata text = emit_again text (AmbiguousAmpersand ToRcdata)
unnamed (ToValue value tag) text = again (AmbiguousAmpersand (ToValue value (value_further text tag)))

abbrev pub is_closed : Longest → Bool
is_closed found = ends_in semicolon found.name

-- for historical reasons, a name without a semicolon in an attribute is text if '=' or an alphanumeric follows
abbrev pub is_historical : Return → Longest → ℕ → Bool
is_historical return found x =
    let next = first_of found.rest x in
    is_in_attribute return && (not (is_closed found) && (next == equals_sign || is_alphanumeric next))

-- a name was found, and what was seen after it is text in each return state
abbrev pub named : Return → List ℕ → ℕ → Option Longest → Turn
named return seen x None = unnamed return (codes "&" ++ seen)
named return seen x (Some found) =
    if is_historical return found x then flush_again return (codes "&" ++ seen)
    else wrong_if (not (is_closed found)) MissingSemicolonAfterCharacterReference (flush_again return (found.text ++ found.rest))

-- 13.2.5.73 Named character reference state. The standard looks ahead, and consumes the longest name. Here the seen characters
-- are stored while a name begins with them, and then their longest prefix that is a name counts. The result is equal: they are
-- letters and digits, since ';' only ends names, and each return state and the ambiguous ampersand state take these as they
-- are.
abbrev pub named_character_reference_state : List Reference → Return → List ℕ → ℕ → Turn
named_character_reference_state table return seen x =
    let now = seen ++ (x ∷ []) in
    if is_beginning table now then to (NamedCharacterReference return now)
    else named return seen x (longest table seen)

-- 13.2.5.74 Ambiguous ampersand state
abbrev pub in_ambiguous : ℕ → Return → Turn
in_ambiguous x ToData = emit (x ∷ []) (AmbiguousAmpersand ToData)
in_ambiguous x ToRcdata = emit (x ∷ []) (AmbiguousAmpersand ToRcdata)
in_ambiguous x (ToValue value tag) = to (AmbiguousAmpersand (ToValue value (value_further (x ∷ []) tag)))

abbrev pub ambiguous_ampersand_state : Return → ℕ → Turn
ambiguous_ampersand_state return x =
    if is_alphanumeric x then in_ambiguous x return
    else wrong_if (x == semicolon) UnknownNamedCharacterReference (again (returned return))

-- 13.2.5.75 Numeric character reference state
abbrev pub numeric_character_reference_state : Return → ℕ → Turn
numeric_character_reference_state return x =
    if to_ascii_lowercase x == 120 then to (HexadecimalStart return (x ∷ [])) else again (DecimalStart return)

-- 13.2.5.76 Hexadecimal character reference start state
abbrev pub hexadecimal_start_state : Return → List ℕ → ℕ → Turn
hexadecimal_start_state return buffer x =
    if is_hex_digit x then again (Hexadecimal return 0)
    else wrong AbsenceOfDigitsInNumericCharacterReference (flush_again return (codes "&#" ++ buffer))

-- 13.2.5.77 Decimal character reference start state
abbrev pub decimal_start_state : Return → ℕ → Turn
decimal_start_state return x =
    if is_ascii_digit x then again (Decimal return 0)
    else wrong AbsenceOfDigitsInNumericCharacterReference (flush_again return (codes "&#"))

abbrev pub digit : ℕ → ℕ
digit x = if is_ascii_digit x then x - 48 else to_ascii_lowercase x - 87

-- a number above the last code point stays above it
abbrev pub bounded : ℕ → ℕ
bounded code = if nat_lt 0x10ffff code then 0x110000 else code

-- the code points of references to 0x80 to 0x9F; 0 if the number is the code point
abbrev pub replacements : List ℕ
replacements =
    0x20ac ∷ 0 ∷ 0x201a ∷ 0x0192 ∷ 0x201e ∷ 0x2026 ∷ 0x2020 ∷ 0x2021 ∷ 0x02c6 ∷ 0x2030 ∷ 0x0160 ∷ 0x2039 ∷ 0x0152 ∷ 0 ∷ 0x017d ∷ 0
    ∷ 0 ∷ 0x2018 ∷ 0x2019 ∷ 0x201c ∷ 0x201d ∷ 0x2022 ∷ 0x2013 ∷ 0x2014 ∷ 0x02dc ∷ 0x2122 ∷ 0x0161 ∷ 0x203a ∷ 0x0153 ∷ 0 ∷ 0x017e ∷ 0x0178 ∷ []

abbrev pub at_or : List ℕ → ℕ → ℕ
at_or [] n = 0
at_or (x ∷ xs) zero = x
at_or (x ∷ xs) (suc n) = at_or xs n

abbrev pub or_itself : ℕ → ℕ → ℕ
or_itself c replaced = if replaced == 0 then c else replaced

abbrev pub is_surrogate : ℕ → Bool
is_surrogate c = nat_le 0xd800 c && nat_le c 0xdfff

abbrev pub is_noncharacter : ℕ → Bool
is_noncharacter c = (nat_le 0xfdd0 c && nat_le c 0xfdef) || nat_le 0xfffe (c % 0x10000)

abbrev pub is_control : ℕ → Bool
is_control c = (nat_lt c 0x20 && not (c == 9 || (c == 10 || c == 12))) || (nat_le 0x7f c && nat_le c 0x9f)

-- the code point of a number, and its errors
abbrev pub code_point : ℕ → List ℕ
code_point c =
    if c == 0 || (nat_lt 0x10ffff c || is_surrogate c) then replacement
    else if nat_le 0x80 c && nat_le c 0x9f then encode_utf8 (or_itself c (at_or replacements (c - 0x80)))
    else encode_utf8 c

abbrev pub code_errors : ℕ → List ParseError
code_errors c =
    if c == 0 then NullCharacterReference ∷ []
    else if nat_lt 0x10ffff c then CharacterReferenceOutsideUnicodeRange ∷ []
    else if is_surrogate c then SurrogateCharacterReference ∷ []
    else if is_noncharacter c then NoncharacterCharacterReference ∷ []
    else if is_control c then ControlCharacterReference ∷ []
    else []

-- 13.2.5.80 Numeric character reference end state: no character is consumed
abbrev pub numeric_character_reference_end_state : Return → ℕ → Turn
numeric_character_reference_end_state return code = record (flush_again return (code_point code)) { errors = code_errors code }

-- as above, but with the ';' before it
abbrev pub ended_by_semicolon : Return → ℕ → Turn
ended_by_semicolon return code = record (flush return (code_point code)) { errors = code_errors code }

-- 13.2.5.78 Hexadecimal character reference state
abbrev pub hexadecimal_state : Return → ℕ → ℕ → Turn
hexadecimal_state return code x =
    if is_hex_digit x then to (Hexadecimal return (bounded (code * 16 + digit x)))
    else if x == semicolon then ended_by_semicolon return code
    else wrong MissingSemicolonAfterCharacterReference (again (NumericCharacterReferenceEnd return code))

-- 13.2.5.79 Decimal character reference state
abbrev pub decimal_state : Return → ℕ → ℕ → Turn
decimal_state return code x =
    if is_ascii_digit x then to (Decimal return (bounded (code * 10 + digit x)))
    else if x == semicolon then ended_by_semicolon return code
    else wrong MissingSemicolonAfterCharacterReference (again (NumericCharacterReferenceEnd return code))

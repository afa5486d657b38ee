-- The bytes that the rows name, with the standard's names of the characters.
use Rattle.std.specs.Prelude.{ℕ, Bool, List, [], ◌∷◌, ◌==◌, ◌||◌, ◌&&◌, nat_le}
use Rattle.std.specs.Char.{is_ascii_alphabetic, is_ascii_digit}
use Rattle.h5_tokenizer_spec.specs.declared.kinds.Quote.{Quote}
use Rattle.h5_tokenizer_spec.specs.declared.kinds.Quote.TheVariants.{Double, Single}

abbrev pub null : ℕ
null = 0

abbrev pub exclamation_mark : ℕ
exclamation_mark = 33

abbrev pub quotation_mark : ℕ
quotation_mark = 34

abbrev pub number_sign : ℕ
number_sign = 35

abbrev pub ampersand : ℕ
ampersand = 38

abbrev pub apostrophe : ℕ
apostrophe = 39

abbrev pub hyphen : ℕ
hyphen = 45

abbrev pub solidus : ℕ
solidus = 47

abbrev pub semicolon : ℕ
semicolon = 59

abbrev pub less_than_sign : ℕ
less_than_sign = 60

abbrev pub equals_sign : ℕ
equals_sign = 61

abbrev pub greater_than_sign : ℕ
greater_than_sign = 62

abbrev pub question_mark : ℕ
question_mark = 63

abbrev pub right_square_bracket : ℕ
right_square_bracket = 93

abbrev pub grave_accent : ℕ
grave_accent = 96

-- CHARACTER TABULATION, LINE FEED, FORM FEED, SPACE; a CARRIAGE RETURN has become a LINE FEED before
abbrev pub is_blank : ℕ → Bool
is_blank x = x == 9 || (x == 10 || (x == 12 || x == 32))

-- a byte that ends a name
abbrev pub is_name_end : ℕ → Bool
is_name_end x = is_blank x || (x == solidus || x == greater_than_sign)

abbrev pub is_quote : ℕ → Bool
is_quote x = x == quotation_mark || x == apostrophe

abbrev pub sign_of : Quote → ℕ
sign_of Double = quotation_mark
sign_of Single = apostrophe

abbrev pub is_alphanumeric : ℕ → Bool
is_alphanumeric x = is_ascii_digit x || is_ascii_alphabetic x

abbrev pub is_hex_digit : ℕ → Bool
is_hex_digit x = is_ascii_digit x || ((nat_le 65 x && nat_le x 70) || (nat_le 97 x && nat_le x 102))

-- U+FFFD REPLACEMENT CHARACTER
abbrev pub replacement : List ℕ
replacement = 0xef ∷ 0xbf ∷ 0xbd ∷ []

-- UTF-8 bytes as a text, when more bytes may follow.
use Rattle.std.specs.Prelude.{◌≡◌, ◌≤◌, ℕ, List, ◌++◌, length, None}
use Rattle.std.specs.Str.{StartsWithNoChar}
use Rattle.std.specs.Str.Lossy.{utf8_error_len, utf8_lossy}

-- bytes that may become a character: they begin one and end inside it, or there are none. So there are at most three
pub record IsUnfinished (bs : List ℕ) : Type 0 where
  pub no_char : StartsWithNoChar bs
  pub no_error : utf8_error_len bs ≡ None
  pub few : length bs ≤ 3

-- for any bytes that follow, the text of all is `text`, followed by that of what is left
abbrev pub Decodes : (bs text left : List ℕ) → Type 0
Decodes bs text left = (more : List ℕ) → utf8_lossy (bs ++ more) ≡ text ++ utf8_lossy (left ++ more)

-- bytes that were decoded as far as their text is decided: an unfinished character is left
pub record IsDecoded (bs text left : List ℕ) : Type 0 where
  pub decodes : Decodes bs text left
  pub unfinished : IsUnfinished left

-- the text of bytes was appended, except that of what is left
pub record Appends (bs left old new : List ℕ) : Type 0 where
  pub text : List ℕ
  pub appended : new ≡ old ++ text
  pub decodes : Decodes bs text left

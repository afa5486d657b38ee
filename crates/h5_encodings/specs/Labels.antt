-- The encoding that a label names (Encoding Standard, section 4.2, "Names and labels", "get an encoding").
use Rattle.std.specs.Prelude.{ℕ, ◌-◌, Bool, List, [], ◌∷◌, length, take, drop, map, if◌then◌else◌, Option, Some, None}
use Rattle.std.specs.Borrow.{Bor}
use Rattle.std.specs.Char.{is_ascii_whitespace, to_ascii_lowercase}
use Rattle.std.specs.List.{prefix_len, suffix_len}
use Rattle.std.specs.Str.{bytes_eq}
use Rattle.h5_encodings.specs.declared.encoding.Encoding.{Encoding}
use Rattle.h5_encodings.specs.declared.labels.TheConstants.{LABELS}

-- a text without ASCII whitespace at its start, and without that at its end
abbrev pub past_blanks : List ℕ → List ℕ
past_blanks t = drop (prefix_len is_ascii_whitespace t) t

abbrev pub up_to_blanks : List ℕ → List ℕ
up_to_blanks t = take (length t - suffix_len is_ascii_whitespace t) t

-- true if two texts are equal in any ASCII case
abbrev pub is_same_word : (text word : List ℕ) → Bool
is_same_word text word = bytes_eq (map to_ascii_lowercase text) (map to_ascii_lowercase word)

-- a table of labels, with texts as lists of bytes
abbrev pub rows_of : List (Bor (List ℕ) × Encoding) → List (List ℕ × Encoding)
rows_of = map (λ row. (row.0.now, row.1))

unfoldable pub all_labels : List (List ℕ × Encoding)
all_labels = map (λ row. (row.0.now, row.1)) LABELS

-- the encoding of the first row with this label
abbrev pub labelled_in : List (List ℕ × Encoding) → List ℕ → Option Encoding
labelled_in [] text = None
labelled_in (row ∷ rows) text = if is_same_word text row.0 then Some row.1 else labelled_in rows text

-- THE ENCODING of a label, if any: whitespace at its ends is ignored
abbrev pub encoding_labelled : List ℕ → Option Encoding
encoding_labelled text = labelled_in all_labels (up_to_blanks (past_blanks text))

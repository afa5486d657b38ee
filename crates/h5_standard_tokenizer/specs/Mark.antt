-- The byte order mark, U+FEFF, which isn't part of the input if one is allowed.
use Rattle.std.specs.Prelude.{ℕ, Bool, true, false, List, [], ◌∷◌}
use Rattle.h5_markup.specs.Matching.{Match, Open, No, Found, literal}

abbrev pub mark : List ℕ → Match (Unit {0})
mark xs = literal (0xef ∷ 0xbb ∷ 0xbf ∷ []) xs

abbrev pub behind : List ℕ → Match (Unit {0}) → List ℕ
behind xs Open = xs
behind xs No = xs
behind xs (Found found rest) = rest

-- what follows the mark, if one is allowed
abbrev pub behind_mark : Bool → List ℕ → List ℕ
behind_mark true xs = behind xs (mark xs)
behind_mark false xs = xs

abbrev pub is_open : Match (Unit {0}) → Bool
is_open Open = true
is_open No = false
is_open (Found found rest) = false

-- true if the mark may still come after this: before the first byte
abbrev pub still_at_start : Bool → List ℕ → Bool
still_at_start true xs = is_open (mark xs)
still_at_start false xs = false

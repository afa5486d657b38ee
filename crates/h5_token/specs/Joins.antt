-- Lists of tokens in which neighbouring texts are joined.
use Rattle.std.specs.Prelude.{ℕ, List, [], ◌∷◌, ◌++◌}
use Rattle.h5_token.specs.TokenText.{TokenText, Characters}

-- a text before a list: it is joined to a text that isn't empty; an empty text stays separate
abbrev pub glue : List ℕ → List TokenText → List TokenText
glue (b ∷ t) (Characters (d ∷ u) ∷ ts) = Characters ((b ∷ t) ++ d ∷ u) ∷ ts
glue t ts = Characters t ∷ ts

-- a list of tokens in which neighbouring texts that aren't empty are joined
abbrev pub join : List TokenText → List TokenText
join [] = []
join (Characters t ∷ ts) = glue t (join ts)
join (t ∷ ts) = t ∷ join ts

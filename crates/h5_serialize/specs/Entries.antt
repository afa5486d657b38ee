-- Stored openers: each with whether it or one around it is a void element.
use Rattle.std.specs.Prelude.{◌≡◌, List, [], ◌∷◌, map, reverse}
use Rattle.h5_serialize.specs.Openers.{are_hidden}
use Rattle.h5_serialize.specs.declared.openers.Opener.{Opener}
use Rattle.h5_serialize.specs.declared.openers.Entry.{Entry}

-- innermost first; the innermost is stored last
abbrev pub openers_in : List Entry → List Opener
openers_in entries = reverse (map (λ e. e.opener) entries)

-- the flag of each entry, innermost first, says whether tags inside it are omitted
abbrev pub AreMarkedFrom : List Entry → Type 0
AreMarkedFrom [] = Unit {0}
AreMarkedFrom (entry ∷ around) =
    (entry.is_hidden ≡ are_hidden (map (λ e. e.opener) (entry ∷ around))) × AreMarkedFrom around

abbrev pub AreMarked : List Entry → Type 0
AreMarked entries = AreMarkedFrom (reverse entries)

-- Bytes of plain text.
use Rattle.std.specs.Prelude.{ℕ, Bool, ◌==◌, ◌||◌, not}

-- a byte that is only text, in every state
abbrev pub is_plain : ℕ → Bool
is_plain x = not (x == 60 || (x == 38 || (x == 13 || (x == 0 || x == 93))))

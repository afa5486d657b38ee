-- ASCII whitespace (Infra standard): TAB, LF, FF, CR and SPACE.
use Rattle.std.specs.Prelude.{◌==◌, ℕ, Bool, true, ◌&&◌, ◌||◌, if◌then◌else◌, List, [], ◌∷◌}

abbrev pub is_blank : ℕ → Bool
is_blank b = (((b == 32 || b == 10) || b == 9) || b == 13) || b == 12

abbrev pub all_blank : List ℕ → Bool
all_blank [] = true
all_blank (b ∷ t) = is_blank b && all_blank t

-- the longest prefix of ASCII whitespace, and what follows it
abbrev pub blanks_of : List ℕ → List ℕ
blanks_of [] = []
blanks_of (b ∷ t) = if is_blank b then b ∷ blanks_of t else []

abbrev pub rest_of : List ℕ → List ℕ
rest_of [] = []
rest_of (b ∷ t) = if is_blank b then rest_of t else b ∷ t

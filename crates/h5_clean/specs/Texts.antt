-- What is left of a text, so that it is read back as it was written.
use Rattle.std.specs.Prelude.{ℕ, ◌==◌, ◌&&◌, Bool, true, false, List, [], ◌∷◌, if◌then◌else◌}
use Rattle.std.specs.Str.{is_utf8}
use Rattle.h5_builder_spec.specs.Blanks.{all_blank}
use Rattle.h5_clean.specs.declared.place.Spot.{Spot}
use Rattle.h5_clean.specs.declared.place.Spot.TheVariants as spot

-- CR becomes LF, and NUL is removed
abbrev pub readable : List ℕ → List ℕ
readable [] = []
readable (b ∷ t) = if b == 0 then readable t else (if b == 13 then 10 else b) ∷ readable t

-- in flow any text is allowed, in a table and its parts ASCII whitespace, and nowhere none
abbrev pub may_stand : Spot → List ℕ → Bool
may_stand spot.InFlow t = true
may_stand spot.Nowhere t = false
may_stand _ t = all_blank t

-- what is left of a text that is UTF-8
abbrev pub text_left : Spot → List ℕ → List ℕ
text_left s t = if is_utf8 t && may_stand s (readable t) then readable t else []

-- a text without U+FEFF at its start
abbrev pub without_marks : List ℕ → List ℕ
without_marks (a ∷ b ∷ c ∷ t) = if (a == 0xef) && ((b == 0xbb) && (c == 0xbf)) then without_marks t else a ∷ b ∷ c ∷ t
without_marks t = t

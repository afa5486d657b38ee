-- The number of bytes that a replacement consumes.
use Rattle.std.proofs.Common.{◌≡◌, ℕ, ◌+◌, ◌<◌, ◌≤◌, Bool, true, false, List, [], ◌∷◌, length, subst, arith}
use Rattle.std.specs.Prelude.{codes}
use Rattle.h5_markup.specs.Matching.{Match, Found, literal}
use Rattle.h5_markup.proofs.Eating.{Takes, Eats, literal_eats, found_eats, no_eats, and_then_eats, or_else_eats, eats_less}
use Rattle.h5_markup.specs.Text.{gives, reference, newline, cleaned, escape}

gives_eats : (bytes : List ℕ) (c : ℕ) (cs : List ℕ) → Eats 1 (λ xs. gives bytes (literal (c ∷ cs) xs))
gives_eats bytes c cs = eats_less 1 (omega arith) (and_then_eats (literal_eats (c ∷ cs)) (λ _. found_eats bytes))

pub reference_eats : Eats 1 reference
reference_eats =
    or_else_eats (gives_eats (38 ∷ []) 38 (codes "amp;"))
    (or_else_eats (gives_eats (60 ∷ []) 38 (codes "lt;"))
    (or_else_eats (gives_eats (62 ∷ []) 38 (codes "gt;"))
    (or_else_eats (gives_eats (34 ∷ []) 38 (codes "quot;"))
    (gives_eats (0xc2 ∷ 0xa0 ∷ []) 38 (codes "nbsp;")))))

pub newline_eats : Eats 1 newline
newline_eats = or_else_eats (gives_eats (10 ∷ []) 13 (10 ∷ [])) (gives_eats (10 ∷ []) 13 [])

pub cleaned_eats : Eats 1 cleaned
cleaned_eats = or_else_eats newline_eats (gives_eats (0xef ∷ 0xbf ∷ 0xbd ∷ []) 0 [])

pub escape_eats : (references : Bool) → Eats 1 (escape references)
escape_eats true = or_else_eats reference_eats cleaned_eats
escape_eats false = or_else_eats (no_eats 1) cleaned_eats

-- a match leaves fewer bytes
pub found_shorter : {A : Type 0} {p : List ℕ → Match A} (a : A) (xs rest : List ℕ) → Eats 1 p → p xs ≡ Found a rest → length rest < length xs
found_shorter {A} a xs rest h e = let P : Match A → Type 0 = λ m. Takes 1 (length xs) m in let t : 1 + length rest ≤ length xs = subst P e (h.takes xs) in omega arith

-- The byte order mark, if a text comes in chunks of whole characters.
use Rattle.std.proofs.Common.{◌≡◌, ◌==◌, ℕ, Bool, true, false, List, [], ◌∷◌, ◌++◌, refl, ap, sym, subst, ◌∙◌, IsUtf8}
use Rattle.std.proofs.lemmas.Bool.{false≢true}
use Rattle.std.proofs.lemmas.Map.Views.{exact_unsigned_eq}
use Rattle.std.proofs.lemmas.Str.{is_utf8-from_IsUtf8}
use Rattle.std.specs.Str.{chars, is_utf8}
use Rattle.h5_markup.specs.Matching.{Found, Grows, Match, No, Open, literal}
use Rattle.h5_markup.proofs.Growth.{literal_stable}
use Rattle.h5_standard_tokenizer.specs.Mark.{behind, behind_mark, is_open, mark, still_at_start}

-- what was decided about it doesn't depend on what follows
grown : (xs more : List ℕ) (m n : Match (Unit {0})) → Grows m more n → is_open m ≡ false → behind (xs ++ more) n ≡ behind xs m ++ more
grown xs more Open n g e = absurd (false≢true (sym e))
grown xs more No n g e = ap (behind (xs ++ more)) g
grown xs more (Found found rest) n g e = ap (behind (xs ++ more)) g

pub decided : (at_start : Bool) (xs more : List ℕ) → still_at_start at_start xs ≡ false → behind_mark at_start (xs ++ more) ≡ behind_mark at_start xs ++ more
decided false xs more e = refl
decided true xs more e = grown xs more (mark xs) (mark (xs ++ more)) ((literal_stable (0xef ∷ 0xbb ∷ 0xbf ∷ [])).grows xs more) e

-- no text is a proper prefix of it except the empty one
not_whole : (xs : List ℕ) → is_utf8 xs ≡ false → ¬ (IsUtf8 xs)
not_whole xs e u = false≢true (sym e ∙ is_utf8-from_IsUtf8 xs u)

one : ¬ (IsUtf8 (0xef ∷ []))
unfolding is_utf8 chars
one = not_whole (0xef ∷ []) refl

two : ¬ (IsUtf8 (0xef ∷ 0xbb ∷ []))
unfolding is_utf8 chars
two = not_whole (0xef ∷ 0xbb ∷ []) refl

-- one byte of it, if a prefix of it is there
first_of : (p x : ℕ) (ps xs : List ℕ) (b : Bool) → (x == p) ≡ b → is_open (literal (p ∷ ps) (x ∷ xs)) ≡ true → (x ≡ p) × (is_open (literal ps xs) ≡ true)
first_of p x ps xs true e o = (exact_unsigned_eq x p e, rw e at o)
first_of p x ps xs false e o = absurd (false≢true (rw e at o))

whole_one : (x : ℕ) → IsUtf8 (x ∷ []) → is_open (mark (x ∷ [])) ≡ true → ⊥
whole_one x u o = let f = first_of 0xef x (0xbb ∷ 0xbf ∷ []) [] (x == 0xef) refl o in one (subst (λ y. IsUtf8 (y ∷ [])) f.0 u)

whole_two : (x y : ℕ) → IsUtf8 (x ∷ y ∷ []) → is_open (mark (x ∷ y ∷ [])) ≡ true → ⊥
whole_two x y u o =
    let f = first_of 0xef x (0xbb ∷ 0xbf ∷ []) (y ∷ []) (x == 0xef) refl o in
    let g = first_of 0xbb y (0xbf ∷ []) [] (y == 0xbb) refl f.1 in
    two (subst (λ w. IsUtf8 (0xef ∷ w ∷ [])) g.0 (subst (λ w. IsUtf8 (w ∷ y ∷ [])) f.0 u))

whole_three : (x y z : ℕ) (zs : List ℕ) → is_open (mark (x ∷ y ∷ z ∷ zs)) ≡ true → ⊥
whole_three x y z zs o =
    let f = first_of 0xef x (0xbb ∷ 0xbf ∷ []) (y ∷ z ∷ zs) (x == 0xef) refl o in
    let g = first_of 0xbb y (0xbf ∷ []) (z ∷ zs) (y == 0xbb) refl f.1 in
    let h = first_of 0xbf z [] zs (z == 0xbf) refl g.1 in
    false≢true h.1

pub whole : (xs : List ℕ) → IsUtf8 xs → is_open (mark xs) ≡ true → xs ≡ []
whole [] u e = refl
whole (x ∷ []) u e = absurd (whole_one x u e)
whole (x ∷ y ∷ []) u e = absurd (whole_two x y u e)
whole (x ∷ y ∷ z ∷ zs) u e = absurd (whole_three x y z zs e)

-- The parts of a declaration, as the standard library and h5_markup split them.
use Rattle.std.proofs.Common.{◌≡◌, ◌≢◌, ◌∙◌, ◌<◌, ◌+◌, ℕ, suc, Bool, true, false, not, ◌||◌, List, [], ◌∷◌, cond, eqb, length, take, refl, sym, ap, arith}
use Rattle.std.proofs.lemmas.Bool.{eqb-true, false_from_ne_true, false≢true}
use Rattle.std.proofs.Math.Seq.{take-length}
use Rattle.std.specs.Borrow.{Bor}
use Rattle.std.specs.Char.{is_ascii_whitespace}
use Rattle.std.specs.List.{before_first, position_or_len}
use Rattle.std.specs.Prelude.{Option, None, Some, MatchOption, option_map}
use Rattle.h5_markup.specs.Cuts.{before, past}
use Rattle.h5_markup.specs.declared.cut.Class.TheVariants.{Blank}
use Rattle.h5_tables.specs.MetaEncoding.{after_blanks, after_equals, encoding_at, up_to_end, up_to_quote, with_first}

-- a quote that isn't closed
none_step : (stop : Bool) (b n m : ℕ) (later : Option (List ℕ)) → cond (not stop) (1 + n) 0 ≡ suc m → (n ≡ m → later ≡ None) → cond stop (Some []) (with_first b later) ≡ None
none_step true b n m later h f = absurd (omega arith)
none_step false b n m later h f = ap (with_first b) (f (omega arith))

pub not_closed : (quote : ℕ) (t : List ℕ) → position_or_len (λ b. eqb b quote) t ≡ length t → up_to_quote quote t ≡ None
not_closed quote [] h = refl
not_closed quote (b ∷ t) h = none_step (eqb b quote) b (position_or_len (λ x. eqb x quote) t) (length t) (up_to_quote quote t) h (not_closed quote t)

-- one that is
some_step : (stop : Bool) (b n : ℕ) (t : List ℕ) (later : Option (List ℕ)) → cond (not stop) (1 + n) 0 < suc (length t) → (n < length t → later ≡ Some (take n t)) → cond stop (Some []) (with_first b later) ≡ Some (take (cond (not stop) (1 + n) 0) (b ∷ t))
some_step true b n t later h f = refl
some_step false b n t later h f =
    let same : suc n ≡ 1 + n = omega arith in
    ap (with_first b) (f (omega arith)) ∙ ap (λ k. Some (take k (b ∷ t))) same

pub closed : (quote : ℕ) (t : List ℕ) → position_or_len (λ b. eqb b quote) t < length t → up_to_quote quote t ≡ Some (before_first (λ b. eqb b quote) t)
closed quote [] h = absurd (omega arith)
closed quote (b ∷ t) h = some_step (eqb b quote) b (position_or_len (λ x. eqb x quote) t) t (up_to_quote quote t) h (closed quote t)

-- the text before the first byte of a kind
before_step : (stop : Bool) (x n : ℕ) (xs more : List ℕ) → more ≡ take n xs → cond stop [] (x ∷ more) ≡ take (cond (not stop) (1 + n) 0) (x ∷ xs)
before_step true x n xs more e = refl
before_step false x n xs more e =
    let same : suc n ≡ 1 + n = omega arith in
    ap (λ l. x ∷ l) e ∙ ap (λ k. take k (x ∷ xs)) same

pub before_is : (stop : ℕ → Bool) (xs : List ℕ) → before stop xs ≡ before_first stop xs
before_is stop [] = refl
before_is stop (x ∷ xs) = before_step (stop x) x (position_or_len stop xs) xs (before stop xs) (before_is stop xs)

pub nothing_cut : (stop : ℕ → Bool) (xs : List ℕ) → position_or_len stop xs ≡ length xs → before stop xs ≡ xs
nothing_cut stop xs h = before_is stop xs ∙ ap (λ n. take n xs) h ∙ take-length xs

-- the text before the first whitespace, and in that before the first `;`
end_step : (blank : Bool) (x : ℕ) (rest xs : List ℕ) → rest ≡ before (λ b. eqb b 59) xs → cond (blank || eqb x 59) [] (x ∷ rest) ≡ before (λ b. eqb b 59) (cond blank [] (x ∷ xs))
end_step true x rest xs e = refl
end_step false x rest xs e = ap (λ l. cond (eqb x 59) [] (x ∷ l)) e

pub end_is : (t : List ℕ) → up_to_end t ≡ before (λ b. eqb b 59) (before is_ascii_whitespace t)
end_is [] = refl
end_is (x ∷ t) = end_step (is_ascii_whitespace x) x (up_to_end t) (before is_ascii_whitespace t) (end_is t)

-- after whitespace
blank_step : (blank : Bool) (x : ℕ) (xs rest more : List ℕ) → rest ≡ more → cond (not blank) (x ∷ xs) rest ≡ cond blank more (x ∷ xs)
blank_step true x xs rest more e = e
blank_step false x xs rest more e = refl

pub blanks_are : (t : List ℕ) → past Blank t ≡ after_blanks t
blanks_are [] = refl
blanks_are (x ∷ t) = blank_step (is_ascii_whitespace x) x t (past Blank t) (after_blanks t) (blanks_are t)

-- after `=`
equals_step : (b : Bool) (x : ℕ) (t : List ℕ) → eqb x 61 ≡ b → ((rest : List ℕ) → x ∷ t ≢ 61 ∷ rest) → cond b (Some t) None ≡ None
equals_step true x t h f = absurd (f t (ap (λ y. y ∷ t) (eqb-true x 61 h)))
equals_step false x t h f = refl

no_equals : (t : List ℕ) → ((rest : List ℕ) → t ≢ 61 ∷ rest) → after_equals t ≡ None
no_equals [] f = refl
no_equals (x ∷ t) f = equals_step (eqb x 61) x t refl f

pub equals_is : (t : List ℕ) (found : Option (Bor (List ℕ))) → MatchOption found ((rest : List ℕ) → t ≢ 61 ∷ rest) (λ rest. t ≡ 61 ∷ rest.now) → option_map (λ (rest : Bor (List ℕ)). rest.now) found ≡ after_equals t
equals_is t None h = sym (no_equals t h)
equals_is t (Some rest) h = sym (ap after_equals h)

-- the text begins with neither quote
no_quote : (b : ℕ) (q : ℕ) (t : List ℕ) → ((rest : List ℕ) → b ∷ t ≢ q ∷ rest) → eqb b q ≡ false
no_quote b q t f = false_from_ne_true (eqb b q) (λ h. f t (ap (λ x. x ∷ t) (eqb-true b q h)))

pub not_quoted : (t : List ℕ) → false ≡ eqb (length t) 0 → ((rest : List ℕ) → t ≢ 34 ∷ rest) → ((rest : List ℕ) → t ≢ 39 ∷ rest) → encoding_at t ≡ Some (up_to_end t)
not_quoted [] some f g = absurd (false≢true some)
not_quoted (b ∷ t) some f g = rw (no_quote b 34 t f, no_quote b 39 t g)

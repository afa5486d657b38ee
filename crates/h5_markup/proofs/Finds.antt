-- The standard library's tests of prefixes, in the words of Matching.
use Rattle.std.proofs.Common.{◌≡◌, ℕ, Bool, true, false, List, [], ◌∷◌, ◌++◌, cond, eqb, drop, refl, sym, ap, ◌∙◌, subst, append-nil}
use Rattle.std.proofs.lemmas.Bool.{eqb-true, eq-eqb}
use Rattle.h5_markup.specs.Matching.{Match, Open, No, Found, literal}

literal_yes : (n r : List ℕ) → literal n (n ++ r) ≡ Found tt r
literal_yes [] r = refl
literal_yes (x ∷ n) r = rw (eq-eqb x x refl) (literal_yes n r)

literal_short : (s m : List ℕ) (y : ℕ) → literal (s ++ y ∷ m) s ≡ Open
literal_short [] m y = refl
literal_short (x ∷ s) m y = rw (eq-eqb x x refl) (literal_short s m y)

-- the three results
data Way (n s : List ℕ) : Match (Unit {0}) → Type 0 where
  stands : (r : List ℕ) → s ≡ n ++ r → Way n s (Found tt r)
  begins : (y : ℕ) (m : List ℕ) → n ≡ s ++ y ∷ m → Way n s Open
  differs : Way n s No

way_more : (x : ℕ) (n s : List ℕ) (m : Match (Unit {0})) → Way n s m → Way (x ∷ n) (x ∷ s) m
way_more x n s m (stands r h) = stands r (ap (λ l. x ∷ l) h)
way_more x n s m (begins y t h) = begins y t (ap (λ l. x ∷ l) h)
way_more x n s m differs = differs

way_if : (b : Bool) (x p : ℕ) (n s : List ℕ) → eqb x p ≡ b → Way n s (literal n s) → Way (p ∷ n) (x ∷ s) (cond b (literal n s) No)
way_if false x p n s h w = differs
way_if true x p n s h w = let P : ℕ → Type 0 = λ q. Way (q ∷ n) (x ∷ s) (literal n s) in subst P (eqb-true x p h) (way_more x n s _ w)

way : (n s : List ℕ) → Way n s (literal n s)
way [] s = stands s refl
way (p ∷ n) [] = begins p n refl
way (p ∷ n) (x ∷ s) = way_if (eqb x p) x p n s refl (way n s)

no_by : (n s : List ℕ) (m : Match (Unit {0})) → Way n s m → ((r : List ℕ) → s ≡ n ++ r → ⊥) → ((r : List ℕ) → n ≡ s ++ r → ⊥) → m ≡ No
no_by n s m (stands r h) f g = absurd (f r h)
no_by n s m (begins y t h) f g = absurd (g (y ∷ t) h)
no_by n s m differs f g = refl

-- the text neither begins with the needle nor is a prefix of it
pub literal_no : (n s : List ℕ) → ((r : List ℕ) → s ≡ n ++ r → ⊥) → ((r : List ℕ) → n ≡ s ++ r → ⊥) → literal n s ≡ No
literal_no n s f g = no_by n s _ (way n s) f g

pub literal_stripped : (n s rest : List ℕ) (k : ℕ) → s ≡ n ++ drop k s → rest ≡ drop k s → Found tt rest ≡ literal n s
literal_stripped n s rest k e f = ap (λ l. Found tt l) f ∙ sym (literal_yes n (drop k s)) ∙ ap (literal n) (sym e)

begun : (n s d : List ℕ) → n ≡ s ++ d → ((r : List ℕ) → s ≡ n ++ r → ⊥) → Open ≡ literal n s
begun n s [] e f = absurd (f [] (rw append-nil (sym (rw append-nil at e))))
begun n s (y ∷ m) e f = rw e (sym (literal_short s m y))

pub literal_begun : (n s : List ℕ) (k : ℕ) → n ≡ s ++ drop k n → ((r : List ℕ) → s ≡ n ++ r → ⊥) → Open ≡ literal n s
literal_begun n s k e f = begun n s (drop k n) e f

gives_by : (n s r : List ℕ) (m : Match (Unit {0})) → Way n s m → m ≡ Found tt r → s ≡ n ++ r
gives_by n s r m (stands t h) e = let same : t ≡ r = cc in rw (← same) h
gives_by n s r m (begins y t h) e = cc
gives_by n s r m differs e = cc

-- the remainder after a literal
pub literal_gives : (n s r : List ℕ) → literal n s ≡ Found tt r → s ≡ n ++ r
literal_gives n s r e = gives_by n s r (literal n s) (way n s) e

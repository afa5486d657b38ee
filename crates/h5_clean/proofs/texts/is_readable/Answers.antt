use Rattle.std.proofs.Common.{◌≡◌, ℕ, zero, suc, ◌<◌, ◌==◌, Bool, true, false, List, [], ◌∷◌, Option, None, Some, is_some, not, length, get_or, refl, sym, ap, subst, ◌∙◌, arith}
use Rattle.std.proofs.lemmas.Bool.{false_from_ne_true, true≢false, ne_eqb, or_from, or_parts}
use Rattle.memchr.specs.Find.{IsFirstByte, is_byte2}
use Rattle.h5_builder_laws.specs.Plain.{NoNul}
use Rattle.h5_round_trip.specs.Readable.{NoCr}
use Rattle.h5_clean.specs.Texts.{readable}
use Rattle.h5_clean.proofs.TextLaws.{no_cr, no_nul}
use Rattle.h5_clean.proofs.texts.is_readable.Goals as goal

none_of_them : (t : List ℕ) → ((k : ℕ) → k < length t → is_byte2 0 13 (get_or t k 0) ≡ true → ⊥) → readable t ≡ t
none_of_them [] h = refl
none_of_them (b ∷ t) h =
    let other = or_parts (b == 0) (b == 13) (false_from_ne_true (is_byte2 0 13 b) (h 0 (omega arith))) in
    rw (other.0, other.1) (ap (λ l. b ∷ l) (none_of_them t (λ k l. h (suc k) (omega arith))))

none_found : (t : List ℕ) (r : Option ℕ) → IsFirstByte (is_byte2 0 13) t r → is_some r ≡ false → readable t ≡ t
none_found t None h e = none_of_them t (λ k l. h k (omega arith) l)
none_found t (Some k) h e = absurd (true≢false e)

pub returns-clause-left : goal.returns-clause-left
returns-clause-left c = λ e. subst (λ t. readable t ≡ t) c.as_bytes.ensures.value (none_found c.as_bytes.result.now c.memchr2.result c.memchr2.ensures (c.is_none.ensures ∙ ap not e))

-- and where all is left none of them is found
other_byte : (t : List ℕ) → NoNul t → NoCr t → (k : ℕ) → k < length t → is_byte2 0 13 (get_or t k 0) ≡ false
other_byte [] n c k l = absurd (omega (arith, l))
other_byte (b ∷ t) n c zero l = or_from (b == 0) (b == 13) (ne_eqb b 0 n.0) (ne_eqb b 13 c.0)
other_byte (b ∷ t) n c (suc k) l = other_byte t n.1 c.1 k (omega (arith, l))

all_left : (t : List ℕ) (r : Option ℕ) → IsFirstByte (is_byte2 0 13) t r → readable t ≡ t → is_some r ≡ false
all_left t None h e = refl
all_left t (Some k) h e = absurd (true≢false (sym h.1 ∙ other_byte t (subst NoNul e (no_nul t)) (subst NoCr e (no_cr t)) k h.0.high))

is_true : (b s : Bool) → s ≡ not b → s ≡ false → b ≡ true
is_true true s e f = refl
is_true false s e f = absurd (true≢false (sym e ∙ f))

pub returns-clause-all : goal.returns-clause-all
returns-clause-all c = λ e. is_true _ _ c.is_none.ensures (all_left c.as_bytes.result.now c.memchr2.result c.memchr2.ensures (subst (λ t. readable t ≡ t) (sym c.as_bytes.ensures.value) e))

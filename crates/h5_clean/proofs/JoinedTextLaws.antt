-- Two texts that a serializer of HTML writes one after the other are written as one.
use Rattle.std.proofs.Common.{◌≡◌, ◌∙◌, ◌==◌, ◌++◌, ◌∷◌, Bool, true, false, List, [], ℕ, Option, Result, Ok, IsAscii, IsUtf8, zero, suc, arith, ap, refl, subst, sym, if◌then◌else◌}
use Rattle.std.specs.Prelude.{slice_index}
use Rattle.std.specs.Io.KnownBytes.{Appends}
use Rattle.std.proofs.lemmas.Str.{IsUtf8-from_ascii}
use Rattle.h5_serialize.specs.Call.{TextOf}
use Rattle.h5_serialize.specs.Escape.{escape}
use Rattle.h5_serialize.specs.Standing.{Broken, Standing, Working, answer_to, standing_after, text_written}
use Rattle.h5_serialize.specs.declared.fault.SerializeFault.{SerializeFault}
use Rattle.h5_serialize.proofs.Escapes.{appends_both, escape_append}
use Rattle.h5_builder_laws.specs.Plain.{doubled}
use Rattle.h5_clean.proofs.HandedLaws.{Texts, Writes, unless_map, whatever_broke}

-- after a text that was taken, another is taken as both would have been
record Joins (m : Standing) (x y : List ℕ) : Type 0 where
  answer : answer_to (standing_after m (TextOf x)) (TextOf y) ≡ answer_to m (TextOf (x ++ y))
  after : standing_after (standing_after m (TextOf x)) (TextOf y) ≡ standing_after m (TextOf (x ++ y))
  text : text_written m (TextOf (x ++ y)) ≡ text_written m (TextOf x) ++ text_written (standing_after m (TextOf x)) (TextOf y)

escaped_or_not : (raw : Bool) (x y : List ℕ) → IsUtf8 x → (if raw then x ++ y else escape false (x ++ y)) ≡ (if raw then x else escape false x) ++ (if raw then y else escape false y)
escaped_or_not true x y h = refl
escaped_or_not false x y h = escape_append false x y h

joins : (m : Standing) (x y : List ℕ) → IsUtf8 x → Ok tt ≡ answer_to m (TextOf x) → Joins m x y
joins Broken x y h e = absurd (cc)
joins (Working s true (o ∷ os)) x y h e = record { answer = refl; after = refl; text = escaped_or_not o.is_raw x y h }
joins (Working s false (o ∷ os)) x y h e = record { answer = refl; after = refl; text = escaped_or_not o.is_raw x y h }
joins (Working s true []) x y h e = record { answer = refl; after = refl; text = escape_append false x y h }
joins (Working s false []) x y h e = absurd (cc)

pub both_written : (x y : List ℕ) (m n k : Standing) (t u v : Option (List ℕ)) (r : Result (Unit {0}) SerializeFault) → IsUtf8 x
    → Writes (TextOf x) m t (Ok tt) n u → Writes (TextOf y) n u r k v → Texts (x ++ y) m t r k v
both_written x y m n k t u v r h first second =
    let j = joins m x y h first.answered in
    let next : Writes (TextOf y) (standing_after m (TextOf x)) u r k v = subst (λ s. Writes (TextOf y) s u r k v) first.meant second in
    record {
      answered = unless_map r (λ (e : r ≡ answer_to (standing_after m (TextOf x)) (TextOf y)). e ∙ j.answer) next.answered;
      meant = unless_map r (λ (e : k ≡ standing_after (standing_after m (TextOf x)) (TextOf y)). e ∙ j.after) next.meant;
      written = unless_map r (λ (a : Appends u v (text_written (standing_after m (TextOf x)) (TextOf y))).
          appends_both t u v (text_written m (TextOf x)) (text_written (standing_after m (TextOf x)) (TextOf y)) (text_written m (TextOf (x ++ y))) first.written a j.text) next.written;
      broken = whatever_broke r;
    }

-- a text that begins with a newline, with one more
pub one_more : (text : List ℕ) → (slice_index text 0 == 10) ≡ true → 10 ∷ text ≡ doubled text
one_more [] e = absurd (cc)
one_more (b ∷ t) e = ap (λ c. if c then 10 ∷ b ∷ t else b ∷ t) (sym e)

-- and one that doesn't
pub none_more : (text : List ℕ) → (slice_index text 0 == 10) ≡ false → text ≡ doubled text
none_more [] e = refl
none_more (b ∷ t) e = ap (λ c. if c then 10 ∷ b ∷ t else b ∷ t) (sym e)

pub newline_utf8 : IsUtf8 (10 ∷ [])
newline_utf8 = IsUtf8-from_ascii (10 ∷ []) below
  where
    below : IsAscii (10 ∷ [])
    below zero = omega arith
    below (suc i) = omega arith

-- The meaning of a serializer after calls that succeeded, and the text it has written.
use Rattle.std.proofs.Common.{◌≡◌, ℕ, List, [], ◌∷◌, ◌++◌, Option, Result, refl, sym, ap, ◌∙◌, subst, append_assoc, append-nil}
use Rattle.std.proofs.KnownBytes.{Appends-nil, Appends-trans}
use Rattle.std.specs.Io.KnownBytes.{Appends}
use Rattle.h5_serialize.specs.Call.{Call}
use Rattle.h5_serialize.specs.Walk.{AreMade, NoCall, OneMore, after_each, text_of_each}
use Rattle.h5_serialize.specs.declared.fault.SerializeFault.{SerializeFault}

pub each_more : {M : Type 0} (after : M → Call → M) (m : M) (calls : List Call) (call : Call) → after_each after m (calls ++ call ∷ []) ≡ after (after_each after m calls) call
each_more after m [] call = refl
each_more after m (first ∷ calls) call = each_more after (after m first) calls call

pub text_more : {M : Type 0} (after : M → Call → M) (writes : M → Call → List ℕ) (m : M) (calls : List Call) (call : Call) → text_of_each after writes m (calls ++ call ∷ []) ≡ text_of_each after writes m calls ++ writes (after_each after m calls) call
text_more after writes m [] call = append-nil (writes m call)
text_more after writes m (first ∷ calls) call =
    ap (λ l. writes m first ++ l) (text_more after writes (after m first) calls call) ∙ sym (append_assoc (writes m first) _ _)

-- first these calls, then those
pub text_split : {M : Type 0} (after : M → Call → M) (writes : M → Call → List ℕ) (m : M) (xs ys : List Call) → text_of_each after writes m (xs ++ ys) ≡ text_of_each after writes m xs ++ text_of_each after writes (after_each after m xs) ys
text_split after writes m [] ys = refl
text_split after writes m (x ∷ xs) ys =
    ap (λ l. writes m x ++ l) (text_split after writes (after m x) xs ys) ∙ sym (append_assoc (writes m x) (text_of_each after writes (after m x) xs) (text_of_each after writes (after_each after (after m x) xs) ys))

module _ {M : Type 0} (answer : M → Call → Result (Unit {0}) SerializeFault) (after : M → Call → M) (writes : M → Call → List ℕ) (breaks : M → Option (List ℕ) → Call → SerializeFault → M → Option (List ℕ) → Type 0) where
  pub made_means : {m : M} {t : Option (List ℕ)} {calls : List Call} {n : M} {u : Option (List ℕ)} → AreMade answer after writes breaks m t calls n u → n ≡ after_each after m calls
  made_means NoCall = refl
  made_means {m} (OneMore {calls} call n u before makes) =
      makes.meant ∙ ap (λ k. after k call) (made_means before) ∙ sym (each_more after m calls call)

  pub made_writes : {m : M} {t : Option (List ℕ)} {calls : List Call} {n : M} {u : Option (List ℕ)} → AreMade answer after writes breaks m t calls n u → Appends t u (text_of_each after writes m calls)
  made_writes {m} {t} NoCall = Appends-nil t
  made_writes {m} {t} (OneMore {calls} {k} {v} call n u before makes) =
      subst (Appends t u) (ap (λ s. text_of_each after writes m calls ++ writes s call) (made_means before) ∙ sym (text_more after writes m calls call))
      (Appends-trans t v u (text_of_each after writes m calls) (writes k call) (made_writes before) makes.written)

-- A text that is written in several steps.
use Rattle.std.proofs.Common.{◌≡◌, ℕ, ◌+◌, ◌-◌, List, [], ◌∷◌, ◌++◌, Option, Some, None, length, take, drop, refl, sym, ap, ◌∙◌, subst, arith, append_assoc, append-nil, length-drop, take_all}
use Rattle.std.proofs.Math.Seq.{take-add}
use Rattle.std.proofs.lemmas.List.{take-append-drop, drop-drop}
use Rattle.std.specs.Io.KnownBytes.{Appends, Keeps}
use Rattle.h5_commands.specs.Outcome.{AppendsFront}

-- n bytes were written, and the remainder is left
pub record Wrote (old new : Option (List ℕ)) (text rest : List ℕ) : Type 0 where
  pub count : ℕ
  pub left : rest ≡ drop count text
  pub appends : Appends old new (take count text)

pub wrote_none : (known : Option (List ℕ)) (text : List ℕ) → Wrote known known text text
wrote_none known text = record { count = 0; left = refl; appends = nothing known }
  where
    nothing : (k : Option (List ℕ)) → Appends k k []
    nothing None = tt
    nothing (Some xs) = sym (append-nil xs)

kept : (a b c : Option (List ℕ)) (xs : List ℕ) → Appends a b xs → Keeps b c → Appends a c xs
kept None b c xs h k = tt
kept (Some a) None c xs h k = absurd h
kept (Some a) (Some b) None xs h k = absurd k
kept (Some a) (Some b) (Some c) xs h k = k ∙ h

both : (a b c : Option (List ℕ)) (xs ys zs : List ℕ) → Appends a b xs → Appends b c ys → xs ++ ys ≡ zs → Appends a c zs
both None b c xs ys zs h k e = tt
both (Some a) None c xs ys zs h k e = absurd h
both (Some a) (Some b) None xs ys zs h k e = absurd k
both (Some a) (Some b) (Some c) xs ys zs h k e = k ∙ ap (λ l. l ++ ys) h ∙ append_assoc a xs ys ∙ ap (λ l. a ++ l) e

pub wrote_kept : (a b c : Option (List ℕ)) (text rest : List ℕ) → Wrote a b text rest → Keeps b c → Wrote a c text rest
wrote_kept a b c text rest w k = record { count = w.count; left = w.left; appends = kept a b c (take w.count text) w.appends k }

pub wrote_more : (a b c : Option (List ℕ)) (text rest after : List ℕ) (n : ℕ) → Wrote a b text rest → Appends b c (take n rest) → after ≡ drop n rest → Wrote a c text after
wrote_more a b c text rest after n w h e = record {
  count = w.count + n;
  left = e ∙ ap (drop n) w.left ∙ drop-drop n w.count text;
  appends = both a b c (take w.count text) (take n rest) (take (w.count + n) text) w.appends h (ap (λ l. take w.count text ++ take n l) w.left ∙ sym (take-add w.count n text));
}

empty : (xs : List ℕ) → length xs ≡ 0 → xs ≡ []
empty [] e = refl
empty (x ∷ xs) e = absurd (omega arith)

pub wrote_all : (a b : Option (List ℕ)) (text rest : List ℕ) → Wrote a b text rest → length rest ≡ 0 → Appends a b text
wrote_all a b text rest w e =
    let whole : take w.count text ≡ text = sym (append-nil (take w.count text)) ∙ ap (λ l. take w.count text ++ l) (sym (empty rest e) ∙ w.left) ∙ take-append-drop w.count text in
    subst (Appends a b) whole w.appends

-- the text that is left after n bytes
pub left_same : (xs ys : List ℕ) (n : ℕ) → ys ≡ take (length xs - n) (drop n xs) → ys ≡ drop n xs
left_same xs ys n e = e ∙ take_all (length xs - n) (drop n xs) (omega (arith, length-drop n xs))

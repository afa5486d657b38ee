-- A search skips a prefix of its input, and splits no CR LF at its end.
use Rattle.std.proofs.Common.{◌≡◌, ℕ, Bool, true, false, List, [], ◌∷◌, ◌++◌, cond, eqb, refl, sym, ap, ◌∙◌, arith, append_assoc}
use Rattle.std.proofs.lemmas.Bool.{eqb-true, false≢true}
use Rattle.std.proofs.lemmas.Bool.Decides.{nat_tests}
use Rattle.std.specs.Char.{to_ascii_lowercase}
use Rattle.h5_markup.specs.Matching.{Match, Open, No, Found, and_then, or_else, literal, word, peek, ahead, prefixed}
use Rattle.h5_markup.specs.Ending.{may_end, ends, next, up_to_end}
use Rattle.h5_markup.specs.declared.ending.Inside.{Inside}
use Rattle.h5_tokenizer_input.specs.Lines.{ends_in_cr, newlines}
use Rattle.h5_tokenizer_input.proofs.LineLaws.{ends_append}

-- a prefix that is skipped, and what it leaves; the split isn't inside a CR LF
pub record Part (xs rest : List ℕ) : Type 0 where
  pub front : List ℕ
  pub split : xs ≡ front ++ rest
  pub apart : newlines (ends_in_cr false front) rest ≡ newlines false rest

pub part_none : (xs : List ℕ) → Part xs xs
part_none xs = record { front = []; split = refl; apart = refl }

apart_by : (c : Bool) (front ys zs : List ℕ) → ys ≡ front ++ zs → newlines c ys ≡ newlines false ys → newlines (ends_in_cr false front) zs ≡ newlines false zs → newlines (ends_in_cr c front) zs ≡ newlines false zs
apart_by c [] ys zs split h g = ap (newlines c) (sym split) ∙ h ∙ ap (newlines false) split
apart_by c (x ∷ front) ys zs split h g = g

pub part_twice : {xs ys zs : List ℕ} → Part xs ys → Part ys zs → Part xs zs
part_twice {xs} {ys} {zs} c d = record {
  front = c.front ++ d.front;
  split = c.split ∙ ap (λ l. c.front ++ l) d.split ∙ sym (append_assoc c.front d.front zs);
  apart = ap (λ b. newlines b zs) (ends_append false c.front d.front) ∙ apart_by (ends_in_cr false c.front) d.front ys zs d.split c.apart d.apart;
}

abbrev pub Parts : {A : Type 0} → List ℕ → Match A → Type 0
Parts xs Open = Unit {0}
Parts xs No = Unit {0}
Parts xs (Found a rest) = Part xs rest

pub record Keeps {A : Type 0} (p : List ℕ → Match A) : Type 0 where
  pub parts : (xs : List ℕ) → Parts xs (p xs)

parts_twice : {A : Type 0} (xs ys : List ℕ) (m : Match A) → Part xs ys → Parts ys m → Parts xs m
parts_twice xs ys Open c d = tt
parts_twice xs ys No c d = tt
parts_twice xs ys (Found a rest) c d = part_twice c d

pub and_then_parts : {A B : Type 0} (xs : List ℕ) (m : Match A) (f : A → List ℕ → Match B) → Parts xs m → ((a : A) (r : List ℕ) → Parts r (f a r)) → Parts xs (and_then m f)
and_then_parts xs Open f h g = tt
and_then_parts xs No f h g = tt
and_then_parts xs (Found a r) f h g = parts_twice xs r (f a r) h (g a r)

pub or_else_parts : {A : Type 0} (xs : List ℕ) (m o : Match A) → Parts xs m → Parts xs o → Parts xs (or_else m o)
or_else_parts xs Open o h g = tt
or_else_parts xs No o h g = g
or_else_parts xs (Found a r) o h g = h

-- a part whose last byte isn't a CR; c is true if a CR was before the part
record Clean (c : Bool) (xs rest : List ℕ) : Type 0 where
  front : List ℕ
  split : xs ≡ front ++ rest
  clean : ends_in_cr c front ≡ false

clean_more : {c : Bool} {xs rest : List ℕ} (x : ℕ) → Clean (eqb x 13) xs rest → Clean c (x ∷ xs) rest
clean_more x h = record { front = x ∷ h.front; split = ap (λ l. x ∷ l) h.split; clean = h.clean }

abbrev Cleans : {A : Type 0} → Bool → List ℕ → Match A → Type 0
Cleans c xs Open = Unit {0}
Cleans c xs No = Unit {0}
Cleans c xs (Found a rest) = Clean c xs rest

cleans_more : {A : Type 0} (c : Bool) (x : ℕ) (xs : List ℕ) (m : Match A) → Cleans (eqb x 13) xs m → Cleans c (x ∷ xs) m
cleans_more c x xs Open h = tt
cleans_more c x xs No h = tt
cleans_more c x xs (Found a r) h = clean_more x h

prefixed_cleans : (c : Bool) (x : ℕ) (xs : List ℕ) (m : Match (List ℕ)) → Cleans (eqb x 13) xs m → Cleans c (x ∷ xs) (prefixed x m)
prefixed_cleans c x xs Open h = tt
prefixed_cleans c x xs No h = tt
prefixed_cleans c x xs (Found a r) h = clean_more x h

clean_parts : {A : Type 0} (xs : List ℕ) (m : Match A) → Cleans false xs m → Parts xs m
clean_parts xs Open h = tt
clean_parts xs No h = tt
clean_parts xs (Found a rest) h = record { front = h.front; split = h.split; apart = ap (λ b. newlines b rest) h.clean }

-- one more byte of a needle, at its position in the input
byte_by : (c : Bool) (x : ℕ) (xs : List ℕ) (m : Match (Unit {0})) (same : Bool) → (same ≡ true → Cleans (eqb x 13) xs m) → Cleans c (x ∷ xs) (cond same m No)
byte_by c x xs m true h = cleans_more c x xs m (h refl)
byte_by c x xs m false h = tt

literal_cleans : (c : Bool) (p xs : List ℕ) → ends_in_cr c p ≡ false → Cleans c xs (literal p xs)
literal_cleans c [] xs e = record { front = []; split = refl; clean = e }
literal_cleans c (p ∷ ps) [] e = tt
literal_cleans c (p ∷ ps) (x ∷ xs) e =
    byte_by c x xs (literal ps xs) (eqb x p) (λ same. literal_cleans (eqb x 13) ps xs (ap (λ y. ends_in_cr (eqb y 13) ps) (eqb-true x p same) ∙ e))

-- only a CR is a CR in lower case
low_cr : (x : ℕ) → eqb (to_ascii_lowercase x) 13 ≡ eqb x 13
low_cr x = grind (arith, nat_tests)

word_cleans : (c : Bool) (p xs : List ℕ) → ends_in_cr c p ≡ false → Cleans c xs (word p xs)
word_cleans c [] xs e = record { front = []; split = refl; clean = e }
word_cleans c (p ∷ ps) [] e = tt
word_cleans c (p ∷ ps) (x ∷ xs) e =
    byte_by c x xs (word ps xs) (eqb (to_ascii_lowercase x) (to_ascii_lowercase p)) (λ same.
    let cr : eqb x 13 ≡ eqb p 13 = sym (low_cr x) ∙ ap (λ y. eqb y 13) (eqb-true (to_ascii_lowercase x) (to_ascii_lowercase p) same) ∙ low_cr p in
    word_cleans (eqb x 13) ps xs (ap (λ b. ends_in_cr b ps) cr ∙ e))

-- the byte that ends a construct isn't a CR
end_by : (place : Inside) (x : ℕ) (t : Bool) → eqb x 62 ≡ t → cond t (may_end place) false ≡ true → eqb x 13 ≡ false
end_by place x true same h = ap (λ y. eqb y 13) (eqb-true x 62 same)
end_by place x false same h = absurd (false≢true h)

up_to_end_by : (c : Bool) (place : Inside) (x : ℕ) (xs : List ℕ) (t : Bool) → ends place x ≡ t → Cleans (eqb x 13) xs (up_to_end (next place x) xs) → Cleans c (x ∷ xs) (cond t (Found [] xs) (prefixed x (up_to_end (next place x) xs)))
up_to_end_by c place x xs true e h = record { front = x ∷ []; split = refl; clean = end_by place x (eqb x 62) refl e }
up_to_end_by c place x xs false e h = prefixed_cleans c x xs (up_to_end (next place x) xs) h

up_to_end_cleans : (c : Bool) (place : Inside) (xs : List ℕ) → Cleans c xs (up_to_end place xs)
up_to_end_cleans c place [] = tt
up_to_end_cleans c place (x ∷ xs) = up_to_end_by c place x xs (ends place x) refl (up_to_end_cleans (eqb x 13) (next place x) xs)

peek_by : (xs : List ℕ) (test : Bool) → Parts {A = Unit {0}} xs (cond test (Found (tt {0}) xs) No)
peek_by xs true = part_none xs
peek_by xs false = tt

peek_parts : (test : ℕ → Bool) (xs : List ℕ) → Parts xs (peek test xs)
peek_parts test [] = tt
peek_parts test (x ∷ xs) = peek_by (x ∷ xs) (test x)

ahead_parts : {A : Type 0} (m : Match A) (xs : List ℕ) → Parts xs (ahead m xs)
ahead_parts Open xs = tt
ahead_parts No xs = tt
ahead_parts (Found a r) xs = part_none xs

pub literal_keeps : (p : List ℕ) → ends_in_cr false p ≡ false → Keeps (literal p)
literal_keeps p e = record { parts = λ xs. clean_parts xs (literal p xs) (literal_cleans false p xs e) }

pub word_keeps : (p : List ℕ) → ends_in_cr false p ≡ false → Keeps (word p)
word_keeps p e = record { parts = λ xs. clean_parts xs (word p xs) (word_cleans false p xs e) }

pub peek_keeps : (test : ℕ → Bool) → Keeps (peek test)
peek_keeps test = record { parts = peek_parts test }

pub ahead_keeps : {A : Type 0} (p : List ℕ → Match A) → Keeps (λ xs. ahead (p xs) xs)
ahead_keeps p = record { parts = λ xs. ahead_parts (p xs) xs }

pub up_to_end_keeps : (place : Inside) → Keeps (up_to_end place)
up_to_end_keeps place = record { parts = λ xs. clean_parts xs (up_to_end place xs) (up_to_end_cleans false place xs) }

pub found_keeps : {A : Type 0} (a : A) → Keeps (λ xs. Found a xs)
found_keeps a = record { parts = part_none }

pub no_keeps : {A : Type 0} → Keeps {A = A} (λ xs. No)
no_keeps = record { parts = λ xs. tt }

pub and_then_keeps : {A B : Type 0} {p : List ℕ → Match A} {f : A → List ℕ → Match B} → Keeps p → ((a : A) → Keeps (f a)) → Keeps (λ xs. and_then (p xs) f)
and_then_keeps {p} {f} h g = record { parts = λ xs. and_then_parts xs (p xs) f (h.parts xs) (λ a r. (g a).parts r) }

pub or_else_keeps : {A : Type 0} {p q : List ℕ → Match A} → Keeps p → Keeps q → Keeps (λ xs. or_else (p xs) (q xs))
or_else_keeps {p} {q} h g = record { parts = λ xs. or_else_parts xs (p xs) (q xs) (h.parts xs) (g.parts xs) }

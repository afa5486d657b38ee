-- Words that begin with what was seen and one more byte.
use Rattle.std.proofs.Common.{◌≡◌, ℕ, zero, suc, ◌+◌, ◌<◌, ◌≤◌, ◌==◌, Bool, true, false, List, [], ◌∷◌, ◌++◌, length, take, slice_index, refl, sym, ap, ◌∙◌, subst, arith, eq-eqb, ne_eqb, length-append}
use Rattle.std.proofs.lemmas.Bool.{and_left, and_right}
use Rattle.std.specs.Prelude.{◌&&◌}
use Rattle.std.specs.Char.{to_ascii_lowercase}
use Rattle.h5_tokenizer_spec.specs.References.{is_beginning}
use Rattle.h5_tokenizer_spec.specs.ReferenceTable.{references}
use Rattle.h5_tokenizer_spec.specs.Words.{begins, same}
use Rattle.h5_tokenizer_states.proofs.FoldLaws.{begins_longer}

-- the byte is the next one of the word
next_is : (fold : ℕ → ℕ) (seen word : List ℕ) (x : ℕ) → length seen < length word → fold x ≡ fold (slice_index word (length seen)) → begins fold (seen ++ x ∷ []) word ≡ begins fold seen word
next_is fold [] [] x h e = absurd (omega arith)
next_is fold [] (c ∷ word) x h e = ap (λ b. b && true) (eq-eqb (fold x) (fold c) e)
next_is fold (y ∷ seen) [] x h e = absurd (omega arith)
next_is fold (y ∷ seen) (c ∷ word) x h e = ap (λ b. (fold y == fold c) && b) (next_is fold seen word x (omega arith) e)

-- it is another one
next_is_not : (fold : ℕ → ℕ) (seen word : List ℕ) (x : ℕ) → length seen < length word → (fold x ≡ fold (slice_index word (length seen)) → ⊥) → begins fold (seen ++ x ∷ []) word ≡ false
next_is_not fold [] [] x h e = refl
next_is_not fold [] (c ∷ word) x h e = ap (λ b. b && true) (ne_eqb (fold x) (fold c) e)
next_is_not fold (y ∷ seen) [] x h e = refl
next_is_not fold (y ∷ seen) (c ∷ word) x h e = and_right (fold y == fold c) _ (next_is_not fold seen word x (omega arith) e)

-- the word is as long as what was seen, or shorter
none_is : (fold : ℕ → ℕ) (seen word : List ℕ) (x : ℕ) → length word ≤ length seen → begins fold (seen ++ x ∷ []) word ≡ false
none_is fold seen word x h = begins_longer fold (seen ++ x ∷ []) word (omega (arith, length-append seen (x ∷ [])))

-- as above, if case matters, and if it doesn't
pub same_none : (seen word : List ℕ) (x : ℕ) → length word ≤ length seen → begins same (seen ++ x ∷ []) word ≡ false
same_none seen word x h = none_is same seen word x h

pub same_next : (seen word : List ℕ) (x : ℕ) → length seen < length word → slice_index word (length seen) ≡ x → begins same (seen ++ x ∷ []) word ≡ begins same seen word
same_next seen word x h e = next_is same seen word x h (sym e)

pub same_other : (seen word : List ℕ) (x : ℕ) → length seen < length word → (slice_index word (length seen) ≡ x → ⊥) → begins same (seen ++ x ∷ []) word ≡ false
same_other seen word x h e = next_is_not same seen word x h (λ f. e (sym f))

pub lower_none : (seen word : List ℕ) (x : ℕ) → length word ≤ length seen → begins to_ascii_lowercase (seen ++ x ∷ []) word ≡ false
lower_none seen word x h = none_is to_ascii_lowercase seen word x h

pub lower_next : (seen word : List ℕ) (x : ℕ) → length seen < length word → to_ascii_lowercase (slice_index word (length seen)) ≡ to_ascii_lowercase x
    → begins to_ascii_lowercase (seen ++ x ∷ []) word ≡ begins to_ascii_lowercase seen word
lower_next seen word x h e = next_is to_ascii_lowercase seen word x h (sym e)

pub lower_other : (seen word : List ℕ) (x : ℕ) → length seen < length word → (to_ascii_lowercase (slice_index word (length seen)) ≡ to_ascii_lowercase x → ⊥)
    → begins to_ascii_lowercase (seen ++ x ∷ []) word ≡ false
lower_other seen word x h e = next_is_not to_ascii_lowercase seen word x h (λ f. e (sym f))

-- a single byte continues what was seen, or doesn't
pub none_further : (seen bytes : List ℕ) (x n : ℕ) → bytes ≡ seen → n ≡ 0 → (n < 1 → is_beginning references (bytes ++ take (n + 1) (x ∷ [])) ≡ false) → false ≡ is_beginning references (seen ++ x ∷ [])
none_further seen bytes x n e none h =
    let not : is_beginning references (bytes ++ take (n + 1) (x ∷ [])) ≡ false = h (omega arith) in
    subst (λ s. false ≡ is_beginning references (s ++ x ∷ [])) e (sym (subst (λ k. is_beginning references (bytes ++ take (k + 1) (x ∷ [])) ≡ false) none not))

pub one_further : (seen bytes : List ℕ) (x n : ℕ) → bytes ≡ seen → n ≤ 1 → (n ≡ 0 → ⊥) → (0 < n → is_beginning references (bytes ++ take n (x ∷ [])) ≡ true) → true ≡ is_beginning references (seen ++ x ∷ [])
one_further seen bytes x n e h some is =
    let one : n ≡ 1 = omega arith in
    let so : is_beginning references (bytes ++ take n (x ∷ [])) ≡ true = is (omega arith) in
    subst (λ s. true ≡ is_beginning references (s ++ x ∷ [])) e (sym (subst (λ k. is_beginning references (bytes ++ take k (x ∷ [])) ≡ true) one so))

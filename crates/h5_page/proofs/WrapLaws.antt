-- A line and its words.
use Rattle.std.proofs.Common.{◌≡◌, ◌≢◌, ℕ, suc, ◌-◌, ◌<◌, List, [], ◌∷◌, ◌++◌, length, get_or, refl, sym, ap, ◌∙◌, arith, append_assoc, append-nil}
use Rattle.std.proofs.lemmas.Bool.{ne_eqb}
use Rattle.std.specs.List.{onto_first}
use Rattle.h5_page.specs.Wrapped.{columns, filled, left, put, words, wrapped, wrapped_words}

-- a text has no space
abbrev pub HasNone : List ℕ → Type 0
HasNone text = (i : ℕ) → i < length text → get_or text i 0 ≢ 32

first_word : (word text : List ℕ) → HasNone word → words (word ++ 32 ∷ text) ≡ word ∷ words text
first_word [] text h = refl
first_word (c ∷ word) text h = rw (ne_eqb c 32 (h 0 (omega arith))) (ap (onto_first c) (first_word word text (λ i l. h (suc i) (omega arith))))

one_word : (word : List ℕ) → HasNone word → words word ≡ word ∷ []
one_word [] h = refl
one_word (c ∷ word) h = rw (ne_eqb c 32 (h 0 (omega arith))) (ap (onto_first c) (one_word word (λ i l. h (suc i) (omega arith))))

filled_more : (width hang room : ℕ) (word : List ℕ) (more : List (List ℕ)) → put width hang room word ++ filled width hang (left width hang room word) more ≡ filled width hang room (word ∷ more)
filled_more width hang room word more = refl

pub next_word : (width hang room now : ℕ) (done more rest word behind : List ℕ) → rest ≡ word ++ 32 ∷ behind → HasNone word
    → more ≡ done ++ put width hang room word → now ≡ left width hang room word
    → more ++ filled width hang now (words behind) ≡ done ++ filled width hang room (words rest)
next_word width hang room now done more rest word behind parts h text room_left =
    ap (λ l. l ++ filled width hang now (words behind)) text
    ∙ append_assoc done (put width hang room word) (filled width hang now (words behind))
    ∙ ap (λ r. done ++ (put width hang room word ++ filled width hang r (words behind))) room_left
    ∙ ap (λ l. done ++ l) (filled_more width hang room word (words behind))
    ∙ ap (λ ws. done ++ filled width hang room ws) (sym (ap words parts ∙ first_word word behind h))

pub last_word : (width hang room : ℕ) (done more rest : List ℕ) → HasNone rest
    → more ≡ done ++ put width hang room rest → more ≡ done ++ filled width hang room (words rest)
last_word width hang room done more rest h text =
    text ∙ ap (λ l. done ++ l) (sym (append-nil (put width hang room rest)))
    ∙ ap (λ ws. done ++ filled width hang room ws) (sym (one_word rest h))

pub one_wrapped : (width hang : ℕ) (line : List ℕ) → HasNone line → line ≡ wrapped width hang line
one_wrapped width hang line h = sym (append-nil line) ∙ ap (wrapped_words width hang) (sym (one_word line h))

pub more_wrapped : (width hang room : ℕ) (line word behind : List ℕ) → line ≡ word ++ 32 ∷ behind → HasNone word
    → room ≡ width - columns word → word ++ filled width hang room (words behind) ≡ wrapped width hang line
more_wrapped width hang room line word behind parts h room_is =
    ap (λ r. word ++ filled width hang r (words behind)) room_is
    ∙ ap (wrapped_words width hang) (sym (ap words parts ∙ first_word word behind h))

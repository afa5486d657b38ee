-- Whole texts, bit by bit.
use Rattle.std.proofs.lemmas.List.{drop_all, take_all}
use Rattle.std.proofs.Common.{◌≡◌, ℕ, zero, suc, ◌<◌, ◌≤◌, Bool, true, false, List, [], ◌∷◌, ◌++◌, cond, eqb, length, take, drop, get_or, refl, sym, ap, ◌∙◌, arith, append_assoc, append-nil, length-drop, max, ⊎_elim, le_refl}
use Rattle.h5_markup.specs.Matching.{Match, Open, No, Found, literal}
use Rattle.h5_markup.proofs.Eating.{Takes}
use Rattle.h5_markup.specs.Text.{escape, put, read_up_to, text_of, IsPlainAt, ReadsBit}
use Rattle.h5_markup.specs.Plain.{is_plain}
use Rattle.h5_markup.proofs.TextTakes.{escape_eats, found_shorter}
use Rattle.h5_markup.proofs.PlainBytes.{plain_escape}

put_same : (f g : List ℕ → List ℕ) (x : ℕ) (xs : List ℕ) (m : Match (List ℕ)) → ((ys : List ℕ) → length ys ≤ length xs → f ys ≡ g ys) → Takes 1 (length (x ∷ xs)) m → put f x xs m ≡ put g x xs m
put_same f g x xs Open h t = ap (λ l. cond (eqb x 13) 10 x ∷ l) (h xs (le_refl (length xs)))
put_same f g x xs No h t = ap (λ l. x ∷ l) (h xs (le_refl (length xs)))
put_same f g x xs (Found bytes rest) h t = ap (λ l. bytes ++ l) (h rest (omega arith))

-- more fuel than bytes changes nothing
enough : (m n : ℕ) (references : Bool) (xs : List ℕ) → length xs ≤ m → length xs ≤ n → read_up_to m references xs ≡ read_up_to n references xs
enough zero zero references xs h k = refl
enough zero (suc n) references [] h k = refl
enough (suc m) zero references [] h k = refl
enough (suc m) (suc n) references [] h k = refl
enough zero n references (x ∷ xs) h k = absurd (omega arith)
enough (suc m) zero references (x ∷ xs) h k = absurd (omega arith)
enough (suc m) (suc n) references (x ∷ xs) h k = put_same (read_up_to m references) (read_up_to n references) x xs (escape references (x ∷ xs)) (λ ys le. enough m n references ys (omega arith) (omega arith)) ((escape_eats references).takes (x ∷ xs))

pub text_nil : (references : Bool) → text_of references [] ≡ []
unfolding text_of
text_nil references = refl

text_put : (references : Bool) (x : ℕ) (xs : List ℕ) (m : Match (List ℕ)) → escape references (x ∷ xs) ≡ m → text_of references (x ∷ xs) ≡ put (text_of references) x xs m
unfolding text_of
text_put references x xs m h =
    put_same (read_up_to (length xs) references) (λ ys. read_up_to (length ys) references ys) x xs (escape references (x ∷ xs)) (λ ys le. enough (length xs) (length ys) references ys le (le_refl (length ys))) ((escape_eats references).takes (x ∷ xs))
    ∙ ap (put (λ ys. read_up_to (length ys) references ys) x xs) h

pub reads_found : (references : Bool) (xs rest bytes old new : List ℕ) → escape references xs ≡ Found bytes rest → new ≡ old ++ bytes → ReadsBit references xs rest old new
reads_found references [] rest bytes old new h e = absurd (omega (arith, found_shorter bytes [] rest (escape_eats references) h))
reads_found references (x ∷ xs) rest bytes old new h e = record {
  same = ap (λ l. l ++ text_of references rest) e ∙ append_assoc old bytes (text_of references rest) ∙ ap (λ l. old ++ l) (sym (text_put references x xs (Found bytes rest) h));
  shorter = found_shorter bytes (x ∷ xs) rest (escape_eats references) h;
}

text_plain_byte : (references : Bool) (x : ℕ) (xs : List ℕ) → is_plain x ≡ true → text_of references (x ∷ xs) ≡ x ∷ text_of references xs
text_plain_byte references x xs h = text_put references x xs No (plain_escape references x xs h)

text_plain : (references : Bool) (xs : List ℕ) (n : ℕ) → n ≤ length xs → ((k : ℕ) → k < n → is_plain (get_or xs k 0) ≡ true) → take n xs ++ text_of references (drop n xs) ≡ text_of references xs
text_plain references xs zero le h = refl
text_plain references [] (suc n) le h = absurd (omega arith)
text_plain references (x ∷ xs) (suc n) le h = ap (λ l. x ∷ l) (text_plain references xs n (omega arith) (λ k lt. h (suc k) (omega arith))) ∙ sym (text_plain_byte references x xs (h 0 (omega arith)))

not_cr_by : (b : Bool) (m : Match (Unit {0})) (xs : List ℕ) → m ≡ Found tt xs → cond b m No ≡ No → b ≡ false
not_cr_by true m xs e h = cc
not_cr_by false m xs e h = refl

not_cr : (x : ℕ) (xs : List ℕ) → literal (13 ∷ []) (x ∷ xs) ≡ No → eqb x 13 ≡ false
not_cr x xs h = not_cr_by (eqb x 13) (literal [] xs) xs refl h

pub one_byte : (references : Bool) (x : ℕ) (xs : List ℕ) → IsPlainAt references (x ∷ xs) → text_of references (x ∷ xs) ≡ x ∷ text_of references xs
one_byte references x xs way =
    ⊎_elim
    (λ no. text_put references x xs No no)
    (λ waits. text_put references x xs Open waits.0 ∙ ap (λ b. cond b 10 x ∷ text_of references xs) (not_cr x xs waits.1))
    way

pub reads_plain : (references : Bool) (xs rest old new : List ℕ) (c n : ℕ) → 0 < length xs → c ≤ length xs → ((k : ℕ) → k < c → is_plain (get_or xs k 0) ≡ true) → n ≡ max c 1 → new ≡ old ++ take n xs → rest ≡ drop n xs → IsPlainAt references xs → ReadsBit references xs rest old new
reads_plain references [] rest old new c n some le h m e f way = absurd (omega arith)
reads_plain references (x ∷ xs) rest old new zero n some le h m e f way =
    let one : n ≡ 1 = omega arith in
    record {
      same = (λ i. e i ++ text_of references (f i)) ∙ (λ i. (old ++ take (one i) (x ∷ xs)) ++ text_of references (drop (one i) (x ∷ xs))) ∙ append_assoc old (x ∷ []) (text_of references xs) ∙ ap (λ l. old ++ l) (sym (one_byte references x xs way));
      shorter = omega (arith, ap length f, length-drop n (x ∷ xs));
    }
reads_plain references (x ∷ xs) rest old new (suc c) n some le h m e f way =
    let same : n ≡ suc c = omega arith in
    record {
      same = (λ i. e i ++ text_of references (f i)) ∙ append_assoc old (take n (x ∷ xs)) (text_of references (drop n (x ∷ xs))) ∙ ap (λ l. old ++ l) (text_plain references (x ∷ xs) n (omega arith) (λ k lt. h k (omega arith)));
      shorter = omega (arith, ap length f, length-drop n (x ∷ xs));
    }

-- a CR that ends the text
pub reads_cr : (references : Bool) (xs rest old new : List ℕ) (k : ℕ) → escape references xs ≡ Open → xs ≡ 13 ∷ drop k xs → rest ≡ drop k xs → new ≡ old ++ 10 ∷ [] → ReadsBit references xs rest old new
reads_cr references xs rest old new k h e f g =
    let whole : xs ≡ 13 ∷ rest = e ∙ ap (λ l. 13 ∷ l) (sym f) in
    let waits : escape references (13 ∷ rest) ≡ Open = ap (escape references) (sym whole) ∙ h in
    record {
      same = ap (λ l. l ++ text_of references rest) g ∙ append_assoc old (10 ∷ []) (text_of references rest) ∙ ap (λ l. old ++ l) (sym (ap (text_of references) whole ∙ text_put references 13 rest Open waits));
      shorter = omega (arith, ap length whole);
    }

pub text_done : (references : Bool) (out rest whole : List ℕ) → length rest ≡ 0 → out ++ text_of references rest ≡ whole → out ≡ whole
text_done references out [] whole e h = sym (append-nil out) ∙ ap (λ l. out ++ l) (sym (text_nil references)) ∙ h
text_done references out (x ∷ rest) whole e h = absurd (omega arith)

-- a text of plain bytes alone stands for itself
pub text_all_plain : (references : Bool) (xs : List ℕ) (n : ℕ) → n ≡ length xs → ((k : ℕ) → k < n → is_plain (get_or xs k 0) ≡ true) → text_of references xs ≡ xs
text_all_plain references xs n e h =
    sym (text_plain references xs n (omega arith) h)
    ∙ ap (λ l. take n xs ++ l) (ap (text_of references) (drop_all n xs (omega arith)) ∙ text_nil references)
    ∙ append-nil (take n xs)
    ∙ take_all n xs (omega arith)

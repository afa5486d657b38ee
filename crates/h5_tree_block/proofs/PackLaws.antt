-- The words of a block that columns are packed into.
use Rattle.std.proofs.Common.{◌≡◌, ◌∙◌, ℕ, zero, suc, ◌+◌, ◌*◌, ◌<◌, ◌≤◌, ◌^◌, true, List, [], ◌∷◌, ◌++◌, ap, arith, drop, get_or, length, map, sym, take}
use Rattle.std.specs.Prelude.{if◌then◌else◌, nat_le}
use Rattle.std.specs.Int.{w32, from_le_bytes, to_le_bytes}
use Rattle.std.proofs.lemmas.Bool.{le-leb}
use Rattle.std.proofs.lemmas.Grind.{flat_map-append}
use Rattle.std.proofs.lemmas.Grind.{get_or_head}
use Rattle.std.proofs.lemmas.List.{append_assoc, drop_more, get_or-append-add, map-append, take_more}
use Rattle.std.proofs.lemmas.Nat.{from_le_bytes-to_le_bytes_4}
use Rattle.std.proofs.lemmas.List.Elements.{All-append}
use Rattle.std.proofs.Math.Seq.{take-length}
use Rattle.h5_tree_block.specs.Block.{word_in}
use Rattle.h5_tree_block.specs.Packed.{AreWords, bytes_of_words}

pub bytes_append : (xs ys : List ℕ) → bytes_of_words (xs ++ ys) ≡ bytes_of_words xs ++ bytes_of_words ys
bytes_append xs ys = flat_map-append (to_le_bytes w32) xs ys

-- three columns, and four parts
pub bytes_of_three : (a b c : List ℕ) → bytes_of_words (a ++ b ++ c) ≡ bytes_of_words a ++ bytes_of_words b ++ bytes_of_words c
bytes_of_three a b c = bytes_append (a ++ b) c ∙ ap (λ xs. xs ++ bytes_of_words c) (bytes_append a b)

pub bytes_of_four : (a b c d : List ℕ) → bytes_of_words (a ++ b ++ c ++ d) ≡ bytes_of_words a ++ bytes_of_words b ++ bytes_of_words c ++ bytes_of_words d
bytes_of_four a b c d = bytes_append (a ++ b ++ c) d ∙ ap (λ xs. xs ++ bytes_of_words d) (bytes_of_three a b c)

word_alone : (w : ℕ) → w < 2 ^ 32 → AreWords (w ∷ [])
word_alone w fits = λ k d h. rw (get_or_head w [] k d (omega (arith, h))) fits

pub words_append : (xs ys : List ℕ) → AreWords xs → AreWords ys → AreWords (xs ++ ys)
words_append xs ys = All-append (λ w. w < 2 ^ 32) xs ys

pub words_of_four : (a b c d : List ℕ) → AreWords a → AreWords b → AreWords c → AreWords d → AreWords (a ++ b ++ c ++ d)
words_of_four a b c d one two three four = words_append (a ++ b ++ c) d (words_append (a ++ b) c (words_append a b one two) three) four

-- one more of the words of a list is put
pub put_step : {X : Type 0} (f : X → ℕ) (xs : List X) (i : ℕ) (d : X) (old new total : List ℕ) → i < length xs → new ≡ old ++ to_le_bytes w32 (f (get_or xs i d))
    → old ++ bytes_of_words (map f (drop i xs)) ≡ total → new ++ bytes_of_words (map f (drop (i + 1) xs)) ≡ total
put_step f xs i d old new total lt put h =
    let rest = bytes_of_words (map f (drop (i + 1) xs)) in
    ap (λ n. n ++ rest) put
    ∙ append_assoc old (to_le_bytes w32 (f (get_or xs i d))) rest
    ∙ ap (λ ys. old ++ bytes_of_words (map f ys)) (sym (drop_more xs i d lt))
    ∙ h

pub words_more : {X : Type 0} (f : X → ℕ) (xs : List X) (i : ℕ) (d : X) → i < length xs → AreWords (map f (take i xs)) → f (get_or xs i d) < 2 ^ 32 → AreWords (map f (take (i + 1) xs))
words_more f xs i d lt words fits =
    rw (ap (map f) (take_more xs i d lt) ∙ map-append f (take i xs) (get_or xs i d ∷ [])) (words_append (map f (take i xs)) (f (get_or xs i d) ∷ []) words (word_alone (f (get_or xs i d)) fits))

pub words_whole : {X : Type 0} (f : X → ℕ) (xs : List X) (i : ℕ) → length xs ≤ i → i ≤ length xs → AreWords (map f (take i xs)) → AreWords (map f xs)
words_whole f xs i far near words =
    let all : i ≡ length xs = omega (arith, far, near) in
    rw (sym (ap (λ n. map f (take n xs)) all ∙ ap (map f) (take-length xs))) words

-- four bytes a word
pub length-bytes : (ws rest : List ℕ) → length (bytes_of_words ws ++ rest) ≡ length ws * 4 + length rest
length-bytes [] rest = omega arith
length-bytes (w ∷ ws) rest = omega (arith, length-bytes ws rest)

-- the four bytes from an offset on, as a word
abbrev four_at : (b : List ℕ) → (at : ℕ) → ℕ
four_at b at = from_le_bytes w32 (get_or b at 0 ∷ get_or b (at + 1) 0 ∷ get_or b (at + 2) 0 ∷ get_or b (at + 3) 0 ∷ [])

-- after a word
four_behind : (w : ℕ) (more : List ℕ) (j : ℕ) → four_at (to_le_bytes w32 w ++ more) (suc j * 4) ≡ four_at more (j * 4)
four_behind w more j =
    let b = to_le_bytes w32 w ++ more in
    let at : (k : ℕ) → get_or b (4 + (j * 4 + k)) 0 ≡ get_or more (j * 4 + k) 0 = λ k. get_or-append-add (to_le_bytes w32 w) more (j * 4 + k) 0 in
    let a0 : get_or b (suc j * 4) 0 ≡ get_or more (j * 4) 0 = ap (λ n. get_or b n 0) (omega arith) ∙ at 0 ∙ ap (λ n. get_or more n 0) (omega arith) in
    let a1 : get_or b (suc j * 4 + 1) 0 ≡ get_or more (j * 4 + 1) 0 = ap (λ n. get_or b n 0) (omega arith) ∙ at 1 in
    let a2 : get_or b (suc j * 4 + 2) 0 ≡ get_or more (j * 4 + 2) 0 = ap (λ n. get_or b n 0) (omega arith) ∙ at 2 in
    let a3 : get_or b (suc j * 4 + 3) 0 ≡ get_or more (j * 4 + 3) 0 = ap (λ n. get_or b n 0) (omega arith) ∙ at 3 in
    ap (λ x. from_le_bytes w32 (x ∷ get_or b (suc j * 4 + 1) 0 ∷ get_or b (suc j * 4 + 2) 0 ∷ get_or b (suc j * 4 + 3) 0 ∷ [])) a0
    ∙ ap (λ x. from_le_bytes w32 (get_or more (j * 4) 0 ∷ x ∷ get_or b (suc j * 4 + 2) 0 ∷ get_or b (suc j * 4 + 3) 0 ∷ [])) a1
    ∙ ap (λ x. from_le_bytes w32 (get_or more (j * 4) 0 ∷ get_or more (j * 4 + 1) 0 ∷ x ∷ get_or b (suc j * 4 + 3) 0 ∷ [])) a2
    ∙ ap (λ x. from_le_bytes w32 (get_or more (j * 4) 0 ∷ get_or more (j * 4 + 1) 0 ∷ get_or more (j * 4 + 2) 0 ∷ x ∷ [])) a3

four_back : (ws rest : List ℕ) (i : ℕ) → AreWords ws → i < length ws → four_at (bytes_of_words ws ++ rest) (i * 4) ≡ get_or ws i 0
four_back [] rest zero all lt = elim lt [ ]
four_back [] rest (suc j) all lt = elim lt [ ]
four_back (w ∷ ws) rest zero all lt = from_le_bytes-to_le_bytes_4 w (all 0 0 (omega arith))
four_back (w ∷ ws) rest (suc j) all lt = four_behind w (bytes_of_words ws ++ rest) j ∙ four_back ws rest j (λ k d h. all (suc k) d (omega (arith, h))) (omega (arith, lt))

-- a word is read as it was written
pub word_back : (ws rest : List ℕ) (i : ℕ) → AreWords ws → i < length ws → word_in (bytes_of_words ws ++ rest) i ≡ get_or ws i 0
word_back ws rest i all lt =
    let b = bytes_of_words ws ++ rest in
    let inside : nat_le (i * 4 + 4) (length b) ≡ true = le-leb _ _ (omega (arith, lt, length-bytes ws rest)) in
    ap (λ t. if t then four_at b (i * 4) else 0) inside ∙ four_back ws rest i all lt

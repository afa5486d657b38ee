-- Edits of children by index are those of the forest's changes.
use Rattle.std.proofs.Common.{◌≡◌, ◌∙◌, ◌⊎◌, ℕ, ◌+◌, ◌<◌, ◌≤◌, Bool, true, false, List, [], ◌∷◌, ◌++◌, ap, arith, drop, inl, inr, refl, sym, take}
use Rattle.std.specs.Prelude.{◌&&◌, ◌==◌, if◌then◌else◌, is_some, length, Option, None, Some, slice_get}
use Rattle.std.specs.List.{insert, remove}
use Rattle.std.proofs.Math.Bool.{and-false}
use Rattle.std.proofs.Math.ListN.{set}
use Rattle.std.proofs.Math.Seq.{drop-nil}
use Rattle.std.proofs.lemmas.Bool.{eq-eqb}
use Rattle.std.proofs.lemmas.Bool.Decides.{nat_tests}
use Prim.Native.Nat.{zero, suc}
use lib.Dec.{leb}
use Rattle.h5_interface.specs.Changes.{insert_before, join, joined, without}
use Rattle.h5_interface.specs.Forest.{AreParted, Child, ChildNode, ChildText, count, nodes}
use Rattle.h5_interface.proofs.ChildLaws.{joined-parted}
use Rattle.h5_arena.specs.ChildTests.{first_text, is_child_text, last_text, texts_around}
use Rattle.std.proofs.lemmas.Bool.{and_parts}

-- a text after a last text is joined to it
pub joined-last_text : (cs : List Child) (i : ℕ) (t u : List ℕ) → length cs ≡ i + 1 → slice_get cs i ≡ Some (ChildText t) → AreParted cs → set cs i (ChildText (t ++ u)) ≡ joined (cs ++ ChildText u ∷ [])
joined-last_text [] i t u l e h = cc
joined-last_text (ChildNode n ∷ cs) zero t u l e h = cc
joined-last_text (ChildNode n ∷ cs) (suc i) t u l e h = ap (λ xs. ChildNode n ∷ xs) (joined-last_text cs i t u (omega arith) e h)
joined-last_text (ChildText a ∷ []) zero t u l e h = let w : a ≡ t = cc in ap (λ b. ChildText (b ++ u) ∷ []) (sym w)
joined-last_text (ChildText a ∷ []) (suc i) t u l e h = cc
joined-last_text (ChildText a ∷ ChildNode n ∷ cs) zero t u l e h = absurd (omega arith)
joined-last_text (ChildText a ∷ ChildNode n ∷ cs) (suc zero) t u l e h = cc
joined-last_text (ChildText a ∷ ChildNode n ∷ cs) (suc (suc i)) t u l e h = ap (λ xs. ChildText a ∷ ChildNode n ∷ xs) (joined-last_text cs i t u (omega arith) e h.1)
joined-last_text (ChildText a ∷ ChildText b ∷ cs) i t u l e h = absurd h

-- a text after a last node is not joined
pub joined-last_node : (cs : List Child) (i n : ℕ) (u : List ℕ) → length cs ≡ i + 1 → slice_get cs i ≡ Some (ChildNode n) → AreParted cs → cs ++ ChildText u ∷ [] ≡ joined (cs ++ ChildText u ∷ [])
joined-last_node [] i n u l e h = cc
joined-last_node (ChildNode m ∷ []) i n u l e h = refl
joined-last_node (ChildNode m ∷ c ∷ cs) zero n u l e h = absurd (omega arith)
joined-last_node (ChildNode m ∷ c ∷ cs) (suc i) n u l e h = ap (λ xs. ChildNode m ∷ xs) (joined-last_node (c ∷ cs) i n u (omega arith) e h)
joined-last_node (ChildText a ∷ []) zero n u l e h = cc
joined-last_node (ChildText a ∷ []) (suc i) n u l e h = cc
joined-last_node (ChildText a ∷ ChildNode m ∷ []) i n u l e h = refl
joined-last_node (ChildText a ∷ ChildNode m ∷ c ∷ cs) zero n u l e h = absurd (omega arith)
joined-last_node (ChildText a ∷ ChildNode m ∷ c ∷ cs) (suc zero) n u l e h = absurd (omega arith)
joined-last_node (ChildText a ∷ ChildNode m ∷ c ∷ cs) (suc (suc i)) n u l e h = ap (λ xs. ChildText a ∷ ChildNode m ∷ xs) (joined-last_node (c ∷ cs) i n u (omega arith) e h.1)
joined-last_node (ChildText a ∷ ChildText b ∷ cs) i n u l e h = absurd h

pub has_at : (c : ℕ) (cs : List Child) (i : ℕ) → slice_get cs i ≡ Some (ChildNode c) → 0 < count c (nodes cs)
has_at c [] i s = cc
has_at c (ChildText t ∷ cs) zero s = cc
has_at c (ChildText t ∷ cs) (suc i) s = has_at c cs i s
has_at c (ChildNode n ∷ cs) zero s = let w : n ≡ c = cc in rw (eq-eqb c n (sym w)) (omega arith)
has_at c (ChildNode n ∷ cs) (suc i) s = let w = has_at c cs i s in omega arith

without_case : (c n : ℕ) (cs : List Child) (b : Bool) → (c == n) ≡ b → (if b then 1 else 0) + count c (nodes cs) ≡ 0 → (count c (nodes cs) ≡ 0 → without c cs ≡ cs) → without c (ChildNode n ∷ cs) ≡ ChildNode n ∷ cs
without_case c n cs true w h k = absurd (omega arith)
without_case c n cs false w h k = rw w (ap (λ xs. ChildNode n ∷ xs) (k (omega arith)))

-- children without a node that occurs once are those before and after it
none_without : (c : ℕ) (cs : List Child) → count c (nodes cs) ≡ 0 → without c cs ≡ cs
none_without c [] e = refl
none_without c (ChildNode n ∷ cs) e = without_case c n cs (c == n) refl e (none_without c cs)
none_without c (ChildText t ∷ cs) e = ap (λ xs. ChildText t ∷ xs) (none_without c cs e)

-- a node that occurs once, at an index, is removed there
pub without-remove : (c : ℕ) (cs : List Child) (i : ℕ) → slice_get cs i ≡ Some (ChildNode c) → count c (nodes cs) ≡ 1 → without c cs ≡ remove cs i
without-remove c [] i s e = cc
without-remove c (ChildText t ∷ cs) zero s e = cc
without-remove c (ChildText t ∷ cs) (suc i) s e = ap (λ xs. ChildText t ∷ xs) (without-remove c cs i s e)
without-remove c (ChildNode n ∷ cs) zero s e =
    let w : n ≡ c = cc in
    let same = eq-eqb c n (sym w) in
    rw same (none_without c cs (let e' = (rw same at e) in omega (arith, e')))
without-remove c (ChildNode n ∷ cs) (suc i) s e = later_case c n cs i (c == n) refl e (has_at c cs i s) (without-remove c cs i s)
  where
    later_case : (c n : ℕ) (cs : List Child) (i : ℕ) (b : Bool) → (c == n) ≡ b → (if b then 1 else 0) + count c (nodes cs) ≡ 1 → 0 < count c (nodes cs) → (count c (nodes cs) ≡ 1 → without c cs ≡ remove cs i) → without c (ChildNode n ∷ cs) ≡ ChildNode n ∷ remove cs i
    later_case c n cs i true w h k r = absurd (omega arith)
    later_case c n cs i false w h k r = rw w (ap (λ xs. ChildNode n ∷ xs) (r (omega arith)))

text_first : (t : List ℕ) (r : List Child) → first_text r ≡ None → AreParted r → join (ChildText t) r ≡ ChildText t ∷ r
text_first t [] e h = refl
text_first t (ChildNode n ∷ r) e h = refl
text_first t (ChildText u ∷ r) e h = cc

-- If a node is removed and there aren't texts on both sides, nothing is joined.
pub joined-apart : (l : List Child) (c : ℕ) (r : List Child) → AreParted (l ++ ChildNode c ∷ r) → (last_text l ≡ None) ⊎ (first_text r ≡ None) → joined (l ++ r) ≡ l ++ r
joined-apart [] c r h k = joined-parted r h
joined-apart (ChildNode n ∷ []) c r h k = ap (λ xs. ChildNode n ∷ xs) (joined-parted r h)
joined-apart (ChildNode n ∷ x ∷ l) c r h k = ap (λ xs. ChildNode n ∷ xs) (joined-apart (x ∷ l) c r h k)
joined-apart (ChildText t ∷ []) c r h (inl e) = cc
joined-apart (ChildText t ∷ []) c r h (inr e) = rw (joined-parted r h.1) (text_first t r e h.1)
joined-apart (ChildText t ∷ ChildNode n ∷ []) c r h k = ap (λ xs. ChildText t ∷ ChildNode n ∷ xs) (joined-parted r h.1)
joined-apart (ChildText t ∷ ChildNode n ∷ x ∷ l) c r h k = ap (λ xs. ChildText t ∷ ChildNode n ∷ xs) (joined-apart (x ∷ l) c r h.1 k)
joined-apart (ChildText t ∷ ChildText u ∷ l) c r h k = absurd h

last_take : (cs : List Child) (j : ℕ) (x : Child) → slice_get cs j ≡ Some x → is_some (last_text (take (suc j) cs)) ≡ is_child_text x
last_take [] j x e = cc
last_take (ChildText t ∷ cs) zero x e = let w : ChildText t ≡ x = cc in rw (← w) refl
last_take (ChildNode n ∷ cs) zero x e = let w : ChildNode n ≡ x = cc in rw (← w) refl
last_take (c ∷ []) (suc j) x e = cc
last_take (ChildText t ∷ d ∷ cs) (suc j) x e = last_take (d ∷ cs) j x e
last_take (ChildNode n ∷ d ∷ cs) (suc j) x e = last_take (d ∷ cs) j x e

first_drop : (cs : List Child) (j : ℕ) (x : Child) → slice_get cs j ≡ Some x → is_some (first_text (drop j cs)) ≡ is_child_text x
first_drop [] j x e = cc
first_drop (ChildText t ∷ cs) zero x e = let w : ChildText t ≡ x = cc in rw (← w) refl
first_drop (ChildNode n ∷ cs) zero x e = let w : ChildNode n ≡ x = cc in rw (← w) refl
first_drop (c ∷ cs) (suc j) x e = first_drop cs j x e

pub drop-past : (cs : List Child) (n : ℕ) → length cs ≤ n → drop n cs ≡ []
drop-past [] n h = drop-nil n
drop-past (x ∷ cs) zero h = absurd (omega arith)
drop-past (x ∷ cs) (suc n) h = drop-past cs n (omega arith)

pub around_last : (cs : List Child) (i : ℕ) → length cs ≤ suc i → texts_around cs i ≡ false
around_last cs i h = rw (drop-past cs (suc i) h) (and-false _)

pub around_at : (cs : List Child) (i j k : ℕ) (x y : Child) → i ≡ suc j → k ≡ suc i → slice_get cs j ≡ Some x → slice_get cs k ≡ Some y → texts_around cs i ≡ (is_child_text x && is_child_text y)
around_at cs i j k x y e w h g = rw (e, last_take cs j x h, ← e, ← w, first_drop cs k y g) refl

split_at : (cs : List Child) (i c : ℕ) → slice_get cs i ≡ Some (ChildNode c) → cs ≡ take i cs ++ ChildNode c ∷ drop (suc i) cs
split_at [] i c s = cc
split_at (x ∷ cs) zero c s = let w : x ≡ ChildNode c = cc in ap (λ y. y ∷ cs) w
split_at (x ∷ cs) (suc i) c s = ap (λ xs. x ∷ xs) (split_at cs i c s)

some_case : (o : Option (List ℕ)) → is_some o ≡ false → o ≡ None
some_case None e = refl
some_case (Some t) e = cc

pub either_case : (a b : Option (List ℕ)) → (is_some a && is_some b) ≡ false → (a ≡ None) ⊎ (b ≡ None)
either_case None b e = inl refl
either_case (Some t) b e = inr (some_case b e)

-- removing a node that isn't between two texts
pub apart_removed : (cs : List Child) (i c : ℕ) → AreParted cs → slice_get cs i ≡ Some (ChildNode c) → count c (nodes cs) ≡ 1 → texts_around cs i ≡ false → joined (without c cs) ≡ remove cs i
apart_removed cs i c h s e k =
    rw (without-remove c cs i s e) (joined-apart (take i cs) c (drop (suc i) cs) (rw (← split_at cs i c s) h) (either_case _ _ k))

-- removing a node between two texts
pub met_removed : (cs : List Child) (i c : ℕ) (t u : List ℕ) → AreParted cs → slice_get cs i ≡ Some (ChildText t) → slice_get cs (suc i) ≡ Some (ChildNode c) → slice_get cs (suc (suc i)) ≡ Some (ChildText u)
    → joined (remove cs (suc i)) ≡ remove (remove (set cs i (ChildText (t ++ u))) (suc (suc i))) (suc i)
met_removed [] i c t u h a b d = cc
met_removed (ChildNode n ∷ cs) zero c t u h a b d = cc
met_removed (ChildNode n ∷ cs) (suc i) c t u h a b d = ap (λ xs. ChildNode n ∷ xs) (met_removed cs i c t u h a b d)
met_removed (ChildText x ∷ []) i c t u h a b d = cc
met_removed (ChildText x ∷ ChildNode n ∷ []) i c t u h a b d = cc
met_removed (ChildText x ∷ ChildNode n ∷ ChildNode m ∷ cs) zero c t u h a b d = cc
met_removed (ChildText x ∷ ChildNode n ∷ ChildText y ∷ cs) zero c t u h a b d = let v : x ≡ t = cc in let w : y ≡ u = cc in rw (joined-parted (ChildText y ∷ cs) h.1, v, w) refl
met_removed (ChildText x ∷ ChildNode n ∷ cs) (suc zero) c t u h a b d = cc
met_removed (ChildText x ∷ ChildNode n ∷ cs) (suc (suc i)) c t u h a b d = ap (λ xs. ChildText x ∷ ChildNode n ∷ xs) (met_removed cs i c t u h.1 a b d)
met_removed (ChildText x ∷ ChildText y ∷ cs) i c t u h a b d = absurd h

pub around_within : (cs : List Child) (i : ℕ) → texts_around cs i ≡ true → suc i < length cs
around_within cs i e = case (leb (length cs) (suc i)) refl
  where
    case : (b : Bool) → leb (length cs) (suc i) ≡ b → suc i < length cs
    case true w = absurd (let f : texts_around cs i ≡ false = around_last cs i (grind (arith, nat_tests)) in let g : false ≡ true = sym f ∙ e in cc)
    case false w = grind (arith, nat_tests)

pub around_above : (cs : List Child) (i : ℕ) → texts_around cs i ≡ true → 0 < i
around_above cs zero e = cc
around_above cs (suc i) e = omega arith

pub around_before : (cs : List Child) (i j : ℕ) (x : Child) → i ≡ suc j → texts_around cs i ≡ true → slice_get cs j ≡ Some x → is_child_text x ≡ true
around_before cs i j x e w s = sym (last_take cs j x s) ∙ (let v = (rw e at w) in (and_parts _ _ v).0)

pub around_after : (cs : List Child) (i k : ℕ) (x : Child) → k ≡ suc i → texts_around cs i ≡ true → slice_get cs k ≡ Some x → is_child_text x ≡ true
around_after cs i k x e w s = sym (first_drop cs k x s) ∙ rw e (and_parts _ _ w).1

-- a child inserted before a node is inserted at the node's index
insert_case : (s n : ℕ) (x : Child) (cs : List Child) (i : ℕ) (b : Bool) → (s == n) ≡ b → (if b then 1 else 0) + count s (nodes cs) ≡ 1 → 0 < count s (nodes cs) → (count s (nodes cs) ≡ 1 → insert_before s x cs ≡ insert cs i x)
    → insert_before s x (ChildNode n ∷ cs) ≡ ChildNode n ∷ insert cs i x
insert_case s n x cs i true w h k r = absurd (omega arith)
insert_case s n x cs i false w h k r = rw w (ap (λ xs. ChildNode n ∷ xs) (r (omega arith)))

pub insert_before-insert : (s : ℕ) (x : Child) (cs : List Child) (i : ℕ) → slice_get cs i ≡ Some (ChildNode s) → count s (nodes cs) ≡ 1 → insert_before s x cs ≡ insert cs i x
insert_before-insert s x [] i g e = cc
insert_before-insert s x (ChildText t ∷ cs) zero g e = cc
insert_before-insert s x (ChildText t ∷ cs) (suc i) g e = ap (λ xs. ChildText t ∷ xs) (insert_before-insert s x cs i g e)
insert_before-insert s x (ChildNode n ∷ cs) zero g e = let w : n ≡ s = cc in rw (eq-eqb s n (sym w)) refl
insert_before-insert s x (ChildNode n ∷ cs) (suc i) g e = insert_case s n x cs i (s == n) refl e (has_at s cs i g) (insert_before-insert s x cs i g)

-- a node between children joins nothing
parted-insert_node : (cs : List Child) (i c : ℕ) → AreParted cs → AreParted (insert cs i (ChildNode c))
parted-insert_node cs zero c h = h
parted-insert_node [] (suc i) c h = tt
parted-insert_node (ChildNode n ∷ cs) (suc i) c h = parted-insert_node cs i c h
parted-insert_node (ChildText t ∷ []) (suc zero) c h = (h, tt)
parted-insert_node (ChildText t ∷ []) (suc (suc i)) c h = (h, tt)
parted-insert_node (ChildText t ∷ ChildNode n ∷ cs) (suc zero) c h = h
parted-insert_node (ChildText t ∷ ChildNode n ∷ cs) (suc (suc i)) c h = (h.0, parted-insert_node cs i c h.1)
parted-insert_node (ChildText t ∷ ChildText u ∷ cs) (suc i) c h = absurd h

pub joined-insert_node : (s c : ℕ) (cs : List Child) (i : ℕ) → slice_get cs i ≡ Some (ChildNode s) → count s (nodes cs) ≡ 1 → AreParted cs → joined (insert_before s (ChildNode c) cs) ≡ insert cs i (ChildNode c)
joined-insert_node s c cs i g e h = rw (insert_before-insert s (ChildNode c) cs i g e) (joined-parted (insert cs i (ChildNode c)) (parted-insert_node cs i c h))

-- a text inserted between two nodes joins nothing
insert_text_apart : (s : ℕ) (u : List ℕ) (cs : List Child) (j n : ℕ) → slice_get cs j ≡ Some (ChildNode n) → slice_get cs (suc j) ≡ Some (ChildNode s) → AreParted cs → joined (insert cs (suc j) (ChildText u)) ≡ insert cs (suc j) (ChildText u)
insert_text_apart s u [] j n g e h = cc
insert_text_apart s u (ChildText t ∷ cs) zero n g e h = cc
insert_text_apart s u (ChildNode m ∷ []) zero n g e h = cc
insert_text_apart s u (ChildNode m ∷ ChildText t ∷ cs) zero n g e h = cc
insert_text_apart s u (ChildNode m ∷ ChildNode q ∷ cs) zero n g e h = rw (joined-parted cs h) refl
insert_text_apart s u (ChildNode m ∷ cs) (suc j) n g e h = ap (λ xs. ChildNode m ∷ xs) (insert_text_apart s u cs j n g e h)
insert_text_apart s u (ChildText t ∷ []) (suc j) n g e h = cc
insert_text_apart s u (ChildText t ∷ ChildNode m ∷ []) (suc zero) n g e h = cc
insert_text_apart s u (ChildText t ∷ ChildNode m ∷ ChildText v ∷ cs) (suc zero) n g e h = cc
insert_text_apart s u (ChildText t ∷ ChildNode m ∷ ChildNode q ∷ cs) (suc zero) n g e h = rw (joined-parted cs h.1) refl
insert_text_apart s u (ChildText t ∷ ChildNode m ∷ cs) (suc (suc j)) n g e h = ap (λ xs. ChildText t ∷ ChildNode m ∷ xs) (insert_text_apart s u cs j n g e h.1)
insert_text_apart s u (ChildText t ∷ ChildText v ∷ cs) (suc j) n g e h = absurd h

pub joined-insert_apart : (s : ℕ) (u : List ℕ) (cs : List Child) (i j n : ℕ) → i ≡ suc j → slice_get cs j ≡ Some (ChildNode n) → slice_get cs i ≡ Some (ChildNode s) → count s (nodes cs) ≡ 1 → AreParted cs → joined (insert_before s (ChildText u) cs) ≡ insert cs i (ChildText u)
joined-insert_apart s u cs i j n w g e one h = rw (insert_before-insert s (ChildText u) cs i e one, w) (insert_text_apart s u cs j n g (rw w at e) h)

-- and so does a text that is inserted first
pub joined-insert_first : (s : ℕ) (u : List ℕ) (cs : List Child) → slice_get cs 0 ≡ Some (ChildNode s) → count s (nodes cs) ≡ 1 → AreParted cs → joined (insert_before s (ChildText u) cs) ≡ insert cs 0 (ChildText u)
joined-insert_first s u [] g one h = cc
joined-insert_first s u (ChildText t ∷ cs) g one h = cc
joined-insert_first s u (ChildNode n ∷ cs) g one h = rw (insert_before-insert s (ChildText u) (ChildNode n ∷ cs) 0 g one, joined-parted cs h) refl

-- a text that is inserted after a text is joined with it
insert_text_meets : (s : ℕ) (t u : List ℕ) (cs : List Child) (j : ℕ) → slice_get cs j ≡ Some (ChildText t) → slice_get cs (suc j) ≡ Some (ChildNode s) → AreParted cs → joined (insert cs (suc j) (ChildText u)) ≡ set cs j (ChildText (t ++ u))
insert_text_meets s t u [] j g e h = cc
insert_text_meets s t u (ChildNode m ∷ cs) zero g e h = cc
insert_text_meets s t u (ChildNode m ∷ cs) (suc j) g e h = ap (λ xs. ChildNode m ∷ xs) (insert_text_meets s t u cs j g e h)
insert_text_meets s t u (ChildText a ∷ []) j g e h = cc
insert_text_meets s t u (ChildText a ∷ ChildNode m ∷ cs) zero g e h = let w : a ≡ t = cc in rw (joined-parted cs h.1, w) refl
insert_text_meets s t u (ChildText a ∷ ChildNode m ∷ cs) (suc zero) g e h = cc
insert_text_meets s t u (ChildText a ∷ ChildNode m ∷ cs) (suc (suc j)) g e h = ap (λ xs. ChildText a ∷ ChildNode m ∷ xs) (insert_text_meets s t u cs j g e h.1)
insert_text_meets s t u (ChildText a ∷ ChildText b ∷ cs) j g e h = absurd h

pub joined-insert_meets : (s : ℕ) (t u : List ℕ) (cs : List Child) (i j : ℕ) → i ≡ suc j → slice_get cs j ≡ Some (ChildText t) → slice_get cs i ≡ Some (ChildNode s) → count s (nodes cs) ≡ 1 → AreParted cs → joined (insert_before s (ChildText u) cs) ≡ set cs j (ChildText (t ++ u))
joined-insert_meets s t u cs i j w g e one h = rw (insert_before-insert s (ChildText u) cs i e one, w) (insert_text_meets s t u cs j g (rw w at e) h)

-- children appended to children join at most a last text and a first one
pub joined-append_apart : (xs ys : List Child) → AreParted xs → AreParted ys → (last_text xs ≡ None) ⊎ (first_text ys ≡ None) → joined (xs ++ ys) ≡ xs ++ ys
joined-append_apart [] ys h k a = joined-parted ys k
joined-append_apart (ChildNode n ∷ []) ys h k a = ap (λ zs. ChildNode n ∷ zs) (joined-parted ys k)
joined-append_apart (ChildNode n ∷ x ∷ xs) ys h k a = ap (λ zs. ChildNode n ∷ zs) (joined-append_apart (x ∷ xs) ys h k a)
joined-append_apart (ChildText t ∷ []) ys h k (inl e) = cc
joined-append_apart (ChildText t ∷ []) ys h k (inr e) = rw (joined-parted ys k) (text_first t ys e k)
joined-append_apart (ChildText t ∷ ChildNode n ∷ []) ys h k a = ap (λ zs. ChildText t ∷ ChildNode n ∷ zs) (joined-parted ys k)
joined-append_apart (ChildText t ∷ ChildNode n ∷ x ∷ xs) ys h k a = ap (λ zs. ChildText t ∷ ChildNode n ∷ zs) (joined-append_apart (x ∷ xs) ys h.1 k a)
joined-append_apart (ChildText t ∷ ChildText u ∷ xs) ys h k a = absurd h

-- a last text and a first one are joined
pub joined-append_meets : (xs ys : List Child) (i : ℕ) (t u : List ℕ) → length xs ≡ i + 1 → slice_get xs i ≡ Some (ChildText t) → slice_get ys 0 ≡ Some (ChildText u) → AreParted xs → AreParted ys → joined (xs ++ ys) ≡ set xs i (ChildText (t ++ u)) ++ remove ys 0
joined-append_meets xs [] i t u l e f h k = cc
joined-append_meets xs (ChildNode n ∷ ys) i t u l e f h k = cc
joined-append_meets [] (ChildText b ∷ ys) i t u l e f h k = cc
joined-append_meets (ChildNode n ∷ xs) (ChildText b ∷ ys) zero t u l e f h k = cc
joined-append_meets (ChildNode n ∷ xs) (ChildText b ∷ ys) (suc i) t u l e f h k = ap (λ zs. ChildNode n ∷ zs) (joined-append_meets xs (ChildText b ∷ ys) i t u (omega arith) e f h k)
joined-append_meets (ChildText a ∷ []) (ChildText b ∷ ys) zero t u l e f h k = let v : a ≡ t = cc in let w : b ≡ u = cc in rw (joined-parted (ChildText b ∷ ys) k, v, w) refl
joined-append_meets (ChildText a ∷ []) (ChildText b ∷ ys) (suc i) t u l e f h k = cc
joined-append_meets (ChildText a ∷ ChildNode n ∷ xs) (ChildText b ∷ ys) zero t u l e f h k = absurd (omega arith)
joined-append_meets (ChildText a ∷ ChildNode n ∷ xs) (ChildText b ∷ ys) (suc zero) t u l e f h k = cc
joined-append_meets (ChildText a ∷ ChildNode n ∷ xs) (ChildText b ∷ ys) (suc (suc i)) t u l e f h k = ap (λ zs. ChildText a ∷ ChildNode n ∷ zs) (joined-append_meets xs (ChildText b ∷ ys) i t u (omega arith) e f h.1 k)
joined-append_meets (ChildText a ∷ ChildText c ∷ xs) (ChildText b ∷ ys) i t u l e f h k = absurd h

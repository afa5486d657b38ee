-- Writes to a vector of children, as contracts see it.
use Rattle.std.proofs.Common.{◌≡◌, ◌∙◌, ℕ, ◌+◌, ◌-◌, ◌<◌, true, false, List, [], ◌∷◌, ◌++◌, ap, arith, drop, get_or, length, refl, sym, take}
use Rattle.std.specs.Prelude.{◌&&◌, is_some, Option, None, Some, Result, Ok, Err, OnErr, String, slice_get}
use Rattle.std.specs.List.{insert, remove}
use Rattle.std.proofs.Math.ListN.{set}
use Rattle.std.proofs.Math.Seq.{map-set_same}
use Rattle.std.proofs.lemmas.List.{drop-map, length-map, map-append, map-set, take-map}
use Rattle.std.proofs.lemmas.Option.{slice_get-map, slice_get_read}
use Prim.Native.Nat.{zero, suc}
use Rattle.h5_interface.specs.Changes.{insert_before, joined}
use Rattle.h5_interface.specs.Forest.{AreParted, Child, ChildNode, ChildText, count, nodes}
use Rattle.h5_interface.proofs.ChildLaws.{joined-append_node, joined-parted}
use Rattle.std.specs.declared.alloc.Global.{Global}
use Rattle.h5_arena.specs.declared.nodes.Child as own
use Rattle.h5_arena.specs.declared.nodes.Child.TheVariants as own_is
use Rattle.h5_arena.specs.ArenaModel.{child_view, child_views}
use Rattle.h5_arena.specs.ChildTests.{first_text, is_child_text, last_text, texts_around, texts_meet}
use Rattle.h5_arena.proofs.ChildTexts.{around_above, around_after, around_before, around_within, either_case, joined-append_apart, joined-append_meets, joined-insert_apart, joined-insert_first, joined-insert_meets, joined-insert_node, joined-last_node, joined-last_text, met_removed}
use Rattle.std.proofs.lemmas.Bool.{and_parts}

pub on_err : {T E : Type 0} {P : Type 0} (r : Result T E) → P → OnErr r P
on_err (Ok x) p = tt
on_err (Err e) p = p

pub text_of : (x : Child) → is_child_text x ≡ true → (t : List ℕ) × (x ≡ ChildText t)
text_of (ChildNode n) e = cc
text_of (ChildText t) e = (t, refl)

pub node_of : (x : Child) → is_child_text x ≡ false → (n : ℕ) × (x ≡ ChildNode n)
node_of (ChildNode n) e = (n, refl)
node_of (ChildText t) e = cc

-- a child that is a text has one
pub no_text : (x : own.Child) → is_child_text (child_view x) ≡ true → ((text : String Global) → x ≡ own_is.Text text → ⊥) → ⊥
no_text (own_is.Node id) is none = cc
no_text (own_is.Text text) is none = none text refl

-- the child that is read at a place
pub child_at : (cs : List own.Child) (i : ℕ) (x : own.Child) → i < length cs → x ≡ get_or cs i x → slice_get (child_views cs) i ≡ Some (child_view x)
child_at cs i x h e = slice_get-map child_view cs i ∙ rw (slice_get_read cs (length cs) i x refl h e) refl

pub text_at : (cs : List own.Child) (i : ℕ) (x : own.Child) → i < length cs → x ≡ get_or cs i x → is_child_text (child_view x) ≡ true → (t : List ℕ) × (slice_get (child_views cs) i ≡ Some (ChildText t))
text_at cs i x h e w = let t = text_of (child_view x) w in (t.0, child_at cs i x h e ∙ ap (λ y. Some y) t.1)

pub node_at : (cs : List own.Child) (i : ℕ) (x : own.Child) → i < length cs → x ≡ get_or cs i x → is_child_text (child_view x) ≡ false → (n : ℕ) × (slice_get (child_views cs) i ≡ Some (ChildNode n))
node_at cs i x h e w = let t = node_of (child_view x) w in (t.0, child_at cs i x h e ∙ ap (λ y. Some y) t.1)

-- a child is written back as it was
pub same_child : (cs : List own.Child) (i : ℕ) (x x' : own.Child) → x ≡ get_or cs i x → child_view x' ≡ child_view x → child_views (set cs i x') ≡ child_views cs
same_child cs i x x' e b = map-set_same child_view cs i x' x (b ∙ ap child_view e)

text_inj : (t u : List ℕ) → Some (ChildText t) ≡ Some (ChildText u) → t ≡ u
text_inj t u e = cc

-- a text grows
pub grown : (cs : List own.Child) (i : ℕ) (x x' : own.Child) (t a b : List ℕ) → i < length cs → x ≡ get_or cs i x → child_view x ≡ ChildText a → child_view x' ≡ ChildText (a ++ b)
    → slice_get (child_views cs) i ≡ Some (ChildText t) → child_views (set cs i x') ≡ set (child_views cs) i (ChildText (t ++ b))
grown cs i x x' t a b h e v w g =
    let same : t ≡ a = text_inj t a (sym g ∙ child_at cs i x h e ∙ ap (λ y. Some y) v) in
    map-set child_view cs i x' ∙ ap (set (child_views cs) i) (w ∙ rw same refl)

-- a text and a node are not at one place
pub not_both : (cs : List own.Child) (i : ℕ) (x : own.Child) (n : ℕ) (t : List ℕ) → i < length cs → x ≡ get_or cs i x → child_view x ≡ ChildNode n → slice_get (child_views cs) i ≡ Some (ChildText t) → ⊥
not_both cs i x n t h e v g = let w : Some (ChildNode n) ≡ Some (ChildText t) = sym (child_at cs i x h e ∙ ap (λ y. Some y) v) ∙ g in cc

pub pushed_node : (cs : List own.Child) (y : own.Child) (c : ℕ) → child_view y ≡ ChildNode c → AreParted (child_views cs) → child_views (cs ++ y ∷ []) ≡ joined (child_views cs ++ ChildNode c ∷ [])
pushed_node cs y c w h = rw (map-append child_view cs (y ∷ []), w) (sym (joined-append_node (child_views cs) c h))

pub pushed_after_node : (cs : List own.Child) (i : ℕ) (x y : own.Child) (u : List ℕ) → length cs ≡ i + 1 → x ≡ get_or cs i x → is_child_text (child_view x) ≡ false → child_view y ≡ ChildText u → AreParted (child_views cs)
    → child_views (cs ++ y ∷ []) ≡ joined (child_views cs ++ ChildText u ∷ [])
pushed_after_node cs i x y u l e v w h =
    let n = node_at cs i x (omega arith) e v in
    rw (map-append child_view cs (y ∷ []), w) (joined-last_node (child_views cs) i n.0 u (simp length-map l) n.1 h)

pub pushed_to_text : (cs ps : List own.Child) (i : ℕ) (x : own.Child) (u : List ℕ) → length cs ≡ i + 1 → x ≡ get_or cs i x → is_child_text (child_view x) ≡ true → AreParted (child_views cs)
    → ((t : List ℕ) → slice_get (child_views cs) i ≡ Some (ChildText t) → child_views ps ≡ set (child_views cs) i (ChildText (t ++ u)))
    → child_views ps ≡ joined (child_views cs ++ ChildText u ∷ [])
pushed_to_text cs ps i x u l e v h k =
    let t = text_at cs i x (omega arith) e v in
    k t.0 t.1 ∙ joined-last_text (child_views cs) i t.0 u (simp length-map l) t.1 h

-- a child that is inserted
pub insert_view : (cs : List own.Child) (i : ℕ) (y : own.Child) → child_views (insert cs i y) ≡ insert (child_views cs) i (child_view y)
insert_view cs i y = map-append child_view (take i cs) (y ∷ drop i cs) ∙ rw (take-map child_view i cs, drop-map child_view i cs) refl

pub inserted_node : (cs ds : List own.Child) (i c s : ℕ) (y : own.Child) → ds ≡ insert cs i y → child_view y ≡ ChildNode c → AreParted (child_views cs) → slice_get (child_views cs) i ≡ Some (ChildNode s) → count s (nodes (child_views cs)) ≡ 1
    → child_views ds ≡ joined (insert_before s (ChildNode c) (child_views cs))
inserted_node cs ds i c s y e v h g one = ap child_views e ∙ insert_view cs i y ∙ ap (insert (child_views cs) i) v ∙ sym (joined-insert_node s c (child_views cs) i g one h)

pub inserted_first : (cs ds : List own.Child) (i s : ℕ) (u : List ℕ) (y : own.Child) → i ≡ 0 → ds ≡ insert cs i y → child_view y ≡ ChildText u → AreParted (child_views cs) → slice_get (child_views cs) i ≡ Some (ChildNode s) → count s (nodes (child_views cs)) ≡ 1
    → child_views ds ≡ joined (insert_before s (ChildText u) (child_views cs))
inserted_first cs ds i s u y z e v h g one = ap child_views e ∙ insert_view cs i y ∙ ap (insert (child_views cs) i) v ∙ rw z (sym (joined-insert_first s u (child_views cs) (rw z at g) one h))

pub inserted_apart : (cs ds : List own.Child) (i s : ℕ) (u : List ℕ) (x y : own.Child) → 0 < i → i < length cs → ds ≡ insert cs i y → child_view y ≡ ChildText u → x ≡ get_or cs (i - 1) x → is_child_text (child_view x) ≡ false
    → AreParted (child_views cs) → slice_get (child_views cs) i ≡ Some (ChildNode s) → count s (nodes (child_views cs)) ≡ 1
    → child_views ds ≡ joined (insert_before s (ChildText u) (child_views cs))
inserted_apart cs ds i s u x y above within e v r w h g one =
    let n = node_at cs (i - 1) x (omega arith) r w in
    ap child_views e ∙ insert_view cs i y ∙ ap (insert (child_views cs) i) v ∙ sym (joined-insert_apart s u (child_views cs) i (i - 1) n.0 (omega arith) n.1 g one h)

pub inserted_to_text : (cs ps : List own.Child) (i s : ℕ) (u : List ℕ) (x : own.Child) → 0 < i → i < length cs → x ≡ get_or cs (i - 1) x → is_child_text (child_view x) ≡ true
    → ((t : List ℕ) → slice_get (child_views cs) (i - 1) ≡ Some (ChildText t) → child_views ps ≡ set (child_views cs) (i - 1) (ChildText (t ++ u)))
    → AreParted (child_views cs) → slice_get (child_views cs) i ≡ Some (ChildNode s) → count s (nodes (child_views cs)) ≡ 1
    → child_views ps ≡ joined (insert_before s (ChildText u) (child_views cs))
inserted_to_text cs ps i s u x above within r w k h g one =
    let t = text_at cs (i - 1) x (omega arith) r w in
    k t.0 t.1 ∙ sym (joined-insert_meets s t.0 u (child_views cs) i (i - 1) (omega arith) t.1 g one h)

-- a child that is taken out
pub remove_view : (cs : List own.Child) (i : ℕ) → child_views (remove cs i) ≡ remove (child_views cs) i
remove_view cs i = map-append child_view (take i cs) (drop (suc i) cs) ∙ rw (take-map child_view i cs, drop-map child_view (suc i) cs) refl

-- the texts on both sides of a place
pub text_after : (cs : List own.Child) (i k : ℕ) (x : own.Child) → k ≡ suc i → texts_around (child_views cs) i ≡ true → x ≡ get_or cs k x → is_child_text (child_view x) ≡ true
text_after cs i k x e w g = around_after (child_views cs) i k (child_view x) e w (child_at cs k x (let v : suc i < length cs = simp length-map at (around_within (child_views cs) i w) in omega arith) g)

pub within_around : (cs : List own.Child) (i : ℕ) → texts_around (child_views cs) i ≡ true → i + 1 < length cs
within_around cs i w = let v : suc i < length cs = simp length-map at (around_within (child_views cs) i w) in omega arith

pub text_before : (cs : List own.Child) (i j : ℕ) → j ≡ i - 1 → texts_around (child_views cs) i ≡ true → (t : List ℕ) × (slice_get (child_views cs) j ≡ Some (ChildText t))
text_before cs i j e w =
    let u : 0 < i = around_above (child_views cs) i w in
    let v : suc i < length (child_views cs) = around_within (child_views cs) i w in
    at (slice_get (child_views cs) j) refl (omega arith) (omega arith)
  where
    none : (xs : List Child) (n : ℕ) → slice_get xs n ≡ None → n < length xs → ⊥
    none [] n g h = absurd (omega arith)
    none (x ∷ xs) zero g h = cc
    none (x ∷ xs) (suc n) g h = none xs n g (omega arith)

    at : (o : Option Child) → slice_get (child_views cs) j ≡ o → i ≡ suc j → j < length (child_views cs) → (t : List ℕ) × (slice_get (child_views cs) j ≡ Some (ChildText t))
    at None g z h = absurd (none (child_views cs) j g h)
    at (Some x) g z h = let t = text_of x (around_before (child_views cs) i j x z w g) in (t.0, g ∙ ap (λ y. Some y) t.1)

get-set_above : (xs : List Child) (j k : ℕ) (y : Child) → j < k → slice_get (set xs k y) j ≡ slice_get xs j
get-set_above [] j k y h = refl
get-set_above (x ∷ xs) j zero y h = absurd (omega arith)
get-set_above (x ∷ xs) zero (suc k) y h = refl
get-set_above (x ∷ xs) (suc j) (suc k) y h = get-set_above xs j k y (omega arith)

-- what was there is written back
pub set-back : {A : Type 0} (xs : List A) (k : ℕ) (y z : A) → slice_get xs k ≡ Some z → set (set xs k y) k z ≡ xs
set-back [] k y z e = refl
set-back (x ∷ xs) zero y z e = let w : x ≡ z = cc in ap (λ v. v ∷ xs) (sym w)
set-back (x ∷ xs) (suc k) y z e = ap (λ vs. x ∷ vs) (set-back xs k y z e)

-- the text before stays while the text after is out
pub text_before_held : (cs : List own.Child) (i j k : ℕ) (y : own.Child) → j ≡ i - 1 → k ≡ i + 1 → texts_around (child_views cs) i ≡ true → (t : List ℕ) × (slice_get (child_views (set cs k y)) j ≡ Some (ChildText t))
text_before_held cs i j k y e w h =
    let t = text_before cs i j e h in
    (t.0, ap (λ xs. slice_get xs j) (map-set child_view cs k y) ∙ get-set_above (child_views cs) j k (child_view y) (let u : 0 < i = around_above (child_views cs) i h in omega arith) ∙ t.1)

-- the text after is put back
pub put_back : (cs ps : List own.Child) (k : ℕ) (y z z' : own.Child) → k < length cs → z ≡ get_or cs k z → child_view z' ≡ child_view z → child_views ps ≡ child_views (set cs k y) → child_views (set ps k z') ≡ child_views cs
put_back cs ps k y z z' h e v w =
    map-set child_view ps k z' ∙ ap (λ xs. set xs k (child_view z')) (w ∙ map-set child_view cs k y) ∙ ap (set (set (child_views cs) k (child_view y)) k) v
    ∙ set-back (child_views cs) k (child_view y) (child_view z) (child_at cs k z h e)

remove_held : (xs : List Child) (i : ℕ) (y z : Child) → remove (set (set xs (suc (suc i)) y) i z) (suc (suc i)) ≡ remove (set xs i z) (suc (suc i))
remove_held [] i y z = refl
remove_held (a ∷ []) zero y z = refl
remove_held (a ∷ b ∷ []) zero y z = refl
remove_held (a ∷ b ∷ c ∷ xs) zero y z = refl
remove_held (a ∷ xs) (suc i) y z = ap (λ vs. a ∷ vs) (remove_held xs i y z)

-- the text before has grown, and the two children after it are removed
pub joined_around : (cs ps ds es : List own.Child) (i j k n : ℕ) (y z : own.Child) (u : List ℕ) → j ≡ i - 1 → k ≡ i + 1 → texts_around (child_views cs) i ≡ true → slice_get (child_views cs) i ≡ Some (ChildNode n) → z ≡ get_or cs k z → child_view z ≡ ChildText u
    → AreParted (child_views cs)
    → ((t : List ℕ) → slice_get (child_views (set cs k y)) j ≡ Some (ChildText t) → child_views ps ≡ set (child_views (set cs k y)) j (ChildText (t ++ u)))
    → ds ≡ remove ps k → es ≡ remove ds i → child_views es ≡ joined (remove (child_views cs) i)
joined_around cs ps ds es i j k n y z u ej ek h at_i ez vz parted grows e1 e2 =
    let held = text_before_held cs i j k y ej ek h in
    let t = text_before cs i j ej h in
    let above : 0 < i = around_above (child_views cs) i h in
    let within : suc i < length cs = simp length-map at (around_within (child_views cs) i h) in
    ap child_views e2 ∙ remove_view ds i ∙ ap (λ xs. remove xs i) (ap child_views e1 ∙ remove_view ps k ∙ ap (λ xs. remove xs k) (grows t.0 (text_held t.0 t.1) ∙ ap (λ xs. set xs j (ChildText (t.0 ++ u))) (map-set child_view cs k y)))
    ∙ shifted t.0 (omega arith) (omega arith) t.1 at_i (child_at cs k z (omega arith) ez ∙ ap (λ x. Some x) vz)
  where
    text_held : (t : List ℕ) → slice_get (child_views cs) j ≡ Some (ChildText t) → slice_get (child_views (set cs k y)) j ≡ Some (ChildText t)
    text_held t g = ap (λ xs. slice_get xs j) (map-set child_view cs k y) ∙ get-set_above (child_views cs) j k (child_view y) (let u : 0 < i = around_above (child_views cs) i h in omega arith) ∙ g

    shifted : (t : List ℕ) → i ≡ suc j → k ≡ suc i → slice_get (child_views cs) j ≡ Some (ChildText t) → slice_get (child_views cs) i ≡ Some (ChildNode n) → slice_get (child_views cs) k ≡ Some (ChildText u)
        → remove (remove (set (set (child_views cs) k (child_view y)) j (ChildText (t ++ u))) k) i ≡ joined (remove (child_views cs) i)
    shifted t a b p q r =
        let q' = (rw a at q) in
        let r' = (rw (b, a) at r) in
        rw (b, a) (ap (λ xs. remove xs (suc j)) (remove_held (child_views cs) j (child_view y) (ChildText (t ++ u))) ∙ sym (met_removed (child_views cs) j n t u parted p q' r'))

-- the last and the first text
pub last_at : (cs : List Child) (i : ℕ) (x : Child) → length cs ≡ i + 1 → slice_get cs i ≡ Some x → is_some (last_text cs) ≡ is_child_text x
last_at [] i x l e = cc
last_at (ChildText t ∷ []) zero x l e = let w : ChildText t ≡ x = cc in rw (← w) refl
last_at (ChildNode n ∷ []) zero x l e = let w : ChildNode n ≡ x = cc in rw (← w) refl
last_at (c ∷ []) (suc i) x l e = cc
last_at (c ∷ d ∷ cs) zero x l e = absurd (omega arith)
last_at (ChildText t ∷ d ∷ cs) (suc i) x l e = last_at (d ∷ cs) i x (omega arith) e
last_at (ChildNode n ∷ d ∷ cs) (suc i) x l e = last_at (d ∷ cs) i x (omega arith) e

pub first_at : (cs : List Child) (x : Child) → slice_get cs 0 ≡ Some x → is_some (first_text cs) ≡ is_child_text x
first_at [] x e = cc
first_at (ChildText t ∷ cs) x e = let w : ChildText t ≡ x = cc in rw (← w) refl
first_at (ChildNode n ∷ cs) x e = let w : ChildNode n ≡ x = cc in rw (← w) refl

pub meet_at : (cs ms : List own.Child) (i : ℕ) (x y : own.Child) → length cs ≡ i + 1 → x ≡ get_or cs i x → 0 < length ms → y ≡ get_or ms 0 y → texts_meet (child_views cs) (child_views ms) ≡ (is_child_text (child_view x) && is_child_text (child_view y))
meet_at cs ms i x y l e h f =
    rw (last_at (child_views cs) i (child_view x) (simp length-map l) (child_at cs i x (omega arith) e), first_at (child_views ms) (child_view y) (child_at ms 0 y h f)) refl

last_text_at : (cs : List Child) (i : ℕ) → length cs ≡ i + 1 → is_some (last_text cs) ≡ true → (t : List ℕ) × (slice_get cs i ≡ Some (ChildText t))
last_text_at [] i l e = cc
last_text_at (ChildText t ∷ []) zero l e = (t, refl)
last_text_at (ChildNode n ∷ []) i l e = cc
last_text_at (ChildText t ∷ []) (suc i) l e = absurd (omega arith)
last_text_at (c ∷ d ∷ cs) zero l e = absurd (omega arith)
last_text_at (ChildText t ∷ d ∷ cs) (suc i) l e = last_text_at (d ∷ cs) i (omega arith) e
last_text_at (ChildNode n ∷ d ∷ cs) (suc i) l e = last_text_at (d ∷ cs) i (omega arith) e

some_length : (cs : List Child) → is_some (last_text cs) ≡ true → 0 < length cs
some_length [] e = cc
some_length (c ∷ cs) e = omega arith

pub meeting_last : (cs rs : List own.Child) (xs : List Child) (i : ℕ) → rs ≡ cs → i ≡ length cs - 1 → texts_meet (child_views cs) xs ≡ true → (t : List ℕ) × (slice_get (child_views rs) i ≡ Some (ChildText t))
meeting_last cs rs xs i e l h =
    let last = (and_parts _ _ h).0 in
    let some : 0 < length cs = simp length-map at (some_length (child_views cs) last) in
    let t = last_text_at (child_views cs) i (simp length-map (omega arith)) last in
    (t.0, rw e t.1)

-- moved children come after others, and two texts meet
pub appended_meeting : (cs rs ms ds ps es : List own.Child) (i : ℕ) (u : List ℕ) (y : own.Child) → rs ≡ cs → ds ≡ remove ms 0 → es ≡ ps ++ ds → i ≡ length cs - 1 → y ≡ get_or ms 0 y → 0 < length ms → child_view y ≡ ChildText u
    → ((t : List ℕ) → slice_get (child_views rs) i ≡ Some (ChildText t) → child_views ps ≡ set (child_views rs) i (ChildText (t ++ u)))
    → texts_meet (child_views cs) (child_views ms) ≡ true → AreParted (child_views cs) → AreParted (child_views ms) → child_views es ≡ joined (child_views cs ++ child_views ms)
appended_meeting cs rs ms ds ps es i u y e1 e2 e3 l ey h v grows meet p q =
    let last = (and_parts _ _ meet).0 in
    let some : 0 < length cs = simp length-map at (some_length (child_views cs) last) in
    let t = meeting_last cs cs (child_views ms) i refl l meet in
    ap child_views e3 ∙ map-append child_view ps ds ∙ ap (λ xs. xs ++ child_views ds) (grows t.0 (rw e1 t.1) ∙ ap (λ zs. set (child_views zs) i (ChildText (t.0 ++ u))) e1)
    ∙ ap (λ xs. set (child_views cs) i (ChildText (t.0 ++ u)) ++ xs) (ap child_views e2 ∙ remove_view ms 0)
    ∙ sym (joined-append_meets (child_views cs) (child_views ms) i t.0 u (simp length-map (omega arith)) t.1 (child_at ms 0 y h ey ∙ ap (λ x. Some x) v) p q)

-- and no two texts meet
pub appended_first : (cs ms : List own.Child) → length cs ≡ 0 → AreParted (child_views ms) → child_views ms ≡ joined (child_views cs ++ child_views ms)
appended_first [] ms l h = sym (joined-parted (child_views ms) h)
appended_first (c ∷ cs) ms l h = absurd (omega arith)

pub appended_apart : (cs ms es : List own.Child) → es ≡ cs ++ ms → texts_meet (child_views cs) (child_views ms) ≡ false → AreParted (child_views cs) → AreParted (child_views ms) → child_views es ≡ joined (child_views cs ++ child_views ms)
appended_apart cs ms es e h p q =
    ap child_views e ∙ map-append child_view cs ms ∙ sym (joined-append_apart (child_views cs) (child_views ms) p q (either_case (last_text (child_views cs)) (first_text (child_views ms)) h))

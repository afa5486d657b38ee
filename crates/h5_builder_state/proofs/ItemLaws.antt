-- An item of a stack, as it is seen.
use Rattle.std.proofs.Common.{◌≡◌, ◌+◌, ◌<◌, ◌≤◌, ◌^◌, ℕ, suc, get_or, set, take, drop, List, [], ◌∷◌, ◌++◌, length, refl, ap, sym, subst, ◌∙◌, arith}
use Rattle.std.specs.List.{insert, remove}
use Rattle.std.proofs.lemmas.List.{drop-map, get_or-map, get_or-set_same, length-map, length-take-le, map-append, map-set, set-get_or, set-set, take-map, take-set, take_at}
use Rattle.std.proofs.lemmas.List.Elements.{All-append, All-cons, All-drop, All-get_or, All-take, All-weaker}
use Rattle.h5_builder_state.specs.Items.{AreLinked, ArePlaced, AreReached, links_of, numbered, numbers_of, stack_of}
use Rattle.h5_builder_state.specs.Numbered.{Numbered, numbers, values}
use Rattle.h5_builder_state.specs.Places.{IsLinked, IsReached}
use Rattle.h5_builder_state.specs.declared.item.Item.{Item}
use Rattle.h5_builder_state.proofs.PlaceLaws.{linked_less, linked_more, linked_same, reached_newest}

pub length-stack : {T : Type 0} (items : List (Item T)) → length (stack_of items) ≡ length items
length-stack {T} items = length-map items (λ (item : Item T). numbered item)

pub length-numbers : {T : Type 0} (stack : List (Numbered T)) → length (numbers stack) ≡ length stack
length-numbers {T} stack = length-map stack (λ (one : Numbered T). one.number)

pub length-values : {T : Type 0} (stack : List (Numbered T)) → length (values stack) ≡ length stack
length-values {T} stack = length-map stack (λ (one : Numbered T). one.value)

pub length-numbers_of : {T : Type 0} (items : List (Item T)) → length (numbers_of items) ≡ length items
length-numbers_of items = length-numbers (stack_of items) ∙ length-stack items

pub length-links : {T : Type 0} (items : List (Item T)) → length (links_of items) ≡ length items
length-links {T} items = length-map items (λ (item : Item T). item.older)

pub stack_at : {T : Type 0} (items : List (Item T)) (k : ℕ) (x : Item T) → k < length items → x ≡ get_or items k x → get_or (stack_of items) k (numbered x) ≡ numbered x
stack_at {T} items k x h e = get_or-map (λ (item : Item T). numbered item) items k x (numbered x) h ∙ ap (λ (item : Item T). numbered item) (sym e)

pub number_at : {T : Type 0} (items : List (Item T)) (k : ℕ) (x : Item T) → k < length items → x ≡ get_or items k x → x.number ≡ get_or (numbers_of items) k 0
number_at {T} items k x h e =
    sym (get_or-map (λ (one : Numbered T). one.number) (stack_of items) k (numbered x) 0 (omega (arith, length-stack items)) ∙ ap (λ (one : Numbered T). one.number) (stack_at items k x h e))

pub value_at : {T : Type 0} (items : List (Item T)) (k : ℕ) (x : Item T) → k < length items → x ≡ get_or items k x → x.value ≡ get_or (values (stack_of items)) k x.value
value_at {T} items k x h e =
    sym (get_or-map (λ (one : Numbered T). one.value) (stack_of items) k (numbered x) x.value (omega (arith, length-stack items)) ∙ ap (λ (one : Numbered T). one.value) (stack_at items k x h e))

pub link_at : {T : Type 0} (items : List (Item T)) (k : ℕ) (x : Item T) → k < length items → x ≡ get_or items k x → x.older ≡ get_or (links_of items) k 0
link_at {T} items k x h e =
    sym (get_or-map (λ (item : Item T). item.older) items k x 0 h ∙ ap (λ (item : Item T). item.older) (sym e))

-- another item at a place
pub stack_of-set : {T : Type 0} (items : List (Item T)) (k : ℕ) (y : Item T) → stack_of (set items k y) ≡ set (stack_of items) k (numbered y)
stack_of-set {T} items k y = map-set (λ (item : Item T). numbered item) items k y

-- what is seen of a place is irrelevant if it is set again
pub stack_of-set_over : {T : Type 0} (items mids : List (Item T)) (k : ℕ) (y : Item T) (one : Numbered T) → stack_of mids ≡ stack_of items → set (stack_of (set mids k y)) k one ≡ set (stack_of items) k one
stack_of-set_over items mids k y one e = ap (λ s. set s k one) (stack_of-set mids k y) ∙ set-set (stack_of mids) k (numbered y) one ∙ ap (λ s. set s k one) e

pub links_of-set : {T : Type 0} (items : List (Item T)) (k : ℕ) (y : Item T) → links_of (set items k y) ≡ set (links_of items) k y.older
links_of-set {T} items k y = map-set (λ (item : Item T). item.older) items k y

-- another link changes nothing that is seen, and another value no number and no link
pub same_stack : {T : Type 0} (items : List (Item T)) (k : ℕ) (x y : Item T) → x ≡ get_or items k x → numbered y ≡ numbered x → stack_of (set items k y) ≡ stack_of items
same_stack {T} items k x y e f =
    stack_of-set items k y ∙ ap (set (stack_of items) k) f ∙ sym (stack_of-set items k x) ∙ ap (λ z. stack_of (set items k z)) e ∙ ap (λ z. stack_of z) (set-get_or items k x)

pub numbers_of-set : {T : Type 0} (items : List (Item T)) (k : ℕ) (y : Item T) → numbers_of (set items k y) ≡ set (numbers_of items) k y.number
numbers_of-set {T} items k y =
    ap (λ s. numbers s) (stack_of-set items k y) ∙ map-set (λ (one : Numbered T). one.number) (stack_of items) k (numbered y)

pub same_numbers : {T : Type 0} (items : List (Item T)) (k : ℕ) (x y : Item T) → x ≡ get_or items k x → y.number ≡ x.number → numbers_of (set items k y) ≡ numbers_of items
same_numbers {T} items k x y e f =
    numbers_of-set items k y ∙ ap (set (numbers_of items) k) f ∙ sym (numbers_of-set items k x) ∙ ap (λ z. numbers_of (set items k z)) e ∙ ap (λ z. numbers_of z) (set-get_or items k x)

pub same_links : {T : Type 0} (items : List (Item T)) (k : ℕ) (x y : Item T) → x ≡ get_or items k x → y.older ≡ x.older → links_of (set items k y) ≡ links_of items
same_links {T} items k x y e f =
    links_of-set items k y ∙ ap (set (links_of items) k) f ∙ sym (links_of-set items k x) ∙ ap (λ z. links_of (set items k z)) e ∙ ap (λ z. links_of z) (set-get_or items k x)

-- the newest item is taken from the table
pub left_reached : {T : Type 0} (items : List (Item T)) (table : List ℕ) (k : ℕ) (x : Item T) → k < length items → x ≡ get_or items k x → AreLinked items table (k + 1) → x.number < length table
left_reached items table k x h e z =
    subst (λ n. n < length table) (sym (number_at items k x h e)) (reached_newest (numbers_of items) (links_of items) table k (omega (arith, length-numbers_of items)) z)

pub left_out : {T : Type 0} (items : List (Item T)) (table : List ℕ) (k : ℕ) (x : Item T) → k < length items → x ≡ get_or items k x → AreLinked items table (k + 1) → AreLinked items (set table x.number x.older) k
left_out items table k x h e z =
    subst (λ n. AreLinked items (set table n x.older) k) (sym (number_at items k x h e))
    (subst (λ v. AreLinked items (set table (get_or (numbers_of items) k 0) v) k) (sym (link_at items k x h e))
    (linked_less (numbers_of items) (links_of items) table k (omega (arith, length-numbers_of items)) z))

-- an item is put into it
pub entered : {T : Type 0} (items : List (Item T)) (table : List ℕ) (k : ℕ) (x y : Item T) → k < length items → x ≡ get_or items k x → numbered y ≡ numbered x → y.older ≡ get_or table x.number 0 → x.number < length table
    → AreLinked items table k → AreLinked (set items k y) (set table x.number (k + 1)) (k + 1)
entered {T} items table k x y h e f o r z =
    let num : x.number ≡ get_or (numbers_of items) k 0 = number_at items k x h e in
    subst (λ n. AreLinked (set items k y) (set table n (k + 1)) (k + 1)) (sym num)
    (subst (λ (s : List (Numbered T)). IsLinked (numbers s) (links_of (set items k y)) (set table (get_or (numbers_of items) k 0) (k + 1)) (k + 1)) (sym (same_stack items k x y e f))
    (subst (λ l. IsLinked (numbers_of items) l (set table (get_or (numbers_of items) k 0) (k + 1)) (k + 1)) (sym (links_of-set items k y))
    (linked_more (numbers_of items) (set (links_of items) k y.older) table k (omega (arith, h, length-numbers_of items)) (subst (λ m. m < length table) num r)
    (get_or-set_same (links_of items) k y.older 0 (omega (arith, h, length-links items)) ∙ o ∙ ap (λ m. get_or table m 0) num)
    (linked_same k (numbers_of items) (numbers_of items) (links_of items) (set (links_of items) k y.older) table refl (sym (take-set (links_of items) k y.older)) z))))

-- the k oldest items are equal to those of another list
pub linked_under : {T : Type 0} (items news : List (Item T)) (table : List ℕ) (k : ℕ) → take k items ≡ take k news → AreLinked items table k → AreLinked news table k
linked_under {T} items news table k e z = linked_same k (numbers_of items) (numbers_of news) (links_of items) (links_of news) table numbers_same links_same z
  where
    take-numbers : (xs : List (Item T)) → take k (numbers_of xs) ≡ numbers_of (take k xs)
    take-numbers xs = take-map (λ (one : Numbered T). one.number) k (stack_of xs) ∙ ap (λ s. numbers s) (take-map (λ (item : Item T). numbered item) k xs)

    take-links : (xs : List (Item T)) → take k (links_of xs) ≡ links_of (take k xs)
    take-links xs = take-map (λ (item : Item T). item.older) k xs

    numbers_same : take k (numbers_of items) ≡ take k (numbers_of news)
    numbers_same = take-numbers items ∙ ap (λ xs. numbers_of xs) e ∙ sym (take-numbers news)

    links_same : take k (links_of items) ≡ take k (links_of news)
    links_same = take-links items ∙ ap (λ xs. links_of xs) e ∙ sym (take-links news)

-- what is right of all items
pub linked_all : {T : Type 0} (items : List (Item T)) (table : List ℕ) → ArePlaced items table → AreLinked items table (length items)
linked_all items table p = subst (λ k. AreLinked items table k) (length-numbers_of items) p.whole

pub placed_all : {T : Type 0} (items : List (Item T)) (table : List ℕ) → AreLinked items table (length items) → AreReached items table → length items < 2 ^ 32 → ArePlaced items table
placed_all items table z r s =
    record { whole = subst (λ k. AreLinked items table k) (sym (length-numbers_of items)) z; reached = r; small = omega (arith, length-numbers_of items) }

-- a table that is as long, or longer
pub reached_longer : {T : Type 0} (items : List (Item T)) (t u : List ℕ) → length t ≤ length u → AreReached items t → AreReached items u
reached_longer items t u h r = All-weaker (λ n. n < length t) (λ n. n < length u) (λ n l. omega arith) (numbers_of items) r

-- parts of lists of items
stack_of-take : {T : Type 0} (items : List (Item T)) (k : ℕ) → stack_of (take k items) ≡ take k (stack_of items)
stack_of-take {T} items k = sym (take-map (λ (item : Item T). numbered item) k items)

pub stack_of-kept : {T : Type 0} (items news : List (Item T)) (k : ℕ) → news ≡ take k items → stack_of news ≡ take k (stack_of items)
stack_of-kept items news k e = ap (λ xs. stack_of xs) e ∙ stack_of-take items k

pub stack_of-removed : {T : Type 0} (items news : List (Item T)) (k : ℕ) → news ≡ remove items k → stack_of news ≡ remove (stack_of items) k
stack_of-removed {T} items news k e =
    ap (λ xs. stack_of xs) e ∙ map-append (λ (item : Item T). numbered item) (take k items) (drop (suc k) items)
    ∙ ap (λ s. s ++ stack_of (drop (suc k) items)) (stack_of-take items k) ∙ ap (λ s. take k (stack_of items) ++ s) (sym (drop-map (λ (item : Item T). numbered item) (suc k) items))

pub stack_of-inserted : {T : Type 0} (items news : List (Item T)) (k : ℕ) (x : Item T) → news ≡ insert items k x → stack_of news ≡ insert (stack_of items) k (numbered x)
stack_of-inserted {T} items news k x e =
    ap (λ xs. stack_of xs) e ∙ map-append (λ (item : Item T). numbered item) (take k items) (x ∷ drop k items)
    ∙ ap (λ s. s ++ numbered x ∷ stack_of (drop k items)) (stack_of-take items k) ∙ ap (λ s. take k (stack_of items) ++ numbered x ∷ s) (sym (drop-map (λ (item : Item T). numbered item) k items))

pub stack_of-pushed : {T : Type 0} (items news : List (Item T)) (x : Item T) → news ≡ items ++ x ∷ [] → stack_of news ≡ stack_of items ++ numbered x ∷ []
stack_of-pushed {T} items news x e = ap (λ xs. stack_of xs) e ∙ map-append (λ (item : Item T). numbered item) items (x ∷ [])

-- the numbers of those parts are reached
reached_of : {T : Type 0} (items : List (Item T)) (s : List (Numbered T)) (table : List ℕ) → stack_of items ≡ s → IsReached (numbers s) table → AreReached items table
reached_of items s table e r = subst (λ t. IsReached (numbers t) table) (sym e) r

reached_take : {T : Type 0} (s : List (Numbered T)) (k : ℕ) (table : List ℕ) → IsReached (numbers s) table → IsReached (numbers (take k s)) table
reached_take {T} s k table r = subst (λ ns. IsReached ns table) (take-map (λ (one : Numbered T). one.number) k s) (All-take (λ n. n < length table) k (numbers s) r)

reached_drop : {T : Type 0} (s : List (Numbered T)) (k : ℕ) (table : List ℕ) → IsReached (numbers s) table → IsReached (numbers (drop k s)) table
reached_drop {T} s k table r = subst (λ ns. IsReached ns table) (drop-map (λ (one : Numbered T). one.number) k s) (All-drop (λ n. n < length table) k (numbers s) r)

reached_append : {T : Type 0} (s t : List (Numbered T)) (table : List ℕ) → IsReached (numbers s) table → IsReached (numbers t) table → IsReached (numbers (s ++ t)) table
reached_append {T} s t table r q =
    subst (λ ns. IsReached ns table) (sym (map-append (λ (one : Numbered T). one.number) s t)) (All-append (λ n. n < length table) (numbers s) (numbers t) r q)

reached_cons : {T : Type 0} (x : Numbered T) (s : List (Numbered T)) (table : List ℕ) → x.number < length table → IsReached (numbers s) table → IsReached (numbers (x ∷ s)) table
reached_cons x s table h r = All-cons (λ n. n < length table) x.number (numbers s) h r

pub reached_kept : {T : Type 0} (items news : List (Item T)) (k : ℕ) (table : List ℕ) → news ≡ take k items → AreReached items table → AreReached news table
reached_kept items news k table e r = reached_of news (take k (stack_of items)) table (stack_of-kept items news k e) (reached_take (stack_of items) k table r)

pub reached_removed : {T : Type 0} (items news : List (Item T)) (k : ℕ) (table : List ℕ) → news ≡ remove items k → AreReached items table → AreReached news table
reached_removed items news k table e r =
    reached_of news (remove (stack_of items) k) table (stack_of-removed items news k e)
    (reached_append (take k (stack_of items)) (drop (suc k) (stack_of items)) table (reached_take (stack_of items) k table r) (reached_drop (stack_of items) (suc k) table r))

pub reached_inserted : {T : Type 0} (items news : List (Item T)) (k : ℕ) (x : Item T) (table : List ℕ) → news ≡ insert items k x → x.number < length table → AreReached items table → AreReached news table
reached_inserted items news k x table e h r =
    reached_of news (insert (stack_of items) k (numbered x)) table (stack_of-inserted items news k x e)
    (reached_append (take k (stack_of items)) (numbered x ∷ drop k (stack_of items)) table (reached_take (stack_of items) k table r)
    (reached_cons (numbered x) (drop k (stack_of items)) table h (reached_drop (stack_of items) k table r)))

pub reached_pushed : {T : Type 0} (items news : List (Item T)) (x : Item T) (table : List ℕ) → news ≡ items ++ x ∷ [] → x.number < length table → AreReached items table → AreReached news table
reached_pushed items news x table e h r =
    reached_of news (stack_of items ++ numbered x ∷ []) table (stack_of-pushed items news x e)
    (reached_append (stack_of items) (numbered x ∷ []) table r (reached_cons (numbered x) [] table h (λ k d l. absurd (omega arith))))

-- a list begins with the same items where one is taken out, or put in
pub take-removed : {X : Type 0} (xs ys rest : List X) (k : ℕ) → k ≤ length xs → ys ≡ take k xs ++ rest → take k xs ≡ take k ys
take-removed xs ys rest k h e = sym (ap (take k) e ∙ take_at (take k xs) rest k (length-take-le k xs h))

-- items that are seen the same
pub same_length : {T : Type 0} (items news : List (Item T)) → stack_of news ≡ stack_of items → length news ≡ length items
same_length items news e = sym (length-stack news) ∙ ap (λ s. length s) e ∙ length-stack items

pub reached_same : {T : Type 0} (items news : List (Item T)) (t u : List ℕ) → stack_of news ≡ stack_of items → length u ≡ length t → AreReached items t → AreReached news u
reached_same items news t u e h r = reached_of news (stack_of items) u e (reached_longer items t u (omega (arith, h)) r)

pub reached_at : {T : Type 0} (items : List (Item T)) (table : List ℕ) (k : ℕ) (x : Item T) → k < length items → x ≡ get_or items k x → AreReached items table → x.number < length table
reached_at items table k x h e r =
    subst (λ n. n < length table) (sym (number_at items k x h e)) (All-get_or (λ n. n < length table) (numbers_of items) k 0 (omega (arith, length-numbers_of items)) r)

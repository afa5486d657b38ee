-- What a stack is seen as, by its items and its table, and what its calls leave.
use Rattle.std.proofs.Common.{◌≡◌, ◌+◌, ◌-◌, ◌<◌, ◌≤◌, ℕ, zero, suc, get_or, set, slice_index_or, take, drop, List, [], ◌∷◌, ◌++◌, length, reverse, refl, ap, sym, subst, ◌∙◌, arith}
use Rattle.std.specs.List.{insert, remove}
use Rattle.std.proofs.lemmas.List.{append-nil, get_or_default, get_or_past, get_or_push, get_or-set_same, length-reverse, length-set, length-take-le, length_push, map-append, take-append-drop, take-append-le, take_all, take_at}
use Rattle.std.proofs.lemmas.List.Edits.{length-remove}
use Rattle.h5_builder_state.specs.Items.{AreLinked, ArePlaced, AreReached, links_of, numbered, numbers_of, stack_of}
use Rattle.h5_builder_state.specs.Numbered.{Numbered, newest_of, newest_under, numbers, one_of, values}
use Rattle.h5_builder_state.specs.Places.{IsPlaced}
use Rattle.h5_builder_state.specs.declared.item.Item.{Item}
use Rattle.h5_builder_state.proofs.ItemLaws.{left_out, left_reached, length-numbers, length-numbers_of, length-stack, link_at, linked_all, linked_under, number_at, placed_all, reached_inserted, reached_kept, reached_longer, reached_pushed, reached_removed, same_links, same_numbers, stack_at, stack_of-inserted, stack_of-kept, stack_of-pushed, stack_of-removed, stack_of-set, take-removed, value_at}
use Rattle.h5_builder_state.proofs.PlaceLaws.{linked_none, linked_table, newest_le}

pub inside : {T : Type 0} (items : List (Item T)) (s : List (Numbered T)) (k : ℕ) → stack_of items ≡ s → k < length s → k < length items
inside items s k v h = omega (arith, length-stack items, ap (λ z. length z) v, h)

-- what is read
pub seen_value : {T : Type 0} (items : List (Item T)) (s : List (Numbered T)) (k : ℕ) (x : Item T) → stack_of items ≡ s → k < length s → x ≡ get_or items k x → x.value ≡ slice_index_or (values s) k x.value
seen_value items s k x v h e = subst (λ z. x.value ≡ slice_index_or (values z) k x.value) v (value_at items k x (inside items s k v h) e)

pub seen_number : {T : Type 0} (items : List (Item T)) (s : List (Numbered T)) (k : ℕ) (x : Item T) → stack_of items ≡ s → k < length s → x ≡ get_or items k x → x.number ≡ get_or (numbers s) k 0
seen_number items s k x v h e = subst (λ z. x.number ≡ get_or (numbers z) k 0) v (number_at items k x (inside items s k v h) e)

pub seen_older : {T : Type 0} (items : List (Item T)) (s : List (Numbered T)) (t : List ℕ) (k : ℕ) (x : Item T) → stack_of items ≡ s → ArePlaced items t → k < length s → x ≡ get_or items k x
    → x.older ≡ newest_under (get_or (numbers s) k 0) s k
seen_older items s t k x v p h e =
    subst (λ z. x.older ≡ newest_under (get_or (numbers z) k 0) z k) v
    (link_at items k x (inside items s k v h) e ∙ p.whole.linked k (omega (arith, length-numbers_of items, inside items s k v h)))

pub newest_seen : {T : Type 0} (items : List (Item T)) (s : List (Numbered T)) (t : List ℕ) (n : ℕ) → stack_of items ≡ s → ArePlaced items t → get_or t n 0 ≡ newest_of n (reverse (numbers s))
newest_seen items s t n v p =
    subst (λ z. get_or t n 0 ≡ newest_of n (reverse (numbers z))) v
    (p.whole.tabled n ∙ ap (λ ns. newest_of n (reverse ns)) (take_all (length (numbers_of items)) (numbers_of items) (omega arith)))

pub seen_newest : {T : Type 0} (items : List (Item T)) (s : List (Numbered T)) (t : List ℕ) (n x : ℕ) → stack_of items ≡ s → ArePlaced items t → n < length t → x ≡ get_or t n x → x ≡ newest_of n (reverse (numbers s))
seen_newest items s t n x v p h e = e ∙ get_or_default t n x 0 h ∙ newest_seen items s t n v p

pub seen_none : {T : Type 0} (items : List (Item T)) (s : List (Numbered T)) (t : List ℕ) (n : ℕ) → stack_of items ≡ s → ArePlaced items t → length t ≤ n → 0 ≡ newest_of n (reverse (numbers s))
seen_none items s t n v p h = sym (get_or_past t n 0 h) ∙ newest_seen items s t n v p

pub newest_within : {T : Type 0} (n : ℕ) (s : List (Numbered T)) → newest_of n (reverse (numbers s)) ≤ length s
newest_within n s = omega (arith, newest_le n (reverse (numbers s)), length-reverse (numbers s), length-numbers s)

pub newest_under_within : {T : Type 0} (n : ℕ) (s : List (Numbered T)) (k : ℕ) → k < length s → newest_under n s k ≤ k
newest_under_within n s k h =
    omega (arith, newest_le n (reverse (take k (numbers s))), length-reverse (take k (numbers s)), length-take-le k (numbers s) (omega (arith, length-numbers s, h)))

-- an empty stack
pub placed_none : {T : Type 0} (items : List (Item T)) (t : List ℕ) → items ≡ [] → t ≡ [] → ArePlaced items t
placed_none {T} items t e f =
    let none : List (Item T) = [] in
    subst (λ (xs : List (Item T)). ArePlaced xs t) (sym e) (subst (λ u. ArePlaced none u) (sym f)
    (record { whole = linked_none (numbers_of none) (links_of none); reached = λ k d l. absurd (omega arith); small = omega arith }))

-- another table that says the same
pub placed_table : {T : Type 0} (items : List (Item T)) (t u : List ℕ) → ((n : ℕ) → get_or u n 0 ≡ get_or t n 0) → length t ≤ length u → ArePlaced items t → ArePlaced items u
placed_table items t u e h p = record {
  whole = linked_table (numbers_of items) (links_of items) t u (length (numbers_of items)) e p.whole;
  reached = reached_longer items t u h p.reached;
  small = p.small;
}

-- another value at a place
pub placed_set : {T : Type 0} (items : List (Item T)) (t : List ℕ) (k : ℕ) (x y : Item T) → x ≡ get_or items k x → y.number ≡ x.number → y.older ≡ x.older → ArePlaced items t → ArePlaced (set items k y) t
placed_set items t k x y e f l p =
    subst (λ ns. IsPlaced ns (links_of (set items k y)) t) (sym (same_numbers items k x y e f)) (subst (λ ls. IsPlaced (numbers_of items) ls t) (sym (same_links items k x y e l)) p)

pub seen_set : {T : Type 0} (items : List (Item T)) (s : List (Numbered T)) (k : ℕ) (x y : Item T) → stack_of items ≡ s → k < length s → x ≡ get_or items k x → y.number ≡ x.number
    → stack_of (set items k y) ≡ set s k (one_of (get_or (numbers s) k 0) y.value)
seen_set items s k x y v h e f =
    stack_of-set items k y ∙ ap (λ z. set z k (numbered y)) v ∙ ap (λ n. set s k (one_of n y.value)) (f ∙ seen_number items s k x v h e)

-- another value at a place, with another number
pub seen_replaced : {T : Type 0} (items mids : List (Item T)) (s : List (Numbered T)) (k n : ℕ) (x y : Item T) → stack_of items ≡ s → k < length s → x ≡ get_or mids k x → y.number ≡ x.number
    → numbers_of mids ≡ set (numbers_of items) k n → ((one : Numbered T) → set (stack_of mids) k one ≡ set (stack_of items) k one) → stack_of (set mids k y) ≡ set s k (one_of n y.value)
seen_replaced {T} items mids s k n x y v h e f m o =
    let l : k < length (numbers_of items) = omega (arith, length-numbers_of items, inside items s k v h) in
    let r : k < length mids = omega (arith, l, length-numbers_of mids, ap (λ z. length z) m, length-set (numbers_of items) k n) in
    stack_of-set mids k y ∙ o (numbered y) ∙ ap (λ (z : List (Numbered T)). set z k (numbered y)) v
    ∙ ap (λ i. set s k (one_of i y.value)) (f ∙ number_at mids k x r e ∙ ap (λ ns. get_or ns k 0) m ∙ get_or-set_same (numbers_of items) k n 0 l)

-- one more on top
pub push_linked : {T : Type 0} (items news : List (Item T)) (x : Item T) (t u : List ℕ) (k : ℕ) → k ≡ length items → news ≡ items ++ x ∷ [] → ((n : ℕ) → get_or u n 0 ≡ get_or t n 0) → ArePlaced items t → AreLinked news u k
push_linked items news x t u k l e f p =
    subst (λ n. AreLinked news u n) (sym l)
    (linked_under items news u (length items) (sym (ap (take (length items)) e ∙ take-append-le (length items) items (x ∷ []) (omega arith)))
    (linked_table (numbers_of items) (links_of items) t u (length items) f (linked_all items t p)))

pub push_reached : {T : Type 0} (items news : List (Item T)) (x : Item T) (t u : List ℕ) → news ≡ items ++ x ∷ [] → length t ≤ length u → x.number < length u → ArePlaced items t → AreReached news u
push_reached items news x t u e h n p = reached_pushed items news x u e n (reached_longer items t u h p.reached)

pub seen_pushed : {T : Type 0} (items news : List (Item T)) (s : List (Numbered T)) (x : Item T) → stack_of items ≡ s → news ≡ items ++ x ∷ [] → stack_of news ≡ s ++ numbered x ∷ []
seen_pushed items news s x v e = stack_of-pushed items news x e ∙ ap (λ z. z ++ numbered x ∷ []) v

-- the newest is taken off
taken : {T : Type 0} (items news : List (Item T)) (x : Item T) → items ≡ news ++ x ∷ [] → news ≡ take (length news) items
taken items news x e = sym (ap (take (length news)) e ∙ take_at news (x ∷ []) (length news) refl)

newest_item : {T : Type 0} (items news : List (Item T)) (x : Item T) → items ≡ news ++ x ∷ [] → x ≡ get_or items (length news) x
newest_item items news x e = sym (ap (λ s. get_or s (length news) x) e ∙ get_or_push news x x (length news) refl)

pub one_more : {T : Type 0} (items news : List (Item T)) (x : Item T) → items ≡ news ++ x ∷ [] → length items ≡ length news + 1
one_more items news x e = ap (λ s. length s) e ∙ length_push news x

linked_newest : {T : Type 0} (items news : List (Item T)) (x : Item T) (t : List ℕ) → items ≡ news ++ x ∷ [] → ArePlaced items t → AreLinked items t (length news + 1)
linked_newest items news x t e p = subst (λ n. AreLinked items t n) (one_more items news x e) (linked_all items t p)

pub popped_reached : {T : Type 0} (items news : List (Item T)) (x : Item T) (t : List ℕ) → items ≡ news ++ x ∷ [] → ArePlaced items t → x.number < length t
popped_reached items news x t e p =
    left_reached items t (length news) x (omega (arith, one_more items news x e)) (newest_item items news x e) (linked_newest items news x t e p)

-- the oldest stay
pub placed_kept : {T : Type 0} (items news : List (Item T)) (t u : List ℕ) (k : ℕ) → k ≤ length items → news ≡ take k items → AreLinked items u k → length u ≡ length t → ArePlaced items t → ArePlaced news u
placed_kept items news t u k h e z l p =
    placed_all news u (subst (λ n. AreLinked news u n) (sym count) (linked_under items news u k (sym (ap (take k) e ∙ take_all k (take k items) (omega (arith, length-take-le k items h)))) z))
    (reached_longer news t u (omega (arith, l)) (reached_kept items news k t e p.reached)) (omega (arith, count, h, p.small, length-numbers_of items))
  where
    count : length news ≡ k
    count = ap (λ s. length s) e ∙ length-take-le k items h

pub popped : {T : Type 0} (items news : List (Item T)) (x : Item T) (t : List ℕ) → items ≡ news ++ x ∷ [] → ArePlaced items t → ArePlaced news (set t x.number x.older)
popped items news x t e p =
    placed_kept items news t (set t x.number x.older) (length news) (omega (arith, one_more items news x e)) (taken items news x e)
    (left_out items t (length news) x (omega (arith, one_more items news x e)) (newest_item items news x e) (linked_newest items news x t e p)) (length-set t x.number x.older) p

pub seen_popped : {T : Type 0} (items news : List (Item T)) (s : List (Numbered T)) (x : Item T) → stack_of items ≡ s → items ≡ news ++ x ∷ [] → s ≡ stack_of news ++ numbered x ∷ []
seen_popped items news s x v e = sym v ∙ stack_of-pushed news items x e

pub seen_rest : {T : Type 0} (items news : List (Item T)) (s : List (Numbered T)) (x : Item T) → stack_of items ≡ s → items ≡ news ++ x ∷ [] → stack_of news ≡ take (length s - 1) s
seen_rest {T} items news s x v e =
    let k : length news ≡ length s - 1 = omega (arith, one_more items news x e, length-stack items, ap (λ (z : List (Numbered T)). length z) v) in
    stack_of-kept items news (length news) (taken items news x e) ∙ ap (λ z. take (length news) z) v ∙ ap (λ n. take n s) k

pub value_popped : {T : Type 0} (items news : List (Item T)) (s : List (Numbered T)) (x : Item T) → stack_of items ≡ s → items ≡ news ++ x ∷ [] → values s ≡ values (stack_of news) ++ x.value ∷ []
value_popped {T} items news s x v e =
    ap (λ z. values z) (seen_popped items news s x v e) ∙ map-append (λ (one : Numbered T). one.value) (stack_of news) (numbered x ∷ [])

-- one is taken out
pub remove_linked : {T : Type 0} (items news : List (Item T)) (u : List ℕ) (k : ℕ) → k ≤ length items → news ≡ remove items k → AreLinked items u k → AreLinked news u k
remove_linked items news u k h e z = linked_under items news u k (take-removed items news (drop (suc k) items) k h e) z

pub remove_reached : {T : Type 0} (items news : List (Item T)) (t u : List ℕ) (k : ℕ) → news ≡ remove items k → length u ≡ length t → ArePlaced items t → AreReached news u
remove_reached items news t u k e l p = reached_longer news t u (omega (arith, l)) (reached_removed items news k t e p.reached)

pub remove_length : {T : Type 0} (items news : List (Item T)) (k : ℕ) → k < length items → news ≡ remove items k → length news + 1 ≡ length items
remove_length items news k h e = ap (λ s. length s + 1) e ∙ length-remove items k h

pub seen_removed : {T : Type 0} (items news : List (Item T)) (s : List (Numbered T)) (k : ℕ) → stack_of items ≡ s → news ≡ remove items k → stack_of news ≡ remove s k
seen_removed items news s k v e = stack_of-removed items news k e ∙ ap (λ z. remove z k) v

pub seen_kept : {T : Type 0} (items news : List (Item T)) (s : List (Numbered T)) (k : ℕ) → stack_of items ≡ s → news ≡ take k items → stack_of news ≡ take k s
seen_kept items news s k v e = stack_of-kept items news k e ∙ ap (take k) v

pub seen_same : {T : Type 0} (items news : List (Item T)) (s : List (Numbered T)) → stack_of items ≡ s → news ≡ items → stack_of news ≡ s
seen_same items news s v e = ap (λ xs. stack_of xs) e ∙ v

-- one moves up
pub item_at : {X : Type 0} (xs : List X) (k : ℕ) → k < length xs → (x : X) × (x ≡ get_or xs k x)
item_at [] k h = absurd (omega (arith, h))
item_at (x ∷ xs) zero h = (x, refl)
item_at (x ∷ xs) (suc k) h = item_at xs k (omega (arith, h))

module _ {T : Type 0} (items news : List (Item T)) (from to : ℕ) (order : from ≤ to) (within : to < length items) (moved : (x : Item T) → x ≡ get_or items from x → news ≡ insert (remove items from) to x) where
  the_item : (x : Item T) × (x ≡ get_or items from x)
  the_item = item_at items from (omega (arith, order, within))

  pub moved_linked : (u : List ℕ) → AreLinked items u from → AreLinked news u from
  moved_linked u z =
      let less : List (Item T) = remove items from in
      let l : length less + 1 ≡ length items = length-remove items from (omega (arith, order, within)) in
      let e = moved the_item.0 the_item.1 in
      let low : take from items ≡ take from less = take-removed items less (drop (suc from) items) from (omega (arith, order, within)) refl in
      let high : take from news ≡ take from less =
      ap (take from) e ∙ take-append-le from (take to less) (the_item.0 ∷ drop to less) (omega (arith, order, within, l, length-take-le to less (omega (arith, within, l))))
      ∙ sym (take-append-le from (take to less) (drop to less) (omega (arith, order, within, l, length-take-le to less (omega (arith, within, l)))))
      ∙ ap (take from) (take-append-drop to less) in
      linked_under items news u from (low ∙ sym high) z

  pub moved_reached : (t u : List ℕ) → length u ≡ length t → ArePlaced items t → AreReached news u
  moved_reached t u l p =
      let inside : from < length items = omega (arith, order, within) in
      let all = reached_longer items t u (omega (arith, l)) p.reached in
      let least = reached_removed items (remove items from) from u refl all in
      let known : the_item.0.number < length u =
      omega (arith, l, number_at items from the_item.0 inside the_item.1, p.reached from 0 (omega (arith, inside, length-numbers_of items))) in
      reached_inserted (remove items from) news to the_item.0 u (moved the_item.0 the_item.1) known least

  pub seen_moved : (s : List (Numbered T)) (one : Numbered T) → stack_of items ≡ s → one ≡ get_or s from one → stack_of news ≡ insert (remove s from) to one
  seen_moved s one v e =
      let inside : from < length items = omega (arith, order, within) in
      let same : numbered the_item.0 ≡ one =
      sym (stack_at items from the_item.0 inside the_item.1) ∙ get_or_default (stack_of items) from (numbered the_item.0) one (omega (arith, inside, length-stack items)) ∙ ap (λ z. get_or z from one) v ∙ sym e in
      stack_of-inserted (remove items from) news to the_item.0 (moved the_item.0 the_item.1)
      ∙ ap (λ z. insert z to (numbered the_item.0)) (stack_of-removed items (remove items from) from refl ∙ ap (λ z. remove z from) v)
      ∙ ap (λ z. insert (remove s from) to z) same

-- there was none to take off
pub unpopped : {T : Type 0} (items news : List (Item T)) (t : List ℕ) → items ≡ news ++ [] → ArePlaced items t → ArePlaced news t
unpopped items news t e p = subst (λ xs. ArePlaced xs t) (e ∙ append-nil news) p

pub value_unpopped : {T : Type 0} (items news : List (Item T)) (s : List (Numbered T)) → stack_of items ≡ s → items ≡ news ++ [] → values s ≡ values (stack_of news) ++ []
value_unpopped items news s v e = ap (λ z. values z) (sym (seen_same items news s v (sym (e ∙ append-nil news)))) ∙ sym (append-nil (values (stack_of news)))

pub rest_unpopped : {T : Type 0} (items news : List (Item T)) (s : List (Numbered T)) → stack_of items ≡ s → items ≡ news ++ [] → length items ≡ 0 → stack_of news ≡ take (length s - 1) s
rest_unpopped items news s v e h =
    seen_same items news s v (sym (e ∙ append-nil news)) ∙ sym (take_all (length s - 1) s (omega (arith, h, length-stack items, ap (λ z. length z) v)))

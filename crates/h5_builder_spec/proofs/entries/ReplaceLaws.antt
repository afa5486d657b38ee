-- What is preserved if elements of the stack and of the list are replaced in the same way.
use Rattle.std.proofs.Common.{◌≡◌, ◌≤◌, ◌⊎◌, inl, inr, ℕ, suc, cond, List, [], ◌∷◌, ◌++◌, Option, Some, None, refl, ap, sym, subst, ◌∙◌, arith}
use Rattle.h5_token.specs.TokenText.{TagText}
use Rattle.h5_builder_spec.specs.formatting.Adoption.{entry_as, replaced}
use Rattle.h5_builder_spec.specs.formatting.FormattingList.{ElementEntry, Entry, MarkerEntry, after_marker, count_alike, is_alike, nodes_of}
use Rattle.h5_builder_spec.specs.inner.Lists.{Agrees, Beside, FewAlike}
use Rattle.h5_builder_spec.specs.stack.Order.{Before, Distinct, IsIn}
use Rattle.h5_builder_spec.proofs.entries.EntryLaws.{beside_before, count_more, count_step}
use Rattle.h5_builder_spec.proofs.entries.PairLaws.{before_first, before_second}

abbrev pub node_as : Option ℕ → List ℕ → List ℕ
node_as None s = s
node_as (Some m) s = m ∷ s

abbrev pub replaced_nodes : (ℕ → Option ℕ) → List ℕ → List ℕ
replaced_nodes w [] = []
replaced_nodes w (n ∷ s) = node_as (w n) (replaced_nodes w s)

pub nodes_replaced : (w : ℕ → Option ℕ) (l : List Entry) → nodes_of (replaced w l) ≡ replaced_nodes w (nodes_of l)
nodes_replaced w [] = refl
nodes_replaced w (MarkerEntry ∷ l) = nodes_replaced w l
nodes_replaced w (ElementEntry n t ∷ l) = at (w n) (replaced w l) ∙ ap (node_as (w n)) (nodes_replaced w l)
  where
    at : (o : Option ℕ) (r : List Entry) → nodes_of (entry_as o t r) ≡ node_as o (nodes_of r)
    at None r = refl
    at (Some m) r = refl

-- an element, and two, as they were before
pub record Was (w : ℕ → Option ℕ) (s : List ℕ) (z : ℕ) : Type 0 where
  pub node : ℕ
  pub here : IsIn node s
  pub gives : w node ≡ Some z

pub record Were (w : ℕ → Option ℕ) (R : ℕ → ℕ → Type 0) (x y : ℕ) : Type 0 where
  pub first : ℕ
  pub second : ℕ
  pub held : R first second
  pub first_gives : w first ≡ Some x
  pub second_gives : w second ≡ Some y

pub was_in : (w : ℕ → Option ℕ) (s : List ℕ) (z : ℕ) → IsIn z (replaced_nodes w s) → Was w s z
was_in w [] z h = absurd h
was_in w (n ∷ s) z h = at (w n) refl h (λ i. was_in w s z i)
  where
    at : (o : Option ℕ) → w n ≡ o → IsIn z (node_as o (replaced_nodes w s)) → (IsIn z (replaced_nodes w s) → Was w s z) → Was w (n ∷ s) z
    at None e i go = let k = go i in record { node = k.node; here = inr k.here; gives = k.gives }
    at (Some m) e (inl v) go = record { node = n; here = inl refl; gives = e ∙ ap Some (sym v) }
    at (Some m) e (inr i) go = let k = go i in record { node = k.node; here = inr k.here; gives = k.gives }

in_as : (o : Option ℕ) (s : List ℕ) (z : ℕ) → IsIn z s → IsIn z (node_as o s)
in_as None s z h = h
in_as (Some m) s z h = inr h

pub now_in : (w : ℕ → Option ℕ) (s : List ℕ) (n z : ℕ) → IsIn n s → w n ≡ Some z → IsIn z (replaced_nodes w s)
now_in w [] n z h e = absurd h
now_in w (m ∷ s) n z (inl h) e = rw (ap w (sym h) ∙ e) (inl refl)
now_in w (m ∷ s) n z (inr h) e = in_as (w m) (replaced_nodes w s) z (now_in w s n z h e)

pub were_before : (w : ℕ → Option ℕ) (s : List ℕ) (x y : ℕ) → Before (replaced_nodes w s) x y → Were w (Before s) x y
were_before w [] x y h = absurd h
were_before w (n ∷ s) x y h = at (w n) refl h (λ i. were_before w s x y i)
  where
    further : Were w (Before s) x y → Were w (Before (n ∷ s)) x y
    further k = record { first = k.first; second = k.second; held = inr k.held; first_gives = k.first_gives; second_gives = k.second_gives }

    at : (o : Option ℕ) → w n ≡ o → Before (node_as o (replaced_nodes w s)) x y → (Before (replaced_nodes w s) x y → Were w (Before s) x y) → Were w (Before (n ∷ s)) x y
    at None e i go = further (go i)
    at (Some m) e (inl v) go =
        let k = was_in w s y v.1 in
        record { first = n; second = k.node; held = inl (refl, k.here); first_gives = e ∙ ap Some (sym v.0); second_gives = k.gives }
    at (Some m) e (inr i) go = further (go i)

before_as : (o : Option ℕ) (s : List ℕ) (x y : ℕ) → Before s x y → Before (node_as o s) x y
before_as None s x y h = h
before_as (Some m) s x y h = inr h

pub now_before : (w : ℕ → Option ℕ) (s : List ℕ) (n m x y : ℕ) → Before s n m → w n ≡ Some x → w m ≡ Some y → Before (replaced_nodes w s) x y
now_before w [] n m x y h e v = absurd h
now_before w (k ∷ s) n m x y (inl h) e v = let i = now_in w s m y h.1 v in rw (ap w (sym h.0) ∙ e) (inl (refl, i))
now_before w (k ∷ s) n m x y (inr h) e v = before_as (w k) (replaced_nodes w s) x y (now_before w s n m x y h e v)

was_after_marker : (w : ℕ → Option ℕ) (l : List Entry) (z : ℕ) → IsIn z (nodes_of (after_marker (replaced w l))) → Was w (nodes_of (after_marker l)) z
was_after_marker w [] z h = absurd h
was_after_marker w (MarkerEntry ∷ l) z h = absurd h
was_after_marker w (ElementEntry n t ∷ l) z h = at (w n) refl h (λ i. was_after_marker w l z i)
  where
    at : (o : Option ℕ) → w n ≡ o → IsIn z (nodes_of (after_marker (entry_as o t (replaced w l)))) → (IsIn z (nodes_of (after_marker (replaced w l))) → Was w (nodes_of (after_marker l)) z) → Was w (n ∷ nodes_of (after_marker l)) z
    at None e i go = let k = go i in record { node = k.node; here = inr k.here; gives = k.gives }
    at (Some m) e (inl v) go = record { node = n; here = inl refl; gives = e ∙ ap Some (sym v) }
    at (Some m) e (inr i) go = let k = go i in record { node = k.node; here = inr k.here; gives = k.gives }

pub were_beside : (w : ℕ → Option ℕ) (l : List Entry) (x y : ℕ) → Beside (replaced w l) x y → Were w (Beside l) x y
were_beside w [] x y h = absurd h
were_beside w (MarkerEntry ∷ l) x y h =
    let k = were_beside w l x y h in
    record { first = k.first; second = k.second; held = k.held; first_gives = k.first_gives; second_gives = k.second_gives }
were_beside w (ElementEntry n t ∷ l) x y h = at (w n) refl h (λ i. were_beside w l x y i)
  where
    further : Were w (Beside l) x y → Were w (Beside (ElementEntry n t ∷ l)) x y
    further k = record { first = k.first; second = k.second; held = inr k.held; first_gives = k.first_gives; second_gives = k.second_gives }

    at : (o : Option ℕ) → w n ≡ o → Beside (entry_as o t (replaced w l)) x y → (Beside (replaced w l) x y → Were w (Beside l) x y) → Were w (Beside (ElementEntry n t ∷ l)) x y
    at None e i go = further (go i)
    at (Some m) e (inl v) go =
        let k = was_after_marker w l y v.1 in
        record { first = n; second = k.node; held = inl (refl, k.here); first_gives = e ∙ ap Some (sym v.0); second_gives = k.gives }
    at (Some m) e (inr i) go = further (go i)

-- no two are replaced by one
abbrev pub GiveApart : (ℕ → Option ℕ) → List ℕ → List ℕ → Type 0
GiveApart w s e = (n m z : ℕ) → (IsIn n s ⊎ IsIn n e) → (IsIn m s ⊎ IsIn m e) → w n ≡ Some z → w m ≡ Some z → n ≡ m

pub replaced_distinct : (w : ℕ → Option ℕ) (s e : List ℕ) → GiveApart w s e → Distinct s → Distinct (replaced_nodes w s)
replaced_distinct w s e apart d x h =
    let k = were_before w s x x h in
    let same = apart k.first k.second x (inl (before_first k.first k.second s k.held)) (inl (before_second k.first k.second s k.held)) k.first_gives k.second_gives in
    d k.second (subst (λ z. Before s z k.second) same k.held)

-- what replacing leaves, in the stack and the list alike
pub agrees_replaced : (w : ℕ → Option ℕ) (s : List ℕ) (l : List Entry) → GiveApart w s (nodes_of l) → Agrees s l → Agrees (replaced_nodes w s) (replaced w l)
agrees_replaced w s l apart k = record { once = once; order = order; open_first = open_first }
  where
    were : (x y : ℕ) → Before (nodes_of (replaced w l)) x y → Were w (Before (nodes_of l)) x y
    were x y h = were_before w (nodes_of l) x y (subst (λ z. Before z x y) (nodes_replaced w l) h)

    once : (x : ℕ) → ¬ (Before (nodes_of (replaced w l)) x x)
    once x h =
        let v = were x x h in
        let same = apart v.first v.second x (inr (before_first v.first v.second (nodes_of l) v.held)) (inr (before_second v.first v.second (nodes_of l) v.held)) v.first_gives v.second_gives in
        k.once v.second (subst (λ z. Before (nodes_of l) z v.second) same v.held)

    -- a listed element is open if what it is replaced by is
    was_open : (n x : ℕ) → IsIn n (nodes_of l) → w n ≡ Some x → IsIn x (replaced_nodes w s) → IsIn n s
    was_open n x i e h =
        let v = was_in w s x h in
        subst (λ z. IsIn z s) (apart v.node n x (inl v.here) (inr i) v.gives e) v.here

    order : (x y : ℕ) → IsIn x (replaced_nodes w s) → IsIn y (replaced_nodes w s) → Before (nodes_of (replaced w l)) x y → Before (replaced_nodes w s) x y
    order x y i j h =
        let v = were x y h in
        let a = was_open v.first x (before_first v.first v.second (nodes_of l) v.held) v.first_gives i in
        let b = was_open v.second y (before_second v.first v.second (nodes_of l) v.held) v.second_gives j in
        now_before w s v.first v.second x y (k.order v.first v.second a b v.held) v.first_gives v.second_gives

    open_first : (x y : ℕ) → Beside (replaced w l) x y → IsIn x (replaced_nodes w s) → IsIn y (replaced_nodes w s)
    open_first x y h i =
        let v = were_beside w l x y h in
        let a = was_open v.first x (before_first v.first v.second (nodes_of l) (beside_before v.first v.second l v.held)) v.first_gives i in
        now_in w s v.second y (k.open_first v.first v.second v.held a) v.second_gives

-- tags stay or go
replaced_alike : (t : TagText) (w : ℕ → Option ℕ) (l : List Entry) → count_alike t (replaced w l) ≤ count_alike t l
replaced_alike t w [] = omega arith
replaced_alike t w (MarkerEntry ∷ l) = omega arith
replaced_alike t w (ElementEntry n u ∷ l) = at (w n) (replaced_alike t w l)
  where
    at : (o : Option ℕ) → count_alike t (replaced w l) ≤ count_alike t l → count_alike t (entry_as o u (replaced w l)) ≤ cond (is_alike t u) (suc (count_alike t l)) (count_alike t l)
    at None h = let k = count_more (is_alike t u) (count_alike t l) in omega (arith, h, k)
    at (Some m) h = count_step (is_alike t u) (count_alike t (replaced w l)) (count_alike t l) h

pub few_replaced : (t : TagText) (w : ℕ → Option ℕ) (l : List Entry) → FewAlike t l → FewAlike t (replaced w l)
few_replaced t w [] h = tt
few_replaced t w (MarkerEntry ∷ l) h = few_replaced t w l h
few_replaced t w (ElementEntry n u ∷ l) h = at (w n) (few_replaced t w l h.1)
  where
    at : (o : Option ℕ) → FewAlike t (replaced w l) → FewAlike t (entry_as o u (replaced w l))
    at None k = k
    at (Some m) k =
        let v = count_step (is_alike t u) (count_alike t (replaced w l)) (count_alike t l) (replaced_alike t w l) in
        let b = h.0 in
        (omega (arith, v, b), k)

-- parts of a list
pub replaced-append : (w : ℕ → Option ℕ) (a b : List Entry) → replaced w (a ++ b) ≡ replaced w a ++ replaced w b
replaced-append w [] b = refl
replaced-append w (MarkerEntry ∷ a) b = ap (λ z. MarkerEntry ∷ z) (replaced-append w a b)
replaced-append w (ElementEntry n t ∷ a) b = ap (entry_as (w n) t) (replaced-append w a b) ∙ at (w n)
  where
    at : (o : Option ℕ) → entry_as o t (replaced w a ++ replaced w b) ≡ entry_as o t (replaced w a) ++ replaced w b
    at None = refl
    at (Some m) = refl

pub replaced_nodes-append : (w : ℕ → Option ℕ) (a b : List ℕ) → replaced_nodes w (a ++ b) ≡ replaced_nodes w a ++ replaced_nodes w b
replaced_nodes-append w [] b = refl
replaced_nodes-append w (n ∷ a) b = ap (node_as (w n)) (replaced_nodes-append w a b) ∙ at (w n)
  where
    at : (o : Option ℕ) → node_as o (replaced_nodes w a ++ replaced_nodes w b) ≡ node_as o (replaced_nodes w a) ++ replaced_nodes w b
    at None = refl
    at (Some m) = refl

pub replaced_same : (w v : ℕ → Option ℕ) (s : List ℕ) → ((n : ℕ) → IsIn n s → w n ≡ v n) → replaced_nodes w s ≡ replaced_nodes v s
replaced_same w v [] h = refl
replaced_same w v (n ∷ s) h = ap (λ o. node_as o (replaced_nodes w s)) (h n (inl refl)) ∙ ap (node_as (v n)) (replaced_same w v s (λ m i. h m (inr i)))

pub replaced_kept : (w : ℕ → Option ℕ) (s : List ℕ) → ((n : ℕ) → IsIn n s → w n ≡ Some n) → replaced_nodes w s ≡ s
replaced_kept w [] h = refl
replaced_kept w (n ∷ s) h = ap (λ o. node_as o (replaced_nodes w s)) (h n (inl refl)) ∙ ap (λ z. n ∷ z) (replaced_kept w s (λ m i. h m (inr i)))

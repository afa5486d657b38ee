-- The tests of open elements, and the ways to close them, agree with the standard's words.
use Rattle.std.proofs.Common.{◌≡◌, ◌⊎◌, inl, inr, ◌&&◌, ◌||◌, ℕ, zero, suc, Bool, true, false, cond, List, [], ◌∷◌, ◌++◌, length, map, drop, refl, ap, sym, subst, ◌∙◌}
use Rattle.std.specs.List.{list_all, list_any}
use Rattle.h5_names.specs.declared.qualified.QualName.{QualName}
use Rattle.h5_builder_spec.specs.stack.Order.{but_first}
use Rattle.h5_builder_spec.specs.stack.Scope.{cut_names, cut_through, down_names, drop_while, first_passes, in_scope, second_is}
use Rattle.h5_builder_spec.specs.stack.Splits.{HasCurrent, HasInScope, HasSecond, PopsAll, PopsDownTo, PopsThrough}

-- in scope
pub has_in_scope : (is ends : QualName → Bool) (names : List QualName) → in_scope is ends names ≡ true → HasInScope is ends names
has_in_scope is ends [] h = absurd (cc)
has_in_scope is ends (n ∷ ns) h = at (is n) refl (ends n) refl h (has_in_scope is ends ns)
  where
    at : (a : Bool) → is n ≡ a → (b : Bool) → ends n ≡ b → cond a true (cond b false (in_scope is ends ns)) ≡ true → (in_scope is ends ns ≡ true → HasInScope is ends ns) → HasInScope is ends (n ∷ ns)
    at true e b v k go = record { newer = []; found = n; older = ns; cut = refl; is_such = e; is_newest = refl; none_ends = refl }
    at false e true v k go = absurd (cc)
    at false e false v k go =
        let s = go k in
        record {
          newer = n ∷ s.newer;
          found = s.found;
          older = s.older;
          cut = ap (λ z. n ∷ z) s.cut;
          is_such = s.is_such;
          is_newest = rw e s.is_newest;
          none_ends = rw v s.none_ends;
        }

-- a list of which none passes, from its first on
none_first : (is : QualName → Bool) (n : QualName) (ns : List QualName) → list_any is (n ∷ ns) ≡ false → is n ≡ false
none_first is n ns h = at (is n) h
  where
    at : (b : Bool) → (b || list_any is ns) ≡ false → b ≡ false
    at true k = absurd (cc)
    at false k = refl

none_rest : (is : QualName → Bool) (n : QualName) (ns : List QualName) → list_any is (n ∷ ns) ≡ false → list_any is ns ≡ false
none_rest is n ns h = at (is n) h
  where
    at : (b : Bool) → (b || list_any is ns) ≡ false → list_any is ns ≡ false
    at true k = absurd (cc)
    at false k = k

all_first : (is : QualName → Bool) (n : QualName) (ns : List QualName) → list_all is (n ∷ ns) ≡ true → is n ≡ true
all_first is n ns h = at (is n) h
  where
    at : (b : Bool) → (b && list_all is ns) ≡ true → b ≡ true
    at true k = refl
    at false k = absurd (cc)

all_rest : (is : QualName → Bool) (n : QualName) (ns : List QualName) → list_all is (n ∷ ns) ≡ true → list_all is ns ≡ true
all_rest is n ns h = at (is n) h
  where
    at : (b : Bool) → (b && list_all is ns) ≡ true → list_all is ns ≡ true
    at true k = k
    at false k = absurd (cc)

pub in_scope_if : (is ends : QualName → Bool) (names : List QualName) → HasInScope is ends names → in_scope is ends names ≡ true
in_scope_if is ends names s = subst (λ z. in_scope is ends z ≡ true) (sym s.cut) (over s.newer s.is_newest s.none_ends)
  where
    over : (l : List QualName) → list_any is l ≡ false → list_any ends l ≡ false → in_scope is ends (l ++ s.found ∷ s.older) ≡ true
    over [] h k = rw s.is_such refl
    over (n ∷ l) h k = rw (none_first is n l h) (rw (none_first ends n l k) (over l (none_rest is n l h) (none_rest ends n l k)))

-- popped while such elements are current
pub pops_all : (is : QualName → Bool) (names : List QualName) → PopsAll is names (drop_while is names)
pops_all is [] = record { popped = []; cut = refl; are_such = refl; stops = refl }
pops_all is (n ∷ ns) = at (is n) refl (pops_all is ns)
  where
    at : (b : Bool) → is n ≡ b → PopsAll is ns (drop_while is ns) → PopsAll is (n ∷ ns) (cond b (drop_while is ns) (n ∷ ns))
    at true e k = record { popped = n ∷ k.popped; cut = ap (λ z. n ∷ z) k.cut; are_such = rw e k.are_such; stops = k.stops }
    at false e k = record { popped = []; cut = refl; are_such = refl; stops = e }

pub pops_all_alone : (is : QualName → Bool) (names left : List QualName) → PopsAll is names left → left ≡ drop_while is names
pops_all_alone is names left k = sym (ap (drop_while is) k.cut ∙ over k.popped k.are_such)
  where
    stopped : (l : List QualName) → first_passes is l ≡ false → drop_while is l ≡ l
    stopped [] h = refl
    stopped (n ∷ l) h = rw h refl

    over : (l : List QualName) → list_all is l ≡ true → drop_while is (l ++ left) ≡ left
    over [] h = stopped left k.stops
    over (n ∷ l) h = rw (all_first is n l h) (over l (all_rest is n l h))

-- popped up to and including the newest of such elements
pub pops_through : (is : QualName → Bool) (names : List QualName) → list_any is names ≡ true → PopsThrough is names (cut_names is names)
pops_through is [] h = absurd (cc)
pops_through is (n ∷ ns) h = at (is n) refl h (pops_through is ns)
  where
    at : (b : Bool) → is n ≡ b → (b || list_any is ns) ≡ true → (list_any is ns ≡ true → PopsThrough is ns (cut_names is ns)) → PopsThrough is (n ∷ ns) (cond b ns (cut_names is ns))
    at true e k go = record { newer = []; found = n; cut = refl; is_such = e; is_newest = refl }
    at false e k go = let s = go k in record { newer = n ∷ s.newer; found = s.found; cut = ap (λ z. n ∷ z) s.cut; is_such = s.is_such; is_newest = rw e s.is_newest }

pub pops_through_alone : (is : QualName → Bool) (names left : List QualName) → PopsThrough is names left → left ≡ cut_names is names
pops_through_alone is names left k = sym (ap (cut_names is) k.cut ∙ over k.newer k.is_newest)
  where
    over : (l : List QualName) → list_any is l ≡ false → cut_names is (l ++ k.found ∷ left) ≡ left
    over [] h = rw k.is_such refl
    over (n ∷ l) h = rw (none_first is n l h) (over l (none_rest is n l h))

pub pops_to_none : (is : QualName → Bool) (names : List QualName) → list_any is names ≡ false → cut_names is names ≡ []
pops_to_none is [] h = refl
pops_to_none is (n ∷ ns) h = rw (none_first is n ns h) (pops_to_none is ns (none_rest is n ns h))

-- the elements that go have those names
pub elements_through : (is : QualName → Bool) (names left : List QualName) (s : List ℕ) (k : PopsThrough is names left) → cut_through is names s ≡ drop (suc (length k.newer)) s
elements_through is names left s k = ap (λ z. cut_through is z s) k.cut ∙ over k.newer s k.is_newest
  where
    one_less : (i : ℕ) (s : List ℕ) → drop i (but_first s) ≡ drop (suc i) s
    one_less zero [] = refl
    one_less (suc i) [] = refl
    one_less i (n ∷ s) = refl

    over : (l : List QualName) (s : List ℕ) → list_any is l ≡ false → cut_through is (l ++ k.found ∷ left) s ≡ drop (suc (length l)) s
    over [] s h = rw k.is_such (one_less zero s)
    over (n ∷ l) s h = rw (none_first is n l h) (over l (but_first s) (none_rest is n l h) ∙ one_less (suc (length l)) s)

pub names_through : (is : QualName → Bool) (name : ℕ → QualName) (s : List ℕ) → map name (cut_through is (map name s) s) ≡ cut_names is (map name s)
names_through is name [] = refl
names_through is name (n ∷ s) = at (is (name n)) (names_through is name s)
  where
    at : (b : Bool) → map name (cut_through is (map name s) s) ≡ cut_names is (map name s) → map name (cond b s (cut_through is (map name s) s)) ≡ cond b (map name s) (cut_names is (map name s))
    at true e = refl
    at false e = e

-- popped down to the newest of such elements
pub pops_down : (is : QualName → Bool) (names : List QualName) → PopsDownTo is names (down_names is names)
pops_down is [] = record { popped = []; cut = refl; none_is = refl; stops = inl refl }
pops_down is (n ∷ ns) = at (is n) refl (pops_down is ns)
  where
    at : (b : Bool) → is n ≡ b → PopsDownTo is ns (down_names is ns) → PopsDownTo is (n ∷ ns) (cond b (n ∷ ns) (down_names is ns))
    at true e k = record { popped = []; cut = refl; none_is = refl; stops = inr e }
    at false e k = record { popped = n ∷ k.popped; cut = ap (λ z. n ∷ z) k.cut; none_is = rw e k.none_is; stops = k.stops }

pub pops_down_alone : (is : QualName → Bool) (names left : List QualName) → PopsDownTo is names left → left ≡ down_names is names
pops_down_alone is names left k = sym (ap (down_names is) k.cut ∙ over k.popped k.none_is)
  where
    stopped : (l : List QualName) → (l ≡ []) ⊎ (first_passes is l ≡ true) → down_names is l ≡ l
    stopped [] h = refl
    stopped (n ∷ l) (inl e) = absurd (cc)
    stopped (n ∷ l) (inr e) = rw e refl

    over : (l : List QualName) → list_any is l ≡ false → down_names is (l ++ left) ≡ left
    over [] h = stopped left k.stops
    over (n ∷ l) h = rw (none_first is n l h) (over l (none_rest is n l h))

-- the second from the root on, and the first
pub has_second : (local : List ℕ) (names : List QualName) → second_is local names ≡ true → HasSecond local names
has_second local [] h = absurd (cc)
has_second local (n ∷ []) h = absurd (cc)
has_second local (n ∷ m ∷ []) h = record { newer = []; second = n; root = m; cut = refl; is_named = h }
has_second local (n ∷ m ∷ k ∷ ns) h =
    let s = has_second local (m ∷ k ∷ ns) h in
    record { newer = n ∷ s.newer; second = s.second; root = s.root; cut = ap (λ z. n ∷ z) s.cut; is_named = s.is_named }

pub second_is_if : (local : List ℕ) (names : List QualName) → HasSecond local names → second_is local names ≡ true
second_is_if local names s = ap (second_is local) s.cut ∙ over s.newer
  where
    over : (l : List QualName) → second_is local (l ++ s.second ∷ s.root ∷ []) ≡ true
    over [] = s.is_named
    over (n ∷ []) = s.is_named
    over (n ∷ m ∷ []) = s.is_named
    over (n ∷ m ∷ k ∷ l) = over (m ∷ k ∷ l)

pub has_current : (is : QualName → Bool) (names : List QualName) → first_passes is names ≡ true → HasCurrent is names
has_current is [] h = absurd (cc)
has_current is (n ∷ ns) h = record { current = n; older = ns; cut = refl; is_such = h }

pub first_passes_if : (is : QualName → Bool) (names : List QualName) → HasCurrent is names → first_passes is names ≡ true
first_passes_if is names k = ap (first_passes is) k.cut ∙ k.is_such

-- Tables of rows, by the links of the rows.
use Rattle.std.proofs.Common.{◌≡◌, ◌≢◌, ◌∙◌, ℕ, ◌+◌, ◌-◌, ◌<◌, ◌≤◌, Bool, true, false, ◌&&◌, ◌||◌, List, [], ◌∷◌, ◌++◌, Option, None, Some, ap, arith, cond, get_or, length, refl, rules, set, subst, sym, tests}
use Rattle.std.specs.Prelude.{◌==◌, nat_lt}
use Rattle.std.specs.List.{filter, flat_map, list_any}
use Rattle.std.specs.Option.{option_to_list}
use Rattle.std.proofs.lemmas.Bool.{eq-eqb, eqb-true}
use Rattle.std.proofs.lemmas.List.{get_or-append_right, get_or-set_other, get_or-set_same, get_or_append_left, length-append, length-map}
use Rattle.std.proofs.lemmas.List.Elements.{filter-append}
use Rattle.std.proofs.lemmas.List.Folds.{list_any-append}
use Prim.Native.Nat.{zero, suc}
use Rattle.h5_interface.specs.Forest.{Forest}
use Rattle.h5_arena.specs.Kin as kin
use Rattle.h5_arena.specs.Kin.{tree_parent}
use Rattle.h5_selectors.specs.Rows.{AreBelow, IsBefore, IsBehind, IsKnown, node_in, nodes_in, with_below}
use Rattle.h5_selectors.specs.Tables.{counted_at, leads_out, leads_up, link_to, there, told}
use Rattle.h5_tree.specs.Elements.{before, behind, below, child_elements, elements, is_element}
use Rattle.h5_tree.specs.Shape.{IsShaped}
use Rattle.h5_selectors.specs.Ways.{ancestors, first_of, last_of, led, parent_element}
use Rattle.h5_selectors.specs.declared.formula.Way.{Way}
use Rattle.h5_selectors.specs.declared.formula.Way.TheVariants.{Ancestor, Below, Child, Earlier, Later, Next, Parent, Previous}
use Rattle.h5_selectors.specs.declared.rows.Links.{Links}
use Rattle.h5_selectors.specs.declared.rows.Rows.{Rows}
use Rattle.h5_selectors.proofs.AncestorSteps.{ancestors_step}
use Rattle.h5_selectors.proofs.Counting.{count_more}
use Rattle.h5_selectors.proofs.LastLaws.{last_more}
use Rattle.h5_selectors.proofs.Upwards.{first_asked}

or_false : (a : Bool) → (a || false) ≡ a
or_false true = refl
or_false false = refl

or_swap : (a b : Bool) → (a || b) ≡ (b || (a || false))
or_swap true true = refl
or_swap true false = refl
or_swap false true = refl
or_swap false false = refl

or_assoc : (a b c : Bool) → ((a || b) || c) ≡ (a || (b || c))
or_assoc true b c = refl
or_assoc false b c = refl

either : (a b : Bool) → a ≡ true → (a || b) ≡ true
either true b e = refl
either false b e = cc

or_right : (a b : Bool) → b ≡ true → (a || b) ≡ true
or_right true b e = refl
or_right false b e = e

positive : (j : ℕ) → 0 < j → nat_lt 0 j ≡ true
positive j lt = at (nat_lt 0 j) refl
  where
    at : (b : Bool) → nat_lt 0 j ≡ b → nat_lt 0 j ≡ true
    at true e = e
    at false e = absurd (let none : j ≤ 0 = search (rules, tests) in omega (arith, lt, none))

-- a relation upwards may have any row as its target, and any other relation each row except the first
pub to_top : (j : ℕ) → (nat_lt 0 j || true) ≡ true
to_top j = or_right (nat_lt 0 j) true refl

pub behind_first : (j : ℕ) → (nat_lt 0 j || false) ≡ true → 0 < j
behind_first j e = at (nat_lt 0 j) refl
  where
    at : (b : Bool) → nat_lt 0 j ≡ b → 0 < j
    at true w = search (rules, tests)
    at false w = absurd (let no : (nat_lt 0 j || false) ≡ false = (rw w refl) in let both = sym e ∙ no in cc)

pub row_count : {N : Type 0} (place : N → ℕ) (rows : Rows N) → length (nodes_in place rows) ≡ length rows.ids.items
row_count place rows = length-map rows.ids.items place

-- a test passes in some list of a list of lists exactly if it does in the joined list
any_flat : (test : ℕ → Bool) (g : ℕ → List ℕ) (xs : List ℕ) → list_any test (flat_map g xs) ≡ list_any (λ m. list_any test (g m)) xs
any_flat test g [] = refl
any_flat test g (x ∷ xs) = list_any-append test (g x) (flat_map g xs) ∙ ap (λ b. list_any test (g x) || b) (any_flat test g xs)

count_of_one : (test : ℕ → Bool) (n : ℕ) → length (filter test (n ∷ [])) ≡ cond (test n) 1 0
count_of_one test n = count_more test n [] ∙ omega arith

-- a table that is filled from its end: one row more
pub one_more_told : {X : Type 0} (total low : ℕ) (table : List X) (value d : X) (law : ℕ → X) → length table ≡ total → low < total → ((k : ℕ) → 0 < k → low < k → k < total → get_or table k d ≡ law k) → (0 < low → value ≡ law low)
    → (k : ℕ) → 0 < k → low ≤ k → k < total → get_or (set table low value) k d ≡ law k
one_more_told total low table value d law count lt told new k some le within = at (k == low) refl
  where
    at : (b : Bool) → (k == low) ≡ b → get_or (set table low value) k d ≡ law k
    at true e =
        let here : k ≡ low = eqb-true k low e in
        let inside : low < length table = omega (arith, count, lt) in
        ap (λ j. get_or (set table low value) j d) here ∙ get_or-set_same table low value d inside ∙ new (omega (arith, here, some)) ∙ ap law (sym here)
    at false e =
        let apart : k ≢ low = λ w. (let no = sym e ∙ eq-eqb k low w in cc) in
        let above : low < k = (let other : low ≢ k = λ w. apart (sym w) in omega (arith, le, other)) in
        get_or-set_other table low k value d apart ∙ told k some above within

-- and one to which a row is added, of rows of some kind
pub pushed : {X : Type 0} (IsMeant : ℕ → Type 0) (low : ℕ) (table : List X) (value d : X) (law : ℕ → X) → length table ≡ low → ((k : ℕ) → IsMeant k → k < low → get_or table k d ≡ law k) → (IsMeant low → value ≡ law low)
    → (k : ℕ) → IsMeant k → k < low + 1 → get_or (table ++ value ∷ []) k d ≡ law k
pushed IsMeant low table value d law count told new k some within = at (k == low) refl
  where
    at : (b : Bool) → (k == low) ≡ b → get_or (table ++ value ∷ []) k d ≡ law k
    at true e =
        let here : k ≡ low = eqb-true k low e in
        let none : k - length table ≡ 0 = omega (arith, here, count) in
        get_or-append_right table (value ∷ []) (length table) k d refl (omega (arith, here, count)) ∙ ap (λ i. get_or (value ∷ []) i d) none ∙ new (subst IsMeant here some) ∙ ap law (sym here)
    at false e =
        let apart : k ≢ low = λ w. (let no = sym e ∙ eq-eqb k low w in cc) in
        let lower : k < low = omega (arith, within, apart) in
        get_or_append_left table (value ∷ []) d k (omega (arith, lower, count)) ∙ told k some lower

-- counts are no more than the rows that were passed
pub few_counted : (counts : List ℕ) (into : List Bool) (o : Option ℕ) (most : ℕ) → ((k : ℕ) → get_or counts k 0 ≤ most) → counted_at counts into o ≤ most + 1
few_counted counts into None most few = omega arith
few_counted counts into (Some row) most few = at (get_or into row false) (few row)
  where
    at : (b : Bool) → get_or counts row 0 ≤ most → get_or counts row 0 + cond b 1 0 ≤ most + 1
    at true le = omega (arith, le)
    at false le = omega (arith, le)

pub few_pushed : (counts : List ℕ) (value most : ℕ) → ((k : ℕ) → get_or counts k 0 ≤ most) → value ≤ most + 1 → (k : ℕ) → get_or (counts ++ value ∷ []) k 0 ≤ most + 1
few_pushed [] value most few le zero = le
few_pushed [] value most few le (suc k) = omega arith
few_pushed (x ∷ xs) value most few le zero = let here = few 0 in omega (arith, here)
few_pushed (x ∷ xs) value most few le (suc k) = few_pushed xs value most (λ j. few (suc j)) le k

pub few_set : (counts : List ℕ) (i value most : ℕ) → ((k : ℕ) → get_or counts k 0 ≤ most) → value ≤ most + 1 → (k : ℕ) → get_or (set counts i value) k 0 ≤ most + 1
few_set [] i value most few le k = omega arith
few_set (x ∷ xs) zero value most few le zero = le
few_set (x ∷ xs) zero value most few le (suc k) = let there = few (suc k) in omega (arith, there)
few_set (x ∷ xs) (suc i) value most few le zero = let here = few 0 in omega (arith, here)
few_set (x ∷ xs) (suc i) value most few le (suc k) = few_set xs i value most (λ j. few (suc j)) le k

module _ (f : Forest) (ns : List ℕ) (test : ℕ → Bool) (k : ℕ) where
  abbrev n : ℕ
  n = node_in f ns k

  module _ (into table : List Bool) (here : get_or into k false ≡ test n) where
    -- before a row
    pub is_earlier : (o : Option ℕ) → IsBefore f ns k o → ((q : ℕ) → 0 < q → q < k → get_or table q false ≡ there f test Earlier (node_in f ns q)) → (get_or into k false || told table o) ≡ there f test Earlier n
    is_earlier None e known = ap (λ b. b || false) here ∙ ap (λ l. list_any test (l ++ n ∷ [])) (sym e)
    is_earlier (Some q) (some, up, e) known =
        ap (λ b. b || get_or table q false) here
        ∙ ap (λ b. test n || b) (known q some up)
        ∙ or_swap (test n) (there f test Earlier (node_in f ns q))
        ∙ sym (list_any-append test (before f (node_in f ns q) ++ node_in f ns q ∷ []) (n ∷ []))
        ∙ ap (λ l. list_any test (l ++ n ∷ [])) (sym e)

    -- after it
    pub is_later : (o : Option ℕ) → IsBehind f ns k o → ((r : ℕ) → k < r → r < length ns → get_or table r false ≡ there f test Later (node_in f ns r)) → (get_or into k false || told table o) ≡ there f test Later n
    is_later None e known = ap (λ b. b || false) here ∙ ap (λ l. test n || list_any test l) (sym e)
    is_later (Some r) (up, within, e) known = ap (λ b. b || get_or table r false) here ∙ ap (λ b. test n || b) (known r up within) ∙ ap (λ l. test n || list_any test l) (sym e)

  -- below it
  pub is_below : (table : List Bool) (o : Option ℕ) → AreBelow f ns k o → ((r : ℕ) → k < r → r < length ns → get_or table r false ≡ there f test Below (node_in f ns r)) → told table o ≡ list_any test (below f n)
  is_below table None h known = ap (λ l. list_any test (flat_map (with_below f) l)) (sym h.first_is) ∙ ap (list_any test) (sym h.below_are)
  is_below table (Some c) h known =
      known c h.first_is.0 h.first_is.1
      ∙ sym (any_flat test (with_below f) (node_in f ns c ∷ behind f (node_in f ns c)))
      ∙ ap (λ l. list_any test (flat_map (with_below f) l)) (sym h.first_is.2)
      ∙ ap (list_any test) (sym h.below_are)

  pub is_under : (into table : List Bool) (first next : Option ℕ) → get_or into k false ≡ test n → AreBelow f ns k first → IsBehind f ns k next → ((r : ℕ) → k < r → r < length ns → get_or table r false ≡ there f test Below (node_in f ns r))
      → ((get_or into k false || told table first) || told table next) ≡ there f test Below n
  is_under into table first next here h o known =
      ap (λ b. (b || told table first) || told table next) here
      ∙ ap (λ b. (test n || b) || told table next) (is_below table first h known)
      ∙ ap (λ b. list_any test (with_below f n) || b) (rest next o)
    where
      rest : (next : Option ℕ) → IsBehind f ns k next → told table next ≡ list_any (λ m. list_any test (with_below f m)) (behind f n)
      rest None e = ap (list_any (λ m. list_any test (with_below f m))) (sym e)
      rest (Some r) (up, within, e) = known r up within ∙ ap (list_any (λ m. list_any test (with_below f m))) (sym e)

  -- the number of siblings that pass before it, and after it
  pub counts_before : (counts : List ℕ) (into : List Bool) (o : Option ℕ) → IsBefore f ns k o → ((q : ℕ) → 0 < q → q < k → get_or counts q 0 ≡ length (filter test (before f (node_in f ns q)))) → ((q : ℕ) → q < k → get_or into q false ≡ test (node_in f ns q))
      → counted_at counts into o ≡ length (filter test (before f n))
  counts_before counts into None e known told = ap (λ l. length (filter test l)) (sym e)
  counts_before counts into (Some q) (some, up, e) known told =
      let m = node_in f ns q in
      ap (λ b. get_or counts q 0 + cond b 1 0) (told q up)
      ∙ ap (λ c. c + cond (test m) 1 0) (known q some up)
      ∙ ap (λ c. length (filter test (before f m)) + c) (sym (count_of_one test m))
      ∙ sym (length-append (filter test (before f m)) (filter test (m ∷ [])))
      ∙ ap length (sym (filter-append test (before f m) (m ∷ [])))
      ∙ ap (λ l. length (filter test l)) (sym e)

  pub counts_behind : (counts : List ℕ) (into : List Bool) (o : Option ℕ) → IsBehind f ns k o → ((r : ℕ) → k < r → r < length ns → get_or counts r 0 ≡ length (filter test (behind f (node_in f ns r)))) → ((r : ℕ) → r < length ns → get_or into r false ≡ test (node_in f ns r))
      → counted_at counts into o ≡ length (filter test (behind f n))
  counts_behind counts into None e known told = ap (λ l. length (filter test l)) (sym e)
  counts_behind counts into (Some r) (up, within, e) known told =
      let m = node_in f ns r in
      let sum : get_or counts r 0 + cond (test m) 1 0 ≡ cond (test m) 1 0 + get_or counts r 0 = omega arith in
      ap (λ b. get_or counts r 0 + cond b 1 0) (told r within)
      ∙ sum
      ∙ ap (λ c. cond (test m) 1 0 + c) (known r up within)
      ∙ sym (count_more test m (behind f m))
      ∙ ap (λ l. length (filter test l)) (sym e)

  -- the parent of a node, and the parent's ancestors
  module _ (p : ℕ) (up : tree_parent f n ≡ Some p) where
    to_parent : (is_element f p && test p) ≡ list_any test (parent_element f n)
    to_parent =
        sym (or_false (is_element f p && test p))
        ∙ sym (first_asked f test p [])
        ∙ ap (λ o. list_any test (elements f (option_to_list o))) (sym up)

    pub to_ancestors : IsShaped f → there f test Ancestor p ≡ list_any test (ancestors f n)
    to_ancestors h = ap (λ l. list_any test (elements f l)) (sym (ancestors_step f n p h up))

  -- above it
  pub is_above : (into table : List Bool) (links : Links) → IsShaped f → IsKnown f ns k links → 0 < k → get_or into k false ≡ false → get_or into k false ≡ (is_element f n && test n)
      → ((p : ℕ) → p < k → get_or table p false ≡ there f test Ancestor (node_in f ns p)) → told table links.parent ≡ there f test Ancestor n
  is_above into table links h is some none here known =
      let b = is.beside some in
      ap (told table) b.1
      ∙ known b.0 b.2.earlier
      ∙ to_ancestors (node_in f ns b.0) b.2.parent_is h
      ∙ sym (first_asked f test n (kin.ancestors f n) ∙ ap (λ a. a || list_any test (ancestors f n)) (sym here ∙ none))

  -- the entry for each relation, by its link
  module _ (h : IsShaped f) (within : k < length ns) (links : Links) (is : IsKnown f ns k links) (table : List Bool) where
    abbrev TellsOf : Way → Type 0
    TellsOf way = (j : ℕ) → (nat_lt 0 j || leads_up way) ≡ true → j < length ns → get_or table j false ≡ there f test way (node_in f ns j)

    by_previous : (way : Way) → leads_up way ≡ false → TellsOf way → (o : Option ℕ) → IsBefore f ns k o → (before f n ≡ [] → false ≡ list_any test (led way f n))
        → ((q : ℕ) → before f n ≡ before f (node_in f ns q) ++ node_in f ns q ∷ [] → there f test way (node_in f ns q) ≡ list_any test (led way f n)) → told table o ≡ list_any test (led way f n)
    by_previous way low known None e none some = none e
    by_previous way low known (Some q) (pos, up, e) none some = known q (either (nat_lt 0 q) (leads_up way) (positive q pos)) (omega (arith, up, within)) ∙ some q e

    by_next : (way : Way) → TellsOf way → (o : Option ℕ) → IsBehind f ns k o → (behind f n ≡ [] → false ≡ list_any test (led way f n))
        → ((r : ℕ) → behind f n ≡ node_in f ns r ∷ behind f (node_in f ns r) → there f test way (node_in f ns r) ≡ list_any test (led way f n)) → told table o ≡ list_any test (led way f n)
    by_next way known None e none some = none e
    by_next way known (Some r) (up, inside, e) none some = known r (either (nat_lt 0 r) (leads_up way) (positive r (omega (arith, up)))) inside ∙ some r e

    by_parent : (way : Way) → leads_up way ≡ true → TellsOf way → (o : Option ℕ) (p : ℕ) → o ≡ Some p → p < k → there f test way (node_in f ns p) ≡ list_any test (led way f n) → told table o ≡ list_any test (led way f n)
    by_parent way up known o p e lt ends = ap (told table) e ∙ known p (or_right (nat_lt 0 p) (leads_up way) up) (omega (arith, lt, within)) ∙ ends

    by_first : TellsOf Child → (o : Option ℕ) → AreBelow f ns k o → told table o ≡ list_any test (child_elements f n)
    by_first known None b = ap (list_any test) (sym b.first_is)
    by_first known (Some c) b = known c (either (nat_lt 0 c) false (positive c (let up = b.first_is.0 in omega (arith, up)))) b.first_is.1 ∙ ap (list_any test) (sym b.first_is.2)

    pub leads : (way : Way) → (leads_out way ≡ true → 0 < k) → TellsOf way → told table (link_to way links) ≡ list_any test (led way f n)
    leads Parent some known = let b = is.beside (some refl) in by_parent Parent refl known links.parent b.0 b.1 b.2.earlier (to_parent (node_in f ns b.0) b.2.parent_is)
    leads Ancestor some known = let b = is.beside (some refl) in by_parent Ancestor refl known links.parent b.0 b.1 b.2.earlier (to_ancestors (node_in f ns b.0) b.2.parent_is h)
    leads Previous some known =
        by_previous Previous refl known links.previous (is.beside (some refl)).2.previous_is
        (λ e. ap (λ l. list_any test (last_of l)) (sym e))
        (λ q e. sym (or_false (test (node_in f ns q))) ∙ ap (list_any test) (sym (last_more (before f (node_in f ns q)) (node_in f ns q))) ∙ ap (λ l. list_any test (last_of l)) (sym e))
    leads Earlier some known =
        by_previous Earlier refl known links.previous (is.beside (some refl)).2.previous_is
        (λ e. ap (list_any test) (sym e))
        (λ q e. ap (list_any test) (sym e))
    leads Next some known =
        by_next Next known links.next (is.beside (some refl)).2.next_is
        (λ e. ap (λ l. list_any test (first_of l)) (sym e))
        (λ r e. sym (or_false (test (node_in f ns r))) ∙ ap (λ l. list_any test (first_of l)) (sym e))
    leads Later some known =
        by_next Later known links.next (is.beside (some refl)).2.next_is
        (λ e. ap (list_any test) (sym e))
        (λ r e. ap (list_any test) (sym e))
    leads Child some known = by_first known links.first is.children
    leads Below some known = is_below table links.first is.children (λ r up inside. known r (either (nat_lt 0 r) false (positive r (omega (arith, up)))) inside)

-- Numbers in tree order.
use Rattle.std.proofs.Common.{◌≡◌, ◌∙◌, ℕ, zero, suc, ◌+◌, ◌-◌, ◌<◌, ◌≤◌, Bool, true, false, cond, List, [], ◌∷◌, ◌++◌, ap, arith, inl, inr, refl, subst, sym}
use Rattle.std.specs.Prelude.{◌==◌}
use Rattle.std.specs.List.{filter, range_with_len}
use Rattle.std.proofs.Math.Nat.{eq-or-lt_of_le}
use Rattle.std.proofs.lemmas.Bool.{cases_lt, eq-eqb, ne_eqb}
use Rattle.std.proofs.lemmas.List.{append-nil}
use Rattle.h5_tree.specs.Order.{IsOrder}

-- those of a count of numbers from one on that pass a test
abbrev pub passing : (ℕ → Bool) → (from count : ℕ) → List ℕ
passing test from count = filter test (range_with_len from count)

-- true if a number has this parent
abbrev pub is_below : (up : ℕ → ℕ) → (p n : ℕ) → Bool
is_below up p n = up n == p

cond_append : (b : Bool) (a : ℕ) (xs ys : List ℕ) → cond b (a ∷ (xs ++ ys)) (xs ++ ys) ≡ cond b (a ∷ xs) xs ++ ys
cond_append true a xs ys = refl
cond_append false a xs ys = refl

pub passing_split : (test : ℕ → Bool) (a c d : ℕ) → passing test a (c + d) ≡ passing test a c ++ passing test (a + c) d
passing_split test a zero d =
    let e : zero + d ≡ d = omega arith in
    let g : a ≡ a + zero = omega arith in
    ap (passing test a) e ∙ ap (λ x. passing test x d) g
passing_split test a (suc c) d =
    let e : suc c + d ≡ suc (c + d) = omega arith in
    let g : (a + 1) + c ≡ a + suc c = omega arith in
    ap (passing test a) e ∙ ap (λ l. cond (test a) (a ∷ l) l) (passing_split test (a + 1) c d)
    ∙ cond_append (test a) a (passing test (a + 1) c) (passing test ((a + 1) + c) d)
    ∙ ap (λ x. passing test a (suc c) ++ passing test x d) g

pub passing_none : (test : ℕ → Bool) (a c : ℕ) → ((m : ℕ) → a ≤ m → m < a + c → test m ≡ false) → passing test a c ≡ []
passing_none test a zero h = refl
passing_none test a (suc c) h =
    ap (λ b. cond b (a ∷ passing test (a + 1) c) (passing test (a + 1) c)) (h a (omega arith) (omega arith))
    ∙ passing_none test (a + 1) c (λ m low high. h m (omega (arith, low)) (omega (arith, high)))

module _ (count : ℕ) (up end : ℕ → ℕ) (h : IsOrder count up end) where
  within_from : (levels n : ℕ) → n ≤ levels → n < count → end n ≤ count
  within_from levels zero le some = let e = h.all in omega arith
  within_from zero (suc n) le some = absurd (omega (arith, le))
  within_from (suc levels) (suc n) le some =
      let smaller = h.above (suc n) (omega arith) some in
      let inner = h.inside (suc n) (omega arith) some in
      let all = within_from levels (up (suc n)) (omega arith) (omega arith) in
      omega arith

  pub within : (n : ℕ) → n < count → end n ≤ count
  within n some = within_from n n (omega arith) some

  -- if all numbers from x to l are below x, so is the next one, unless x ends there
  climb : (x l : ℕ) → ((m : ℕ) → m ≤ l → x < m → m < end x → x ≤ up m) → x < count → suc l < end x
      → (levels a : ℕ) → a ≤ levels → x < a → a ≤ l → end a ≡ suc l → x ≤ up (suc l)
  climb x l before in_it room zero a le lt low e = absurd (omega (arith, le, lt))
  climb x l before in_it room (suc levels) a le lt low e =
      let all = within x in_it in
      let some : a < count = omega arith in
      let high = before a low lt (omega arith) in
      let inner = h.inside a (omega arith) some in
      let smaller = h.above a (omega arith) some in
      elim (cases_lt (end a) (end (up a))) [
        | inl ends ↦ subst (λ n. x ≤ up n) e (subst (λ n. x ≤ n) (sym (h.goes_on a (omega arith) some ends)) high)
        | inr same ↦ elim (eq-or-lt_of_le high) [
          | inl is ↦ absurd (let w = ap end is in omega (arith, w, same, inner))
          | inr over ↦ climb x l before in_it room levels (up a) (omega arith) over (omega arith) (omega arith)
        ]
      ]

  stands : (x : ℕ) → x < count → (limit m : ℕ) → m ≤ limit → x < m → m < end x → x ≤ up m
  stands x in_it zero m le lt room = absurd (omega (arith, le, lt))
  stands x in_it (suc l) m le lt room = elim (eq-or-lt_of_le le) [
    | inr less ↦ stands x in_it l m (omega (arith, less)) lt room
    | inl is ↦
        let all = within x in_it in
        let some : l < count = omega arith in
        let next : l + 1 ≡ suc l = omega arith in
        let it : up (l + 1) ≡ up m = ap up (next ∙ sym is) in
        elim (cases_lt (l + 1) (end l)) [
          | inl begins ↦ let w = h.begins l some begins in omega arith
          | inr ends ↦ elim (eq-or-lt_of_le {n = x} {m = l} (omega arith)) [
            | inl same ↦ absurd (let w = ap end same in omega arith)
            | inr over ↦
                let e = h.behind l some in
                subst (λ n. x ≤ up n) (sym is) (climb x l (stands x in_it l) in_it (omega arith) l l (omega arith) over (omega arith) (omega arith))
          ]
        ]
  ]

  -- a number between x and its end is below x, and ends within x
  pub below_it : (x m : ℕ) → x < count → x < m → m < end x → x ≤ up m
  below_it x m in_it lt room = stands x in_it m m (omega arith) lt room

  ends : (x : ℕ) → x < count → (levels m : ℕ) → m ≤ levels → x < m → m < end x → end m ≤ end x
  ends x in_it zero m le lt room = absurd (omega (arith, le, lt))
  ends x in_it (suc levels) m le lt room =
      let all = within x in_it in
      let high = below_it x m in_it lt room in
      let inner = h.inside m (omega arith) (omega arith) in
      let smaller = h.above m (omega arith) (omega arith) in
      elim (eq-or-lt_of_le high) [
        | inl is ↦ let w = ap end is in omega arith
        | inr over ↦ let w = ends x in_it levels (up m) (omega arith) over (omega arith) in omega arith
      ]

  pub ends_in : (x m : ℕ) → x < count → x < m → m < end x → end m ≤ end x
  ends_in x m in_it lt room = ends x in_it m m (omega arith) lt room

  -- a child is between its parent and its parent's end
  pub within_its_end : (p m : ℕ) → p < count → m < count → up m ≡ p → (p < m) × (m < end p)
  within_its_end p m in_it some e = elim (cases_lt 0 m) [
    | inl after ↦
        let smaller = h.above m after some in
        let inner = h.inside m after some in
        let behind = h.behind m some in
        let same = ap end e in
        (omega arith, omega arith)
    | inr first ↦ absurd (let w : m ≡ 0 = omega arith in let same = ap up w in let t = h.top in omega arith)
  ]

  pub children_within : (p : ℕ) → p < count → passing (is_below up p) 0 count ≡ passing (is_below up p) (p + 1) (end p - (p + 1))
  children_within p in_it =
      let behind = h.behind p in_it in
      let all = within p in_it in
      let front : count ≡ (p + 1) + ((end p - (p + 1)) + (count - end p)) = omega arith in
      let at : 0 + (p + 1) ≡ p + 1 = omega arith in
      let back : (p + 1) + (end p - (p + 1)) ≡ end p = omega arith in
      let none : passing (is_below up p) 0 (p + 1) ≡ [] = passing_none (is_below up p) 0 (p + 1) (λ m low high. ne_eqb (up m) p (λ e. absurd (let w = within_its_end p m in_it (omega arith) e in omega (arith, w)))) in
      let no_more : passing (is_below up p) (end p) (count - end p) ≡ [] = passing_none (is_below up p) (end p) (count - end p) (λ m low high. ne_eqb (up m) p (λ e. absurd (let w = within_its_end p m in_it (omega arith) e in omega (arith, w)))) in
      ap (passing (is_below up p) 0) front ∙ passing_split (is_below up p) 0 (p + 1) ((end p - (p + 1)) + (count - end p))
      ∙ ap (λ l. l ++ passing (is_below up p) (0 + (p + 1)) ((end p - (p + 1)) + (count - end p))) none
      ∙ ap (λ x. passing (is_below up p) x ((end p - (p + 1)) + (count - end p))) at
      ∙ passing_split (is_below up p) (p + 1) (end p - (p + 1)) (count - end p)
      ∙ ap (λ x. passing (is_below up p) (p + 1) (end p - (p + 1)) ++ passing (is_below up p) x (count - end p)) back
      ∙ ap (λ l. passing (is_below up p) (p + 1) (end p - (p + 1)) ++ l) no_more
      ∙ append-nil (passing (is_below up p) (p + 1) (end p - (p + 1)))

  -- the children from a child on: this child, and those from its end on
  pub children_step_to : (p x to : ℕ) → p < count → x < count → up x ≡ p → end x ≤ to → passing (is_below up p) x (to - x) ≡ x ∷ passing (is_below up p) (end x) (to - end x)
  children_step_to p x to in_it some e le =
      let place = within_its_end p x in_it some e in
      let behind = h.behind x some in
      let front : to - x ≡ (1 + (end x - (x + 1))) + (to - end x) = omega (arith, place) in
      let one : 1 + (end x - (x + 1)) ≡ suc (end x - (x + 1)) = omega arith in
      let back : x + (1 + (end x - (x + 1))) ≡ end x = omega arith in
      let none : passing (is_below up p) (x + 1) (end x - (x + 1)) ≡ [] =
      passing_none (is_below up p) (x + 1) (end x - (x + 1)) (λ m low high. ne_eqb (up m) p (λ g. absurd (let w = below_it x m some (omega (arith, low)) (omega (arith, high)) in omega (arith, w, g, place)))) in
      ap (passing (is_below up p) x) front ∙ passing_split (is_below up p) x (1 + (end x - (x + 1))) (to - end x)
      ∙ ap (λ y. passing (is_below up p) x (1 + (end x - (x + 1))) ++ passing (is_below up p) y (to - end x)) back
      ∙ ap (λ k. passing (is_below up p) x k ++ passing (is_below up p) (end x) (to - end x)) one
      ∙ ap (λ b. cond b (x ∷ passing (is_below up p) (x + 1) (end x - (x + 1))) (passing (is_below up p) (x + 1) (end x - (x + 1))) ++ passing (is_below up p) (end x) (to - end x)) (eq-eqb (up x) p e)
      ∙ ap (λ l. (x ∷ l) ++ passing (is_below up p) (end x) (to - end x)) none

  pub children_step : (p x : ℕ) → p < count → x < count → up x ≡ p → passing (is_below up p) x (end p - x) ≡ x ∷ passing (is_below up p) (end x) (end p - end x)
  children_step p x in_it some e =
      let place = within_its_end p x in_it some e in
      children_step_to p x (end p) in_it some e (ends_in p x in_it (omega (arith, place)) (omega (arith, place)))

  -- there are no children from a parent's end on, and none if the parent ends at the next number
  pub children_end : (p : ℕ) → passing (is_below up p) (end p) (end p - end p) ≡ []
  children_end p = ap (passing (is_below up p) (end p)) (let e : end p - end p ≡ zero = omega arith in e)

  pub none_below : (p : ℕ) → p < count → end p ≤ p + 1 → passing (is_below up p) 0 count ≡ []
  none_below p in_it le = children_within p in_it ∙ ap (passing (is_below up p) (p + 1)) (let e : end p - (p + 1) ≡ zero = omega arith in e)

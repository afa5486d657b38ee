-- The tests of a sound block say that its nodes are in tree order, and that their kinds are allowed.
use Rattle.std.proofs.Common.{◌≡◌, ◌∙◌, ◌⊎◌, ℕ, zero, suc, ◌+◌, ◌-◌, ◌<◌, ◌≤◌, Bool, true, false, ◌&&◌, ◌||◌, cond, List, ap, arith, inl, inr, subst, sym}
use Rattle.std.specs.Prelude.{◌%◌, ◌==◌, nat_le, nat_lt}
use Rattle.std.proofs.Math.Nat.{eq-or-lt_of_le}
use Rattle.std.proofs.lemmas.Bool.{and_parts, cases_eq, cases_lt, cond-false, cond-true, eq-eqb, eqb-true, le-leb, leb-true, le-ltb, lt-ltb, ltb-true, ne_eqb, or_cases}
use Rattle.h5_tree_block.specs.Block.{before_or_nothing, end_in, end_or_next, first_row_in, kind_in, name_ends_at, name_in, names_in, nodes_in, nothing, parent_in, row_ends_at, rows_in, word_in}
use Rattle.h5_tree.specs.Order.{IsOrder}
use Rattle.h5_tree_block.specs.Sound.{all_below, do_ends_fit, does_grow, end_word, has_kind, has_root, is_in_order, is_node_sound, is_sound, parent_word, stands, text_word}

-- the words of the columns of parents and ends, and the parents and ends that are read from them
record AreWords (count : ℕ) (up_word end_word' up end : ℕ → ℕ) : Type 0 where
  pub top : count ≤ up 0
  pub some : 0 < count
  pub all : end_word' 0 ≡ count
  pub up_is : (n : ℕ) → 0 < n → n < count → up_word n < n → up n ≡ up_word n
  pub end_is : (n : ℕ) → n < count → n < end_word' n → end_word' n ≤ count → end n ≡ end_word' n
  pub stood : (n : ℕ) → 0 < n → n < count → (n < end_word' n) × (up_word n < n) × (end_word' n ≤ end_word' (up_word n))
  pub begun : (n : ℕ) → n < count → (end_word' n ≡ n + 1) ⊎ (up_word (n + 1) ≡ n)
  pub gone : (n : ℕ) → 0 < n → n < count → (end_word' n ≡ end_word' (up_word n)) ⊎ (up_word (end_word' n) ≡ up_word n)

module _ (count : ℕ) (up_word end_word' up end : ℕ → ℕ) (h : AreWords count up_word end_word' up end) where
  word_within : (levels n : ℕ) → n ≤ levels → n < count → end_word' n ≤ count
  word_within levels zero le lt = let e = h.all in omega arith
  word_within zero (suc n) le lt = absurd (omega (arith, le))
  word_within (suc levels) (suc n) le lt =
      let s = h.stood (suc n) (omega arith) lt in
      let w = word_within levels (up_word (suc n)) (omega (arith, s)) (omega (arith, s)) in
      omega (arith, s)

  word_behind : (n : ℕ) → n < count → n < end_word' n
  word_behind zero lt = let e = h.all in omega arith
  word_behind (suc n) lt = (h.stood (suc n) (omega arith) lt).0

  same_end : (n : ℕ) → n < count → end n ≡ end_word' n
  same_end n lt = h.end_is n lt (word_behind n lt) (word_within n n (omega arith) lt)

  same_up : (n : ℕ) → 0 < n → n < count → up n ≡ up_word n
  same_up n after lt = h.up_is n after lt (h.stood n after lt).1

  words_in_order : IsOrder count up end
  words_in_order = record {
    top = h.top;
    all = same_end 0 h.some ∙ h.all;
    behind = λ n lt. let e = same_end n lt in let w = word_behind n lt in omega arith;
    above = λ n after lt. let e = same_up n after lt in let s = h.stood n after lt in omega (arith, s);
    inside = λ n after lt.
        let e = same_end n lt in let u = same_up n after lt in let s = h.stood n after lt in let v = ap end u in
        let g = same_end (up_word n) (omega (arith, s)) in
        omega (arith, s);
    begins = λ n lt room.
        let e = same_end n lt in let w = word_within n n (omega arith) lt in
        elim (h.begun n lt) [
          | inl ends ↦ absurd (omega (arith, ends))
          | inr is ↦ same_up (n + 1) (omega arith) (omega arith) ∙ is
        ];
    goes_on = λ n after lt room.
        let e = same_end n lt in let u = same_up n after lt in let s = h.stood n after lt in let v = ap end u in
        let g = same_end (up_word n) (omega (arith, s)) in
        let w = word_within (up_word n) (up_word n) (omega arith) (omega (arith, s)) in
        let x = ap up e in
        elim (h.gone n after lt) [
          | inl ends ↦ absurd (omega (arith, ends))
          | inr is ↦ x ∙ same_up (end_word' n) (omega (arith, s)) (omega arith) ∙ is ∙ sym u
        ];
  }

-- a test that passes for all numbers below a limit passes for each
pub all_at : (test : ℕ → Bool) (limit n : ℕ) → n < limit → all_below test limit ≡ true → test n ≡ true
all_at test zero n lt h = absurd (omega (arith, lt))
all_at test (suc m) n lt h =
    let parts = and_parts (all_below test m) (test m) h in
    elim (eq-or-lt_of_le {n = n} {m = m} (omega (arith, lt))) [
      | inl same ↦ ap test same ∙ parts.1
      | inr before ↦ all_at test m n before parts.0
    ]

-- the kinds of numbers: 0 is a root, and any other is an element, the contents of an element, or a leaf
pub record HasKinds (count : ℕ) (up end kind : ℕ → ℕ) : Type 0 where
  pub root : (kind 0 ≡ 9) ⊎ (kind 0 ≡ 11)
  pub other : (n : ℕ) → 0 < n → n < count
      → (kind n ≡ 1) ⊎ (((kind n ≡ 11) × (kind (up n) ≡ 1) × (n ≡ up n + 1)) ⊎ (((kind n ≡ 3) ⊎ ((kind n ≡ 7) ⊎ ((kind n ≡ 8) ⊎ (kind n ≡ 10)))) × (end n ≡ n + 1)))

pub record IsInOrder (b : List ℕ) : Type 0 where
  pub order : IsOrder (nodes_in b) (parent_in b) (end_in b)
  pub kinds : HasKinds (nodes_in b) (parent_in b) (end_in b) (kind_in b)
  pub small : nodes_in b < 4294967296

-- the test of one number, in its parts
stood_from : (n e p q : ℕ) → (nat_lt n e && (nat_lt p n && nat_le e q)) ≡ true → (n < e) × (p < n) × (e ≤ q)
stood_from n e p q h =
    let one = and_parts (nat_lt n e) (nat_lt p n && nat_le e q) h in
    let two = and_parts (nat_lt p n) (nat_le e q) one.1 in
    (ltb-true n e one.0, ltb-true p n two.0, leb-true e q two.1)

either_from : (a b c d : ℕ) → ((a == b) || (c == d)) ≡ true → (a ≡ b) ⊎ (c ≡ d)
either_from a b c d h = elim (or_cases (a == b) (c == d) h) [ inl e ↦ inl (eqb-true a b e) | inr e ↦ inr (eqb-true c d e) ]

not_first : (n : ℕ) (x : Bool) → 0 < n → ((n == 0) || x) ≡ true → x ≡ true
not_first n x after h = elim (or_cases (n == 0) x h) [ inl e ↦ absurd (let w = eqb-true n 0 e in omega (arith, w, after)) | inr e ↦ e ]

leaf_from : (k : ℕ) (x : Bool) → ((k == 3 || (k == 7 || (k == 8 || k == 10))) && x) ≡ true → ((k ≡ 3) ⊎ ((k ≡ 7) ⊎ ((k ≡ 8) ⊎ (k ≡ 10)))) × (x ≡ true)
leaf_from k x h =
    let parts = and_parts (k == 3 || (k == 7 || (k == 8 || k == 10))) x h in
    let kinds : (k ≡ 3) ⊎ ((k ≡ 7) ⊎ ((k ≡ 8) ⊎ (k ≡ 10))) =
    elim (or_cases (k == 3) (k == 7 || (k == 8 || k == 10)) parts.0) [
      | inl e ↦ inl (eqb-true k 3 e)
      | inr r ↦ elim (or_cases (k == 7) (k == 8 || k == 10) r) [
        | inl e ↦ inr (inl (eqb-true k 7 e))
        | inr s ↦ elim (or_cases (k == 8) (k == 10) s) [ inl e ↦ inr (inr (inl (eqb-true k 8 e))) | inr e ↦ inr (inr (inr (eqb-true k 10 e))) ]
      ]
    ] in
    (kinds, parts.1)

-- the kind of a number, from its test
kind_from : (n k p e kp : ℕ) → 0 < n → cond ((k == 1) || (n == 0)) true (cond (k == 11) ((kp == 1) && (n - 1 == p)) ((k == 3 || (k == 7 || (k == 8 || k == 10))) && (e == n + 1))) ≡ true
    → (k ≡ 1) ⊎ (((k ≡ 11) × (kp ≡ 1) × (n ≡ p + 1)) ⊎ (((k ≡ 3) ⊎ ((k ≡ 7) ⊎ ((k ≡ 8) ⊎ (k ≡ 10)))) × (e ≡ n + 1)))
kind_from n k p e kp after h = elim (cases_eq k 1) [
  | inl is ↦ inl is
  | inr other ↦
      let leaf = (k == 3 || (k == 7 || (k == 8 || k == 10))) && (e == n + 1) in
      let fragment = (kp == 1) && (n - 1 == p) in
      let first : ((k == 1) || (n == 0)) ≡ false = ap (λ x. x || (n == 0)) (ne_eqb k 1 other) ∙ ne_eqb n 0 (λ w. omega arith) in
      let less = sym (cond-false ((k == 1) || (n == 0)) true (cond (k == 11) fragment leaf) first) ∙ h in
      elim (cases_eq k 11) [
        | inl is ↦
            let parts = and_parts (kp == 1) (n - 1 == p) (sym (cond-true (k == 11) fragment leaf (eq-eqb k 11 is)) ∙ less) in
            let up = eqb-true (n - 1) p parts.1 in
            inr (inl (is, eqb-true kp 1 parts.0, omega arith))
        | inr not_fragment ↦
            let parts = leaf_from k (e == n + 1) (sym (cond-false (k == 11) fragment leaf (ne_eqb k 11 not_fragment)) ∙ less) in
            inr (inr (parts.0, eqb-true e (n + 1) parts.1))
      ]
]

module _ (b : List ℕ) where
  -- the parent and the end that are read from the words of their columns
  read_up : (n : ℕ) → 0 < n → n < nodes_in b → parent_word b n < n → parent_in b n ≡ parent_word b n
  read_up n after lt less =
      cond-true (nat_lt n (nodes_in b)) (before_or_nothing (parent_word b n) n) nothing (lt-ltb n (nodes_in b) lt)
      ∙ cond-true (nat_lt (parent_word b n) n) (parent_word b n) nothing (lt-ltb (parent_word b n) n less)

  read_end : (n : ℕ) → n < nodes_in b → n < end_word b n → end_word b n ≤ nodes_in b → end_in b n ≡ end_word b n
  read_end n lt behind within =
      cond-true (nat_lt n (nodes_in b)) (end_or_next (nodes_in b) (end_word b n) n) nothing (lt-ltb n (nodes_in b) lt)
      ∙ ap (λ x. cond (x && nat_le (end_word b n) (nodes_in b)) (end_word b n) (n + 1)) (lt-ltb n (end_word b n) behind)
      ∙ ap (λ x. cond x (end_word b n) (n + 1)) (le-leb (end_word b n) (nodes_in b) within)

  pub top_up : parent_in b 0 ≡ nothing
  top_up = elim (cases_lt 0 (nodes_in b)) [
    | inl some ↦ cond-true (nat_lt 0 (nodes_in b)) (before_or_nothing (parent_word b 0) 0) nothing (lt-ltb 0 (nodes_in b) some)
        ∙ cond-false (nat_lt (parent_word b 0) 0) (parent_word b 0) nothing (le-ltb (parent_word b 0) 0 (omega arith))
    | inr none ↦ cond-false (nat_lt 0 (nodes_in b)) (before_or_nothing (parent_word b 0) 0) nothing (le-ltb 0 (nodes_in b) none)
  ]

  pub kind_past : (n : ℕ) → nodes_in b ≤ n → kind_in b n ≡ 0
  kind_past n past = ap (λ w. w % 256) (cond-false (nat_lt n (nodes_in b)) (word_in b (9 + n)) 0 (le-ltb n (nodes_in b) past))

  module _ (h : is_sound b ≡ true) where
    abbrev grow : Bool
    grow = all_below (does_grow b (row_ends_at (nodes_in b) (rows_in b))) (rows_in b) && all_below (does_grow b (name_ends_at b)) (names_in b)

    rooted : has_root b ≡ true
    rooted = (and_parts (has_root b) (do_ends_fit b && (all_below (is_node_sound b) (nodes_in b) && grow)) h).0

    each_sound : (n : ℕ) → n < nodes_in b → is_node_sound b n ≡ true
    each_sound n lt =
        let behind = (and_parts (has_root b) (do_ends_fit b && (all_below (is_node_sound b) (nodes_in b) && grow)) h).1 in
        let more = (and_parts (do_ends_fit b) (all_below (is_node_sound b) (nodes_in b) && grow) behind).1 in
        all_at (is_node_sound b) (nodes_in b) n lt (and_parts (all_below (is_node_sound b) (nodes_in b)) grow more).0

    abbrev places : ℕ → Bool
    places n = nat_le (text_word b n) (text_word b (n + 1)) && (nat_le (first_row_in b n) (first_row_in b (n + 1)) && (name_in b n == nothing || nat_lt (name_in b n) (names_in b)))

    each_stands : (n : ℕ) → n < nodes_in b → stands b n ≡ true
    each_stands n lt = (and_parts (stands b n) (is_in_order b n && (has_kind b n && places n)) (each_sound n lt)).0

    each_in_order : (n : ℕ) → n < nodes_in b → is_in_order b n ≡ true
    each_in_order n lt =
        let more = (and_parts (stands b n) (is_in_order b n && (has_kind b n && places n)) (each_sound n lt)).1 in
        (and_parts (is_in_order b n) (has_kind b n && places n) more).0

    each_kind : (n : ℕ) → n < nodes_in b → has_kind b n ≡ true
    each_kind n lt =
        let more = (and_parts (stands b n) (is_in_order b n && (has_kind b n && places n)) (each_sound n lt)).1 in
        let last = (and_parts (is_in_order b n) (has_kind b n && places n) more).1 in
        (and_parts (has_kind b n) (places n) last).0

    root_kind : (kind_in b 0 ≡ 9) ⊎ (kind_in b 0 ≡ 11)
    root_kind = either_from (kind_in b 0) 9 (kind_in b 0) 11 (and_parts (kind_in b 0 == 9 || kind_in b 0 == 11) (text_word b 0 == 0 && first_row_in b 0 == 0) rooted).0

    any_node : 0 < nodes_in b
    any_node = elim (cases_lt 0 (nodes_in b)) [
      | inl some ↦ some
      | inr none ↦ let e = kind_past 0 none in absurd (elim root_kind [ inl w ↦ omega (arith, e, w) | inr w ↦ omega (arith, e, w) ])
    ]

    each_stood : (n : ℕ) → 0 < n → n < nodes_in b → (n < end_word b n) × (parent_word b n < n) × (end_word b n ≤ end_word b (parent_word b n))
    each_stood n after lt =
        let first = parent_word b 0 == nothing && end_word b 0 == nodes_in b in
        let rest = nat_lt n (end_word b n) && (nat_lt (parent_word b n) n && nat_le (end_word b n) (end_word b (parent_word b n))) in
        stood_from n (end_word b n) (parent_word b n) (end_word b (parent_word b n)) (sym (cond-false (n == 0) first rest (ne_eqb n 0 (λ e. omega arith))) ∙ each_stands n lt)

    are_words : nodes_in b < 4294967296 → AreWords (nodes_in b) (parent_word b) (end_word b) (parent_in b) (end_in b)
    are_words small = record {
      top = let e = top_up in omega arith;
      some = any_node;
      all = eqb-true (end_word b 0) (nodes_in b) (and_parts (parent_word b 0 == nothing) (end_word b 0 == nodes_in b) (each_stands 0 any_node)).1;
      up_is = read_up;
      end_is = read_end;
      stood = each_stood;
      begun = λ n lt. either_from (end_word b n) (n + 1) (parent_word b (n + 1)) n (and_parts (end_word b n == n + 1 || parent_word b (n + 1) == n) (n == 0 || (end_word b n == end_word b (parent_word b n) || parent_word b (end_word b n) == parent_word b n)) (each_in_order n lt)).0;
      gone = λ n after lt. either_from (end_word b n) (end_word b (parent_word b n)) (parent_word b (end_word b n)) (parent_word b n)
          (not_first n (end_word b n == end_word b (parent_word b n) || parent_word b (end_word b n) == parent_word b n) after
          (and_parts (end_word b n == n + 1 || parent_word b (n + 1) == n) (n == 0 || (end_word b n == end_word b (parent_word b n) || parent_word b (end_word b n) == parent_word b n)) (each_in_order n lt)).1);
    }

    abbrev KindIs : (n p e : ℕ) → Type 0
    KindIs n p e = (kind_in b n ≡ 1) ⊎ (((kind_in b n ≡ 11) × (kind_in b p ≡ 1) × (n ≡ p + 1)) ⊎ (((kind_in b n ≡ 3) ⊎ ((kind_in b n ≡ 7) ⊎ ((kind_in b n ≡ 8) ⊎ (kind_in b n ≡ 10)))) × (e ≡ n + 1)))

    pub sound_in_order : nodes_in b < 4294967296 → IsInOrder b
    sound_in_order small = record {
      order = words_in_order (nodes_in b) (parent_word b) (end_word b) (parent_in b) (end_in b) (are_words small);
      kinds = record {
        root = root_kind;
        other = λ n after lt.
            let u = same_up (nodes_in b) (parent_word b) (end_word b) (parent_in b) (end_in b) (are_words small) n after lt in
            let v = same_end (nodes_in b) (parent_word b) (end_word b) (parent_in b) (end_in b) (are_words small) n lt in
            subst (λ p. KindIs n p (end_in b n)) (sym u) (subst (λ e. KindIs n (parent_word b n) e) (sym v)
            (kind_from n (kind_in b n) (parent_word b n) (end_word b n) (kind_in b (parent_word b n)) after (each_kind n lt)));
      };
      small = small;
    }

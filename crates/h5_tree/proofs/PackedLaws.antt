-- A block that the columns of a tree were packed into is sound.
use Rattle.std.proofs.Common.{◌≡◌, ◌∙◌, ◌⊎◌, ℕ, zero, suc, ◌+◌, ◌-◌, ◌<◌, ◌≤◌, Bool, true, false, ◌&&◌, ◌||◌, cond, List, [], ◌∷◌, ap, arith, get_or, inl, inr, length, refl, subst, sym}
use Rattle.std.specs.Prelude.{◌%◌, ◌/◌, ◌==◌, nat_le, nat_lt}
use Rattle.std.proofs.lemmas.Bool.{and_from, cases_eq, cond-false, cond-true, eq-eqb, false≢true, le-leb, lt-ltb, ne_eqb, or_left, or_right}
use Rattle.std.proofs.lemmas.List.{append-nil}
use Rattle.h5_tree_block.specs.Block.{end_before, first_row_in, kind_in, kind_word_in, name_ends_at, name_in, names_in, nodes_in, nothing, row_ends_at, rows_in, word_in}
use Rattle.h5_tree_block.specs.Columns.{held}
use Rattle.h5_tree_block.specs.Packed.{AreWordsOf, IsReadAs, words_of}
use Rattle.h5_tree_block.specs.Sound.{all_below, do_ends_fit, does_grow, end_word, has_kind, has_root, is_in_order, is_node_sound, is_sound, parent_word, stands, text_word}
use Rattle.h5_tree_block.specs.declared.columns.Columns.{Columns}
use Rattle.h5_tree_block.specs.declared.columns.Ended.{Ended}
use Rattle.h5_tree_block.specs.declared.columns.FlatNode.{FlatNode}
use Rattle.h5_tree.proofs.GrowthLaws.{AreGrowing, AreNamed, EndInTurn, grows_at, last_end, named_at, next_end}
use Rattle.h5_tree.proofs.HeldSteps.{IsWhole}
use Rattle.h5_tree.proofs.NodeRuns.{IsLeafKind, IsPlaced, IsRun, IsSegment, run_segment}
use Rattle.h5_tree.proofs.TextParts.{before_next}

-- tests that pass
passes_below : (test : ℕ → Bool) (limit : ℕ) → ((n : ℕ) → n < limit → test n ≡ true) → all_below test limit ≡ true
passes_below test zero each = refl
passes_below test (suc n) each = and_from (all_below test n) (test n) (passes_below test n (λ m lt. each m (omega (arith, lt)))) (each n (omega arith))

either_true : (a b c d : ℕ) → (a ≡ b) ⊎ (c ≡ d) → ((a == b) || (c == d)) ≡ true
either_true a b c d (inl e) = or_left (a == b) (c == d) (eq-eqb a b e)
either_true a b c d (inr e) = or_right (a == b) (c == d) (eq-eqb c d e)

leaf_true : (k : ℕ) → IsLeafKind k → (k == 3 || (k == 7 || (k == 8 || k == 10))) ≡ true
leaf_true k (inl e) = or_left (k == 3) (k == 7 || (k == 8 || k == 10)) (eq-eqb k 3 e)
leaf_true k (inr (inl e)) = or_right (k == 3) (k == 7 || (k == 8 || k == 10)) (or_left (k == 7) (k == 8 || k == 10) (eq-eqb k 7 e))
leaf_true k (inr (inr (inl e))) = or_right (k == 3) (k == 7 || (k == 8 || k == 10)) (or_right (k == 7) (k == 8 || k == 10) (or_left (k == 8) (k == 10) (eq-eqb k 8 e)))
leaf_true k (inr (inr (inr e))) = or_right (k == 3) (k == 7 || (k == 8 || k == 10)) (or_right (k == 7) (k == 8 || k == 10) (or_right (k == 8) (k == 10) (eq-eqb k 10 e)))

-- the test of a kind; w is the word of a number, and wp that of its parent
leaf_alone : (w : ℕ) → IsLeafKind w → IsLeafKind (w % 256)
leaf_alone w (inl e) = inl (omega (arith, e))
leaf_alone w (inr (inl e)) = inr (inl (omega (arith, e)))
leaf_alone w (inr (inr (inl e))) = inr (inr (inl (omega (arith, e))))
leaf_alone w (inr (inr (inr e))) = inr (inr (inr (omega (arith, e))))

leaf_kind : (k : ℕ) → IsLeafKind k → k ≡ 11 → ⊥
leaf_kind k (inl e) same = omega (arith, e, same)
leaf_kind k (inr (inl e)) same = omega (arith, e, same)
leaf_kind k (inr (inr (inl e))) same = omega (arith, e, same)
leaf_kind k (inr (inr (inr e))) same = omega (arith, e, same)

unless : (b x : Bool) → x ≡ true → cond b true x ≡ true
unless true x e = refl
unless false x e = e

abbrev is_leaf_test : (k e n : ℕ) → Bool
is_leaf_test k e n = (k == 3 || (k == 7 || (k == 8 || k == 10))) && e == n + 1

abbrev is_contents_test : (kp n p : ℕ) → Bool
is_contents_test kp n p = kp == 1 && n - 1 == p

kind_true : (n w p e wp : ℕ) → (w % 256 ≡ 1) ⊎ (((w ≡ 11) × (wp % 256 ≡ 1) × (n ≡ p + 1)) ⊎ (IsLeafKind w × (e ≡ n + 1)))
    → cond (w % 256 == 1 || n == 0) true (cond (w % 256 == 11) (is_contents_test (wp % 256) n p) (is_leaf_test (w % 256) e n)) ≡ true
kind_true n w p e wp (inl is) =
    cond-true (w % 256 == 1 || n == 0) true (cond (w % 256 == 11) (is_contents_test (wp % 256) n p) (is_leaf_test (w % 256) e n)) (or_left (w % 256 == 1) (n == 0) (eq-eqb (w % 256) 1 is))
kind_true n w p e wp (inr (inl it)) =
    let kind : w % 256 ≡ 11 = omega (arith, it.0) in
    let first : n - 1 ≡ p = omega (arith, it.2) in
    unless (w % 256 == 1 || n == 0) (cond (w % 256 == 11) (is_contents_test (wp % 256) n p) (is_leaf_test (w % 256) e n))
    (cond-true (w % 256 == 11) (is_contents_test (wp % 256) n p) (is_leaf_test (w % 256) e n) (eq-eqb (w % 256) 11 kind)
    ∙ and_from (wp % 256 == 1) (n - 1 == p) (eq-eqb (wp % 256) 1 it.1) (eq-eqb (n - 1) p first))
kind_true n w p e wp (inr (inr it)) =
    let leaf = leaf_alone w it.0 in
    unless (w % 256 == 1 || n == 0) (cond (w % 256 == 11) (is_contents_test (wp % 256) n p) (is_leaf_test (w % 256) e n))
    (cond-false (w % 256 == 11) (is_contents_test (wp % 256) n p) (is_leaf_test (w % 256) e n) (ne_eqb (w % 256) 11 (leaf_kind (w % 256) leaf))
    ∙ and_from (w % 256 == 3 || (w % 256 == 7 || (w % 256 == 8 || w % 256 == 10))) (e == n + 1) (leaf_true (w % 256) leaf) (eq-eqb e (n + 1) it.1))

-- the columns of a tree
record IsTree (c : Columns) : Type 0 where
  pub root : FlatNode
  pub inner : List FlatNode
  pub nodes : c.nodes.items ≡ root ∷ inner
  pub kind : (root.kind ≡ 9) ⊎ (root.kind ≡ 11)
  pub parent : root.parent ≡ nothing
  pub end : root.end ≡ 1 + length inner
  pub text : root.text ≡ 0
  pub row : root.row ≡ 0
  pub run : IsRun false 0 1 inner
  pub texts : AreGrowing (λ n. n.text) 0 c.nodes.items (length c.text.items)
  pub rows : AreGrowing (λ n. n.row) 0 c.nodes.items (length c.rows.items)
  pub named : AreNamed (length c.names.list.items) c.nodes.items
  pub values : EndInTurn 0 c.rows.items (length c.values.items)
  pub names : EndInTurn 0 c.names.list.items (length c.names.text.items)

tree_is : (c : Columns) → IsWhole (held c) → IsTree c
unfolding held
tree_is c w = record {
  root = w.root;
  inner = w.inner;
  nodes = w.nodes;
  kind = w.kind;
  parent = w.parent;
  end = w.end;
  text = w.text;
  row = w.row;
  run = w.run;
  texts = subst (λ ns. AreGrowing (λ n. n.text) 0 ns (length c.text.items)) (sym w.nodes) w.texts;
  rows = subst (λ ns. AreGrowing (λ n. n.row) 0 ns (length c.rows.items)) (sym w.nodes) w.rows;
  named = subst (λ ns. AreNamed (length c.names.list.items) ns) (sym w.nodes) (subst (λ m. AreNamed m (w.root ∷ w.inner)) w.kept.met w.named);
  values = w.kept.rows;
  names = w.kept.names;
}

-- ends of texts
module _ (b : List ℕ) (column : ℕ) (xs : List Ended) (total : ℕ) (h : EndInTurn 0 xs total)
    (each : (n : ℕ) (d : Ended) → n < length xs → word_in b (column + n) ≡ (get_or xs n d).end) where
  ends_grow : (n : ℕ) → n < length xs → does_grow b column n ≡ true
  ends_grow zero lt = le-leb (end_before b column zero) (word_in b (column + zero)) (omega arith)
  ends_grow (suc n) lt =
      let e = before_next b column n in
      let le = next_end (λ m. word_in b (column + m)) 0 xs total h each n lt in
      le-leb (end_before b column (suc n)) (word_in b (column + suc n)) (omega (arith, e, le))

  last_before : (n : ℕ) → n ≡ length xs → end_before b column n ≡ total
  last_before zero e = none xs h (sym e)
    where
      none : (ys : List Ended) → EndInTurn 0 ys total → length ys ≡ 0 → 0 ≡ total
      none [] g same = g
      none (y ∷ ys) g same = absurd (omega (arith, same))
  last_before (suc n) e = before_next b column n ∙ last_end (λ m. word_in b (column + m)) 0 xs total h each n e

module _ (b : List ℕ) (c : Columns) (r : IsReadAs b c) (words : AreWordsOf b (words_of c)) (t : IsTree c) where
  abbrev N : ℕ
  N = nodes_in b

  count : N ≡ 1 + length t.inner
  count = omega (arith, r.nodes, ap length t.nodes)

  segment : IsSegment (kind_word_in b) (parent_word b) (end_word b) 0 1 N
  segment =
      let it = run_segment (kind_word_in b) (parent_word b) (end_word b) c.nodes.items r.kind r.parent r.end t.run (t.root ∷ []) [] refl
      (t.nodes ∙ ap (λ xs. t.root ∷ xs) (sym (append-nil t.inner))) (λ same. absurd (false≢true same)) in
      subst (IsSegment (kind_word_in b) (parent_word b) (end_word b) 0 1) (sym count) it

  -- the words of node 0
  first : 0 < length c.nodes.items
  first = omega (arith, ap length t.nodes)

  is_root : get_or c.nodes.items 0 t.root ≡ t.root
  is_root = ap (λ ns. get_or ns 0 t.root) t.nodes

  root_kind : kind_word_in b 0 ≡ t.root.kind
  root_kind = r.kind 0 t.root first ∙ ap (λ (n : FlatNode). n.kind) is_root

  root_parent : parent_word b 0 ≡ nothing
  root_parent = r.parent 0 t.root first ∙ ap (λ (n : FlatNode). n.parent) is_root ∙ t.parent

  root_end : end_word b 0 ≡ N
  root_end = r.end 0 t.root first ∙ ap (λ (n : FlatNode). n.end) is_root ∙ t.end ∙ sym count

  root_text : text_word b 0 ≡ 0
  root_text = r.text 0 t.root first ∙ ap (λ (n : FlatNode). n.text) is_root ∙ t.text

  root_row : first_row_in b 0 ≡ 0
  root_row = r.row 0 t.root first ∙ ap (λ (n : FlatNode). n.row) is_root ∙ t.row

  rooted : has_root b ≡ true
  rooted =
      and_from (kind_in b 0 == 9 || kind_in b 0 == 11) (text_word b 0 == 0 && first_row_in b 0 == 0)
      (either_true (kind_in b 0) 9 (kind_in b 0) 11 (elim t.kind [ inl e ↦ inl (omega (arith, root_kind, e)) | inr e ↦ inr (omega (arith, root_kind, e)) ]))
      (and_from (text_word b 0 == 0) (first_row_in b 0 == 0) (eq-eqb (text_word b 0) 0 root_text) (eq-eqb (first_row_in b 0) 0 root_row))

  -- the tests of a node
  placed : (n : ℕ) → 0 < n → n < N → IsPlaced (kind_word_in b) (parent_word b) (end_word b) 0 1 N n
  placed n after lt = segment.each n after lt

  abbrev stands_below : ℕ → Bool
  stands_below n = nat_lt n (end_word b n) && (nat_lt (parent_word b n) n && nat_le (end_word b n) (end_word b (parent_word b n)))

  stood : (n : ℕ) → 0 < n → n < N → (n < end_word b n) × (parent_word b n < n) × (end_word b n ≤ end_word b (parent_word b n))
  stood n after lt =
      let it = placed n after lt in
      let within = it.within in
      elim it.up [
        | inr deeper ↦ (it.after, deeper.1, deeper.2)
        | inl top ↦ let up = ap (end_word b) top.0 in (it.after, omega (arith, top.0), omega (arith, up, within, root_end))
      ]

  root_stands : stands b 0 ≡ true
  root_stands = and_from (parent_word b 0 == nothing) (end_word b 0 == N) (eq-eqb (parent_word b 0) nothing root_parent) (eq-eqb (end_word b 0) N root_end)

  node_stands : (n : ℕ) → 0 < n → n < N → stands b n ≡ true
  node_stands n after lt =
      let it = stood n after lt in
      cond-false (n == 0) (parent_word b 0 == nothing && end_word b 0 == N) (stands_below n) (ne_eqb n 0 (λ e. omega (arith, e)))
      ∙ and_from (nat_lt n (end_word b n)) (nat_lt (parent_word b n) n && nat_le (end_word b n) (end_word b (parent_word b n))) (lt-ltb n (end_word b n) it.0)
      (and_from (nat_lt (parent_word b n) n) (nat_le (end_word b n) (end_word b (parent_word b n))) (lt-ltb (parent_word b n) n it.1) (le-leb (end_word b n) (end_word b (parent_word b n)) it.2))

  abbrev has_next : ℕ → Bool
  has_next n = end_word b n == n + 1 || parent_word b (n + 1) == n

  abbrev has_sibling : ℕ → Bool
  has_sibling n = n == 0 || (end_word b n == end_word b (parent_word b n) || parent_word b (end_word b n) == parent_word b n)

  root_in_order : is_in_order b 0 ≡ true
  root_in_order = and_from (has_next 0) (has_sibling 0) (either_true (end_word b 0) 1 (parent_word b 1) 0 (elim segment.begins [ inl e ↦ inl (root_end ∙ sym e) | inr e ↦ inr e ])) refl

  node_in_order : (n : ℕ) → 0 < n → n < N → is_in_order b n ≡ true
  node_in_order n after lt =
      let it = placed n after lt in
      let sibling : (end_word b n ≡ end_word b (parent_word b n)) ⊎ (parent_word b (end_word b n) ≡ parent_word b n) =
      elim it.up [
        | inr deeper ↦ deeper.3
        | inl top ↦ elim top.1 [ inl ends ↦ inl (ends ∙ sym (ap (end_word b) top.0 ∙ root_end)) | inr goes ↦ inr (goes ∙ sym top.0) ]
      ] in
      and_from (has_next n) (has_sibling n) (either_true (end_word b n) (n + 1) (parent_word b (n + 1)) n it.next)
      (or_right (n == 0) (end_word b n == end_word b (parent_word b n) || parent_word b (end_word b n) == parent_word b n)
      (either_true (end_word b n) (end_word b (parent_word b n)) (parent_word b (end_word b n)) (parent_word b n) sibling))

  root_has_kind : has_kind b 0 ≡ true
  root_has_kind =
      cond-true (kind_in b 0 == 1 || true) true (cond (kind_in b 0 == 11) (is_contents_test (kind_in b (parent_word b 0)) 0 (parent_word b 0)) (is_leaf_test (kind_in b 0) (end_word b 0) 0)) (or_right (kind_in b 0 == 1) true refl)

  node_has_kind : (n : ℕ) → 0 < n → n < N → has_kind b n ≡ true
  node_has_kind n after lt = kind_true n (kind_word_in b n) (parent_word b n) (end_word b n) (kind_word_in b (parent_word b n)) (placed n after lt).kind

  abbrev has_places : ℕ → Bool
  has_places n = nat_le (text_word b n) (text_word b (n + 1)) && (nat_le (first_row_in b n) (first_row_in b (n + 1)) && (name_in b n == nothing || nat_lt (name_in b n) (names_in b)))

  name_fits : (n : ℕ) → n < length c.nodes.items → (name_in b n == nothing || nat_lt (name_in b n) (names_in b)) ≡ true
  name_fits n lt = elim (cases_eq (kind_in b n) 1) [
    | inl is ↦
        let e : name_in b n ≡ kind_word_in b n / 256 = cond-true (kind_in b n == 1) (kind_word_in b n / 256) nothing (eq-eqb (kind_in b n) 1 is) in
        let fits = named_at (length c.names.list.items) (kind_word_in b) c.nodes.items t.named r.kind n lt is in
        let names = r.names in
        or_right (name_in b n == nothing) (nat_lt (name_in b n) (names_in b)) (lt-ltb (name_in b n) (names_in b) (omega (arith, e, fits, names)))
    | inr other ↦
        or_left (name_in b n == nothing) (nat_lt (name_in b n) (names_in b))
        (eq-eqb (name_in b n) nothing (cond-false (kind_in b n == 1) (kind_word_in b n / 256) nothing (ne_eqb (kind_in b n) 1 other)))
  ]

  node_has_places : (n : ℕ) → n < N → has_places n ≡ true
  node_has_places n small =
      let all = r.nodes in
      let lt : n < length c.nodes.items = omega arith in
      and_from (nat_le (text_word b n) (text_word b (n + 1))) (nat_le (first_row_in b n) (first_row_in b (n + 1)) && (name_in b n == nothing || nat_lt (name_in b n) (names_in b)))
      (le-leb (text_word b n) (text_word b (n + 1)) (grows_at (λ m. m.text) (text_word b) 0 c.nodes.items (length c.text.items) t.texts r.text r.last_text n lt))
      (and_from (nat_le (first_row_in b n) (first_row_in b (n + 1))) (name_in b n == nothing || nat_lt (name_in b n) (names_in b))
      (le-leb (first_row_in b n) (first_row_in b (n + 1)) (grows_at (λ m. m.row) (first_row_in b) 0 c.nodes.items (length c.rows.items) t.rows r.row r.last_row n lt)) (name_fits n lt))

  node_sound : (n : ℕ) → n < N → is_node_sound b n ≡ true
  node_sound zero lt =
      and_from (stands b zero) (is_in_order b zero && (has_kind b zero && has_places zero)) root_stands
      (and_from (is_in_order b zero) (has_kind b zero && has_places zero) root_in_order (and_from (has_kind b zero) (has_places zero) root_has_kind (node_has_places zero lt)))
  node_sound (suc m) lt =
      let after : 0 < suc m = omega arith in
      let n = suc m in
      and_from (stands b n) (is_in_order b n && (has_kind b n && has_places n)) (node_stands n after lt)
      (and_from (is_in_order b n) (has_kind b n && has_places n) (node_in_order n after lt) (and_from (has_kind b n) (has_places n) (node_has_kind n after lt) (node_has_places n lt)))

  -- the lengths of texts, in the first words
  text_length : word_in b 8 ≡ length c.text.items
  text_length = words 8 (omega arith)

  value_length : word_in b 7 ≡ length c.values.items
  value_length = words 7 (omega arith)

  name_length : word_in b 6 ≡ length c.names.text.items
  name_length = words 6 (omega arith)

  abbrev row_column : ℕ
  row_column = row_ends_at N (rows_in b)

  ends_fit : do_ends_fit b ≡ true
  ends_fit =
      let last : text_word b N ≡ word_in b 8 = ap (text_word b) r.nodes ∙ r.last_text ∙ sym text_length in
      let rows : first_row_in b N ≡ rows_in b = ap (first_row_in b) r.nodes ∙ r.last_row ∙ sym r.rows in
      let value : end_before b row_column (rows_in b) ≡ word_in b 7 = last_before b row_column c.rows.items (length c.values.items) t.values r.row_end (rows_in b) r.rows ∙ sym value_length in
      let name : end_before b (name_ends_at b) (names_in b) ≡ word_in b 6 = last_before b (name_ends_at b) c.names.list.items (length c.names.text.items) t.names r.name_end (names_in b) r.names ∙ sym name_length in
      and_from (text_word b N == word_in b 8) (first_row_in b N == rows_in b && (end_before b row_column (rows_in b) == word_in b 7 && end_before b (name_ends_at b) (names_in b) == word_in b 6)) (eq-eqb (text_word b N) (word_in b 8) last)
      (and_from (first_row_in b N == rows_in b) (end_before b row_column (rows_in b) == word_in b 7 && end_before b (name_ends_at b) (names_in b) == word_in b 6) (eq-eqb (first_row_in b N) (rows_in b) rows)
      (and_from (end_before b row_column (rows_in b) == word_in b 7) (end_before b (name_ends_at b) (names_in b) == word_in b 6)
      (eq-eqb (end_before b row_column (rows_in b)) (word_in b 7) value) (eq-eqb (end_before b (name_ends_at b) (names_in b)) (word_in b 6) name)))

  tree_sound : is_sound b ≡ true
  tree_sound =
      let rows = passes_below (does_grow b row_column) (rows_in b) (λ n lt. let e = r.rows in ends_grow b row_column c.rows.items (length c.values.items) t.values r.row_end n (omega (arith, e, lt))) in
      let names = passes_below (does_grow b (name_ends_at b)) (names_in b) (λ n lt. let e = r.names in ends_grow b (name_ends_at b) c.names.list.items (length c.names.text.items) t.names r.name_end n (omega (arith, e, lt))) in
      let nodes = passes_below (is_node_sound b) N node_sound in
      let grow = all_below (does_grow b row_column) (rows_in b) && all_below (does_grow b (name_ends_at b)) (names_in b) in
      and_from (has_root b) (do_ends_fit b && (all_below (is_node_sound b) N && grow)) rooted
      (and_from (do_ends_fit b) (all_below (is_node_sound b) N && grow) ends_fit
      (and_from (all_below (is_node_sound b) N) grow nodes (and_from (all_below (does_grow b row_column) (rows_in b)) (all_below (does_grow b (name_ends_at b)) (names_in b)) rows names)))

-- the block of a whole tree is sound
pub whole_sound : (b : List ℕ) (c : Columns) → IsReadAs b c → AreWordsOf b (words_of c) → IsWhole (held c) → is_sound b ≡ true
whole_sound b c r words w = tree_sound b c r words (tree_is c w)

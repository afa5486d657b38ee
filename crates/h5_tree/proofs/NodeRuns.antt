-- Runs of nodes in the columns: nodes one after the other below one parent, each with its subtree.
use Rattle.std.proofs.Common.{◌≡◌, ◌∙◌, ◌⊎◌, ℕ, ◌+◌, ◌<◌, ◌≤◌, Bool, true, false, List, [], ◌∷◌, ◌++◌, ap, arith, get_or, inl, inr, length, refl, subst, sym}
use Rattle.std.specs.Prelude.{◌%◌}
use Rattle.std.proofs.lemmas.Bool.{cases_lt, false≢true}
use Rattle.std.proofs.lemmas.List.{append_assoc, get_or_at, length-append}
use Rattle.h5_tree_block.specs.declared.columns.FlatNode.{FlatNode}

-- a text, a processing instruction, a comment or a doctype
abbrev pub IsLeafKind : ℕ → Type 0
IsLeafKind k = (k ≡ 3) ⊎ ((k ≡ 7) ⊎ ((k ≡ 8) ⊎ (k ≡ 10)))

-- nodes below a parent, numbered from a number on; or the contents of an element alone
pub data IsRun : (contents : Bool) (parent from : ℕ) → List FlatNode → Type 0 where
  NoNodes : {parent from : ℕ} → IsRun false parent from []
  LeafNode : {parent from : ℕ} (node : FlatNode) → IsLeafKind node.kind → node.parent ≡ parent → node.end ≡ from + 1 → IsRun false parent from (node ∷ [])
  ElementRun : {contents : Bool} {parent from : ℕ} {inner : List FlatNode} (node : FlatNode) → node.kind % 256 ≡ 1 → node.parent ≡ parent → node.end ≡ (from + 1) + length inner
      → IsRun contents from (from + 1) inner → IsRun false parent from (node ∷ inner)
  ContentsRun : {parent from : ℕ} {inner : List FlatNode} (node : FlatNode) → node.kind ≡ 11 → node.parent ≡ parent → node.end ≡ (from + 1) + length inner
      → IsRun false from (from + 1) inner → IsRun true parent from (node ∷ inner)
  BothRuns : {parent from : ℕ} {xs ys : List FlatNode} → IsRun false parent from xs → IsRun false parent (from + length xs) ys → IsRun false parent from (xs ++ ys)

-- the kinds, parents and ends of numbers
module _ (k p e : ℕ → ℕ) where
  -- a number of a segment: its end, the next number, its parent, the first number from its end on, and its kind
  pub record IsPlaced (parent from to n : ℕ) : Type 0 where
    pub after : n < e n
    pub within : e n ≤ to
    pub next : (e n ≡ n + 1) ⊎ (p (n + 1) ≡ n)
    pub up : ((p n ≡ parent) × ((e n ≡ to) ⊎ (p (e n) ≡ parent))) ⊎ ((from ≤ p n) × (p n < n) × (e n ≤ e (p n)) × ((e n ≡ e (p n)) ⊎ (p (e n) ≡ p n)))
    pub kind : (k n % 256 ≡ 1) ⊎ (((k n ≡ 11) × (k (p n) % 256 ≡ 1) × (n ≡ p n + 1)) ⊎ (IsLeafKind (k n) × (e n ≡ n + 1)))

  -- the numbers of a run below a parent
  pub record IsSegment (parent from to : ℕ) : Type 0 where
    pub forward : from ≤ to
    pub begins : (from ≡ to) ⊎ (p from ≡ parent)
    pub each : (n : ℕ) → from ≤ n → n < to → IsPlaced parent from to n

  segment_none : (parent from : ℕ) → IsSegment parent from from
  segment_none parent from = record { forward = omega arith; begins = inl refl; each = λ n low high. absurd (omega arith) }

  -- a number alone
  segment_leaf : (parent n : ℕ) → IsLeafKind (k n) → p n ≡ parent → e n ≡ n + 1 → IsSegment parent n (n + 1)
  segment_leaf parent n leaf up end = record {
    forward = omega arith;
    begins = inr up;
    each = λ m low high. let same : n ≡ m = omega arith in subst (IsPlaced parent n (n + 1)) same (record {
      after = omega arith;
      within = omega arith;
      next = inl end;
      up = inl (up, inl end);
      kind = inr (inr (leaf, end));
    });
  }

  -- one segment after another
  both_left : (parent a b c : ℕ) → IsSegment parent a b → IsSegment parent b c → (n : ℕ) → a ≤ n → n < b → IsPlaced parent a c n
  both_left parent a b c first second n low high =
      let one = first.each n low high in
      let far = second.forward in
      record {
        after = one.after;
        within = let w = one.within in omega arith;
        next = one.next;
        up = elim one.up [
          | inr deeper ↦ inr deeper
          | inl it ↦ inl (
            it.0,
            elim it.1 [
              | inr goes ↦ inr goes
              | inl ends ↦ elim second.begins [
                | inl none ↦ inl (ends ∙ none)
                | inr goes ↦ inr (ap p ends ∙ goes)
              ]
            ],
          )
        ];
        kind = one.kind;
      }

  both_right : (parent a b c : ℕ) → IsSegment parent a b → IsSegment parent b c → (n : ℕ) → b ≤ n → n < c → IsPlaced parent a c n
  both_right parent a b c first second n low high =
      let one = second.each n low high in
      let far = first.forward in
      record {
        after = one.after;
        within = one.within;
        next = one.next;
        up = elim one.up [ inl it ↦ inl it | inr deeper ↦ inr (omega (arith, deeper), deeper.1, deeper.2, deeper.3) ];
        kind = one.kind;
      }

  segment_both : (parent a b c : ℕ) → IsSegment parent a b → IsSegment parent b c → IsSegment parent a c
  segment_both parent a b c first second = record {
    forward = let x = first.forward in let y = second.forward in omega arith;
    begins = elim first.begins [
      | inr goes ↦ inr goes
      | inl none ↦ elim second.begins [ inl more ↦ inl (none ∙ more) | inr goes ↦ inr (ap p none ∙ goes) ]
    ];
    each = λ n low high. elim (cases_lt n b) [ inl before ↦ both_left parent a b c first second n low before | inr after ↦ both_right parent a b c first second n after high ];
  }

  -- a number with everything below it
  over_inner : (parent a c : ℕ) → e a ≡ c → IsSegment a (a + 1) c → (n : ℕ) → a < n → n < c → IsPlaced parent a c n
  over_inner parent a c end inner n low high =
      let one = inner.each n (omega arith) high in
      record {
        after = one.after;
        within = one.within;
        next = one.next;
        up = elim one.up [
          | inr deeper ↦ inr (omega (arith, deeper), deeper.1, deeper.2, deeper.3)
          | inl it ↦
              let host = ap e it.0 ∙ end in
              let within = one.within in
              inr (omega (arith, it), omega (arith, it), omega (arith, host, within), elim it.1 [ inl ends ↦ inl (ends ∙ sym host) | inr goes ↦ inr (goes ∙ sym it.0) ])
        ];
        kind = one.kind;
      }

  segment_over : (parent a c : ℕ) → p a ≡ parent → e a ≡ c → (k a % 256 ≡ 1) ⊎ ((k a ≡ 11) × (k (p a) % 256 ≡ 1) × (a ≡ p a + 1)) → IsSegment a (a + 1) c → IsSegment parent a c
  segment_over parent a c up end kind inner = record {
    forward = let w = inner.forward in omega arith;
    begins = inr up;
    each = λ n low high. elim (cases_lt a n) [
      | inl below ↦ over_inner parent a c end inner n below high
      | inr here ↦
          let same : a ≡ n = omega arith in
          let w = inner.forward in
          subst (IsPlaced parent a c) same (record {
            after = omega arith;
            within = omega arith;
            next = elim inner.begins [ inl none ↦ inl (end ∙ sym none) | inr goes ↦ inr goes ];
            up = inl (up, inl end);
            kind = elim kind [ inl it ↦ inl it | inr it ↦ inr (inl it) ];
          })
    ];
  }

  -- the numbers of a run in a list of nodes that have these kinds, parents and ends
  module _ (whole : List FlatNode) (kinds : (n : ℕ) (d : FlatNode) → n < length whole → k n ≡ (get_or whole n d).kind)
      (parents : (n : ℕ) (d : FlatNode) → n < length whole → p n ≡ (get_or whole n d).parent) (ends : (n : ℕ) (d : FlatNode) → n < length whole → e n ≡ (get_or whole n d).end) where
    -- the node that follows others
    here : (before : List FlatNode) (node : FlatNode) (after : List FlatNode) (n : ℕ) → length before ≡ n → whole ≡ before ++ node ∷ after → (n < length whole) × (get_or whole n node ≡ node)
    here before node after n count is =
        (omega (arith, ap length is, length-append before (node ∷ after), count), ap (λ xs. get_or xs n node) is ∙ get_or_at before node after node n count)

    pub run_segment : {contents : Bool} {parent from : ℕ} {run : List FlatNode} → IsRun contents parent from run → (before after : List FlatNode) → length before ≡ from → whole ≡ before ++ (run ++ after)
        → (contents ≡ true → (k parent % 256 ≡ 1) × (from ≡ parent + 1)) → IsSegment parent from (from + length run)
    run_segment {parent = parent} {from = from} NoNodes before after count is host = subst (IsSegment parent from) (omega arith) (segment_none parent from)
    run_segment {parent = parent} {from = from} (LeafNode node leaf up end) before after count is host =
        let it = here before node after from count is in
        segment_leaf parent from (subst IsLeafKind (sym (kinds from node it.0 ∙ ap (λ (x : FlatNode). x.kind) it.1)) leaf)
        (parents from node it.0 ∙ ap (λ (x : FlatNode). x.parent) it.1 ∙ up) (ends from node it.0 ∙ ap (λ (x : FlatNode). x.end) it.1 ∙ end)
    run_segment {parent = parent} {from = from} (ElementRun {inner = inner} node kind up end below) before after count is host =
        let it = here before node (inner ++ after) from count is in
        let is_element : k from % 256 ≡ 1 = ap (λ x. x % 256) (kinds from node it.0 ∙ ap (λ (x : FlatNode). x.kind) it.1) ∙ kind in
        let deeper = run_segment below (before ++ node ∷ []) after (length-append before (node ∷ []) ∙ ap (λ x. x + 1) count) (is ∙ sym (append_assoc before (node ∷ []) (inner ++ after))) (λ same. (is_element, refl)) in
        subst (IsSegment parent from) (omega arith)
        (segment_over parent from ((from + 1) + length inner) (parents from node it.0 ∙ ap (λ (x : FlatNode). x.parent) it.1 ∙ up) (ends from node it.0 ∙ ap (λ (x : FlatNode). x.end) it.1 ∙ end) (inl is_element) deeper)
    run_segment {parent = parent} {from = from} (ContentsRun {inner = inner} node kind up end below) before after count is host =
        let it = here before node (inner ++ after) from count is in
        let above = host refl in
        let is_up = parents from node it.0 ∙ ap (λ (x : FlatNode). x.parent) it.1 ∙ up in
        let deeper = run_segment below (before ++ node ∷ []) after (length-append before (node ∷ []) ∙ ap (λ x. x + 1) count) (is ∙ sym (append_assoc before (node ∷ []) (inner ++ after))) (λ same. absurd (false≢true same)) in
        subst (IsSegment parent from) (omega arith)
        (segment_over parent from ((from + 1) + length inner) is_up (ends from node it.0 ∙ ap (λ (x : FlatNode). x.end) it.1 ∙ end)
        (inr (kinds from node it.0 ∙ ap (λ (x : FlatNode). x.kind) it.1 ∙ kind, ap (λ x. k x % 256) is_up ∙ above.0, above.1 ∙ ap (λ x. x + 1) (sym is_up))) deeper)
    run_segment {parent = parent} {from = from} (BothRuns {xs = xs} {ys = ys} one two) before after count is host =
        let left = run_segment one before (ys ++ after) count (is ∙ ap (λ zs. before ++ zs) (append_assoc xs ys after)) host in
        let right = run_segment two (before ++ xs) after (length-append before xs ∙ ap (λ x. x + length xs) count)
        (is ∙ ap (λ zs. before ++ zs) (append_assoc xs ys after) ∙ sym (append_assoc before xs (ys ++ after))) (λ same. absurd (false≢true same)) in
        subst (IsSegment parent from) (omega (arith, length-append xs ys)) (segment_both parent from (from + length xs) ((from + length xs) + length ys) left right)

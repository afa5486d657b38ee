-- The index of a node among children, searched from the end.
use Rattle.std.proofs.Common.{◌≡◌, ◌<◌, ◌≤◌, ◌+◌, ◌-◌, ◌==◌, ℕ, get_or, take, Bool, true, false, List, [], ◌∷◌, ◌++◌, length, refl, ap, sym, ◌∙◌, arith}
use Rattle.std.proofs.lemmas.Bool.{eqb-true, eq-eqb}
use Rattle.std.proofs.lemmas.List.{map-append, take_more}
use Rattle.h5_interface.specs.Forest.{Child, ChildNode, ChildText, count, nodes}
use Rattle.h5_interface.proofs.ChildLaws.{count-append, nodes-append}
use Rattle.h5_arena.specs.ArenaModel.{child_view, child_views}
use Rattle.h5_arena.specs.ChildTests.{is_child_node}
use Rattle.h5_arena.specs.declared.nodes.Child.{Child as Value}

-- what isn't a node isn't counted as it
other_uncounted : (n : ℕ) (c : Child) → is_child_node n c ≡ false → count n (nodes (c ∷ [])) ≡ 0
other_uncounted n (ChildText t) h = refl
other_uncounted n (ChildNode m) h = at (n == m) refl
  where
    at : (b : Bool) → (n == m) ≡ b → count n (m ∷ []) ≡ 0
    at true e = absurd (let same : (m == n) ≡ true = eq-eqb m n (sym (eqb-true n m e)) in cc)
    at false e = rw e refl

-- so if the last isn't the node, it is before
pub stands_before : (n b : ℕ) (x : Value) (xs : List Value) → 0 < b → b ≤ length xs → x ≡ get_or xs (b - 1) x → is_child_node n (child_view x) ≡ false → 0 < count n (nodes (child_views (take b xs)))
    → 0 < count n (nodes (child_views (take (b - 1) xs)))
stands_before n b x xs some within is other stands =
    let rest = take (b - 1) xs in
    let more : take b xs ≡ rest ++ x ∷ [] = ap (λ k. take k xs) (omega (arith, some)) ∙ take_more xs (b - 1) x (omega (arith, some, within)) ∙ ap (λ z. rest ++ z ∷ []) (sym is) in
    let split : nodes (child_views (take b xs)) ≡ nodes (child_views rest) ++ nodes (child_view x ∷ []) =
    ap (λ ys. nodes (child_views ys)) more ∙ ap nodes (map-append child_view rest (x ∷ [])) ∙ nodes-append (child_views rest) (child_view x ∷ []) in
    let counted : count n (nodes (child_views (take b xs))) ≡ count n (nodes (child_views rest)) + count n (nodes (child_view x ∷ [])) =
    ap (count n) split ∙ count-append n (nodes (child_views rest)) (nodes (child_view x ∷ [])) in
    omega (arith, stands, counted, other_uncounted n (child_view x) other)

-- No more elements are below a node of a block than there are nodes.
use Rattle.std.proofs.Common.{◌≡◌, ◌+◌, ◌-◌, ◌<◌, ◌≤◌, ◌==◌, ◌&&◌, ℕ, zero, suc, List, [], ◌∷◌, Bool, true, false, ap, arith, length, refl}
use Rattle.std.specs.Prelude.{if◌then◌else◌, nat_le, nat_lt, not}
use Rattle.std.specs.List.{filter}
use Rattle.std.proofs.lemmas.List.Filters.{length-filter_both}
use Rattle.std.proofs.lemmas.Bool.{and_parts, cond-true, leb-true, lt-ltb}
use Rattle.h5_tree_block.specs.Block.{end_in, end_or_next, ends_at, kind_in, nodes_in, nothing, word_in}
use Rattle.h5_tree.specs.BlockForest.{forest_in}
use Rattle.h5_tree.specs.ElementNumbers.{elements_between, elements_in_steps}
use Rattle.h5_tree.specs.Elements.{below}
use Rattle.h5_selectors.specs.declared.formula.Formula.{Formula}
use Rattle.h5_c.specs.Selecting.{selected_in}

few_filtered : (p : ℕ → Bool) (xs : List ℕ) → length (filter p xs) ≤ length xs
few_filtered p xs = omega (arith, length-filter_both p (λ x. not (p x)) (λ x. refl) xs)

few_chosen : (a c d : Bool) (x k : ℕ) (xs ys : List ℕ) → length xs ≤ k → length ys ≤ k
    → length (if a then (if c then xs else (if d then x ∷ ys else ys)) else []) ≤ suc k
few_chosen false c d x k xs ys p q = omega arith
few_chosen true true d x k xs ys p q = omega arith
few_chosen true false true x k xs ys p q = omega arith
few_chosen true false false x k xs ys p q = omega arith

few_in_steps : (b : List ℕ) (steps from to : ℕ) → length (elements_in_steps b steps from to) ≤ steps
unfolding elements_in_steps
few_in_steps b zero x to = omega arith
few_in_steps b (suc k) x to =
    few_chosen (nat_lt x to) (kind_in b x == 11) (kind_in b x == 1) x k (elements_in_steps b k (end_in b x) to) (elements_in_steps b k (x + 1) to)
    (few_in_steps b k (end_in b x) to) (few_in_steps b k (x + 1) to)

-- the elements below a node, if they are those up to its end
pub few_selected : (b : List ℕ) (n : ℕ) (list : List Formula) → below (forest_in b) n ≡ elements_between b (n + 1) (end_in b n)
    → length (selected_in b n list) ≤ end_in b n - (n + 1)
few_selected b n list is =
    let few = few_in_steps b (end_in b n - (n + 1)) (n + 1) (end_in b n) in
    let same = ap length is in
    let kept : length (selected_in b n list) ≤ length (below (forest_in b) n) = few_filtered _ (below (forest_in b) n) in
    omega arith

chosen_end : (c : Bool) (w n nodes : ℕ) → n < nodes → (c ≡ true → w ≤ nodes) → (if c then w else n + 1) ≤ nodes
chosen_end true w n nodes lt le = le refl
chosen_end false w n nodes lt le = omega arith

pub end_within : (b : List ℕ) (n : ℕ) → n < nodes_in b → end_in b n ≤ nodes_in b
end_within b n lt =
    let w = word_in b (ends_at (nodes_in b) + n) in
    let test = nat_lt n w && nat_le w (nodes_in b) in
    let is : end_in b n ≡ (if test then w else n + 1) = cond-true (nat_lt n (nodes_in b)) (end_or_next (nodes_in b) w n) nothing (lt-ltb n (nodes_in b) lt) in
    let le : (if test then w else n + 1) ≤ nodes_in b = chosen_end test w n (nodes_in b) lt (λ e. leb-true w (nodes_in b) (and_parts (nat_lt n w) (nat_le w (nodes_in b)) e).1) in
    omega arith

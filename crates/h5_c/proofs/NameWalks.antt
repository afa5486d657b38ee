-- The walks over the rows of a node, in search of an attribute with a name, and over the nodes after one, in search of an element.
use Rattle.std.proofs.Common.{◌≡◌, ◌∙◌, ◌≤◌, ◌<◌, ℕ, ◌+◌, ◌-◌, true, false, List, None, Option, Some, suc, zero, arith, ap, refl, sym, cond}
use Rattle.std.proofs.lemmas.Bool.{lt-ltb}
use Rattle.h5_tree_block.specs.Block.{nodes_in, nothing}
use Rattle.h5_tree_block.specs.declared.view.Row.{Row}
use Rattle.h5_c.specs.ByName.{attribute_from, element_from, first_of, is_element_named, next_named, row_if_named}

module _ (b local : List ℕ) where
  -- the next row decides, or those after it
  pub row_next : (n count index : ℕ) (row : Option Row) → index < count → row ≡ row_if_named b local n index → attribute_from b local n (count - index) index ≡ first_of row (attribute_from b local n (count - (index + 1)) (index + 1))
  row_next n count index row lt e =
      let left : count - index ≡ suc (count - (index + 1)) = omega (arith, lt) in
      ap (λ left. attribute_from b local n left index) left ∙ ap (λ row. first_of row (attribute_from b local n (count - (index + 1)) (index + 1))) (sym e)

  -- there are no more rows
  pub no_row_left : (n count index : ℕ) → count ≤ index → attribute_from b local n (count - index) index ≡ None
  no_row_left n count index le =
      let left : count - index ≡ 0 = omega (arith, le) in
      ap (λ left. attribute_from b local n left index) left

  -- a node with another name is passed
  pub passed : (nodes n : ℕ) → n < nodes → is_element_named b local n ≡ false → element_from b local (nodes - n) n ≡ element_from b local (nodes - (n + 1)) (n + 1)
  passed nodes n lt e =
      let left : nodes - n ≡ suc (nodes - (n + 1)) = omega (arith, lt) in
      ap (λ left. element_from b local left n) left ∙ ap (λ is. cond is n (element_from b local (nodes - (n + 1)) (n + 1))) e

  -- the walk ends at an element with the name
  pub found : (nodes n : ℕ) → n < nodes → is_element_named b local n ≡ true → element_from b local (nodes - n) n ≡ n
  found nodes n lt e =
      let left : nodes - n ≡ suc (nodes - (n + 1)) = omega (arith, lt) in
      ap (λ left. element_from b local left n) left ∙ ap (λ is. cond is n (element_from b local (nodes - (n + 1)) (n + 1))) e

  -- or after the last node
  pub none_left : (nodes n : ℕ) → nodes ≤ n → element_from b local (nodes - n) n ≡ nothing
  none_left nodes n le =
      let left : nodes - n ≡ 0 = omega (arith, le) in
      ap (λ left. element_from b local left n) left

  -- it begins after the node
  pub begun : (n : ℕ) → n < nodes_in b → next_named b local n ≡ element_from b local (nodes_in b - (n + 1)) (n + 1)
  begun n lt = ap (λ is. cond is (element_from b local (nodes_in b - (n + 1)) (n + 1)) nothing) (lt-ltb n (nodes_in b) lt)

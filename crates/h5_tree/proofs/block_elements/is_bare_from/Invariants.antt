use Rattle.std.proofs.Common.{◌≡◌, ℕ, ◌-◌, ◌≤◌}
use Rattle.h5_tree.specs.ElementNumbers.{IsChildOrNone, is_bare_from}
use Rattle.h5_tree.proofs.block_elements.is_bare_from.Given as goal

abbrev pub invariant-loop-child : goal.invariant-loop-child
invariant-loop-child l =
    (l.child ≤ 4294967295) × ((p : ℕ) → IsChildOrNone l.tree.view.block.now p l.fn.first → IsChildOrNone l.tree.view.block.now p l.child × (is_bare_from l.tree.view.block.now p l.child ≡ is_bare_from l.tree.view.block.now p l.fn.first))

abbrev pub decreases-loop-child : goal.decreases-loop-child
decreases-loop-child l = 4294967295 - l.child

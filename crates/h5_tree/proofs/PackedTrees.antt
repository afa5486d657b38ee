-- The columns of a document and of a fragment are those of whole trees.
use Rattle.std.proofs.Common.{◌≡◌, Bool, true, List, [], inl, inr, refl, subst, sym}
use Rattle.std.specs.Prelude.{ℕ, None, Option, Some}
use Rattle.std.specs.Option.{option_map_or}
use Rattle.h5_interface.specs.Forest.{Forest, children_of}
use Rattle.h5_serialize.specs.Call.{Call}
use Rattle.h5_serialize.specs.declared.options.TraversalScope.TheVariants.{ChildrenOnly}
use Rattle.h5_arena.specs.ArenaModel.{ArenaView, forest_seen, fragment_root}
use Rattle.h5_arena.specs.NodeCalls.{walk_of}
use Rattle.h5_tree_block.specs.Columns.{document_columns, fragment_columns, held, ids_among, mode_number, no_ids}
use Rattle.h5_tree_block.specs.Packed.{AreWordsOf, IsReadAs, words_of}
use Rattle.h5_tree_block.specs.Sound.{is_sound}
use Rattle.h5_tree_block.specs.declared.columns.Columns.{Columns}
use Rattle.h5_tree.proofs.BalancedCalls.{AreBalanced, NoCalls, walk_balanced}
use Rattle.h5_tree.proofs.HeldSteps.{IsWhole, whole_columns}
use Rattle.h5_tree.proofs.PackedLaws.{whole_sound}

document_whole : (a : ArenaView) (scripting : Bool) → IsWhole (document_columns a scripting)
unfolding document_columns
document_whole a scripting =
    let f = forest_seen a in
    whole_columns 9 (mode_number a.quirks scripting) (ids_among f (children_of f 0)) (walk_of f 0 (ChildrenOnly None)) (inl refl) (walk_balanced f 0)

pub below_root : (f : Forest) (root : Option ℕ) → AreBalanced (option_map_or {U = List Call} (λ (n : ℕ). walk_of f n (ChildrenOnly None)) root [])
below_root f None = NoCalls
below_root f (Some root) = walk_balanced f root

fragment_whole : (a : ArenaView) (scripting : Bool) → IsWhole (fragment_columns a scripting)
unfolding fragment_columns
fragment_whole a scripting =
    whole_columns 11 (mode_number a.quirks scripting) no_ids (option_map_or {U = List Call} (λ (n : ℕ). walk_of (forest_seen a) n (ChildrenOnly None)) (fragment_root a) []) (inr refl)
    (below_root (forest_seen a) (fragment_root a))

pub document_sound : (a : ArenaView) (scripting : Bool) (c : Columns) (block : List ℕ) → held c ≡ document_columns a scripting → IsReadAs block c → AreWordsOf block (words_of c) → is_sound block ≡ true
document_sound a scripting c block e r words = whole_sound block c r words (subst IsWhole (sym e) (document_whole a scripting))

pub fragment_sound : (a : ArenaView) (scripting : Bool) (c : Columns) (block : List ℕ) → held c ≡ fragment_columns a scripting → IsReadAs block c → AreWordsOf block (words_of c) → is_sound block ≡ true
fragment_sound a scripting c block e r words = whole_sound block c r words (subst IsWhole (sym e) (fragment_whole a scripting))

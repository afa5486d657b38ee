-- An arena with a copy after the existing nodes.
use Rattle.std.proofs.Common.{◌≡◌, ◌∙◌, ℕ, ◌+◌, List, ◌++◌, ap, arith, length, subst, sym}
use Rattle.std.specs.Prelude.{Bool, None, slice_get}
use Rattle.std.specs.Option.{option_map}
use Rattle.std.proofs.lemmas.List.{length-append, map-append}
use Rattle.h5_interface.specs.Forest.{ElementNode, IsElement, IsForest, IsNode, Node, parent_of}
use Rattle.h5_interface.proofs.ForestLaws.{node_of_kind}
use Rattle.h5_serialize.specs.Standing.{new_standing, walk_text}
use Rattle.h5_serialize.specs.declared.options.TraversalScope.TheVariants.{IncludeNode}
use Rattle.h5_arena.specs.ArenaModel.{HasNotes, IsArena, forest_in, forest_of, node_view, node_views}
use Rattle.h5_arena.specs.Copies.{AreCopies}
use Rattle.h5_arena.specs.Copy.{AreBelowFirst, IsCopyOf}
use Rattle.h5_arena.specs.Html.{opts_for, outer_html}
use Rattle.h5_arena.specs.declared.attribute_names.AttributeNames.{AttributeNames}
use Rattle.h5_arena.specs.declared.nodes.NodeData.{NodeData}
use Rattle.h5_arena.proofs.CopyCalls.{copies_within, same_calls}
use Rattle.h5_arena.proofs.CopyForest.{below_first, free, is_arena, others}

module _ (ns slice copies news : List NodeData) (n index : ℕ) (lent : slice ≡ ns) (behind : news ≡ ns ++ copies) (at_end : index ≡ length (node_views ns)) (whole : IsForest (forest_in ns)) (made : AreCopies (forest_in slice) n (node_views copies)) where
  views : node_views news ≡ node_views ns ++ node_views copies
  views = ap node_views behind ∙ map-append node_view ns copies

  are_copies : AreCopies (forest_in ns) n (node_views copies)
  are_copies = subst (λ xs. AreCopies (forest_in xs) n (node_views copies)) lent made

  pub still_arena : {names : AttributeNames} → HasNotes names (forest_in ns) → IsArena names (forest_in news)
  still_arena {names} k =
      subst (λ vs. IsArena names (forest_of vs)) (sym views) (is_arena (node_views ns) (node_views copies) n are_copies.0 whole are_copies.1 are_copies.2 k)

  pub copy_is_free : parent_of (forest_in news) index ≡ None
  copy_is_free =
      ap (λ vs. parent_of (forest_of vs) index) views ∙ ap (parent_of (forest_of (node_views ns ++ node_views copies))) at_end
      ∙ free (node_views ns) (node_views copies) n are_copies.0 whole are_copies.1 are_copies.2

  pub copy_is_one : IsCopyOf (forest_in ns) (forest_in news) n index
  copy_is_one =
      let last : length (node_views ns) + 0 ≡ index = omega (arith, at_end) in
      subst (λ vs. IsCopyOf (forest_in ns) (forest_of vs) n index) (sym views)
      (subst (IsCopyOf (forest_in ns) (forest_of (node_views ns ++ node_views copies)) n) last
      (λ levels. copies_within (node_views ns) (node_views copies) n are_copies.0 whole are_copies.1 are_copies.2 levels 0 n None are_copies.1.start))

  pub copy_html : (scripting_enabled : Bool) → outer_html (forest_in news) index scripting_enabled ≡ outer_html (forest_in ns) n scripting_enabled
  copy_html scripting_enabled =
      let long = ap length views in
      let more = length-append (node_views ns) (node_views copies) in
      ap (walk_text (new_standing (opts_for IncludeNode scripting_enabled))) (same_calls (forest_in ns) (forest_in news) n index whole (omega (arith, long, more)) copy_is_one)

  pub copies_below : AreBelowFirst (forest_in news) (length (node_views ns)) (length (node_views news))
  copies_below =
      let long : length (node_views news) ≡ length (node_views ns) + length (node_views copies) = ap length views ∙ length-append (node_views ns) (node_views copies) in
      subst (λ vs. AreBelowFirst (forest_of vs) (length (node_views ns)) (length (node_views news))) (sym views)
      (λ m after within. below_first (node_views ns) (node_views copies) n are_copies.0 whole are_copies.1 are_copies.2 m after (omega (arith, within, long)))

  pub still_others : (m : ℕ) → IsNode (forest_in ns) m → slice_get (node_views news) m ≡ slice_get (node_views ns) m
  still_others m there =
      ap (λ vs. slice_get vs m) views ∙ others (node_views ns) (node_views copies) n are_copies.0 whole are_copies.1 are_copies.2 m there

  pub still_elements : (m : ℕ) → IsElement (forest_in ns) m → IsElement (forest_in news) m
  still_elements m is = (is.0, ap (option_map (λ (d : Node). d.kind)) (still_others m (node_of_kind (forest_in ns) m (ElementNode is.0) is.1)) ∙ is.1)

use Rattle.h5_tree.proofs.DescendantLaws.{below_are}
use Rattle.h5_tree.proofs.ShapeLaws.{block_is_forest, block_is_shaped}
use Rattle.h5_tree.proofs.SoundOrder.{sound_in_order}
use Rattle.h5_tree.proofs.TextLaws.{children_parted}
use Rattle.h5_tree.proofs.laws.sound_blocks_are_forests.Goals as goal

pub returns : goal.returns
returns c = record {
  order = λ b sound small. (sound_in_order b sound small).order;
  shape = λ b sound small. block_is_shaped b (sound_in_order b sound small);
  descendants = λ b sound small n lt. below_are b (sound_in_order b sound small) n lt;
  forest = λ b sound small root some_text no_two.
      let h = sound_in_order b sound small in
      block_is_forest b h root (children_parted b h some_text no_two);
}

use Rattle.h5_arena.specs.ArenaModel.{forest_seen}
use Rattle.h5_tree.proofs.ForestShape.{has_shape}
use Rattle.h5_tree.proofs.of_arena.ArenaTree.node_count.Goals as goal

pub returns-clause-shape : goal.returns-clause-shape
returns-clause-shape c = has_shape (forest_seen c.args.self.now) c.get_document-document.ensures.is_forest

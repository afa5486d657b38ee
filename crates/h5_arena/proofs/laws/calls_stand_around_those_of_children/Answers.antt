use Rattle.h5_arena.proofs.NodeCallLaws.{calls_of_node}
use Rattle.h5_arena.proofs.laws.calls_stand_around_those_of_children.Goals as goal

pub returns : goal.returns
returns c = λ f forest n node is. calls_of_node f n node forest is

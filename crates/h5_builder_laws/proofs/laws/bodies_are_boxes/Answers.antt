use Rattle.h5_builder_laws.proofs.BoxLaws.{bodies_are_boxes}
use Rattle.h5_builder_laws.proofs.laws.bodies_are_boxes.Goals as goal

pub returns : goal.returns
returns c = bodies_are_boxes

use Rattle.h5_builder_laws.proofs.StayingLaws.{stay_in_box}
use Rattle.h5_builder_laws.proofs.laws.nodes_stay_in_their_box.Goals as goal

pub returns : goal.returns
returns c = stay_in_box

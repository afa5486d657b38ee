use Rattle.h5_builder_laws.proofs.BoxLaws.{box_names_lead_to_boxes}
use Rattle.h5_builder_laws.proofs.laws.box_names_lead_to_boxes.Goals as goal

pub returns : goal.returns
returns c = box_names_lead_to_boxes

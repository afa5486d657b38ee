use Rattle.h5_builder_laws.proofs.BoxLaws.{start_tags_lead_to_boxes}
use Rattle.h5_builder_laws.proofs.laws.start_tags_lead_to_boxes.Goals as goal

pub returns : goal.returns
returns c = start_tags_lead_to_boxes

use Rattle.h5_builder_spec.proofs.adoption.AdoptionAgencyLaws.{formatting_not_html}
use Rattle.h5_modes_body.proofs.formatting.in_body_end_formatting.Goals as goal

pub adoption_agency-requires-clause-name : goal.adoption_agency-requires-clause-name
adoption_agency-requires-clause-name g c = formatting_not_html c.args.tag.name c.requires.name

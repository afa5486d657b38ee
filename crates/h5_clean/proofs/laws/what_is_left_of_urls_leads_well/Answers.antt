use Rattle.h5_clean.proofs.AttributeLaws.{left_leads, left_no_script}
use Rattle.h5_clean.proofs.laws.what_is_left_of_urls_leads_well.Goals as goal

pub returns : goal.returns
returns c = record { no_script = left_no_script; listed = left_leads }

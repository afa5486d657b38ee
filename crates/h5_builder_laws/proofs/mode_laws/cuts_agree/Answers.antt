use Rattle.h5_builder_laws.proofs.cuts.RunLaws.{cuts_agree}
use Rattle.h5_builder_laws.proofs.mode_laws.cuts_agree.Goals as goal

pub returns : goal.returns
returns c = cuts_agree

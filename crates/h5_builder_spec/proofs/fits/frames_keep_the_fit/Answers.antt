use Rattle.h5_builder_spec.proofs.fitting.NamesFitLaws.{names_ended, names_frame}
use Rattle.h5_builder_spec.proofs.fits.frames_keep_the_fit.Goals as goal

pub returns-clause-framed : goal.returns-clause-framed
returns-clause-framed c = names_frame

pub returns-clause-ended : goal.returns-clause-ended
returns-clause-ended c = names_ended

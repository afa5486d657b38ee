use Rattle.h5_builder_spec.proofs.fitting.NamesFitLaws.{names_fragment, names_reset}
use Rattle.h5_builder_spec.proofs.fits.a_reset_fits.Goals as goal

pub returns-clause-reset : goal.returns-clause-reset
returns-clause-reset c = names_reset

pub returns-clause-fragment : goal.returns-clause-fragment
returns-clause-fragment c = names_fragment

use Rattle.h5_builder_spec.proofs.fitting.NamesFitLaws.{names_open, names_root}
use Rattle.h5_builder_spec.proofs.fits.the_root_stays.Goals as goal

pub returns-clause-html : goal.returns-clause-html
returns-clause-html c = names_root

pub returns-clause-open : goal.returns-clause-open
returns-clause-open c = names_open

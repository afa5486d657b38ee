use Rattle.h5_builder_spec.proofs.fitting.NamesFitLaws.{names_body_pushed, names_head_popped, names_head_pushed, names_noscript_popped, names_noscript_pushed, names_root_pushed}
use Rattle.h5_builder_spec.proofs.fits.the_head_fits.Goals as goal

pub returns-clause-root : goal.returns-clause-root
returns-clause-root c = names_root_pushed

pub returns-clause-head : goal.returns-clause-head
returns-clause-head c = names_head_pushed

pub returns-clause-after_head : goal.returns-clause-after_head
returns-clause-after_head c = names_head_popped

pub returns-clause-noscript : goal.returns-clause-noscript
returns-clause-noscript c = names_noscript_pushed

pub returns-clause-after_noscript : goal.returns-clause-after_noscript
returns-clause-after_noscript c = names_noscript_popped

pub returns-clause-body : goal.returns-clause-body
returns-clause-body c = names_body_pushed

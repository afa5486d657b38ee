use Rattle.h5_builder_spec.proofs.fitting.NamesFitLaws.{names_frameset_begun}
use Rattle.h5_builder_spec.proofs.fitting.NamesTableLaws.{names_frameset_left, names_frameset_popped, names_frameset_pushed, names_frameset_put}
use Rattle.h5_builder_spec.proofs.fits.framesets_fit.Goals as goal

pub returns-clause-after_head : goal.returns-clause-after_head
returns-clause-after_head c = names_frameset_begun

pub returns-clause-in_place_of_body : goal.returns-clause-in_place_of_body
returns-clause-in_place_of_body c = names_frameset_put

pub returns-clause-pushed : goal.returns-clause-pushed
returns-clause-pushed c = names_frameset_pushed

pub returns-clause-popped : goal.returns-clause-popped
returns-clause-popped c = names_frameset_popped

pub returns-clause-left : goal.returns-clause-left
returns-clause-left c = names_frameset_left

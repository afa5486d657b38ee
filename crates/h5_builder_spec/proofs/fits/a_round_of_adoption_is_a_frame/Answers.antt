use Rattle.h5_builder_spec.proofs.adoption.NamesAdoptionLaws.{frame_adopted}
use Rattle.h5_builder_spec.proofs.fits.a_round_of_adoption_is_a_frame.Goals as goal

pub returns : goal.returns
returns c = frame_adopted

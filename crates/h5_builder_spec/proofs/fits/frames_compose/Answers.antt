use Rattle.h5_builder_spec.proofs.fitting.FrameLaws.{frame_trans}
use Rattle.h5_builder_spec.proofs.fits.frames_compose.Goals as goal

pub returns : goal.returns
returns c = frame_trans

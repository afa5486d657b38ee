use Rattle.h5_driver.proofs.BoxLaws.{pages_keep_boxes}
use Rattle.h5_driver.proofs.laws.pages_keep_boxes.Goals as goal

pub returns : goal.returns
returns g c = pages_keep_boxes g.R.Reader g.met.R.Reader.lawful g.met.R.Reader.texts_stay

use Rattle.h5_builder_spec.proofs.adoption.AdoptionPlace.{block_is_html}
use Rattle.h5_builder_spec.proofs.fits.a_furthest_block_is_html.Goals as goal

pub returns : goal.returns
returns c = λ name f k w may. block_is_html w may

use Rattle.h5_clean.proofs.AttributeLaws.{left_again, left_plain, left_readable}
use Rattle.h5_clean.proofs.laws.what_is_left_of_attributes_can_be_read.Goals as goal

pub returns : goal.returns
returns c = record { plain = left_plain; readable = left_readable; again = left_again }

use Rattle.h5_clean.proofs.TextLaws.{readable_reads, readable_same}
use Rattle.h5_clean.proofs.laws.what_is_left_of_a_text_can_be_read.Goals as goal

pub returns : goal.returns
returns c = record { left = readable_reads; same = readable_same }

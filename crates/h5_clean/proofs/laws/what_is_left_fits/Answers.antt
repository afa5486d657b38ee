use Rattle.h5_clean.proofs.PassLaws.{cleaned_around, cleaned_let, cleaned_plain, cleaned_read, cleaned_unmarked, cleaned_within}
use Rattle.h5_clean.proofs.laws.what_is_left_fits.Goals as goal

pub returns : goal.returns
returns c = record {
  around = cleaned_around;
  plain = cleaned_plain;
  readable = cleaned_read;
  allowed = λ r s. (cleaned_let r s, cleaned_within r s);
  unmarked = cleaned_unmarked;
}

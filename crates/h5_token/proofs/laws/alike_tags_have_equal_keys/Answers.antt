use Rattle.h5_token.proofs.KeyLaws.{keys_are_equal}
use Rattle.h5_token.proofs.laws.alike_tags_have_equal_keys.Goals as goal

pub returns : goal.returns
returns c = keys_are_equal

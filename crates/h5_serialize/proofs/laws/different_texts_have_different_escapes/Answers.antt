use Rattle.h5_serialize.proofs.EscapeLaws.{same_text}
use Rattle.h5_serialize.proofs.laws.different_texts_have_different_escapes.Goals as goal

pub returns : goal.returns
returns c = same_text

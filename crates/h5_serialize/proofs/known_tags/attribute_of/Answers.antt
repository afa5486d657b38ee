use Rattle.std.proofs.Common.{◌++◌}
use Rattle.std.specs.Prelude.{codes}
use Rattle.h5_names.specs.KnownNames.{name_text}
use Rattle.h5_serialize.proofs.KnownTags.{cut_first}
use Rattle.h5_serialize.proofs.known_tags.attribute_of.Goals as goal

pub returns : goal.returns
returns c = cut_first 34 c.next_attribute_of.result.now (codes " " ++ name_text c.args.known ++ codes "=\"") c.next_attribute_of.ensures

use Rattle.std.proofs.Common.{◌∙◌}
use Rattle.h5_names.specs.KnownNames.{name_text}
use Rattle.h5_serialize.proofs.KnownTags.{cut_whole}
use Rattle.h5_serialize.proofs.known_tags.whole_start_of.Goals as goal

pub returns : goal.returns
returns c = cut_whole (name_text c.args.known) c.as_bytes.result.now c.as_str.result.now (c.as_bytes.ensures.value ∙ c.tags_of.ensures) c.as_str.ensures

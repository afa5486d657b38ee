use Rattle.std.proofs.Common.{◌∙◌}
use Rattle.h5_serialize.proofs.KnownTags.{attribute_at_number}
use Rattle.h5_serialize.proofs.known_tags.next_attribute_of.Goals as goal

pub returns : goal.returns
returns c = c.as_bytes.ensures.value ∙ (c.nth_tags.ensures ∙ attribute_at_number c.args.known)

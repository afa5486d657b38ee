use Rattle.std.proofs.Common.{◌∙◌}
use Rattle.h5_serialize.proofs.KnownTags.{tags_at_number}
use Rattle.h5_serialize.proofs.known_tags.tags_of.Goals as goal

pub returns : goal.returns
returns c = c.nth_tags.ensures ∙ tags_at_number c.args.known

use Rattle.std.proofs.Common.{◌∙◌, ap}
use Rattle.h5_names.specs.KnownNames.{name_text}
use Rattle.h5_tables.specs.NameSets.{names_of}
use Rattle.h5_tables.specs.TagSets.{is_one_of}
use Rattle.h5_tables.proofs.NameLemmas.{held_by_name}
use Rattle.h5_tables.proofs.name_sets.NameSets.of.Goals as goal

pub returns : goal.returns
returns c = λ set. c.flags.ensures set ∙ ap (λ known. is_one_of (names_of set) (name_text known)) c.known.ensures ∙ held_by_name set c.args.name.now

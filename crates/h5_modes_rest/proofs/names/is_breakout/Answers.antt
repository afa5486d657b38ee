use Rattle.std.proofs.Common.{refl, ap, ◌∙◌}
use Rattle.h5_names.specs.KnownNames.{known_name_of, known_names, name_text}
use Rattle.h5_names.proofs.KnownNameLemmas.{any_by_name}
use Rattle.h5_tables.specs.TagSets.{is_one_of}
use Rattle.h5_builder_spec.specs.modes.ForeignContent.{foreign_breakout_names}
use Rattle.h5_modes_rest.proofs.names.is_breakout.Goals as goal

pub returns : goal.returns
unfolding foreign_breakout_names known_name_of known_names
returns c =
    c.is_known_breakout.ensures
    ∙ (ap (λ known. is_one_of foreign_breakout_names (name_text known)) c.known.ensures ∙ any_by_name foreign_breakout_names c.args.name.now refl)

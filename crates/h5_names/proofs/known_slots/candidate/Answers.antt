use Rattle.std.proofs.Common.{◌∙◌, ap}
use Rattle.std.specs.Prelude.{slice_index}
use Rattle.h5_names.specs.declared.known_slots.TheConstants.{NUMBERS}
use Rattle.h5_names.specs.KnownNames.{nth_name}
use Rattle.h5_names.proofs.KnownNameLemmas.{name_at_slot}
use Rattle.h5_names.proofs.known_slots.candidate.Goals as goal

pub returns : goal.returns
returns c = λ name e. c.name_of_number.ensures ∙ (ap (λ n. nth_name (slice_index NUMBERS n)) c.slot.ensures.value ∙ name_at_slot c.args.text.now name e)

use Rattle.h5_arena.specs.ArenaModel.{arena_choices}
use Rattle.h5_clean.proofs.CleanedLaws.{stays}
use Rattle.h5_clean.proofs.laws.a_cleaned_text_stays.Goals as goal

pub returns : goal.returns
returns c = stays c.calls_stand_around_those_of_children.ensures (c.fragments_come_back.ensures arena_choices)

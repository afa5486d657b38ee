use Rattle.h5_builder_laws.proofs.turns.TurnLaws.{end_alone, turns_few, turns_some}
use Rattle.h5_builder_laws.proofs.mode_laws.turns_are_few.Goals as goal

pub returns-clause-some : goal.returns-clause-some
returns-clause-some c = turns_some

pub returns-clause-few : goal.returns-clause-few
returns-clause-few c = turns_few

pub returns-clause-end_alone : goal.returns-clause-end_alone
returns-clause-end_alone c = end_alone

use Rattle.h5_builder_laws.proofs.turns.SettleLaws.{one_chain, settle-turn}
use Rattle.h5_builder_laws.proofs.mode_laws.a_token_has_one_chain.Goals as goal

pub returns-clause-one : goal.returns-clause-one
returns-clause-one c = one_chain

pub returns-clause-turn : goal.returns-clause-turn
returns-clause-turn c = settle-turn

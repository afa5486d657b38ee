use Rattle.h5_builder_laws.proofs.cuts.JoinLaws.{replies_join, told_joins, view_joins}
use Rattle.h5_builder_laws.proofs.mode_laws.runs_join.Goals as goal

pub returns-clause-view : goal.returns-clause-view
returns-clause-view c = view_joins

pub returns-clause-told : goal.returns-clause-told
returns-clause-told c = told_joins

pub returns-clause-replies : goal.returns-clause-replies
returns-clause-replies c = replies_join

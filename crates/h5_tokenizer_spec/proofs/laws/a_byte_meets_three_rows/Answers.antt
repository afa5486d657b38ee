use Rattle.h5_tokenizer_spec.proofs.RankLaws.{rank_falls, rank_small, meets_three}
use Rattle.h5_tokenizer_spec.proofs.laws.a_byte_meets_three_rows.Goals as goal

pub returns-clause-falls : goal.returns-clause-falls
returns-clause-falls c = λ table last state x text next h. rank_falls table last state x text next h

pub returns-clause-small : goal.returns-clause-small
returns-clause-small c = λ state x. rank_small state x

pub returns-clause-three : goal.returns-clause-three
returns-clause-three c = λ table last x n s t meets. meets_three table last x n s t meets

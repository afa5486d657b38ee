use Rattle.std.proofs.Common.{inr}
use Rattle.h5_c.proofs.select.hengaruto_closest.Goals as goal

pub returns-in-Err-clause-answered : goal.returns-in-Err-clause-answered
returns-in-Err-clause-answered c has text = inr (c.in-Err.ensures.refused has text)

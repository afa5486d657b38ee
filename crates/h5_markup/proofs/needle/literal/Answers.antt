use Rattle.std.proofs.Common.{sym}
use Rattle.h5_markup.proofs.Finds.{literal_stripped, literal_begun, literal_no}
use Rattle.h5_markup.proofs.needle.literal.Goals as goal

pub returns-in-Some : goal.returns-in-Some
returns-in-Some c = let h = c.in-Some.ensures.cases in literal_stripped _ _ _ h.0 h.1.1 h.2

pub returns-then-starts_with : goal.returns-then-starts_with
returns-then-starts_with c = let h = c.if-starts_with.ensures.cases in literal_begun _ _ h.0 h.1.1 c.in_default.ensures.cases

pub returns-else-starts_with : goal.returns-else-starts_with
returns-else-starts_with c = sym (literal_no _ _ c.in_default.ensures.cases c.if-starts_with.ensures.cases)

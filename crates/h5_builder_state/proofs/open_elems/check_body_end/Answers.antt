use Rattle.std.proofs.Common.{rules}
use Rattle.h5_builder_state.proofs.open_elems.check_body_end.Goals as goal

pub returns-then-has_unclosed-clause-noted : goal.returns-then-has_unclosed-clause-noted
returns-then-has_unclosed-clause-noted g c = search rules

use Rattle.std.proofs.Common.{[], ◌∷◌, subst}
use Rattle.h5_tokenizer_spec.specs.Told.{Tells}
use Rattle.h5_tokenizer_spec.proofs.ToldLaws.{tells_none}
use Rattle.h5_tokenizer_states.proofs.row_errors.tell_one.Goals as goal

pub returns-in-None : goal.returns-in-None
returns-in-None g c = rw c.in-None.is (tells_none g.E.ErrorSink.Told c.args.errors.now)

pub returns-in-Some : goal.returns-in-Some
returns-in-Some g c = rw c.in-Some.is (subst (λ at. Tells g.E.ErrorSink.Told c.args.errors.now c.error.new.self (record { error = c.in-Some.error; at = at } ∷ [])) c.error_position.ensures c.error.ensures)

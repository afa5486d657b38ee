use Rattle.h5_builder_state.proofs.NumberLaws.{numbers_stay}
use Rattle.h5_builder_state.proofs.name_numbers.NameNumbers.number_foreign.Goals as goal

pub returns-in_err-number-clause-stay : goal.returns-in_err-number-clause-stay
returns-in_err-number-clause-stay c = numbers_stay c.args.self.now _ c.number_text.ensures.stay

pub returns-clause-stay : goal.returns-clause-stay
returns-clause-stay c = numbers_stay c.args.self.now _ c.number_text.ensures.stay

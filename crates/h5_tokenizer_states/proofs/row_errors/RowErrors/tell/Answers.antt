use Rattle.h5_tokenizer_spec.specs.Told.{if_any}
use Rattle.h5_tokenizer_spec.proofs.ToldLaws.{tells_thrice}
use Rattle.h5_tokenizer_states.proofs.row_errors.RowErrors.tell.Goals as goal

pub returns : goal.returns
returns g c =
    let row = c.args.self.now in
    tells_thrice g.E.ErrorSink.Told c.args.errors.now c.tell_one.new.errors c.tell_one-2.new.errors c.tell_one-3.new.errors c.args.ahead c.args.at (if_any row.first) (if_any row.second) (if_any row.third)
    c.tell_one.ensures c.tell_one-2.ensures c.tell_one-3.ensures

-- The errors of a row: at most three.
use Rattle.std.specs.Prelude.{List, ◌++◌}
use Rattle.h5_tokenizer_spec.specs.declared.errors.ParseError.{ParseError}
use Rattle.h5_tokenizer_spec.specs.Told.{if_any}
use Rattle.h5_tokenizer_states.specs.declared.row_errors.RowErrors.{RowErrors}

-- all errors of a row, in order
abbrev pub all_of : RowErrors → List ParseError
all_of r = if_any r.first ++ (if_any r.second ++ if_any r.third)

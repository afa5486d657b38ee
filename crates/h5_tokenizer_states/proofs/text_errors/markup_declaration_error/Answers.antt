use Rattle.h5_tokenizer_spec.specs.Told.{if_any}
use Rattle.h5_tokenizer_states.proofs.DeclarationErrorLaws.{opened_or_not}
use Rattle.h5_tokenizer_states.proofs.text_errors.markup_declaration_error.Goals as goal

pub returns : goal.returns
returns c = opened_or_not c.args.seen.now c.args.b c.begins_opening.result (if_any c.only_if.result) c.begins_opening.ensures c.only_if.ensures

use Rattle.std.specs.Prelude.{[], string_bytes}
use Rattle.h5_tokenizer_states.specs.RowErrors.{all_of}
use Rattle.h5_tokenizer_states.specs.StateOf.{return_of}
use Rattle.h5_tokenizer_states.proofs.ReferenceErrorLaws.{named_at_end_errors}
use Rattle.h5_tokenizer_states.proofs.end_errors.reference_end_errors.Goals as goal

pub returns-in-NamedCharacterReference : goal.returns-in-NamedCharacterReference
returns-in-NamedCharacterReference c = λ tag.
    rw c.in-NamedCharacterReference.is
    (named_at_end_errors (return_of c.args.return_to tag) (string_bytes c.args.reference.now.seen) c.as_str-seen.result.now c.named_error.result (all_of c.referring-in-NamedCharacterReference.result) c.as_str-seen.ensures.value
    (c.named_error.ensures tag) (c.referring-in-NamedCharacterReference.ensures tag []))

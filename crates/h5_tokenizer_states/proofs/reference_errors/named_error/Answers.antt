use Rattle.std.proofs.Common.{◌≡◌, List, ℕ, ap, subst, ◌∙◌}
use Rattle.std.specs.Prelude.{None, Some}
use Rattle.h5_tokenizer_states.specs.Found.{found_in}
use Rattle.h5_tokenizer_spec.specs.References.{longest, named}
use Rattle.h5_tokenizer_spec.specs.ReferenceTable.{references}
use Rattle.h5_tokenizer_states.specs.StateOf.{return_of}
use Rattle.h5_tokenizer_states.proofs.ReferenceErrorLaws.{none_named}
use Rattle.h5_tokenizer_states.proofs.ReferenceLaws.{longest_is_ascii}
use Rattle.h5_tokenizer_states.proofs.reference_errors.named_error.Goals as goal

pub found_error-requires : goal.found_error-requires
found_error-requires c =
    longest_is_ascii c.args.seen.now c.in-Some.found
    (subst (λ (seen : List ℕ). found_in seen (Some c.in-Some.found) ≡ longest references seen) c.as_bytes.ensures.value c.in-Some.ensures)

pub returns-in-None : goal.returns-in-None
returns-in-None c = λ tag.
    none_named (return_of c.args.return_to tag) c.args.seen.now c.args.b
    (subst (λ (seen : List ℕ). None ≡ longest references seen) c.as_bytes.ensures.value c.in-None.ensures)

pub returns-in-Some : goal.returns-in-Some
returns-in-Some c = λ tag.
    let same = subst (λ (seen : List ℕ). found_in seen (Some c.in-Some.found) ≡ longest references seen) c.as_bytes.ensures.value c.in-Some.ensures in
    c.found_error.ensures tag ∙ ap (λ found. (named (return_of c.args.return_to tag) c.args.seen.now c.args.b found).errors) same

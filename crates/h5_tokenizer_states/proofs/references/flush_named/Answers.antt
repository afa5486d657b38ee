use Rattle.std.proofs.Common.{◌≡◌, List, ℕ, subst}
use Rattle.std.specs.Prelude.{Some}
use Rattle.h5_tokenizer_states.specs.Found.{found_in}
use Rattle.h5_tokenizer_spec.specs.References.{longest}
use Rattle.h5_tokenizer_spec.specs.ReferenceTable.{references}
use Rattle.h5_tokenizer_states.proofs.ReferenceLaws.{longest_is_ascii}
use Rattle.h5_tokenizer_states.proofs.references.flush_named.Goals as goal

pub flush_found-requires : goal.flush_found-requires
flush_found-requires c =
    longest_is_ascii c.args.seen.now c.in-Some.found
    (subst (λ (seen : List ℕ). found_in seen (Some c.in-Some.found) ≡ longest references seen) c.as_bytes.ensures.value c.in-Some.ensures)

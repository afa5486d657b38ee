use Rattle.std.proofs.Common.{◌≡◌, List, ℕ, ap, length, subst, ◌∙◌}
use Rattle.std.specs.Prelude.{None, Some}
use Rattle.h5_tokenizer_states.specs.Found.{found_in}
use Rattle.h5_tokenizer_spec.specs.References.{longest}
use Rattle.h5_tokenizer_spec.specs.ReferenceTable.{references}
use Rattle.h5_tokenizer_spec.specs.SeenAhead.{behind_found}
use Rattle.h5_tokenizer_states.proofs.ReferenceLaws.{longest_is_ascii}
use Rattle.h5_tokenizer_states.proofs.reference_errors.behind_found.Goals as goal

pub split_found-requires : goal.split_found-requires
split_found-requires c =
    longest_is_ascii c.args.seen.now c.in-Some.found
    (subst (λ (seen : List ℕ). found_in seen (Some c.in-Some.found) ≡ longest references seen) c.as_bytes.ensures.value c.in-Some.ensures)

pub returns-in-None : goal.returns-in-None
returns-in-None c = ap behind_found (subst (λ (seen : List ℕ). None ≡ longest references seen) c.as_bytes.ensures.value c.in-None.ensures)

pub returns-in-Some : goal.returns-in-Some
returns-in-Some c =
    let same = subst (λ (seen : List ℕ). found_in seen (Some c.in-Some.found) ≡ longest references seen) c.as_bytes.ensures.value c.in-Some.ensures in
    ap length c.split_found.ensures.rest ∙ ap behind_found same

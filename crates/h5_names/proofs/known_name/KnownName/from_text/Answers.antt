use Rattle.std.proofs.Common.{◌≡◌, ◌∙◌, sym, ap, false}
use Rattle.std.specs.Prelude.{bytes_eq}
use Rattle.std.proofs.lemmas.Slice.Eq.{bytes_eq-Decides}
use Rattle.h5_names.specs.KnownNames.{mixed_name, name_text}
use Rattle.h5_names.proofs.KnownCaseLemmas.{not_found}
use Rattle.h5_names.proofs.KnownNameLemmas.{found}
use Rattle.h5_names.proofs.known_name.KnownName.from_text.Goals as goal

pub returns-then-eq : goal.returns-then-eq
returns-then-eq c =
    found c.args.text.now c.candidate-lower.result
    (sym c.as_str.ensures ∙ (bytes_eq-Decides c.as_str.result.now c.args.text.now).0 (sym c.eq.ensures ∙ c.if-eq.true))

pub returns-then-eq-2 : goal.returns-then-eq-2
returns-then-eq-2 c =
    found c.args.text.now c.in_mixed_case-mixed.result
    (sym c.as_str-2.ensures ∙ (bytes_eq-Decides c.as_str-2.result.now c.args.text.now).0 (sym c.eq-2.ensures ∙ c.if-eq-2.true))

pub returns-else-eq-2 : goal.returns-else-eq-2
returns-else-eq-2 c =
    let lower : bytes_eq (name_text c.candidate-lower.result) c.args.text.now ≡ false =
    ap (λ t. bytes_eq t c.args.text.now) (sym c.as_str.ensures) ∙ (sym c.eq.ensures ∙ c.if-eq.false) in
    let mixed : bytes_eq (name_text (mixed_name c.candidate-lower.result)) c.args.text.now ≡ false =
    ap (λ k. bytes_eq (name_text k) c.args.text.now) (sym c.in_mixed_case-mixed.ensures)
    ∙ (ap (λ t. bytes_eq t c.args.text.now) (sym c.as_str-2.ensures) ∙ (sym c.eq-2.ensures ∙ c.if-eq-2.false)) in
    not_found c.args.text.now c.candidate-lower.result c.candidate-lower.ensures lower mixed

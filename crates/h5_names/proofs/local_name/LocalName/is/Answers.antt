use Rattle.std.proofs.Common.{◌∙◌, sym}
use Rattle.h5_names.specs.declared.known_name.KnownName.TheVariants.{Other}
use Rattle.h5_names.proofs.KnownNameLemmas.{equal_names, unequal_names, known_of_text, not_text_of, same_known}
use Rattle.h5_names.proofs.local_name.LocalName.is.Goals as goal

pub returns-then-ne : goal.returns-then-ne
returns-then-ne c =
    let d = unequal_names c.known.result c.args.known (sym c.ne.ensures ∙ c.if-ne.true) in
    sym (not_text_of c.args.self.now c.args.known (λ e. d (c.known.ensures ∙ e)))

pub returns-then-ne-2 : goal.returns-then-ne-2
returns-then-ne-2 c =
    let e = equal_names c.known.result c.args.known (sym c.ne.ensures ∙ c.if-ne.false) in
    let d = unequal_names c.args.known Other (sym c.ne-2.ensures ∙ c.if-ne-2.true) in
    c.if-ne-2.true
    ∙ sym (same_known c.args.self.now _ (sym c.known.ensures ∙ (e ∙ sym (known_of_text c.args.known)))
    (λ k. d (sym e ∙ (c.known.ensures ∙ k))))

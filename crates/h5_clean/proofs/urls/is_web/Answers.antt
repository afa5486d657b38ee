use Rattle.std.proofs.Common.{◌≡◌, ◌||◌, ◌∙◌, [], ap, codes, false, sym, true}
use Rattle.h5_clean.proofs.SchemeLaws.{images, is_named}
use Rattle.h5_clean.proofs.urls.is_web.Goals as goal

pub returns-then-spells : goal.returns-then-spells
returns-then-spells c =
    let named : is_named (codes "http") c.args.url.now ≡ true = sym (c.spells.ensures []) ∙ c.if-spells.true in
    c.if-spells.true ∙ sym (images c.args.url.now (sym c.has_scheme.ensures ∙ c.if-has_scheme.true) ∙ ap (λ v. v || is_named (codes "https") c.args.url.now) named)

pub returns-else-spells : goal.returns-else-spells
returns-else-spells c =
    let named : is_named (codes "http") c.args.url.now ≡ false = sym (c.spells.ensures []) ∙ c.if-spells.false in
    c.spells-else-spells.ensures [] ∙ sym (images c.args.url.now (sym c.has_scheme.ensures ∙ c.if-has_scheme.true) ∙ ap (λ v. v || is_named (codes "https") c.args.url.now) named)

use Rattle.std.proofs.Common.{◌≡◌, ◌||◌, ◌∙◌, [], ap, codes, false, sym, true}
use Rattle.h5_clean.proofs.SchemeLaws.{is_named, scripts}
use Rattle.h5_clean.proofs.urls.has_script_scheme.Goals as goal

pub returns-then-spells : goal.returns-then-spells
returns-then-spells c =
    let named : is_named (codes "javascript") c.args.url.now ≡ true = sym (c.spells.ensures []) ∙ c.if-spells.true in
    c.if-spells.true ∙ sym (scripts c.args.url.now (sym c.has_scheme.ensures ∙ c.if-has_scheme.true) ∙ ap (λ v. v || is_named (codes "vbscript") c.args.url.now) named)

pub returns-else-spells : goal.returns-else-spells
returns-else-spells c =
    let named : is_named (codes "javascript") c.args.url.now ≡ false = sym (c.spells.ensures []) ∙ c.if-spells.false in
    c.spells-else-spells.ensures [] ∙ sym (scripts c.args.url.now (sym c.has_scheme.ensures ∙ c.if-has_scheme.true) ∙ ap (λ v. v || is_named (codes "vbscript") c.args.url.now) named)

use Rattle.std.proofs.Common.{◌||◌, ◌∙◌, [], ap, codes, sym}
use Rattle.h5_clean.specs.DefaultPolicy.{has_scheme_of, link_schemes}
use Rattle.h5_clean.specs.Urls.{behind_controls, scheme_of_visible}
use Rattle.h5_clean.proofs.SchemeLaws.{is_named, links}
use Rattle.h5_clean.proofs.urls.is_link.Goals as goal

pub returns-then-is_web : goal.returns-then-is_web
returns-then-is_web c =
    let visible = c.behind_controls-visible.ensures ∙ ap behind_controls c.as_bytes.ensures.value in
    let web = sym c.is_web.ensures ∙ c.if-is_web.true in
    c.if-is_web.true
    ∙ (sym (links c.behind_controls-visible.result.now ∙ ap (λ v. v || is_named (codes "mailto") c.behind_controls-visible.result.now) web)
    ∙ ap (λ u. has_scheme_of link_schemes (scheme_of_visible u)) visible)

pub returns-else-is_web : goal.returns-else-is_web
returns-else-is_web c =
    let visible = c.behind_controls-visible.ensures ∙ ap behind_controls c.as_bytes.ensures.value in
    let web = sym c.is_web.ensures ∙ c.if-is_web.false in
    c.spells.ensures []
    ∙ (sym (links c.behind_controls-visible.result.now ∙ ap (λ v. v || is_named (codes "mailto") c.behind_controls-visible.result.now) web)
    ∙ ap (λ u. has_scheme_of link_schemes (scheme_of_visible u)) visible)

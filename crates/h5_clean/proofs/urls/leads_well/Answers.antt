use Rattle.std.proofs.Common.{◌≡◌, Bool, List, ap, cond, false, map, string_bytes, sym, true, ℕ, ◌∙◌}
use Rattle.h5_clean.specs.AllowLists.{leads_by, leads_well}
use Rattle.h5_clean.specs.Urls.{behind_controls, is_fragment_first, scheme_of_visible}
use Rattle.h5_clean.proofs.SchemeLaws.{listed, where_none, where_some}
use Rattle.h5_clean.proofs.urls.leads_well.Goals as goal

-- what a URL without leading C0 controls and spaces says of where it leads
abbrev leads_visibly : (relative : Bool) (names : List (List ℕ)) → List ℕ → Bool
leads_visibly relative names url = cond (is_fragment_first url) true (leads_by relative names (scheme_of_visible url))

pub returns-then-is_fragment_first : goal.returns-then-is_fragment_first
returns-then-is_fragment_first c =
    let names = map string_bytes c.args.schemes.now in
    let visible = c.behind_controls-visible.ensures ∙ ap behind_controls c.as_bytes.ensures.value in
    let first = sym c.is_fragment_first.ensures ∙ c.if-is_fragment_first.true in
    sym (ap (λ b. cond b true (leads_by c.args.relative names (scheme_of_visible c.behind_controls-visible.result.now))) first)
    ∙ ap (leads_visibly c.args.relative names) visible

pub returns-then-has_scheme : goal.returns-then-has_scheme
returns-then-has_scheme c =
    let names = map string_bytes c.args.schemes.now in
    let url = c.behind_controls-visible.result.now in
    let visible = c.behind_controls-visible.ensures ∙ ap behind_controls c.as_bytes.ensures.value in
    let no_fragment = sym c.is_fragment_first.ensures ∙ c.if-is_fragment_first.false in
    let has_one = sym c.has_scheme.ensures ∙ c.if-has_scheme.true in
    c.spells_one.ensures
    ∙ (sym (listed string_bytes url c.args.schemes.now has_one)
    ∙ (sym (where_some c.args.relative names (scheme_of_visible url) has_one)
    ∙ (sym (ap (λ b. cond b true (leads_by c.args.relative names (scheme_of_visible url))) no_fragment)
    ∙ ap (leads_visibly c.args.relative names) visible)))

pub returns-else-has_scheme : goal.returns-else-has_scheme
returns-else-has_scheme c =
    let names = map string_bytes c.args.schemes.now in
    let url = c.behind_controls-visible.result.now in
    let visible = c.behind_controls-visible.ensures ∙ ap behind_controls c.as_bytes.ensures.value in
    let no_fragment = sym c.is_fragment_first.ensures ∙ c.if-is_fragment_first.false in
    let has_none = sym c.has_scheme.ensures ∙ c.if-has_scheme.false in
    sym (where_none c.args.relative names (scheme_of_visible url) has_none)
    ∙ (sym (ap (λ b. cond b true (leads_by c.args.relative names (scheme_of_visible url))) no_fragment)
    ∙ ap (leads_visibly c.args.relative names) visible)

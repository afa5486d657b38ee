use Rattle.std.proofs.Common.{[], ◌∷◌, ◌||◌, map, ap, sym, ◌∙◌}
use Rattle.std.proofs.lemmas.List.{map-append}
use Rattle.h5_page.specs.Attributes.{is_hidden, is_hiding}
use Rattle.h5_page.proofs.AttributeLaws.{any_more}
use Rattle.h5_page.proofs.attributes.is_hidden.Goals as goal

pub attributes-preserved : goal.attributes-preserved
attributes-preserved g c =
    let attribute = g.T.AttrRef.attribute in
    let attr = c.in-Some.attr in
    let ns = c.args.ns.now in
    c.in_ok-hidden.ensures
    ∙ ap (λ h. h || is_hiding ns (attribute attr)) c.attributes.invariant
    ∙ sym (any_more (is_hiding ns) (map attribute c.attributes.yielded) (attribute attr))
    ∙ ap (is_hidden ns) (sym (map-append attribute c.attributes.yielded (attr ∷ [])))

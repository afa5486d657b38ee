use Rattle.std.proofs.Common.{[], ◌∷◌, map, ap, sym, ◌∙◌}
use Rattle.std.proofs.lemmas.List.{map-append}
use Rattle.h5_page.specs.Links.{href_of, or_next}
use Rattle.h5_page.proofs.LinkLaws.{one_more}
use Rattle.h5_page.proofs.links.href_of.Goals as goal

pub attributes-preserved : goal.attributes-preserved
attributes-preserved g c =
    let attribute = g.T.AttrRef.attribute in
    let attr = c.in-Some.attr in
    c.in_ok-href.ensures
    ∙ ap (λ found. or_next found (href_of (attribute attr ∷ []))) c.attributes.invariant
    ∙ sym (one_more (map attribute c.attributes.yielded) (attribute attr))
    ∙ ap href_of (sym (map-append attribute c.attributes.yielded (attr ∷ [])))

use Rattle.std.proofs.Common.{[], ◌∷◌, map, ap, sym, ◌∙◌}
use Rattle.std.proofs.lemmas.List.{map-append}
use Rattle.h5_page.specs.Attributes.{said_of, with_attribute}
use Rattle.h5_page.proofs.AttributeLaws.{one_more}
use Rattle.h5_page.proofs.attributes.said_of.Goals as goal

pub attributes-preserved : goal.attributes-preserved
attributes-preserved g c =
    let attribute = g.T.AttrRef.attribute in
    let attr = c.in-Some.attr in
    let ns = c.args.ns.now in
    let asked = c.args.asked.now in
    c.in_ok-said.ensures
    ∙ ap (λ s. with_attribute ns asked s (attribute attr)) c.attributes.invariant
    ∙ sym (one_more ns asked (map attribute c.attributes.yielded) (attribute attr))
    ∙ ap (said_of ns asked) (sym (map-append attribute c.attributes.yielded (attr ∷ [])))

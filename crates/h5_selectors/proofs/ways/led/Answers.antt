use Rattle.std.proofs.Common.{◌∙◌, ◌-◌, ap, length, map, sym}
use Rattle.std.specs.Prelude.{slice_get}
use Rattle.std.specs.Option.{option_to_list}
use Rattle.std.proofs.lemmas.Result.{IfOk-weaker}
use Rattle.h5_selectors.specs.Ways.{last_of, led}
use Rattle.h5_selectors.proofs.LastLaws.{mapped_last}
use Rattle.h5_selectors.proofs.ways.led.Goals as goal

pub returns-in_ok-before-in-Previous : goal.returns-in_ok-before-in-Previous
returns-in_ok-before-in-Previous g c =
    let node = g.T.Tree.number in
    IfOk-weaker c.one_or_none-in-Previous.result _ _
    (λ found is.
    ap (map node) is
    ∙ ap (λ o. map node (option_to_list o)) (c.copied.ensures ∙ c.last.ensures.value ∙ ap (λ l. slice_get l (length l - 1)) c.deref.ensures.value)
    ∙ mapped_last node c.in_ok-before-in-Previous.before.items
    ∙ ap last_of c.in_ok-before-in-Previous.ensures
    ∙ sym (ap (λ way. led way (g.T.Tree.forest c.args.tree.now) (node c.args.id)) c.in-Previous.is))
    c.one_or_none-in-Previous.ensures

use Rattle.std.proofs.Common.{◌≡◌, Bor, List, map, ap, sym, ◌∙◌}
use Rattle.std.proofs.lemmas.Iterator.{YieldsList-from_slice}
use Rattle.std.proofs.lemmas.Iterator.Consumers.{map_from_collect}
use Rattle.std.proofs.lemmas.Result.{IfOk-weaker}
use Rattle.std.proofs.lemmas.Simd.{map-map}
use Rattle.h5_names.specs.AttributeText.{attribute_texts}
use Rattle.h5_names.specs.declared.qualified.Attribute.{Attribute}
use Rattle.h5_token.specs.Lent.{lent_texts}
use Rattle.h5_token.proofs.alike.lent.Goals as goal

seen : (xs : List (Bor Attribute)) → lent_texts xs ≡ attribute_texts (map (λ (x : Bor Attribute). x.now) xs)
seen xs = sym (map-map _ _ xs)

pub returns : goal.returns
returns c =
    IfOk-weaker c.collect.result _ _ (λ all e. seen all.items ∙ ap (λ xs. attribute_texts xs) e)
    (map_from_collect _ c.collect.ensures.ran (YieldsList-from_slice c.args.attrs.now cc))

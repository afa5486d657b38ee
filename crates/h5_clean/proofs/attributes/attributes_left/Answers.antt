use Rattle.std.proofs.Common.{◌≡◌, ℕ, List, [], ◌∷◌, ◌++◌, map, ap, sym, ◌∙◌}
use Rattle.std.proofs.lemmas.List.{map-append}
use Rattle.h5_names.specs.AttributeText.{AttributeText}
use Rattle.h5_clean.specs.Policies.{Rules, left_behind}
use Rattle.h5_clean.proofs.AttributeLaws.{left_append}
use Rattle.h5_clean.proofs.attributes.attributes_left.Goals as goal

one_more : {X : Type 0} (r : Rules) (e : List ℕ) (text : X → AttributeText) (seen : List X) (x : X) (old new : List AttributeText) → new ≡ left_behind r e old (text x ∷ [])
    → old ≡ left_behind r e [] (map text seen) → new ≡ left_behind r e [] (map text (seen ++ x ∷ []))
one_more r e text seen x old new h before =
    h ∙ ap (λ l. left_behind r e l (text x ∷ [])) before ∙ sym (left_append r e [] (map text seen) (text x ∷ []))
    ∙ ap (left_behind r e []) (sym (map-append text seen (x ∷ [])))

pub attributes-preserved : goal.attributes-preserved
attributes-preserved g c =
    one_more (g.P.Policy.rules c.args.policy.now) c.args.element.now g.T.AttrRef.attribute c.attributes.yielded c.in-Some.attr _ _ c.in_ok-keep.ensures c.attributes.invariant

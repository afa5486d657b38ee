-- In the order of attributes, only equal ones tie.
use Rattle.std.proofs.Common.{◌≡◌, ℕ, List, Option, Some, None, refl, ap, ◌∙◌}
use Rattle.std.specs.Cmp.{IsTotalOrder}
use Rattle.std.specs.Cmp.Lexicographic.{options_total, texts_ties}
use Rattle.std.specs.Option.{option_cmp}
use Rattle.std.specs.Ordering.{is_eq, ordering_then}
use Rattle.std.specs.declared.cmp.Ordering.{Ordering}
use Rattle.std.specs.declared.cmp.Ordering.TheVariants.{Less, Equal, Greater}
use Rattle.std.proofs.lemmas.Cmp.{nat_list_cmp_total, on_total, then_total}
use Rattle.std.proofs.lemmas.Slice.Eq.{bytes_eq-Decides}
use Rattle.h5_names.specs.AttributeText.{AttributeText}
use Rattle.h5_names.specs.Laws.{attribute_order, name_order, text_order}
use Rattle.h5_names.specs.declared.qualified.QualName.{QualName}

name_order_is_total : IsTotalOrder name_order
name_order_is_total =
    then_total (on_total (λ (n : QualName). n.prefix) (options_total nat_list_cmp_total))
    (then_total (on_total (λ (n : QualName). n.ns) nat_list_cmp_total) (on_total (λ (n : QualName). n.local) nat_list_cmp_total))

pub attribute_order_is_total : IsTotalOrder attribute_order
attribute_order_is_total =
    then_total (on_total (λ (a : AttributeText). a.name) name_order_is_total) (on_total (λ (a : AttributeText). a.value) nat_list_cmp_total)

both_tie : (a b : Ordering) → ordering_then a b ≡ Equal → (a ≡ Equal) × (b ≡ Equal)
both_tie Less b e = (cc, cc)
both_tie Equal b e = (refl, e)
both_tie Greater b e = (cc, cc)

texts_tie : (x y : List ℕ) → text_order x y ≡ Equal → x ≡ y
texts_tie x y e = (bytes_eq-Decides x y).0 (texts_ties x y ∙ ap is_eq e)

prefixes_tie : (x y : Option (List ℕ)) → option_cmp text_order x y ≡ Equal → x ≡ y
prefixes_tie None None e = refl
prefixes_tie None (Some y) e = cc
prefixes_tie (Some x) None e = cc
prefixes_tie (Some x) (Some y) e = ap Some (texts_tie x y e)

names_tie : (x y : QualName) → name_order x y ≡ Equal → x ≡ y
names_tie x y e =
    let first = both_tie _ _ e in
    let rest = both_tie _ _ first.1 in
    λ i. record { prefix = prefixes_tie x.prefix y.prefix first.0 i; ns = texts_tie x.ns y.ns rest.0 i; local = texts_tie x.local y.local rest.1 i }

pub attributes_tie : (x y : AttributeText) → attribute_order x y ≡ Equal → x ≡ y
attributes_tie x y e =
    let parts = both_tie _ _ e in
    λ i. record { name = names_tie x.name y.name parts.0 i; value = texts_tie x.value y.value parts.1 i }

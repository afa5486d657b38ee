-- An HTML element isn't one of MathML or SVG.
use Rattle.std.proofs.Common.{◌≡◌, false, true, ap, refl, sym}
use Rattle.std.specs.Cmp.Lexicographic.{same_text}
use Rattle.h5_names.specs.AttributeText.{is_same_text}
use Rattle.h5_names.specs.declared.qualified.QualName.{QualName}
use Rattle.h5_tables.specs.TagSets.{html_namespace, is_foreign_special, mathml_namespace, svg_namespace}

pub html_is_not_foreign : (n : QualName) → is_same_text n.ns html_namespace ≡ true → is_foreign_special n ≡ false
unfolding is_foreign_special html_namespace mathml_namespace svg_namespace
html_is_not_foreign n e =
    let is : n.ns ≡ html_namespace = same_text n.ns html_namespace (sym e) in
    rw (ap (λ ns. is_same_text ns mathml_namespace) is, ap (λ ns. is_same_text ns svg_namespace) is) refl

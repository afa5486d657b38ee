-- Namespaces that HTML knows are the same exactly if their texts are.
use Rattle.std.proofs.Common.{◌≡◌, ◌≢◌, Bool, true, false, Some, refl, sym, ap, ◌∙◌, rules}
use denote.Enum.Bare.{sameb, same_true, same_false}
use Rattle.std.specs.Prelude.{bytes_eq}
use Rattle.std.proofs.lemmas.Slice.Eq.{bytes_eq-Decides}
use Rattle.h5_names.specs.Urls.{found_url, known_text}
use Rattle.h5_names.specs.contracts.namespace_url.Known.{the_type}
use Rattle.h5_names.specs.declared.namespace_url.Known.{Known}
use Rattle.h5_names.specs.declared.namespace_url.Known.TheVariants.{NoNamespace, Html, MathMl, Svg, XLink, Xml, Xmlns}
use Rattle.h5_names.proofs.KnownNameLemmas.{same_tests}

found_again : (known : Known) → found_url (known_text known) ≡ Some known
found_again NoNamespace = refl
found_again Html = refl
found_again MathMl = refl
found_again Svg = refl
found_again XLink = refl
found_again Xml = refl
found_again Xmlns = refl

one_by_text : (x y : Known) → known_text x ≡ known_text y → x ≡ y
one_by_text x y e = let f : Some x ≡ Some y = sym (found_again x) ∙ (ap found_url e ∙ found_again y) in cc

true_unless : (b : Bool) → b ≢ false → b ≡ true
true_unless true h = refl
true_unless false h = absurd (h refl)

pub same_by_number : (x y : Known) → sameb the_type x y ≡ bytes_eq (known_text x) (known_text y)
same_by_number x y =
    same_tests _ _
    (λ h. (bytes_eq-Decides (known_text x) (known_text y)).1 (ap known_text (same_true the_type (search rules) x y h)))
    (λ h. true_unless (sameb the_type x y) (λ f. same_false the_type x y f (one_by_text x y ((bytes_eq-Decides (known_text x) (known_text y)).0 h))))

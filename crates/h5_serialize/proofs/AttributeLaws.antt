-- The text of attributes, one after another.
use Rattle.std.proofs.Common.{◌≡◌, ◌++◌, ◌∷◌, ◌∙◌, ℕ, List, [], ap, append_assoc, append-nil, arith, length, refl, sym}
use Rattle.std.specs.List.{flat_map}
use Rattle.std.specs.Prelude.{codes}
use Rattle.h5_names.specs.AttributeText.{AttributeText}
use Rattle.h5_names.specs.declared.qualified.QualName.{QualName}
use Rattle.h5_serialize.specs.Writing.{attribute_begun, attribute_front, attribute_next, attribute_prefix, attribute_written}

-- an attribute without a namespace has no prefix
no_prefix_in : (name : QualName) (ns : List ℕ) → name.ns ≡ ns → length ns ≡ 0 → attribute_prefix name ≡ []
no_prefix_in name [] e none = rw e refl
no_prefix_in name (x ∷ ns) e none = absurd (omega (arith, none))

pub no_prefix : (name : QualName) (ns : List ℕ) → ns ≡ name.ns → length ns ≡ 0 → attribute_prefix name ≡ []
no_prefix name ns e none = no_prefix_in name ns (sym e) none

-- so it begins with its name only
pub front_of_known : (name : QualName) (text : List ℕ) → attribute_prefix name ≡ [] → text ≡ name.local → codes " " ++ text ++ codes "=\"" ≡ attribute_front name
front_of_known name text e f = λ i. ((codes " " ++ sym e i) ++ f i) ++ codes "=\""

-- attributes without the last closing quote, and then that quote and the tag's end
pub closed : (start : List ℕ) (first : AttributeText) (rest : List AttributeText)
    → (start ++ flat_map attribute_written (first ∷ rest)) ++ codes ">" ≡ ((start ++ attribute_begun first) ++ flat_map attribute_next rest) ++ codes "\">"
closed start x [] =
    let value = attribute_begun x in
    ap (λ l. (start ++ l) ++ codes ">") (append-nil (value ++ codes "\""))
    ∙ ap (λ l. l ++ codes ">") (sym (append_assoc start value (codes "\"")))
    ∙ append_assoc (start ++ value) (codes "\"") (codes ">")
    ∙ ap (λ l. l ++ codes "\">") (sym (append-nil (start ++ value)))
closed start x (y ∷ ys) =
    let value = attribute_begun x in
    let more = flat_map attribute_next ys in
    ap (λ l. l ++ codes ">") (sym (append_assoc start (attribute_written x) (flat_map attribute_written (y ∷ ys))))
    ∙ closed (start ++ attribute_written x) y ys
    ∙ ap (λ l. ((l ++ attribute_begun y) ++ more) ++ codes "\">") (sym (append_assoc start value (codes "\"")))
    ∙ ap (λ l. (l ++ more) ++ codes "\">") (append_assoc (start ++ value) (codes "\"") (attribute_begun y))
    ∙ ap (λ l. l ++ codes "\">") (append_assoc (start ++ value) (attribute_next y) more)

-- The errors of a tag that is emitted.
use Rattle.std.proofs.Common.{◌≡◌, ℕ, Bool, true, false, List, [], ◌∷◌, ◌++◌, refl, sym, ap, ◌∙◌, subst, arith, length, nat_lt, if◌then◌else◌}
use Rattle.std.proofs.lemmas.Bool.{false≢true}
use Rattle.std.proofs.lemmas.Bool.Decides.{nat_tests}
use Rattle.std.specs.Prelude.{◌&&◌, ◌==◌, not, Option, Some, None}
use Rattle.h5_names.specs.AttributeText.{AttributeText, attribute_texts}
use Rattle.h5_names.specs.declared.qualified.Attribute.{Attribute as NameAttribute}
use Rattle.h5_markup.specs.Attributes.{attribute_named, is_named_in}
use Rattle.h5_tokenizer_spec.specs.declared.errors.ParseError.{ParseError}
use Rattle.h5_tokenizer_spec.specs.declared.errors.ParseError.TheVariants.{EndTagWithAttributes, EndTagWithTrailingSolidus}
use Rattle.h5_tokenizer_spec.specs.Construction.{Attribute, Tag, completed, with_complete}
use Rattle.h5_tokenizer_spec.specs.Told.{if_any}
use Rattle.h5_tokenizer_spec.specs.Turn.{hand_complete, hand_tag, is_end}

two_errors : (p q : Bool) (e f : ParseError) → (if p then e ∷ (if q then f ∷ [] else []) else (if q then f ∷ [] else [])) ≡ (if p then e ∷ [] else []) ++ (if q then f ∷ [] else [])
two_errors true q e f = refl
two_errors false q e f = refl

-- the errors of a tag, by its attributes and its self-closing flag
abbrev tag_errors : Tag → Bool → Bool → List ParseError
tag_errors t has closes = (if is_end t.kind && has then EndTagWithAttributes ∷ [] else []) ++ (if is_end t.kind && closes then EndTagWithTrailingSolidus ∷ [] else [])

errors_by : (b : Bool) (t : Tag) (closes : Bool) (more : List AttributeText)
    → (hand_complete (if b then record t { self_closing = closes; duplicates = true; current = None } else record t { self_closing = closes; attrs = t.attrs ++ more; current = None })).errors
    ≡ tag_errors t (nat_lt 0 (length (if b then record t { duplicates = true; current = None } else record t { attrs = t.attrs ++ more; current = None }).attrs)) closes
errors_by true t closes more = two_errors (is_end t.kind && nat_lt 0 (length t.attrs)) (is_end t.kind && closes) EndTagWithAttributes EndTagWithTrailingSolidus
errors_by false t closes more = two_errors (is_end t.kind && nat_lt 0 (length (t.attrs ++ more))) (is_end t.kind && closes) EndTagWithAttributes EndTagWithTrailingSolidus

errors_with : (t : Tag) (closes : Bool) (current : Option Attribute)
    → (hand_complete (with_complete (record t { self_closing = closes }) current)).errors ≡ tag_errors t (nat_lt 0 (length (with_complete t current).attrs)) closes
errors_with t closes None = two_errors (is_end t.kind && nat_lt 0 (length t.attrs)) (is_end t.kind && closes) EndTagWithAttributes EndTagWithTrailingSolidus
errors_with t closes (Some a) = errors_by (is_named_in a.name t.attrs) t closes (attribute_named a.name a.value ∷ [])

pub handed_as : (first second third : Option ParseError) (t : Tag) (closes e has : Bool) → e ≡ is_end t.kind → has ≡ nat_lt 0 (length (completed t).attrs)
    → if_any second ≡ (if e && has then EndTagWithAttributes ∷ [] else []) → if_any third ≡ (if e && closes then EndTagWithTrailingSolidus ∷ [] else [])
    → if_any first ++ (if_any second ++ if_any third) ≡ if_any first ++ (hand_tag (record t { self_closing = closes })).errors
handed_as first second third t closes e has is_end_so has_so two three =
    ap (λ l. if_any first ++ l)
    ((λ i. two i ++ three i)
    ∙ (λ i. (if is_end_so i && has_so i then EndTagWithAttributes ∷ [] else []) ++ (if is_end_so i && closes then EndTagWithTrailingSolidus ∷ [] else []))
    ∙ sym (errors_with t closes t.current))

-- a tag with complete attributes has attributes, whether its current one is complete or not
has_some : (xs : List AttributeText) (a : AttributeText) → nat_lt 0 (length (xs ++ a ∷ [])) ≡ true
has_some [] a = refl
has_some (x ∷ xs) a = grind (arith, nat_tests)

named_some : (xs : List AttributeText) (name : List ℕ) → is_named_in name xs ≡ true → nat_lt 0 (length xs) ≡ true
named_some [] name e = absurd (false≢true e)
named_some (x ∷ xs) name e = grind (arith, nat_tests)

some_by : (b : Bool) (t : Tag) (a : Attribute) → is_named_in a.name t.attrs ≡ b
    → true ≡ nat_lt 0 (length (if b then record t { duplicates = true; current = None } else record t { attrs = t.attrs ++ attribute_named a.name a.value ∷ []; current = None }).attrs)
some_by true t a e = sym (named_some t.attrs a.name e)
some_by false t a e = sym (has_some t.attrs (attribute_named a.name a.value))

-- with a current attribute: it is added, or the tag already has its name
some_by_one : (t : Tag) (a : Attribute) → true ≡ nat_lt 0 (length (with_complete t (Some a)).attrs)
some_by_one t a = some_by (is_named_in a.name t.attrs) t a refl

pub some_current : (t : Tag) (a : Attribute) → t.current ≡ Some a → true ≡ nat_lt 0 (length (completed t).attrs)
some_current t a e = subst (λ current. true ≡ nat_lt 0 (length (with_complete t current).attrs)) (sym e) (some_by_one t a)

-- no current attribute
is_some : (xs : List NameAttribute) → not (length xs == 0) ≡ nat_lt 0 (length (attribute_texts xs))
is_some [] = refl
is_some (x ∷ xs) = grind (arith, nat_tests)

pub no_current : (t : Tag) (kept : List NameAttribute) (empty : Bool) → t.current ≡ None → t.attrs ≡ attribute_texts kept → empty ≡ (length kept == 0) → not empty ≡ nat_lt 0 (length (completed t).attrs)
no_current t kept empty e attrs is =
    ap not is ∙ is_some kept ∙ ap (λ l. nat_lt 0 (length l)) (sym attrs) ∙ ap (λ current. nat_lt 0 (length (with_complete t current).attrs)) (sym e)

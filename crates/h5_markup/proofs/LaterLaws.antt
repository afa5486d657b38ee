-- The names of attributes after the first few.
use Rattle.std.proofs.Common.{◌≡◌, ℕ, ◌≤◌, Bool, true, false, ◌||◌, List, [], ◌∷◌, ◌++◌, cond, length, take, drop, refl, sym, ap, ◌∙◌, arith}
use Rattle.std.proofs.lemmas.List.{take-map, take-append-drop, drop-append-le, drop_all, length-map}
use Rattle.std.proofs.lemmas.List.Folds.{list_any-append}
use Rattle.std.proofs.lemmas.Map.Text.{is_eq-slice_cmp}
use Rattle.std.specs.BTreeSet.{BTreeSet, Updates, contains}
use Rattle.h5_names.specs.AttributeText.{AttributeText, attribute_text, attribute_texts, is_same_text}
use Rattle.h5_names.specs.Laws.{text_order}
use Rattle.h5_names.specs.declared.qualified.Attribute.{Attribute}
use Rattle.h5_markup.specs.Attributes.{is_named_in}
use Rattle.h5_markup.specs.Later.{AreNamesBehind}
use Rattle.h5_markup.proofs.AttributeLaws.{texts_push}

named_in_parts : (n : ℕ) (name : List ℕ) (xs : List Attribute) → is_named_in name (attribute_texts xs) ≡ (is_named_in name (attribute_texts (take n xs)) || is_named_in name (drop n (attribute_texts xs)))
named_in_parts n name xs =
    ap (is_named_in name) (sym (take-append-drop n (attribute_texts xs)))
    ∙ list_any-append (λ (a : AttributeText). is_same_text a.name.local name) (take n (attribute_texts xs)) (drop n (attribute_texts xs))
    ∙ ap (λ l. is_named_in name l || is_named_in name (drop n (attribute_texts xs))) (take-map attribute_text n xs)

-- a name that is among the first few
pub named_before : (n : ℕ) (name : List ℕ) (xs : List Attribute) (found : Bool) → found ≡ is_named_in name (attribute_texts (take n xs)) → found ≡ true → found ≡ is_named_in name (attribute_texts xs)
named_before n name xs found e h = h ∙ sym (named_in_parts n name xs ∙ ap (λ b. b || is_named_in name (drop n (attribute_texts xs))) (sym e ∙ h))

-- another name is looked up
pub named_behind : (n : ℕ) (name : List ℕ) (xs : List Attribute) (names : BTreeSet (List ℕ)) (found : Bool) → found ≡ is_named_in name (attribute_texts (take n xs)) → found ≡ false → AreNamesBehind n (attribute_texts xs) names → contains text_order names name ≡ is_named_in name (attribute_texts xs)
named_behind n name xs names found e h are = are.each name ∙ sym (named_in_parts n name xs ∙ ap (λ b. b || is_named_in name (drop n (attribute_texts xs))) (sym e ∙ h))

none_behind : (n : ℕ) (xs : List Attribute) → length xs ≤ n → drop n (attribute_texts xs) ≡ []
none_behind n xs le = drop_all n (attribute_texts xs) (omega (arith, length-map xs attribute_text))

-- if there are only the first few, there are no later ones
pub still_none : (n : ℕ) (xs ys : List Attribute) (names : BTreeSet (List ℕ)) → AreNamesBehind n (attribute_texts xs) names → length xs ≤ n → length ys ≤ n → AreNamesBehind n (attribute_texts ys) names
still_none n xs ys names are le more = record { each = λ name. are.each name ∙ ap (is_named_in name) (none_behind n xs le ∙ sym (none_behind n ys more)) }

or_last : (b c : Bool) → cond b true c ≡ (c || (b || false))
or_last true true = refl
or_last true false = refl
or_last false true = refl
or_last false false = refl

-- an attribute and its name are added
pub one_behind : (n : ℕ) (xs ys : List Attribute) (x : Attribute) (name : List ℕ) (old new : BTreeSet (List ℕ)) → AreNamesBehind n (attribute_texts xs) old → n ≤ length xs → name ≡ x.name.local → Updates text_order old new name true → ys ≡ xs ++ x ∷ [] → AreNamesBehind n (attribute_texts ys) new
one_behind n xs ys x name old new are le same updates e = record {
  each = λ q.
      let behind : drop n (attribute_texts ys) ≡ drop n (attribute_texts xs) ++ attribute_text x ∷ [] =
      ap (λ l. drop n (attribute_texts l)) e ∙ ap (drop n) (texts_push xs x) ∙ drop-append-le n (attribute_texts xs) (attribute_text x ∷ []) (omega (arith, length-map xs attribute_text)) in
      updates.0 q
      ∙ ap (λ b. cond b true (contains text_order old q)) (is_eq-slice_cmp name q ∙ ap (λ l. is_same_text l q) same)
      ∙ ap (cond (is_same_text x.name.local q) true) (are.each q)
      ∙ or_last (is_same_text x.name.local q) (is_named_in q (drop n (attribute_texts xs)))
      ∙ sym (ap (is_named_in q) behind ∙ list_any-append (λ (a : AttributeText). is_same_text a.name.local q) (drop n (attribute_texts xs)) (attribute_text x ∷ []));
}

-- The names of attributes in order.
use Rattle.std.proofs.Common.{◌≡◌, ◌∙◌, ℕ, ◌+◌, ◌<◌, ◌≤◌, Bool, true, false, cond, ◌||◌, List, ◌++◌, ap, drop, get_or, length, refl, subst, sym, take}
use Rattle.std.specs.Prelude.{Option, None, Some}
use Rattle.std.specs.BTreeSet.{BTreeSet, IsEmpty, Updates, contains}
use Rattle.std.specs.Cmp.{both_tied}
use Rattle.std.specs.Cmp.Lexicographic.{slice_cmp, texts_ties}
use Rattle.std.specs.List.{list_any}
use Rattle.std.specs.Option.{option_cmp, option_eq}
use Rattle.std.specs.Ordering.{is_eq, nat_cmp}
use Rattle.std.proofs.lemmas.List.{map-append, take-append-drop, take_all}
use Rattle.std.proofs.lemmas.List.Folds.{list_any-append, list_any_more}
use Rattle.h5_names.specs.AttributeText.{AttributeText, attribute_text, attribute_texts, is_same_name, is_same_text}
use Rattle.h5_names.specs.declared.qualified.Attribute.{Attribute}
use Rattle.h5_names.specs.declared.qualified.QualName.{QualName}
use Rattle.h5_interface.specs.Changes.{has_attribute}
use Rattle.h5_interface.proofs.ElementLemmas.{any_of_texts}
use Rattle.h5_arena.specs.AttributeNames.{AreNames, name_cmp}

prefix_ties : (p q : Option (List ℕ)) → option_eq is_same_text p q ≡ is_eq (option_cmp (slice_cmp nat_cmp) p q)
prefix_ties None None = refl
prefix_ties None (Some y) = refl
prefix_ties (Some x) None = refl
prefix_ties (Some x) (Some y) = texts_ties x y

-- the order of names distinguishes the same names as their equality
name_ties : (x y : QualName) → is_same_name x y ≡ is_eq (name_cmp x y)
name_ties x y =
    both_tied _ _ _ _ (prefix_ties x.prefix y.prefix) (both_tied _ _ _ _ (texts_ties x.ns y.ns) (texts_ties x.local y.local))

put_last : (found one other : Bool) → cond one true (found || other) ≡ (found || (other || one))
put_last true true other = refl
put_last true false other = refl
put_last false true true = refl
put_last false true false = refl
put_last false false true = refl
put_last false false false = refl

-- one name more
pub name_put : (xs : List Attribute) (i : ℕ) (x : Attribute) (name : QualName) (old mid new : BTreeSet QualName) → i < length xs → x ≡ get_or xs i x → name ≡ x.name → Updates name_cmp mid new name true
    → ((q : QualName) → contains name_cmp mid q ≡ (contains name_cmp old q || list_any (λ a. is_same_name a.name q) (take i xs)))
    → (q : QualName) → contains name_cmp new q ≡ (contains name_cmp old q || list_any (λ a. is_same_name a.name q) (take (i + 1) xs))
name_put xs i x name old mid new within e w put so_far q =
    put.0 q ∙ ap (λ b. cond b true (contains name_cmp mid q)) (sym (name_ties name q) ∙ ap (λ n. is_same_name n q) (w ∙ ap (λ (a : Attribute). a.name) e))
    ∙ ap (cond (is_same_name (get_or xs i x).name q) true) (so_far q)
    ∙ put_last (contains name_cmp old q) (is_same_name (get_or xs i x).name q) (list_any (λ a. is_same_name a.name q) (take i xs))
    ∙ ap (λ b. contains name_cmp old q || b) (sym (list_any_more (λ (a : Attribute). is_same_name a.name q) xs i x within))

-- all names are there in the end
pub all_names : (xs : List Attribute) (i : ℕ) (q : QualName) → length xs ≤ i → list_any (λ a. is_same_name a.name q) (take i xs) ≡ has_attribute q (attribute_texts xs)
all_names xs i q past = ap (list_any (λ (a : Attribute). is_same_name a.name q)) (take_all i xs past) ∙ sym (any_of_texts (λ a. is_same_name a.name q) xs)

-- the names of the first attributes and of those after them are the names of all
pub names_of_all : (found : BTreeSet QualName) (olds news : List Attribute) (had : ℕ) → take had news ≡ olds → AreNames found (attribute_texts olds ++ attribute_texts (drop had news)) → AreNames found (attribute_texts news)
names_of_all found olds news had first known = subst (AreNames found) (sym (map-append attribute_text olds (drop had news)) ∙ ap attribute_texts (ap (λ xs. xs ++ drop had news) (sym first) ∙ take-append-drop had news)) known

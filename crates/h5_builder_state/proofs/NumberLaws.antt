-- HTML elements of one number have one name.
use Rattle.std.proofs.Common.{◌≡◌, ◌≢◌, ◌<◌, ◌≤◌, ◌+◌, ◌*◌, ◌%◌, ℕ, nat_lt, Bool, true, false, cond, not, ◌&&◌, ◌||◌, ◌==◌, List, Option, Some, None, option_map, refl, ap, sym, ◌∙◌, arith, rules}
use denote.Enum.Bare.{false_same, sameb, same_false, tag_one}
use denote.Enum.Declared.{tag_of}
use Rattle.std.specs.Str.{str_to_ascii_lowercase}
use Rattle.std.proofs.Math.Bool.{or-true}
use Rattle.std.proofs.lemmas.Bool.{eq-eqb, eqb-true, false≢true, le-ltb, lt-ltb, ltb-true, ne_eqb}
use Rattle.std.proofs.lemmas.Option.{same_Some}
use Rattle.std.proofs.lemmas.Slice.Eq.{bytes_eq-Decides}
use Rattle.h5_names.specs.AttributeText.{is_same_text}
use Rattle.h5_names.specs.KnownNames.{known_name_of}
use Rattle.h5_names.specs.contracts.known_name.KnownName.{the_type}
use Rattle.h5_names.specs.declared.known_name.KnownName.{KnownName}
use Rattle.h5_names.specs.declared.known_name.KnownName.TheVariants.{A, Other}
use Rattle.h5_names.specs.declared.qualified.QualName.{QualName}
use Rattle.h5_names.proofs.KnownNameLemmas.{same_known, same_tests}
use Rattle.h5_builder_state.specs.Numbering.{number_of}
use Rattle.h5_tables.specs.TagSets.{html_namespace, is_html_named}
use Rattle.h5_builder_spec.specs.insertion.Foreign.{is_named_in_any_case}
use Rattle.h5_builder_state.specs.Newest.{is_foreign_named}
use Rattle.h5_builder_state.specs.Numbers.{foreign_number, html_number, is_html_number, name_number}
use Rattle.h5_builder_state.specs.declared.name_numbers.NameNumbers.{NameNumbers}

-- numbers of known names are small
small : (known : KnownName) → nat_lt (tag_of the_type known) 256 ≡ true
small A = refl
small _ = refl

known_small : (known : KnownName) → tag_of the_type known < 256
known_small known = ltb-true (tag_of the_type known) 256 (small known)

same_known_number : (x y : KnownName) → tag_of the_type x ≡ tag_of the_type y → x ≡ y
same_known_number x y e = tag_one the_type (search rules) x y e

-- what a number comes from
from_some : (f : ℕ → ℕ) (found : Option ℕ) (k : ℕ) → option_map f found ≡ Some k → (j : ℕ) × ((found ≡ Some j) × (f j ≡ k))
from_some f None k e = absurd (cc)
from_some f (Some j) k e = (j, (refl, same_Some (f j) k e))

module _ (N : NameNumbers) where
  -- those of texts aren't
  text_from : (text : List ℕ) (k : ℕ) → number_of N.texts text ≡ Some k → 128 ≤ k
  text_from text k e = let low = (N.texts.sound.known text k e).0 in omega (arith, low, N.first)

  -- two texts don't share one
  same_text : (x y : List ℕ) (j k : ℕ) → number_of N.texts x ≡ Some j → number_of N.texts y ≡ Some k → j ≡ k → x ≡ y
  same_text x y j k e f same = N.texts.sound.apart x y j e (f ∙ ap Some (sym same))

  same_html_number : (x y : List ℕ) (k : ℕ) → html_number N x ≡ Some k → html_number N y ≡ Some k → is_same_text x y ≡ true
  unfolding html_number
  same_html_number x y k = at (sameb the_type (known_name_of x) Other) (sameb the_type (known_name_of y) Other) refl
    where
      at : (a b : Bool) → sameb the_type (known_name_of x) Other ≡ a → cond a (option_map (λ n. 2 * n) (number_of N.texts x)) (Some (tag_of the_type (known_name_of x))) ≡ Some k
          → cond b (option_map (λ n. 2 * n) (number_of N.texts y)) (Some (tag_of the_type (known_name_of y))) ≡ Some k → is_same_text x y ≡ true
      at true true h e f =
          let i = from_some (λ n. 2 * n) (number_of N.texts x) k e in
          let j = from_some (λ n. 2 * n) (number_of N.texts y) k f in
          (bytes_eq-Decides x y).1 (same_text x y i.0 j.0 i.1.0 j.1.0 (omega (arith, i.1.1, j.1.1)))
      at true false h e f =
          let i = from_some (λ n. 2 * n) (number_of N.texts x) k e in
          absurd (omega (arith, text_from x i.0 i.1.0, i.1.1, known_small (known_name_of y), same_Some (tag_of the_type (known_name_of y)) k f))
      at false true h e f =
          let j = from_some (λ n. 2 * n) (number_of N.texts y) k f in
          absurd (omega (arith, text_from y j.0 j.1.0, j.1.1, known_small (known_name_of x), same_Some (tag_of the_type (known_name_of x)) k e))
      at false false h e f =
          same_known x y (same_known_number (known_name_of x) (known_name_of y) (same_Some (tag_of the_type (known_name_of x)) k e ∙ sym (same_Some (tag_of the_type (known_name_of y)) k f)))
          (same_false the_type (known_name_of x) Other h)

  -- numbers of HTML elements, and those of others
  html_is : (x : List ℕ) (k : ℕ) → html_number N x ≡ Some k → is_html_number k ≡ true
  unfolding html_number
  html_is x k = at (sameb the_type (known_name_of x) Other)
    where
      at : (a : Bool) → cond a (option_map (λ n. 2 * n) (number_of N.texts x)) (Some (tag_of the_type (known_name_of x))) ≡ Some k → is_html_number k ≡ true
      at true e =
          let i = from_some (λ n. 2 * n) (number_of N.texts x) k e in
          let even : k % 2 ≡ 0 = omega (arith, i.1.1) in
          ap (λ b. nat_lt k 256 || b) (eq-eqb (k % 2) 0 even) ∙ or-true (nat_lt k 256)
      at false e = ap (λ b. b || (k % 2 == 0)) (lt-ltb k 256 (omega (arith, known_small (known_name_of x), same_Some (tag_of the_type (known_name_of x)) k e)))

  foreign_is : (x : List ℕ) (k : ℕ) → foreign_number N x ≡ Some k → is_html_number k ≡ false
  unfolding foreign_number
  foreign_is x k e =
      let i = from_some (λ n. 2 * n + 1) (number_of N.texts (str_to_ascii_lowercase x)) k e in
      let odd : k % 2 ≢ 0 = λ z. absurd (omega (arith, i.1.1, z)) in
      ap (λ b. b || (k % 2 == 0)) (le-ltb k 256 (omega (arith, text_from (str_to_ascii_lowercase x) i.0 i.1.0, i.1.1))) ∙ ne_eqb (k % 2) 0 odd

  -- no number is that of both
  apart : (m k : ℕ) → is_html_number m ≡ false → is_html_number k ≡ true → (m == k) ≡ false
  apart m k f h = ne_eqb m k (λ same. false≢true (sym f ∙ ap is_html_number same ∙ h))

  -- that of a known name
  pub known_number : (local : List ℕ) (known : KnownName) → known ≡ known_name_of local → known ≢ Other → html_number N local ≡ Some (tag_of the_type known)
  unfolding html_number
  known_number local known e other = ap (λ b. cond b (option_map (λ n. 2 * n) (number_of N.texts local)) (Some (tag_of the_type (known_name_of local)))) (false_same the_type (search rules) (known_name_of local) Other (λ h. other (e ∙ h))) ∙ ap (λ k. Some (tag_of the_type k)) (sym e)

  -- an element has a name's number exactly if that is its name
  pub has_number : (local : List ℕ) (k : ℕ) (name : QualName) (m : ℕ) → html_number N local ≡ Some k → name_number N name ≡ Some m → (m == k) ≡ is_html_named local name
  unfolding is_html_named name_number
  has_number local k name m e = at (is_same_text name.ns html_namespace)
    where
      at : (a : Bool) → cond a (html_number N name.local) (foreign_number N name.local) ≡ Some m → (m == k) ≡ (a && is_same_text name.local local)
      at true f =
          same_tests _ _
          (λ p. same_html_number name.local local m f (e ∙ ap Some (sym (eqb-true m k p))))
          (λ p. let same : name.local ≡ local = (bytes_eq-Decides name.local local).0 p in
          eq-eqb m k (same_Some m k (sym f ∙ ap (html_number N) same ∙ e)))
      at false f = apart m k (foreign_is name.local m f) (html_is local k e)

  -- an element is one of HTML exactly if its number says so
  pub tells_html : (name : QualName) (m : ℕ) → name_number N name ≡ Some m → is_html_number m ≡ is_same_text name.ns html_namespace
  unfolding name_number
  tells_html name m = at (is_same_text name.ns html_namespace)
    where
      at : (a : Bool) → cond a (html_number N name.local) (foreign_number N name.local) ≡ Some m → is_html_number m ≡ a
      at true e = html_is name.local m e
      at false e = foreign_is name.local m e

  -- none has the name if it has no number
  pub has_none : (local : List ℕ) (name : QualName) (m : ℕ) → html_number N local ≡ None → name_number N name ≡ Some m → is_html_named local name ≡ false
  unfolding is_html_named name_number
  has_none local name m e = at (is_same_text name.ns html_namespace) (is_same_text name.local local) ((bytes_eq-Decides name.local local).0)
    where
      at : (a b : Bool) → (b ≡ true → name.local ≡ local) → cond a (html_number N name.local) (foreign_number N name.local) ≡ Some m → (a && b) ≡ false
      at true true same f = let g = sym f ∙ ap (html_number N) (same refl) ∙ e in absurd (cc)
      at true false same f = refl
      at false b same f = refl

  -- as above, for elements of MathML and SVG
  pub has_foreign : (local : List ℕ) (k : ℕ) (name : QualName) (m : ℕ) → foreign_number N local ≡ Some k → name_number N name ≡ Some m → (m == k) ≡ is_foreign_named local name
  unfolding name_number foreign_number
  has_foreign local k name m e = at (is_same_text name.ns html_namespace)
    where
      at : (a : Bool) → cond a (html_number N name.local) (foreign_number N name.local) ≡ Some m → (m == k) ≡ (not a && is_named_in_any_case local name)
      at true f = ne_eqb m k (λ same. false≢true (sym (foreign_is local k e) ∙ ap is_html_number (sym same) ∙ html_is name.local m f))
      at false f =
          let x = str_to_ascii_lowercase name.local in
          let y = str_to_ascii_lowercase local in
          let i = from_some (λ n. 2 * n + 1) (number_of N.texts x) m f in
          let j = from_some (λ n. 2 * n + 1) (number_of N.texts y) k e in
          same_tests _ _
          (λ p. (bytes_eq-Decides x y).1 (same_text x y i.0 j.0 i.1.0 j.1.0 (omega (arith, i.1.1, j.1.1, eqb-true m k p))))
          (λ p. let same : x ≡ y = (bytes_eq-Decides x y).0 p in
          eq-eqb m k (same_Some m k (sym f ∙ ap (λ t. option_map (λ n. 2 * n + 1) (number_of N.texts t)) same ∙ e)))

  pub foreign_none : (local : List ℕ) (name : QualName) (m : ℕ) → foreign_number N local ≡ None → name_number N name ≡ Some m → is_foreign_named local name ≡ false
  unfolding name_number foreign_number
  foreign_none local name m e = at (is_same_text name.ns html_namespace) (is_named_in_any_case local name) ((bytes_eq-Decides (str_to_ascii_lowercase name.local) (str_to_ascii_lowercase local)).0)
    where
      at : (a b : Bool) → (b ≡ true → str_to_ascii_lowercase name.local ≡ str_to_ascii_lowercase local) → cond a (html_number N name.local) (foreign_number N name.local) ≡ Some m → (not a && b) ≡ false
      at true b same f = refl
      at false true same f = let g = sym f ∙ ap (λ t. option_map (λ n. 2 * n + 1) (number_of N.texts t)) (same refl) ∙ e in absurd (cc)
      at false false same f = refl

-- names keep their numbers where texts do
pub numbers_stay : (N M : NameNumbers) → ((text : List ℕ) (k : ℕ) → number_of N.texts text ≡ Some k → number_of M.texts text ≡ Some k) → (name : QualName) (k : ℕ) → name_number N name ≡ Some k → name_number M name ≡ Some k
unfolding name_number html_number foreign_number
numbers_stay N M stay name k = at (is_same_text name.ns html_namespace) (sameb the_type (known_name_of name.local) Other)
  where
    kept : (f : ℕ → ℕ) (text : List ℕ) → option_map f (number_of N.texts text) ≡ Some k → option_map f (number_of M.texts text) ≡ Some k
    kept f text e = let i = from_some f (number_of N.texts text) k e in ap (option_map f) (stay text i.0 i.1.0) ∙ ap Some i.1.1

    at : (a b : Bool) → cond a (cond b (option_map (λ n. 2 * n) (number_of N.texts name.local)) (Some (tag_of the_type (known_name_of name.local)))) (option_map (λ n. 2 * n + 1) (number_of N.texts (str_to_ascii_lowercase name.local))) ≡ Some k
        → cond a (cond b (option_map (λ n. 2 * n) (number_of M.texts name.local)) (Some (tag_of the_type (known_name_of name.local)))) (option_map (λ n. 2 * n + 1) (number_of M.texts (str_to_ascii_lowercase name.local))) ≡ Some k
    at true true e = kept (λ n. 2 * n) name.local e
    at true false e = e
    at false b e = kept (λ n. 2 * n + 1) (str_to_ascii_lowercase name.local) e

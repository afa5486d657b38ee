-- The numbers of names.
use Rattle.std.proofs.Common.{◌≡◌, ◌∙◌, ℕ, ◌+◌, ◌<◌, Bool, true, false, cond, List, [], ◌∷◌, ◌++◌, Option, None, Some, ap, arith, get_or, inl, inr, length, length-append, not, refl, rules, subst, sym, ◌↔◌, IsTrue}
use Rattle.std.specs.Prelude.{nat_lt}
use Rattle.std.specs.BTreeMap.{BTreeMap, IsEmpty, IsUnchanged, Updates, get, is_at}
use Rattle.std.specs.Cmp.{both_tied}
use Rattle.std.specs.Cmp.Lexicographic.{slice_cmp, texts_ties}
use Rattle.std.specs.List.{position, position_or_len}
use Rattle.std.specs.Map.{lookup}
use Rattle.std.specs.Option.{option_cmp, option_eq}
use Rattle.std.specs.Ordering.{is_eq, nat_cmp}
use Rattle.std.proofs.Math.Nat.{eq-or-lt_of_le}
use Rattle.std.proofs.Math.Seq.{get_or-append_seam}
use Rattle.std.proofs.lemmas.Bool.{cases_Bool, eq-eqb, le-ltb, lt-ltb, ne_eqb}
use Rattle.std.proofs.lemmas.List.{get_or_append_left}
use Rattle.std.proofs.lemmas.List.Folds.{position_or_len_push}
use Rattle.std.proofs.lemmas.List.Sums.{prefix_len-le-length}
use Rattle.h5_names.specs.AttributeText.{is_same_name, is_same_text}
use Rattle.h5_names.specs.declared.qualified.QualName.{QualName}
use Rattle.h5_arena.specs.AttributeNames.{name_cmp}
use Rattle.h5_tree_block.specs.Columns.{HeldNames, Texts, name_word, number_of, with_name, with_text}
use Rattle.h5_tree_block.specs.Numbered.{AreNumbered}
use Rattle.h5_tree_block.specs.declared.columns.Ended.{Ended}

prefix_ties : (p q : Option (List ℕ)) → option_eq is_same_text p q ≡ is_eq (option_cmp (slice_cmp nat_cmp) p q)
prefix_ties None None = refl
prefix_ties None (Some y) = refl
prefix_ties (Some x) None = refl
prefix_ties (Some x) (Some y) = texts_ties x y

-- the order of names distinguishes the same names as their equality
name_ties : (x y : QualName) → is_same_name x y ≡ is_eq (name_cmp x y)
name_ties x y =
    both_tied _ _ _ _ (prefix_ties x.prefix y.prefix) (both_tied _ _ _ _ (texts_ties x.ns y.ns) (texts_ties x.local y.local))

same_name : (x y : QualName) → IsTrue (is_same_name x y) ↔ (x ≡ y)
same_name x y = search rules

-- a name that is found, and one that isn't
place_found : {X : Type 0} (p : X → Bool) (xs : List X) (n : ℕ) → position_or_len p xs ≡ n → n < length xs → position p xs ≡ Some n
place_found p xs n e lt = ap (λ m. cond (nat_lt m (length xs)) (Some m) None) e ∙ ap (λ t. cond t (Some n) None) (lt-ltb n (length xs) lt)

place_missed : {X : Type 0} (p : X → Bool) (xs : List X) → position_or_len p xs ≡ length xs → position p xs ≡ None
place_missed p xs e =
    ap (λ m. cond (nat_lt m (length xs)) (Some m) None) e ∙ ap (λ t. cond t (Some (length xs)) None) (le-ltb (length xs) (length xs) (omega arith))

-- where one more comes
one_longer : {X : Type 0} (xs : List X) (y : X) → length (xs ++ y ∷ []) ≡ length xs + 1
one_longer xs y = length-append xs (y ∷ [])

found_before : {X : Type 0} (p : X → Bool) (xs : List X) (y : X) → position_or_len p xs < length xs → position_or_len p (xs ++ y ∷ []) ≡ position_or_len p xs
found_before p xs y lt =
    position_or_len_push p xs y
    ∙ ap (λ t. cond t (length xs + cond (p y) 0 1) (position_or_len p xs)) (ne_eqb (position_or_len p xs) (length xs) (λ e. omega (arith, lt, e)))

not_before : {X : Type 0} (p : X → Bool) (xs : List X) (y : X) → position_or_len p xs ≡ length xs → position_or_len p (xs ++ y ∷ []) ≡ length xs + cond (p y) 0 1
not_before p xs y e =
    position_or_len_push p xs y
    ∙ ap (λ t. cond t (length xs + cond (p y) 0 1) (position_or_len p xs)) (eq-eqb (position_or_len p xs) (length xs) e)

-- it changes nothing for other names
place_stays : {X : Type 0} (p : X → Bool) (xs : List X) (y : X) → p y ≡ false → position p (xs ++ y ∷ []) ≡ position p xs
place_stays p xs y other = elim (eq-or-lt_of_le (prefix_len-le-length (λ x. not (p x)) xs)) [
  | inl e ↦ (
      let behind : position_or_len p (xs ++ y ∷ []) ≡ length (xs ++ y ∷ []) = not_before p xs y e ∙ ap (λ t. length xs + cond t 0 1) other ∙ sym (one_longer xs y) in
      place_missed p (xs ++ y ∷ []) behind ∙ sym (place_missed p xs e))
  | inr lt ↦ place_found p (xs ++ y ∷ []) (position_or_len p xs) (found_before p xs y lt) (omega (arith, lt, one_longer xs y)) ∙ sym (place_found p xs (position_or_len p xs) refl lt)
]

-- no name has a number yet
pub numbered_none : (names : List QualName) (numbers : BTreeMap QualName ℕ) → names ≡ [] → IsEmpty numbers → AreNumbered names numbers
numbered_none names numbers none empty = subst (λ n. AreNumbered n numbers) (sym none) (record {
  kept = λ name. ap (λ es. lookup (is_at (name_cmp name)) es) empty;
  once = λ k name lt same. absurd (omega (arith, lt));
})

-- a change of something else doesn't change the numbers
pub numbered_same : (names again : List QualName) (old new : BTreeMap QualName ℕ) → again ≡ names → IsUnchanged old new → AreNumbered names old → AreNumbered again new
numbered_same names again old new same unchanged k = subst (λ n. AreNumbered n new) (sym same) (record {
  kept = λ name. ap (λ es. lookup (is_at (name_cmp name)) es) unchanged ∙ k.kept name;
  once = k.once;
})

-- a name that is new gets the next number
module _ (names : List QualName) (one : QualName) (next : number_of names one ≡ length names) where
  here : (name : QualName) → is_same_name one name ≡ true → number_of (names ++ one ∷ []) name ≡ length names
  here name same =
      let missed : number_of names name ≡ length names = subst (λ n. number_of names n ≡ length names) ((same_name one name).0 same) next in
      not_before (λ o. is_same_name o name) names one missed ∙ ap (λ t. length names + cond t 0 1) same ∙ omega arith

  once_more : (numbers : BTreeMap QualName ℕ) → AreNumbered names numbers → (k : ℕ) (name : QualName) → k < length (names ++ one ∷ []) → is_same_name (get_or (names ++ one ∷ []) k name) name ≡ true → number_of (names ++ one ∷ []) name ≡ k
  once_more numbers h k name lt same = elim (eq-or-lt_of_le {n = k} {m = length names} (omega (arith, lt, one_longer names one))) [
    | inl last ↦ (let at : get_or (names ++ one ∷ []) k name ≡ one = ap (λ i. get_or (names ++ one ∷ []) i name) last ∙ get_or-append_seam names one [] name in here name (ap (λ o. is_same_name o name) (sym at) ∙ same) ∙ sym last)
    | inr before ↦ (
        let at : get_or (names ++ one ∷ []) k name ≡ get_or names k name = get_or_append_left names (one ∷ []) name k before in
        let was : number_of names name ≡ k = h.once k name before (ap (λ o. is_same_name o name) (sym at) ∙ same) in
        found_before (λ o. is_same_name o name) names one (omega (arith, was, before)) ∙ was)
  ]

  kept_more : (old new : BTreeMap QualName ℕ) → Updates name_cmp old new one (Some (length names)) → AreNumbered names old → (name : QualName) → get name_cmp new name ≡ position (λ o. is_same_name o name) (names ++ one ∷ [])
  kept_more old new put h name =
      let found : get name_cmp new name ≡ cond (is_same_name one name) (Some (length names)) (get name_cmp old name) = put.0 name ∙ ap (λ t. cond t (Some (length names)) (get name_cmp old name)) (sym (name_ties one name)) in
      elim (cases_Bool (is_same_name one name)) [
        | inl same ↦ found ∙ ap (λ t. cond t (Some (length names)) (get name_cmp old name)) same ∙ sym (place_found (λ o. is_same_name o name) (names ++ one ∷ []) (length names) (here name same) (omega (arith, one_longer names one)))
        | inr other ↦ found ∙ ap (λ t. cond t (Some (length names)) (get name_cmp old name)) other ∙ h.kept name ∙ sym (place_stays (λ o. is_same_name o name) names one other)
      ]

  pub numbered_more : (old new : BTreeMap QualName ℕ) → Updates name_cmp old new one (Some (length names)) → AreNumbered names old → AreNumbered (names ++ one ∷ []) new
  numbered_more old new put h = record { kept = kept_more old new put h; once = once_more old h }

-- as above, where the name was copied, once for its index and once for its number
pub numbered_put : (names again : List QualName) (name one key : QualName) (old new : BTreeMap QualName ℕ) (number : ℕ) → number_of names name ≡ length names → again ≡ names ++ one ∷ [] → one ≡ name → key ≡ name → number ≡ length names
    → Updates name_cmp old new key (Some number) → AreNumbered names old → AreNumbered again new
numbered_put names again name one key old new number next grown same_one same_key count put h =
    let put_here : Updates name_cmp old new name (Some (length names)) =
    subst (λ k. Updates name_cmp old new k (Some (length names))) same_key (subst (λ n. Updates name_cmp old new key (Some n)) count put) in
    subst (λ ns. AreNumbered ns new) (sym (grown ∙ ap (λ o. names ++ o ∷ []) same_one)) (numbered_more names name next old new put_here h)

-- the result of a search
pub is_new : {X : Type 0} (p : X → Bool) (xs : List X) → position p xs ≡ None → position_or_len p xs ≡ length xs
is_new p xs none = elim (eq-or-lt_of_le (prefix_len-le-length (λ x. not (p x)) xs)) [
  | inl e ↦ e
  | inr lt ↦ (let found = place_found p xs (position_or_len p xs) refl lt in absurd (cc))
]

pub is_known : {X : Type 0} (p : X → Bool) (xs : List X) (n : ℕ) → position p xs ≡ Some n → position_or_len p xs < length xs
is_known p xs n some = elim (eq-or-lt_of_le (prefix_len-le-length (λ x. not (p x)) xs)) [
  | inl e ↦ (let missed = place_missed p xs e in absurd (cc))
  | inr lt ↦ lt
]

-- a name that occurred before, and a new one
pub name_is_known : (name : QualName) (n : HeldNames) → number_of n.met name < length n.met → with_name name n ≡ n
unfolding with_name
name_is_known name n lt =
    ap (λ t. cond t n (record { met = n.met ++ name ∷ []; texts = with_text (name_word name) name.local n.texts })) (lt-ltb _ _ lt)

pub name_is_new : (name : QualName) (n : HeldNames) → number_of n.met name ≡ length n.met → with_name name n ≡ record { met = n.met ++ name ∷ []; texts = with_text (name_word name) name.local n.texts }
unfolding with_name
name_is_new name n e =
    ap (λ t. cond t n (record { met = n.met ++ name ∷ []; texts = with_text (name_word name) name.local n.texts })) (le-ltb _ _ (omega (arith, e)))

abbrev texts_of : List Ended → List ℕ → Texts
texts_of list bytes = record { list = list; bytes = bytes }

abbrev names_of : List QualName → Texts → HeldNames
names_of met texts = record { met = met; texts = texts }

abbrev ended : ℕ → ℕ → Ended
ended word end = record { word = word; end = end }

-- one more word with its text
text_more : (word end : ℕ) (text : List ℕ) (list : List Ended) (bytes : List ℕ) (t : Texts) → bytes ≡ t.bytes ++ text → end ≡ length bytes → list ≡ t.list ++ ended word end ∷ [] → texts_of list bytes ≡ with_text word text t
unfolding with_text
text_more word end text list bytes t grown last more =
    ap (λ l. texts_of l bytes) (more ∙ ap (λ e. t.list ++ ended word e ∷ []) last) ∙ ap (λ b. texts_of (t.list ++ ended word (length b) ∷ []) b) grown

-- one more name with its text
pub name_more : (name : QualName) (n : HeldNames) (met : List QualName) (list : List Ended) (bytes : List ℕ) (word end : ℕ) → number_of n.met name ≡ length n.met → met ≡ n.met ++ name ∷ [] → word ≡ name_word name
    → bytes ≡ n.texts.bytes ++ name.local → end ≡ length bytes → list ≡ n.texts.list ++ ended word end ∷ [] → names_of met (texts_of list bytes) ≡ with_name name n
name_more name n met list bytes word end new one same_word grown last more =
    ap (λ m. names_of m (texts_of list bytes)) one
    ∙ ap (names_of (n.met ++ name ∷ [])) (text_more word end name.local list bytes n.texts grown last more ∙ ap (λ w. with_text w name.local n.texts) same_word)
    ∙ sym (name_is_new name n new)

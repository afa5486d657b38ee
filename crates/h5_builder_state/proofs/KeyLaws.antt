-- Each entry has the number of its key, one entry more or less.
use Rattle.std.proofs.Common.{◌≡◌, ◌≢◌, ◌<◌, ℕ, suc, zero, Bool, true, false, List, [], ◌∷◌, ◌++◌, Option, Some, drop, get_or, length, map, set, take, refl, ap, sym, subst, ◌∙◌, arith}
use Rattle.std.specs.List.{AllZip, insert, remove}
use Rattle.std.proofs.lemmas.List.{drop-map, get_or-map, length-map, map-append, take-map}
use Rattle.h5_token.specs.Keys.{IsKeyOf}
use Rattle.h5_token.specs.TokenText.{IsAlike, TagText, tag_text}
use Rattle.h5_token.proofs.KeyLaws.{keys_are_equal}
use Rattle.h5_tables.specs.declared.entry.FormatEntry.{FormatEntry}
use Rattle.h5_tables.specs.declared.entry.FormatEntry.TheVariants.{Element, Marker}
use Rattle.h5_builder_spec.specs.formatting.FormattingList.{is_alike}
use Rattle.h5_builder_spec.proofs.entries.AlikeLaws.{alike_told}
use Rattle.h5_builder_state.specs.Numbered.{Numbered, numbers, one_of}
use Rattle.h5_builder_state.specs.declared.keys.KeyNumbers.{KeyNumbers}
use Rattle.h5_builder_state.specs.Keys.{AreKept, AreKeyed, AreOthers, HasKeyNumber, IsKeyed, IsNumberOfAlike, StayKeyed, key_number}
use Rattle.h5_builder_state.specs.Listed.{is_alike_entry, with_handle}
use Rattle.h5_builder_state.specs.ListNumbers.{AreNumbered}

-- the number of a tag's key is that of the key of each tag that is alike
pub same_key_number : (keys : KeyNumbers) (tag : TagText) (key : List ℕ) (found : Option ℕ) → IsKeyOf tag key → found ≡ key_number keys key → (other : TagText) (n : ℕ) → IsAlike tag other → HasKeyNumber keys other n → found ≡ Some n
same_key_number keys tag key found is e other n alike h = e ∙ ap (λ k. key_number keys k) (keys_are_equal tag other key h.key alike is h.is) ∙ h.has

-- what is said of two lists, place by place
module _ {A B : Type 0} (R : A → B → Type 0) where
  zip_append : (xs us : List A) (ys vs : List B) → AllZip R xs ys → AllZip R us vs → AllZip R (xs ++ us) (ys ++ vs)
  zip_append [] us [] vs h k = k
  zip_append [] us (y ∷ ys) vs h k = absurd h
  zip_append (x ∷ xs) us [] vs h k = absurd h
  zip_append (x ∷ xs) us (y ∷ ys) vs h k = (h.0, zip_append xs us ys vs h.1 k)

  zip_take : (i : ℕ) (xs : List A) (ys : List B) → AllZip R xs ys → AllZip R (take i xs) (take i ys)
  zip_take zero xs ys h = tt
  zip_take (suc i) [] [] h = tt
  zip_take (suc i) [] (y ∷ ys) h = absurd h
  zip_take (suc i) (x ∷ xs) [] h = absurd h
  zip_take (suc i) (x ∷ xs) (y ∷ ys) h = (h.0, zip_take i xs ys h.1)

  zip_drop : (i : ℕ) (xs : List A) (ys : List B) → AllZip R xs ys → AllZip R (drop i xs) (drop i ys)
  zip_drop zero xs ys h = h
  zip_drop (suc i) [] [] h = tt
  zip_drop (suc i) [] (y ∷ ys) h = absurd h
  zip_drop (suc i) (x ∷ xs) [] h = absurd h
  zip_drop (suc i) (x ∷ xs) (y ∷ ys) h = zip_drop i xs ys h.1

  zip_set : (i : ℕ) (xs : List A) (ys : List B) (y z : B) → AllZip R xs ys → y ≡ get_or ys i y → ((x : A) → R x y → R x z) → AllZip R xs (set ys i z)
  zip_set i [] [] y z h e f = tt
  zip_set i [] (w ∷ ys) y z h e f = absurd h
  zip_set i (x ∷ xs) [] y z h e f = absurd h
  zip_set zero (x ∷ xs) (w ∷ ys) y z h e f = (f x (subst (λ v. R x v) (sym e) h.0), h.1)
  zip_set (suc i) (x ∷ xs) (w ∷ ys) y z h e f = (h.0, zip_set i xs ys y z h.1 e f)

  zip_at : (i : ℕ) (xs : List A) (ys : List B) (d : A) (y : B) → AllZip R xs ys → i < length ys → y ≡ get_or ys i y → R (get_or xs i d) y
  zip_at i [] [] d y h l e = absurd (omega (arith, l))
  zip_at i [] (w ∷ ys) d y h l e = absurd h
  zip_at i (x ∷ xs) [] d y h l e = absurd h
  zip_at zero (x ∷ xs) (w ∷ ys) d y h l e = subst (λ v. R x v) (sym e) h.0
  zip_at (suc i) (x ∷ xs) (w ∷ ys) d y h l e = zip_at i xs ys d y h.1 (omega (arith, l)) e

  zip_other : (xs : List A) (ys : List B) → AllZip R xs ys → (S : A → B → Type 0) → ((x : A) (y : B) → R x y → S x y) → AllZip S xs ys
  zip_other [] [] h S f = tt
  zip_other [] (y ∷ ys) h S f = absurd h
  zip_other (x ∷ xs) [] h S f = absurd h
  zip_other (x ∷ xs) (y ∷ ys) h S f = (f x y h.0, zip_other xs ys h.1 S f)

  zip_long : (xs : List A) (ys : List B) → AllZip R xs ys → length xs ≡ length ys
  zip_long [] [] h = refl
  zip_long [] (y ∷ ys) h = absurd h
  zip_long (x ∷ xs) [] h = absurd h
  zip_long (x ∷ xs) (y ∷ ys) h = ap suc (zip_long xs ys h.1)

-- an entry keeps its number
keyed_stays : {H : Type 0} (old new : KeyNumbers) → StayKeyed old new → (n : ℕ) (x : FormatEntry H) → IsKeyed old n x → IsKeyed new n x
keyed_stays old new stay n (Element handle tag) h = λ some. (let k = h some in record { key = k.key; is = k.is; has = stay k.key n k.has })
keyed_stays old new stay n Marker h = h

keyed_handle : {H : Type 0} (keys : KeyNumbers) (handle : H) (n : ℕ) (x : FormatEntry H) → IsKeyed keys n x → IsKeyed keys n (with_handle handle x)
keyed_handle keys handle n (Element other tag) h = h
keyed_handle keys handle n Marker h = h

pub unkeyed : {H : Type 0} (keys : KeyNumbers) (x : FormatEntry H) → IsKeyed keys 0 x
unkeyed keys (Element handle tag) = λ some. absurd (some refl)
unkeyed keys Marker = refl

module _ {H T : Type 0} (keys : KeyNumbers) (stack : List (Numbered T)) (items : List (FormatEntry H)) (all : AreKeyed keys stack items) where
  pub as_many_keys : length stack ≡ length items
  as_many_keys = sym (length-map stack (λ (one : Numbered T). one.number)) ∙ zip_long (IsKeyed keys) (numbers stack) items all

  -- the number at a place is that of the entry there
  pub key_at : (k : ℕ) (one : Numbered T) (x : FormatEntry H) → k < length items → one ≡ get_or stack k one → x ≡ get_or items k x → IsKeyed keys one.number x
  key_at k one x h e f =
      let is : one.number ≡ get_or (numbers stack) k one.number =
      ap (λ (z : Numbered T). z.number) e ∙ sym (get_or-map (λ (z : Numbered T). z.number) stack k one one.number (omega (arith, h, as_many_keys))) in
      subst (λ n. IsKeyed keys n x) (sym is) (zip_at (IsKeyed keys) k (numbers stack) items one.number x all h f)

  pub keyed_more : (new : KeyNumbers) → StayKeyed keys new → (n : ℕ) (x : FormatEntry H) (v : T) → IsKeyed new n x → (more : List (Numbered T)) (news : List (FormatEntry H)) → more ≡ stack ++ one_of n v ∷ [] → news ≡ items ++ x ∷ [] → AreKeyed new more news
  keyed_more new stay n x v k more news e f =
      subst (λ (xs : List (FormatEntry H)). AllZip (IsKeyed new) (numbers more) xs) (sym f)
      (subst (λ ns. AllZip (IsKeyed new) ns (items ++ x ∷ []))
      (sym (ap (λ (s : List (Numbered T)). numbers s) e ∙ map-append (λ (one : Numbered T). one.number) stack (one_of n v ∷ [])))
      (zip_append (IsKeyed new) (numbers stack) (n ∷ []) items (x ∷ []) (zip_other (IsKeyed keys) (numbers stack) items all (IsKeyed new) (keyed_stays keys new stay)) (k, tt)))

  pub keyed_still : (new : KeyNumbers) → StayKeyed keys new → (same : List (Numbered T)) → same ≡ stack → AreKeyed new same items
  keyed_still new stay same e =
      subst (λ (s : List (Numbered T)). AreKeyed new s items) (sym e) (zip_other (IsKeyed keys) (numbers stack) items all (IsKeyed new) (keyed_stays keys new stay))

  -- nothing changed but that keys may have got numbers
  pub kept_still : {U : Type 0} (named names : List (Numbered U)) (new : KeyNumbers) (same : List (Numbered T)) (news : List (FormatEntry H)) → AreNumbered named items → StayKeyed keys new → names ≡ named → same ≡ stack → news ≡ items
      → AreKept names same new news
  kept_still named names new same news numbered stay d e f = record {
    have_names = subst (λ (xs : List (FormatEntry H)). AreNumbered names xs) (sym f) (subst (λ (s : List (Numbered _)). AreNumbered s items) (sym d) numbered);
    have_keys = subst (λ (xs : List (FormatEntry H)). AreKeyed new same xs) (sym f) (keyed_still new stay same e);
  }

  pub keyed_kept : (k : ℕ) (less : List (Numbered T)) (news : List (FormatEntry H)) → less ≡ take k stack → news ≡ take k items → AreKeyed keys less news
  keyed_kept k less news e f =
      subst (λ (xs : List (FormatEntry H)). AllZip (IsKeyed keys) (numbers less) xs) (sym f)
      (subst (λ ns. AllZip (IsKeyed keys) ns (take k items))
      (sym (ap (λ (s : List (Numbered T)). numbers s) e ∙ sym (take-map (λ (one : Numbered T). one.number) k stack)))
      (zip_take (IsKeyed keys) k (numbers stack) items all))

  pub keyed_less : (k : ℕ) (less : List (Numbered T)) (news : List (FormatEntry H)) → less ≡ remove stack k → news ≡ remove items k → AreKeyed keys less news
  keyed_less k less news e f =
      subst (λ (xs : List (FormatEntry H)). AllZip (IsKeyed keys) (numbers less) xs) (sym f)
      (subst (λ ns. AllZip (IsKeyed keys) ns (remove items k))
      (sym (ap (λ (s : List (Numbered T)). numbers s) e
      ∙ map-append (λ (one : Numbered T). one.number) (take k stack) (drop (suc k) stack)
      ∙ ap (λ ns. ns ++ map (λ (one : Numbered T). one.number) (drop (suc k) stack)) (sym (take-map (λ (one : Numbered T). one.number) k stack))
      ∙ ap (λ ns. take k (numbers stack) ++ ns) (sym (drop-map (λ (one : Numbered T). one.number) (suc k) stack))))
      (zip_append (IsKeyed keys) (take k (numbers stack)) (drop (suc k) (numbers stack)) (take k items) (drop (suc k) items)
      (zip_take (IsKeyed keys) k (numbers stack) items all) (zip_drop (IsKeyed keys) (suc k) (numbers stack) items all)))

  pub keyed_insert : (k n : ℕ) (x : FormatEntry H) (v : T) → IsKeyed keys n x → (more : List (Numbered T)) (news : List (FormatEntry H)) → more ≡ insert stack k (one_of n v) → news ≡ insert items k x → AreKeyed keys more news
  keyed_insert k n x v is more news e f =
      subst (λ (xs : List (FormatEntry H)). AllZip (IsKeyed keys) (numbers more) xs) (sym f)
      (subst (λ ns. AllZip (IsKeyed keys) ns (insert items k x))
      (sym (ap (λ (s : List (Numbered T)). numbers s) e
      ∙ map-append (λ (one : Numbered T). one.number) (take k stack) (one_of n v ∷ drop k stack)
      ∙ ap (λ ns. ns ++ n ∷ map (λ (one : Numbered T). one.number) (drop k stack)) (sym (take-map (λ (one : Numbered T). one.number) k stack))
      ∙ ap (λ ns. take k (numbers stack) ++ n ∷ ns) (sym (drop-map (λ (one : Numbered T). one.number) k stack))))
      (zip_append (IsKeyed keys) (take k (numbers stack)) (n ∷ drop k (numbers stack)) (take k items) (x ∷ drop k items)
      (zip_take (IsKeyed keys) k (numbers stack) items all) (is, zip_drop (IsKeyed keys) k (numbers stack) items all)))

  pub keyed_set : (k : ℕ) (x : FormatEntry H) (handle : H) → x ≡ get_or items k x → AreKeyed keys stack (set items k (with_handle handle x))
  keyed_set k x handle e = zip_set (IsKeyed keys) k (numbers stack) items x (with_handle handle x) all e (λ n h. keyed_handle keys handle n x h)

  -- an entry whose key has another number than that of a tag isn't alike to it
  pub are_others : (tag : TagText) (number : ℕ) → IsNumberOfAlike keys tag number → AreOthers tag number (numbers stack) items
  are_others tag number is = record {
    as_many = zip_long (IsKeyed keys) (numbers stack) items all;
    some = is.some;
    others = λ k x l e keyed other. other_tag (get_or (numbers stack) k 0) x (zip_at (IsKeyed keys) k (numbers stack) items 0 x all l e) keyed other;
  }
    where
      other_tag : (n : ℕ) (x : FormatEntry H) → IsKeyed keys n x → n ≢ 0 → n ≢ number → is_alike_entry tag x ≡ false
      other_tag n Marker h keyed other = refl
      other_tag n (Element handle u) h keyed other = at (is_alike tag (tag_text u)) refl
        where
          at : (b : Bool) → is_alike tag (tag_text u) ≡ b → b ≡ false
          at true e = absurd (other (is.same (tag_text u) n (alike_told tag (tag_text u) e) (h keyed)))
          at false e = refl

-- Each entry has its number, one entry more or less.
use Rattle.std.proofs.Common.{◌≡◌, ◌<◌, ℕ, suc, List, [], ◌∷◌, ◌++◌, drop, get_or, length, map, set, take, refl, ap, sym, ◌∙◌, arith}
use Rattle.std.specs.List.{insert, remove}
use Rattle.std.proofs.lemmas.List.{drop-map, get_or-map, length-map, map-append, map-set, set-get_or, take-map}
use Rattle.h5_builder_state.specs.Numbered.{Numbered, numbers, one_of}
use Rattle.h5_builder_state.proofs.NumberedStackLaws.{item_at}
use Rattle.h5_tables.specs.declared.entry.FormatEntry.{FormatEntry}
use Rattle.h5_tables.specs.declared.entry.FormatEntry.TheVariants.{Element, Marker}
use Rattle.h5_builder_state.specs.Listed.{with_handle}
use Rattle.h5_builder_state.specs.ListNumbers.{AreNumbered, entry_number}

-- another element has the same number
pub same_number : {H : Type 0} (handle : H) (x : FormatEntry H) → entry_number (with_handle handle x) ≡ entry_number x
same_number handle (Element other tag) = refl
same_number handle Marker = refl

module _ {H T : Type 0} (stack : List (Numbered T)) (items : List (FormatEntry H)) (all : AreNumbered stack items) where
  pub as_many : length stack ≡ length items
  as_many =
      sym (length-map stack (λ (one : Numbered T). one.number)) ∙ ap (λ ns. length ns) all ∙ length-map items (λ (entry : FormatEntry H). entry_number entry)

  -- the number of an entry
  pub number_is : (k : ℕ) (x : FormatEntry H) → k < length items → x ≡ get_or items k x → get_or (numbers stack) k 0 ≡ entry_number x
  number_is k x h e =
      ap (λ ns. get_or ns k 0) all ∙ get_or-map (λ (entry : FormatEntry H). entry_number entry) items k x 0 h ∙ ap (λ (entry : FormatEntry H). entry_number entry) (sym e)

  -- one more
  pub numbered_more : (x : FormatEntry H) (v : T) (more : List (Numbered T)) (news : List (FormatEntry H)) → more ≡ stack ++ one_of (entry_number x) v ∷ [] → news ≡ items ++ x ∷ [] → AreNumbered more news
  numbered_more x v more news e f =
      ap (λ (s : List (Numbered T)). numbers s) e
      ∙ map-append (λ (one : Numbered T). one.number) stack (one_of (entry_number x) v ∷ [])
      ∙ ap (λ ns. ns ++ entry_number x ∷ []) all
      ∙ sym (map-append (λ (entry : FormatEntry H). entry_number entry) items (x ∷ []))
      ∙ sym (ap (λ xs. map (λ (entry : FormatEntry H). entry_number entry) xs) f)

  -- the k oldest values
  pub numbered_kept : (k : ℕ) (less : List (Numbered T)) (news : List (FormatEntry H)) → less ≡ take k stack → news ≡ take k items → AreNumbered less news
  numbered_kept k less news e f =
      ap (λ (s : List (Numbered T)). numbers s) e
      ∙ sym (take-map (λ (one : Numbered T). one.number) k stack)
      ∙ ap (λ ns. take k ns) all
      ∙ take-map (λ (entry : FormatEntry H). entry_number entry) k items
      ∙ sym (ap (λ xs. map (λ (entry : FormatEntry H). entry_number entry) xs) f)

  -- all but one
  pub numbered_less : (k : ℕ) (less : List (Numbered T)) (news : List (FormatEntry H)) → less ≡ remove stack k → news ≡ remove items k → AreNumbered less news
  numbered_less k less news e f =
      ap (λ (s : List (Numbered T)). numbers s) e
      ∙ map-append (λ (one : Numbered T). one.number) (take k stack) (drop (suc k) stack)
      ∙ ap (λ ns. ns ++ map (λ (one : Numbered T). one.number) (drop (suc k) stack)) (sym (take-map (λ (one : Numbered T). one.number) k stack))
      ∙ ap (λ ns. take k (numbers stack) ++ ns) (sym (drop-map (λ (one : Numbered T). one.number) (suc k) stack))
      ∙ ap (λ ns. take k ns ++ drop (suc k) ns) all
      ∙ ap (λ ns. ns ++ drop (suc k) (map (λ (entry : FormatEntry H). entry_number entry) items)) (take-map (λ (entry : FormatEntry H). entry_number entry) k items)
      ∙ ap (λ ns. map (λ (entry : FormatEntry H). entry_number entry) (take k items) ++ ns) (drop-map (λ (entry : FormatEntry H). entry_number entry) (suc k) items)
      ∙ sym (map-append (λ (entry : FormatEntry H). entry_number entry) (take k items) (drop (suc k) items))
      ∙ sym (ap (λ xs. map (λ (entry : FormatEntry H). entry_number entry) xs) f)

  -- one more, at a place
  pub numbered_insert : (k : ℕ) (x : FormatEntry H) (v : T) (more : List (Numbered T)) (news : List (FormatEntry H)) → more ≡ insert stack k (one_of (entry_number x) v) → news ≡ insert items k x → AreNumbered more news
  numbered_insert k x v more news e f =
      ap (λ (s : List (Numbered T)). numbers s) e
      ∙ map-append (λ (one : Numbered T). one.number) (take k stack) (one_of (entry_number x) v ∷ drop k stack)
      ∙ ap (λ ns. ns ++ entry_number x ∷ map (λ (one : Numbered T). one.number) (drop k stack)) (sym (take-map (λ (one : Numbered T). one.number) k stack))
      ∙ ap (λ ns. take k (numbers stack) ++ entry_number x ∷ ns) (sym (drop-map (λ (one : Numbered T). one.number) k stack))
      ∙ ap (λ ns. take k ns ++ entry_number x ∷ drop k ns) all
      ∙ ap (λ ns. ns ++ entry_number x ∷ drop k (map (λ (entry : FormatEntry H). entry_number entry) items)) (take-map (λ (entry : FormatEntry H). entry_number entry) k items)
      ∙ ap (λ ns. map (λ (entry : FormatEntry H). entry_number entry) (take k items) ++ entry_number x ∷ ns) (drop-map (λ (entry : FormatEntry H). entry_number entry) k items)
      ∙ sym (map-append (λ (entry : FormatEntry H). entry_number entry) (take k items) (x ∷ drop k items))
      ∙ sym (ap (λ xs. map (λ (entry : FormatEntry H). entry_number entry) xs) f)

  -- another entry of the same number
  pub numbered_set : (k : ℕ) (x y : FormatEntry H) → x ≡ get_or items k x → entry_number y ≡ entry_number x → AreNumbered stack (set items k y)
  numbered_set k x y e same =
      all
      ∙ sym (map-set (λ (entry : FormatEntry H). entry_number entry) items k y
      ∙ ap (λ n. set (map (λ (entry : FormatEntry H). entry_number entry) items) k n) same
      ∙ sym (map-set (λ (entry : FormatEntry H). entry_number entry) items k x)
      ∙ ap (λ z. map (λ (entry : FormatEntry H). entry_number entry) (set items k z)) e
      ∙ ap (λ xs. map (λ (entry : FormatEntry H). entry_number entry) xs) (set-get_or items k x))

-- one moves up
pub numbered_moved : {H T : Type 0} (stack : List (Numbered T)) (items : List (FormatEntry H)) → AreNumbered stack items → (from to : ℕ) (more : List (Numbered T)) (news : List (FormatEntry H)) → from < length items
    → ((one : Numbered T) → one ≡ get_or stack from one → more ≡ insert (remove stack from) to one)
    → ((x : FormatEntry H) → x ≡ get_or items from x → news ≡ insert (remove items from) to x) → AreNumbered more news
numbered_moved {H} {T} stack items all from to more news h e f =
    let one = item_at stack from (omega (arith, h, as_many stack items all)) in
    let x = item_at items from h in
    let number : one.0.number ≡ entry_number x.0 =
    ap (λ (z : Numbered T). z.number) one.1
    ∙ sym (get_or-map (λ (z : Numbered T). z.number) stack from one.0 0 (omega (arith, h, as_many stack items all)))
    ∙ number_is stack items all from x.0 h x.1 in
    numbered_insert (remove stack from) (remove items from) (numbered_less stack items all from (remove stack from) (remove items from) refl refl) to x.0 one.0.value more news
    (e one.0 one.1 ∙ ap (λ n. insert (remove stack from) to (one_of n one.0.value)) number) (f x.0 x.1)

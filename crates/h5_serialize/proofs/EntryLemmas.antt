-- Changes of the stored openers.
use Rattle.std.proofs.Common.{◌≡◌, ◌+◌, ◌-◌, ◌<◌, ◌||◌, List, [], ◌∷◌, ◌++◌, length, map, reverse, take, Some, refl, sym, ap, ◌∙◌, subst, arith, take_all}
use Rattle.std.proofs.lemmas.List.{reverse-append, take_more}
use Rattle.std.proofs.lemmas.Option.{get_or_from_slice_get}
use Rattle.std.specs.List.{slice_get}
use Rattle.h5_serialize.specs.Openers.{are_hidden}
use Rattle.h5_serialize.specs.Entries.{openers_in, AreMarked, AreMarkedFrom}
use Rattle.h5_serialize.specs.declared.openers.Entry.{Entry}

module _ {X Y : Type 0} (f : X → Y) where
  map_append : (xs ys : List X) → map f (xs ++ ys) ≡ map f xs ++ map f ys
  map_append [] ys = refl
  map_append (x ∷ xs) ys = ap (λ l. f x ∷ l) (map_append xs ys)

  pub map_reverse : (xs : List X) → reverse (map f xs) ≡ map f (reverse xs)
  map_reverse [] = refl
  map_reverse (x ∷ xs) =
      reverse-append (f x ∷ []) (map f xs) ∙ ap (λ l. l ++ f x ∷ []) (map_reverse xs)
      ∙ sym (map_append (reverse xs) (x ∷ [])) ∙ ap (map f) (sym (reverse-append (x ∷ []) xs))

-- a list whose last item is x
last_split : {X : Type 0} (xs : List X) (x : X) → slice_get xs (length xs - 1) ≡ Some x → reverse xs ≡ x ∷ reverse (take (length xs - 1) xs)
last_split [] x e = cc
last_split (y ∷ ys) x e =
    let n = length (y ∷ ys) - 1 in
    let le : n < length (y ∷ ys) = omega arith in
    let whole : n + 1 ≡ length (y ∷ ys) = omega arith in
    let split = sym (take_all (n + 1) (y ∷ ys) (omega arith)) ∙ take_more (y ∷ ys) n x le ∙ ap (λ z. take n (y ∷ ys) ++ z ∷ []) (get_or_from_slice_get (y ∷ ys) n x x e) in
    ap reverse split ∙ reverse-append (take n (y ∷ ys)) (x ∷ [])

-- the last entry says whether tags are omitted
pub last_marked : (entries : List Entry) (entry : Entry) → slice_get entries (length entries - 1) ≡ Some entry → AreMarked entries → entry.is_hidden ≡ are_hidden (openers_in entries)
last_marked entries entry e marked =
    let split = last_split entries entry e in
    let first = subst AreMarkedFrom split marked in
    first.0 ∙ ap are_hidden (ap (map (λ x. x.opener)) (sym split) ∙ sym (map_reverse (λ x. x.opener) entries))

pub marked_push : (entries : List Entry) (entry : Entry) → AreMarked entries → entry.is_hidden ≡ entry.opener.is_void || are_hidden (openers_in entries) → AreMarked (entries ++ entry ∷ [])
marked_push entries entry marked e =
    subst AreMarkedFrom (sym (reverse-append entries (entry ∷ [])))
    (e ∙ ap (λ l. entry.opener.is_void || are_hidden l) (map_reverse (λ x. x.opener) entries), marked)

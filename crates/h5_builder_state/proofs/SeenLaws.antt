-- A list that grows at its end, seen with the newest first, when an item is removed, inserted or replaced.
use Rattle.std.proofs.Common.{◌≡◌, ◌+◌, ◌<◌, ◌≤◌, ℕ, suc, drop-cons, get_or, List, [], ◌∷◌, ◌++◌, append_assoc, length, length-append, map, reverse, take, drop, ap, sym, ◌∙◌, arith}
use Rattle.std.proofs.Math.ListN.{set}
use Rattle.std.proofs.Math.Seq.{drop-append_seam, take-append_seam}
use Rattle.std.proofs.lemmas.List.{drop-map, drop-set, length-map, length-reverse, length-take, map-append, reverse-append, take-append-drop, take-set, take_more}

-- lists that are equal, cut at places that are as far from the end
pub same_tail : {A : Type 0} (a b c d : List A) → a ++ b ≡ c ++ d → length b ≡ length d → (a ≡ c) × (b ≡ d)
same_tail a b c d e h =
    let n : length a ≡ length c = omega (arith, h, ap length e, length-append a b, length-append c d) in (
      sym (take-append_seam a b) ∙ ap (λ k. take k (a ++ b)) n ∙ ap (take (length c)) e ∙ take-append_seam c d,
      sym (drop-append_seam a b) ∙ ap (λ k. drop k (a ++ b)) n ∙ ap (drop (length c)) e ∙ drop-append_seam c d,
    )

module _ {X Y : Type 0} (f : X → Y) where
  abbrev pub seen : List X → List Y
  seen xs = reverse (map f xs)

  pub seen-append : (xs ys : List X) → seen (xs ++ ys) ≡ seen ys ++ seen xs
  seen-append xs ys = ap reverse (map-append f xs ys) ∙ reverse-append (map f xs) (map f ys)

  pub seen-cons : (x : X) (xs : List X) → seen (x ∷ xs) ≡ seen xs ++ f x ∷ []
  seen-cons x xs = reverse-append (f x ∷ []) (map f xs)

  pub seen_cut : (xs : List X) (at : ℕ) → seen xs ≡ seen (drop at xs) ++ seen (take at xs)
  seen_cut xs at = ap seen (sym (take-append-drop at xs)) ∙ seen-append (take at xs) (drop at xs)

  -- the n oldest values
  pub seen_at : (xs : List X) (at : ℕ) (newer older : List Y) → seen xs ≡ newer ++ older → at ≡ length older → (newer ≡ seen (drop at xs)) × (older ≡ seen (take at xs))
  seen_at xs at newer older e h =
      let inside : at ≤ length xs = omega (arith, h, ap length e, length-append newer older, length-map xs f, length-reverse (map f xs)) in
      let low : length (seen (take at xs)) ≡ at = omega (arith, inside, length-take at xs, length-map (take at xs) f, length-reverse (map f (take at xs))) in
      same_tail newer older (seen (drop at xs)) (seen (take at xs)) (sym e ∙ seen_cut xs at) (omega (arith, h, low))

  pub seen_around : (xs : List X) (at : ℕ) (newer older : List Y) (e : Y) → seen xs ≡ newer ++ e ∷ older → at ≡ length older → (newer ≡ seen (drop (at + 1) xs)) × (older ≡ seen (take at xs))
  seen_around xs at newer older e cut h =
      let high = seen_at xs (at + 1) newer (e ∷ older) cut (omega (arith, h)) in
      let low = seen_at xs at (newer ++ e ∷ []) older (cut ∙ sym (append_assoc newer (e ∷ []) older)) h in
      (high.0, low.1)

  -- one is taken out
  pub seen_removed : (xs ys : List X) (at : ℕ) (newer older : List Y) (e : Y) → ys ≡ take at xs ++ drop (at + 1) xs → seen xs ≡ newer ++ e ∷ older → at ≡ length older → seen ys ≡ newer ++ older
  seen_removed xs ys at newer older e is cut h =
      let parts = seen_around xs at newer older e cut h in
      ap seen is ∙ seen-append (take at xs) (drop (at + 1) xs) ∙ ap (λ z. z ++ seen (take at xs)) (sym parts.0) ∙ ap (λ z. newer ++ z) (sym parts.1)

  -- one comes to stand above others
  pub seen_put : (low high : List X) (y : X) → seen (low ++ y ∷ high) ≡ seen high ++ f y ∷ seen low
  seen_put low high y = seen-append low (y ∷ high) ∙ ap (λ z. z ++ seen low) (seen-cons y high) ∙ append_assoc (seen high) (f y ∷ []) (seen low)

  pub seen_inserted : (xs ys : List X) (at : ℕ) (newer older : List Y) (y : X) → ys ≡ take at xs ++ y ∷ drop at xs → seen xs ≡ newer ++ older → at ≡ length older → seen ys ≡ newer ++ f y ∷ older
  seen_inserted xs ys at newer older y is cut h =
      let parts = seen_at xs at newer older cut h in
      ap seen is ∙ seen_put (take at xs) (drop at xs) y ∙ ap (λ z. z ++ f y ∷ seen (take at xs)) (sym parts.0) ∙ ap (λ z. newer ++ f y ∷ z) (sym parts.1)

  -- one takes the place of another
  pub seen_replaced : (xs ys : List X) (at : ℕ) (newer older : List Y) (e : Y) (y : X) → ys ≡ take at xs ++ y ∷ drop (at + 1) xs → seen xs ≡ newer ++ e ∷ older → at ≡ length older → seen ys ≡ newer ++ f y ∷ older
  seen_replaced xs ys at newer older e y is cut h =
      let parts = seen_around xs at newer older e cut h in
      ap seen is ∙ seen_put (take at xs) (drop (at + 1) xs) y ∙ ap (λ z. z ++ f y ∷ seen (take at xs)) (sym parts.0) ∙ ap (λ z. newer ++ f y ∷ z) (sym parts.1)

  -- the one at a place
  pub seen_value : (xs : List X) (at : ℕ) (newer older : List Y) (e : Y) (x : X) → x ≡ get_or xs at x → seen xs ≡ newer ++ e ∷ older → at ≡ length older → f x ≡ e
  seen_value xs at newer older e x is cut h =
      let high = seen_at xs (at + 1) newer (e ∷ older) cut (omega (arith, h)) in
      let inside : at < length xs = omega (arith, h, ap length cut, length-append newer (e ∷ older), length-map xs f, length-reverse (map f xs)) in
      let more : take (at + 1) xs ≡ take at xs ++ x ∷ [] = take_more xs at x inside ∙ ap (λ z. take at xs ++ z ∷ []) (sym is) in
      let first : e ∷ older ≡ f x ∷ seen (take at xs) = high.1 ∙ ap seen more ∙ seen_put (take at xs) [] x in
      cc

-- a list where one is exchanged, cut there
pub set_cut : {X : Type 0} (xs : List X) (i : ℕ) (y : X) → i < length xs → set xs i y ≡ take i xs ++ y ∷ drop (i + 1) xs
set_cut xs i y h = sym (take-append-drop i (set xs i y)) ∙ ap (λ z. z ++ drop i (set xs i y)) (take-set xs i y) ∙ ap (λ z. take i xs ++ z) (drop-set xs i y h)

-- what is left of a list from a place on
pub drop_more : {X Y : Type 0} (f : X → Y) (xs : List X) (i : ℕ) (x : X) → i < length xs → x ≡ get_or xs i x → drop i (map f xs) ≡ f x ∷ drop (i + 1) (map f xs)
drop_more f xs i x h e =
    let one_more : suc i ≡ i + 1 = omega arith in
    drop-map f i xs ∙ ap (map f) (drop-cons xs i x h) ∙ ap (λ z. f z ∷ map f (drop (suc i) xs)) (sym e) ∙ ap (λ z. f x ∷ z) (sym (drop-map f (suc i) xs))
    ∙ ap (λ n. f x ∷ drop n (map f xs)) one_more

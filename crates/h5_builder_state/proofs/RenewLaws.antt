-- The summaries of open elements, recomputed.
use Rattle.std.proofs.Common.{◌≡◌, ◌≢◌, ◌+◌, ◌-◌, ◌<◌, ◌≤◌, ◌^◌, ℕ, suc, Some, List, [], ◌∷◌, ◌++◌, drop, length, map, reverse, take, get_or, ap, sym, ◌∙◌, arith}
use Rattle.std.proofs.Math.ListN.{set}
use Rattle.std.proofs.Math.Seq.{map-set_same, take-append_seam}
use Rattle.std.specs.List.{remove}
use Rattle.std.proofs.lemmas.List.{drop-map, length-take, map-append, map-set, set-get_or, take-map, take_more, take_more_set}
use Rattle.h5_interface.specs.Forest.{Forest}
use Rattle.h5_builder_spec.specs.World.{name_in}
use Rattle.h5_builder_state.specs.Numbered.{Numbered, numbers, one_of, values}
use Rattle.h5_names.specs.declared.qualified.QualName.{QualName}
use Rattle.h5_builder_state.proofs.ItemLaws.{length-values}
use Rattle.h5_builder_state.specs.Numbers.{name_number}
use Rattle.h5_builder_state.specs.Summaries.{IsKept, all_open, summaries, summary_of}
use Rattle.h5_builder_state.specs.View.{open_node}
use Rattle.h5_builder_state.specs.declared.open_element.OpenElement.{OpenElement}
use Rattle.h5_builder_state.specs.declared.open_element.OpenElements.{OpenElements}
use Rattle.h5_builder_state.specs.declared.open_element.Summary.{Summary}
use Rattle.h5_builder_state.proofs.StackLaws.{seen_pushed}
use Rattle.h5_builder_state.proofs.SummaryLaws.{kept, kept_newest, summaries_pushed, names}

-- the oldest stay, where one above them is taken out
pub under_removed : {X : Type 0} (xs ys high : List X) (count : ℕ) → ys ≡ take count xs ++ high → count ≤ length xs → take count ys ≡ take count xs
under_removed xs ys high count e h =
    let low : length (take count xs) ≡ count = omega (arith, h, length-take count xs) in
    ap (take count) e ∙ ap (λ k. take k (take count xs ++ high)) (sym low) ∙ take-append_seam (take count xs) high

map_removed : {X Y : Type 0} (f : X → Y) (old new : List X) (place : ℕ) → new ≡ remove old place → map f new ≡ take place (map f old) ++ drop (place + 1) (map f old)
map_removed f old new place e =
    let one_more : suc place ≡ place + 1 = omega arith in
    ap (map f) e ∙ map-append f (take place old) (drop (suc place) old) ∙ ap (λ z. z ++ map f (drop (suc place) old)) (sym (take-map f place old))
    ∙ ap (λ z. take place (map f old) ++ z) (sym (drop-map f (suc place) old)) ∙ ap (λ k. take place (map f old) ++ drop k (map f old)) one_more

module _ {H : Type 0} (node : H → ℕ) (f : Forest) where
  -- what is known of the oldest ones
  pub all_of_place : (xs : List (OpenElement H)) (count : ℕ) (x : OpenElement H) → count ≢ 0 → count ≤ length xs → x ≡ get_or xs (count - 1) x → kept node f (take count xs) ≡ summaries (names node f (take count xs))
      → x.summary.all ≡ all_open (names node f (take count xs))
  all_of_place xs count x some h e k =
      let here : count ≡ count - 1 + 1 = omega (arith, some) in
      let more : take count xs ≡ take (count - 1) xs ++ x ∷ [] =
      ap (λ n. take n xs) here ∙ take_more xs (count - 1) x (omega (arith, some, h)) ∙ ap (λ z. take (count - 1) xs ++ z ∷ []) (sym e) in
      ap (λ (s : Summary). s.all) (kept_newest node f (take (count - 1) xs) (take count xs) x more k) ∙ ap (λ s. all_open (map (name_in f) s)) (sym (seen_pushed (open_node node) (take (count - 1) xs) (take count xs) x more))

  -- one more of them is right
  pub kept_more : (xs : List (OpenElement H)) (place : ℕ) (y : OpenElement H) → place < length xs → y.summary ≡ summary_of (name_in f (node y.handle)) (names node f (take place xs))
      → kept node f (take place xs) ≡ summaries (names node f (take place xs)) → kept node f (take (place + 1) (set xs place y)) ≡ summaries (names node f (take (place + 1) (set xs place y)))
  kept_more xs place y h s k =
      let more = take_more_set xs place y h in
      summaries_pushed (take place xs) (take (place + 1) (set xs place y)) y (name_in f (node y.handle)) (names node f (take place xs)) _ more s
      (ap (map (name_in f)) (seen_pushed (open_node node) (take place xs) (take (place + 1) (set xs place y)) y more)) k

  -- and the elements are the same
  pub same_open : (xs : List (OpenElement H)) (place : ℕ) (x y : OpenElement H) → x ≡ get_or xs place x → node y.handle ≡ node x.handle → reverse (map (open_node node) (set xs place y)) ≡ reverse (map (open_node node) xs)
  same_open xs place x y e h = ap reverse (map-set_same (open_node node) xs place y x (h ∙ ap (open_node node) e))

-- another element of the same number
pub values_set : {H : Type 0} (old new : List (Numbered (OpenElement H))) (place k : ℕ) (y : OpenElement H) → new ≡ set old place (one_of k y) → values new ≡ set (values old) place y
values_set {H} old new place k y e = ap (λ (z : List (Numbered (OpenElement H))). values z) e ∙ map-set (λ (one : Numbered (OpenElement H)). one.value) old place (one_of k y)

pub numbers_set : {H : Type 0} (old new : List (Numbered (OpenElement H))) (place : ℕ) (y : OpenElement H) → new ≡ set old place (one_of (get_or (numbers old) place 0) y) → numbers new ≡ numbers old
numbers_set {H} old new place y e =
    ap (λ (z : List (Numbered (OpenElement H))). numbers z) e ∙ map-set (λ (one : Numbered (OpenElement H)). one.number) old place (one_of (get_or (numbers old) place 0) y) ∙ set-get_or (numbers old) place 0

-- one is taken out
pub values_removed : {H : Type 0} (old new : List (Numbered (OpenElement H))) (place : ℕ) → new ≡ remove old place → values new ≡ take place (values old) ++ drop (place + 1) (values old)
values_removed {H} old new place e = map_removed (λ (one : Numbered (OpenElement H)). one.value) old new place e

pub numbers_removed : {H : Type 0} (old new : List (Numbered (OpenElement H))) (place : ℕ) → new ≡ remove old place → numbers new ≡ take place (numbers old) ++ drop (place + 1) (numbers old)
numbers_removed {H} old new place e = map_removed (λ (one : Numbered (OpenElement H)). one.number) old new place e

-- the same numbers, and new summaries
pub kept_renewed : {H : Type 0} (old new : OpenElements H) (all : List QualName) → numbers new.elements ≡ numbers old.elements → new.numbers ≡ old.numbers → length (values new.elements) < 2 ^ 32
    → map Some (reverse (numbers old.elements)) ≡ map (name_number old.numbers) all → reverse (map (λ (element : OpenElement H). element.summary) (values new.elements)) ≡ summaries all → IsKept new all
kept_renewed {H} old new all e n few h s = record {
  summarized = s;
  numbered = ap (λ (z : List ℕ). map Some (reverse z)) e ∙ h ∙ ap (λ N. map (name_number N) all) (sym n);
  few = omega (arith, few, length-values new.elements);
}

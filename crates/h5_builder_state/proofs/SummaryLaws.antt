-- The summaries of open elements when elements are pushed or removed.
use Rattle.std.proofs.Common.{◌≡◌, Bool, true, false, cond, ◌||◌, ◌<◌, ◌≤◌, ◌-◌, ◌+◌, ℕ, nat_lt, take, drop, get_or, Some, List, [], ◌∷◌, ◌++◌, append_assoc, length, length-append, ◌^◌, map, reverse, refl, ap, subst, sym, ◌∙◌, zero-add, arith}
use Rattle.std.specs.Int.{from_bool}
use Rattle.std.specs.Prelude.{slice_get}
use Rattle.std.proofs.lemmas.Bool.{lt-ltb}
use Rattle.std.proofs.lemmas.List.Sums.{count_by-le-length, sum_by-cons}
use Rattle.std.proofs.lemmas.List.{length-map, length-reverse, length-take, map-append, reverse-append, take-append-drop, take-map, take_more}
use Rattle.h5_names.specs.declared.qualified.QualName.{QualName}
use Rattle.h5_interface.specs.Forest.{Forest}
use Rattle.h5_interface.specs.NewElement.{is_html_template}
use Rattle.h5_builder_spec.specs.stack.Scope.{has_template, later_names}
use Rattle.h5_builder_spec.specs.World.{name_in}
use Rattle.h5_builder_state.specs.Summaries.{IsKept, all_open, open_templates, summaries, summary_of}
use Rattle.h5_builder_state.specs.View.{open_node}
use Rattle.h5_builder_state.specs.declared.name_numbers.NameNumbers.{NameNumbers}
use Rattle.h5_builder_state.specs.declared.open_element.OpenElement.{OpenElement}
use Rattle.h5_builder_state.specs.declared.open_element.OpenElements.{OpenElements}
use Rattle.h5_builder_state.specs.declared.open_element.Summary.{Summary}
use Rattle.h5_builder_state.specs.Numbered.{Numbered, numbers, one_of, values}
use Rattle.h5_builder_state.proofs.SeenLaws.{same_tail}
use Rattle.h5_builder_state.proofs.StackLaws.{last_split, seen_pushed}
use Rattle.h5_builder_state.specs.Numbers.{name_number}

-- a name more, and how many are `template`s
pub one_more : (name : QualName) (older : List QualName) → open_templates (name ∷ older) ≡ from_bool (is_html_template name) + open_templates older
one_more name older = sum_by-cons (λ n. cond (is_html_template n) 1 0) name older ∙ ap (λ k. k + open_templates older) (as_number (is_html_template name))
  where
    as_number : (b : Bool) → cond b 1 0 ≡ from_bool b
    as_number true = refl
    as_number false = refl

-- a `template` is open exactly if the number of those isn't 0
pub some_template : (names : List QualName) → nat_lt 0 (open_templates names) ≡ has_template names
some_template [] = refl
some_template (n ∷ ns) = ap (nat_lt 0) (one_more n ns) ∙ at (is_html_template n) (some_template ns)
  where
    at : (b : Bool) → nat_lt 0 (open_templates ns) ≡ has_template ns → nat_lt 0 (from_bool b + open_templates ns) ≡ (b || has_template ns)
    at true e = lt-ltb 0 (1 + open_templates ns) (omega arith)
    at false e = ap (nat_lt 0) (zero-add (open_templates ns)) ∙ e

-- the older ones have the summaries of their names
pub summaries_behind : (newer older : List QualName) (kept rest : List Summary) → length kept ≡ length newer → kept ++ rest ≡ summaries (newer ++ older) → rest ≡ summaries older
summaries_behind [] older [] rest e h = h
summaries_behind [] older (s ∷ kept) rest e h = absurd (omega (arith, e))
summaries_behind (n ∷ newer) older [] rest e h = absurd (omega (arith, e))
summaries_behind (n ∷ newer) older (s ∷ kept) rest e h = let tail : kept ++ rest ≡ summaries (newer ++ older) = cc in summaries_behind newer older kept rest (omega (arith, e)) tail

-- the newest first, cut in two
pub cut_in_two : {X Y : Type 0} (f : X → Y) (xs : List X) (count : ℕ) → reverse (map f xs) ≡ reverse (map f (drop count xs)) ++ reverse (map f (take count xs))
cut_in_two f xs count =
    ap (λ z. reverse (map f z)) (sym (take-append-drop count xs)) ∙ ap reverse (map-append f (take count xs) (drop count xs)) ∙ reverse-append (map f (take count xs)) (map f (drop count xs))

module _ {H : Type 0} (node : H → ℕ) (f : Forest) where
  abbrev pub kept : List (OpenElement H) → List Summary
  kept xs = reverse (map (λ element. element.summary) xs)

  abbrev pub names : List (OpenElement H) → List QualName
  names xs = map (name_in f) (reverse (map (open_node node) xs))

  -- no more are `template`s than there are
  pub few_templates : (xs : List (OpenElement H)) → open_templates (names xs) ≤ length xs
  few_templates xs = omega (arith, count_by-le-length is_html_template (names xs), length-map (reverse (map (open_node node) xs)) (name_in f), length-reverse (map (open_node node) xs), length-map xs (open_node node))

  -- the `count` oldest elements
  pub kept_under : (xs : List (OpenElement H)) (count : ℕ) → kept xs ≡ summaries (names xs) → kept (take count xs) ≡ summaries (names (take count xs))
  kept_under xs count h =
      let split_names : names xs ≡ names (drop count xs) ++ names (take count xs) = ap (map (name_in f)) (cut_in_two (open_node node) xs count) ∙ map-append (name_in f) (reverse (map (open_node node) (drop count xs))) (reverse (map (open_node node) (take count xs))) in
      let same_length : length (kept (drop count xs)) ≡ length (names (drop count xs)) = simp (length-reverse, length-map) in
      summaries_behind (names (drop count xs)) (names (take count xs)) (kept (drop count xs)) (kept (take count xs)) same_length
      (sym (cut_in_two (λ element. element.summary) xs count) ∙ h ∙ ap summaries split_names)

  -- the newest of them
  pub kept_newest : (xs ys : List (OpenElement H)) (x : OpenElement H) → ys ≡ xs ++ x ∷ [] → kept ys ≡ summaries (names ys) → x.summary ≡ summary_of (name_in f (node x.handle)) (names xs)
  kept_newest xs ys x e h =
      let first : x.summary ∷ kept xs ≡ summary_of (name_in f (node x.handle)) (names xs) ∷ summaries (names xs) =
      sym (seen_pushed (λ element. element.summary) xs ys x e) ∙ h ∙ ap (λ s. summaries (map (name_in f) s)) (seen_pushed (open_node node) xs ys x e) in
      cc

  -- the one at a place
  pub kept_at : (xs : List (OpenElement H)) (i : ℕ) (x : OpenElement H) → i < length xs → x ≡ get_or xs i x → kept xs ≡ summaries (names xs) → x.summary ≡ summary_of (name_in f (node x.handle)) (names (take i xs))
  kept_at xs i x h e k = kept_newest (take i xs) (take (i + 1) xs) x (take_more xs i x h ∙ ap (λ z. take i xs ++ z ∷ []) (sym e)) (kept_under xs (i + 1) k)

  -- what is known of all
  pub all_of_newest : (xs : List (OpenElement H)) (x : OpenElement H) → Some x ≡ slice_get xs (length xs - 1) → kept xs ≡ summaries (names xs) → x.summary.all ≡ all_open (names xs)
  all_of_newest xs x e k =
      let r = last_split xs x e in
      ap (λ (s : Summary). s.all) (kept_newest r.0 xs x r.1 k) ∙ ap (λ s. all_open (map (name_in f) s)) (sym (seen_pushed (open_node node) r.0 xs x r.1))

-- a summary more
pub summaries_pushed : {H : Type 0} (xs ys : List (OpenElement H)) (x : OpenElement H) (name : QualName) (old new : List QualName) → ys ≡ xs ++ x ∷ [] → x.summary ≡ summary_of name old → new ≡ name ∷ old
    → reverse (map (λ (element : OpenElement H). element.summary) xs) ≡ summaries old → reverse (map (λ (element : OpenElement H). element.summary) ys) ≡ summaries new
summaries_pushed {H} xs ys x name old new e s n k =
    seen_pushed (λ (element : OpenElement H). element.summary) xs ys x e
    ∙ ap (λ a. a ∷ reverse (map (λ (element : OpenElement H). element.summary) xs)) s
    ∙ ap (λ z. summary_of name old ∷ z) k
    ∙ ap summaries (sym n)

-- numbers of names, with one more, with one less, or of the oldest ones
number_pushed : (N : NameNumbers) (ns : List ℕ) (k : ℕ) (name : QualName) (names : List QualName) → name_number N name ≡ Some k → map Some (reverse ns) ≡ map (name_number N) names
    → map Some (reverse (ns ++ k ∷ [])) ≡ map (name_number N) (name ∷ names)
number_pushed N ns k name names e h = ap (λ (z : List ℕ). map Some z) (reverse-append ns (k ∷ [])) ∙ ap (λ o. o ∷ map Some (reverse ns)) (sym e) ∙ ap (λ z. name_number N name ∷ z) h

number_popped : (N : NameNumbers) (ns ms : List ℕ) (k : ℕ) (names : List QualName) → ns ≡ ms ++ k ∷ [] → map Some (reverse ns) ≡ map (name_number N) names → map Some (reverse ms) ≡ map (name_number N) (later_names names)
number_popped N ns ms k names e h = at names (sym (ap (λ (z : List ℕ). map Some (reverse z)) e ∙ ap (λ (z : List ℕ). map Some z) (reverse-append ms (k ∷ []))) ∙ h)
  where
    at : (names : List QualName) → Some k ∷ map Some (reverse ms) ≡ map (name_number N) names → map Some (reverse ms) ≡ map (name_number N) (later_names names)
    at [] e = absurd (cc)
    at (n ∷ ns) e = cc

number_parts : (N : NameNumbers) (ns : List ℕ) (count : ℕ) (newer older : List QualName) → length older ≡ length (take count ns) → map Some (reverse ns) ≡ map (name_number N) (newer ++ older)
    → (map Some (reverse (drop count ns)) ≡ map (name_number N) newer) × (map Some (reverse (take count ns)) ≡ map (name_number N) older)
number_parts N ns count newer older e h =
    let cut : map Some (reverse ns) ≡ map Some (reverse (drop count ns)) ++ map Some (reverse (take count ns)) =
    ap (λ (z : List ℕ). map Some (reverse z)) (sym (take-append-drop count ns)) ∙ ap (λ (z : List ℕ). map Some z) (reverse-append (take count ns) (drop count ns)) ∙ map-append (λ (x : ℕ). Some x) (reverse (drop count ns)) (reverse (take count ns)) in
    same_tail (map Some (reverse (drop count ns))) (map Some (reverse (take count ns))) (map (name_number N) newer) (map (name_number N) older)
    (sym cut ∙ h ∙ map-append (name_number N) newer older) (omega (arith, e, length-map older (name_number N), length-map (reverse (take count ns)) (λ (x : ℕ). Some x), length-reverse (take count ns)))

-- one is taken out
pub number_removed : (N : NameNumbers) (ns : List ℕ) (place : ℕ) (newer older : List QualName) (name : QualName) → place < length ns → place ≡ length older → map Some (reverse ns) ≡ map (name_number N) (newer ++ name ∷ older)
    → map Some (reverse (take place ns ++ drop (place + 1) ns)) ≡ map (name_number N) (newer ++ older)
number_removed N ns place newer older name h k e =
    let high = (number_parts N ns (place + 1) newer (name ∷ older) (omega (arith, k, h, length-take (place + 1) ns)) e).0 in
    let low = (number_parts N ns place (newer ++ name ∷ []) older (omega (arith, k, h, length-take place ns)) (e ∙ ap (map (name_number N)) (sym (append_assoc newer (name ∷ []) older)))).1 in
    ap (λ (z : List ℕ). map Some z) (reverse-append (take place ns) (drop (place + 1) ns))
    ∙ map-append (λ (x : ℕ). Some x) (reverse (drop (place + 1) ns)) (reverse (take place ns))
    ∙ ap (λ z. z ++ map Some (reverse (take place ns))) high
    ∙ ap (λ z. map (name_number N) newer ++ z) low
    ∙ sym (map-append (name_number N) newer older)

pub numbers_grow : (N M : NameNumbers) (ms : List ℕ) (names : List QualName) → ((one : QualName) (m : ℕ) → name_number N one ≡ Some m → name_number M one ≡ Some m) → map Some ms ≡ map (name_number N) names
    → map Some ms ≡ map (name_number M) names
numbers_grow N M [] [] stay e = refl
numbers_grow N M [] (n ∷ ns) stay e = absurd (cc)
numbers_grow N M (m ∷ ms) [] stay e = absurd (cc)
numbers_grow N M (m ∷ ms) (n ∷ ns) stay e =
    let head : name_number N n ≡ Some m = cc in
    let tail : map Some ms ≡ map (name_number N) ns = cc in
    ap (λ o. o ∷ map Some ms) (sym (stay n m head)) ∙ ap (λ z. name_number M n ∷ z) (numbers_grow N M ms ns stay tail)

-- one less
kept_later : (s : Summary) (rest : List Summary) (names : List QualName) → s ∷ rest ≡ summaries names → rest ≡ summaries (later_names names)
kept_later s rest [] e = absurd (cc)
kept_later s rest (n ∷ ns) e = cc

-- what is stored with open elements and their numbers, where elements come or leave
module _ {H : Type 0} where
  abbrev summary_at : OpenElement H → Summary
  summary_at element = element.summary

  abbrev value_at : Numbered (OpenElement H) → OpenElement H
  value_at one = one.value

  abbrev number_at : Numbered (OpenElement H) → ℕ
  number_at one = one.number

  pub pushed_values : (old new : List (Numbered (OpenElement H))) (k : ℕ) (x : OpenElement H) → new ≡ old ++ one_of k x ∷ [] → values new ≡ values old ++ x ∷ []
  pushed_values old new k x e = ap (λ (z : List (Numbered (OpenElement H))). values z) e ∙ map-append value_at old (one_of k x ∷ [])

  pub kept_pushed : (old new : OpenElements H) (x : OpenElement H) (k : ℕ) (name : QualName) (all : List QualName) → new.elements ≡ old.elements ++ one_of k x ∷ [] → x.summary ≡ summary_of name all
      → name_number new.numbers name ≡ Some k → ((one : QualName) (m : ℕ) → name_number old.numbers one ≡ Some m → name_number new.numbers one ≡ Some m) → length old.elements + 1 < 2 ^ 32 → IsKept old all → IsKept new (name ∷ all)
  kept_pushed old new x k name all e s n stay few h =
      let whole = pushed_values old.elements new.elements k x e in
      let more : numbers new.elements ≡ numbers old.elements ++ k ∷ [] = ap (λ (z : List (Numbered (OpenElement H))). numbers z) e ∙ map-append number_at old.elements (one_of k x ∷ []) in
      record {
        summarized = summaries_pushed (values old.elements) (values new.elements) x name all (name ∷ all) whole s refl h.summarized;
        numbered = ap (λ (z : List ℕ). map Some (reverse z)) more ∙ number_pushed new.numbers (numbers old.elements) k name all n (numbers_grow old.numbers new.numbers (reverse (numbers old.elements)) all stay h.numbered);
        few = omega (arith, few, ap (λ (z : List (Numbered (OpenElement H))). length z) e, length-append old.elements (one_of k x ∷ []));
      }

  pub kept_grown : (old new : OpenElements H) (all : List QualName) → new.elements ≡ old.elements → ((one : QualName) (m : ℕ) → name_number old.numbers one ≡ Some m → name_number new.numbers one ≡ Some m) → IsKept old all → IsKept new all
  kept_grown old new all e stay h = record {
    summarized = ap (λ (z : List (Numbered (OpenElement H))). reverse (map summary_at (values z))) e ∙ h.summarized;
    numbered = ap (λ (z : List (Numbered (OpenElement H))). map Some (reverse (numbers z))) e ∙ numbers_grow old.numbers new.numbers (reverse (numbers old.elements)) all stay h.numbered;
    few = omega (arith, h.few, ap (λ (z : List (Numbered (OpenElement H))). length z) e);
  }

  pub kept_popped : (old new : OpenElements H) (x : OpenElement H) (k : ℕ) (all : List QualName) → values old.elements ≡ values new.elements ++ x ∷ [] → numbers old.elements ≡ numbers new.elements ++ k ∷ []
      → new.numbers ≡ old.numbers → IsKept old all → IsKept new (later_names all)
  kept_popped old new x k all e f n h = record {
    summarized = kept_later x.summary (reverse (map summary_at (values new.elements))) all (sym (seen_pushed summary_at (values new.elements) (values old.elements) x e) ∙ h.summarized);
    numbered = number_popped old.numbers (numbers old.elements) (numbers new.elements) k all f h.numbered ∙ ap (λ N. map (name_number N) (later_names all)) (sym n);
    few = omega (arith, h.few, ap (λ (z : List ℕ). length z) f, length-append (numbers new.elements) (k ∷ []), length-map old.elements number_at, length-map new.elements number_at);
  }

  pub cut_values : (old new : List (Numbered (OpenElement H))) (count : ℕ) → new ≡ take count old → values new ≡ take count (values old)
  cut_values old new count e = ap (λ (z : List (Numbered (OpenElement H))). values z) e ∙ sym (take-map value_at count old)

  -- the numbers of the `count` oldest elements
  module _ (node : H → ℕ) (f : Forest) (old : OpenElements H) (count : ℕ) (h : IsKept old (names node f (values old.elements))) where
    numbered_under : map Some (reverse (take count (numbers old.elements))) ≡ map (name_number old.numbers) (names node f (take count (values old.elements)))
    numbered_under =
        let older = take count (values old.elements) in
        let newer = drop count (values old.elements) in
        let same : length (names node f older) ≡ length (take count (numbers old.elements)) =
        omega (
          arith,
          length-map (reverse (map (open_node node) older)) (name_in f),
          length-reverse (map (open_node node) older),
          length-map older (open_node node),
          ap (λ z. length z) (take-map value_at count old.elements),
          ap (λ z. length z) (take-map number_at count old.elements),
          length-map (take count old.elements) value_at,
          length-map (take count old.elements) number_at,
        ) in
        let split : names node f (values old.elements) ≡ names node f newer ++ names node f older =
        ap (map (name_in f)) (cut_in_two (open_node node) (values old.elements) count) ∙ map-append (name_in f) (reverse (map (open_node node) newer)) (reverse (map (open_node node) older)) in
        (number_parts old.numbers (numbers old.elements) count (names node f newer) (names node f older) same (h.numbered ∙ ap (map (name_number old.numbers)) split)).1

    pub kept_cut : (new : OpenElements H) → new.elements ≡ take count old.elements → new.numbers ≡ old.numbers → IsKept new (names node f (values new.elements))
    kept_cut new e n =
        let older = take count (values old.elements) in
        let all = cut_values old.elements new.elements count e in
        let some : numbers new.elements ≡ take count (numbers old.elements) = ap (λ (z : List (Numbered (OpenElement H))). numbers z) e ∙ sym (take-map number_at count old.elements) in
        subst (λ xs. IsKept new (names node f xs)) (sym all)
        (record {
          summarized = ap (λ xs. reverse (map summary_at xs)) all ∙ kept_under node f (values old.elements) count h.summarized;
          numbered = ap (λ (z : List ℕ). map Some (reverse z)) some ∙ numbered_under ∙ ap (λ N. map (name_number N) (names node f older)) (sym n);
          few = omega (arith, h.few, ap (λ (z : List (Numbered (OpenElement H))). length z) e, length-take count old.elements);
        })

  -- the number of one
  pub number_of_place : (node : H → ℕ) (f : Forest) (old : OpenElements H) (place : ℕ) (name : QualName) (older : List QualName) → place < length (values old.elements) → names node f (take (place + 1) (values old.elements)) ≡ name ∷ older
      → IsKept old (names node f (values old.elements)) → name_number old.numbers name ≡ Some (get_or (numbers old.elements) place 0)
  number_of_place node f old place name older h e k =
      let inside : place < length (numbers old.elements) = omega (arith, h, length-map old.elements value_at, length-map old.elements number_at) in
      let more : reverse (take (place + 1) (numbers old.elements)) ≡ get_or (numbers old.elements) place 0 ∷ reverse (take place (numbers old.elements)) =
      ap reverse (take_more (numbers old.elements) place 0 inside) ∙ reverse-append (take place (numbers old.elements)) (get_or (numbers old.elements) place 0 ∷ []) in
      let first : Some (get_or (numbers old.elements) place 0) ∷ map Some (reverse (take place (numbers old.elements))) ≡ name_number old.numbers name ∷ map (name_number old.numbers) older =
      sym (ap (λ (z : List ℕ). map Some z) more) ∙ numbered_under node f old (place + 1) k ∙ ap (map (name_number old.numbers)) e in
      cc

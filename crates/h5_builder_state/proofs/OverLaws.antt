-- The summaries of open elements above others stay right if the same is known about those others.
use Rattle.std.proofs.Common.{◌≡◌, ◌+◌, ◌==◌, ◌&&◌, ◌||◌, ℕ, Bool, cond, true, false, codes, not, drop, take, List, [], ◌∷◌, ◌++◌, append_assoc, length, map, reverse, refl, ap, sym, ◌∙◌, arith}
use Rattle.std.proofs.lemmas.List.{length-map, length-reverse, map-append, reverse-append}
use Rattle.std.proofs.Math.Bool.{beq}
use Rattle.std.proofs.Math.Dec.{eqb}
use Rattle.std.proofs.lemmas.Bool.{and_parts, eqb-true}
use Rattle.std.specs.Int.{from_bool}
use Rattle.h5_names.specs.declared.qualified.QualName.{QualName}
use Rattle.h5_interface.specs.Forest.{Forest}
use Rattle.h5_interface.specs.NewElement.{is_html_template}
use Rattle.h5_builder_spec.specs.World.{name_in}
use Rattle.h5_builder_spec.specs.reset.Roles.{is_html_element}
use Rattle.h5_builder_spec.specs.stack.Closing.{ends_item_search}
use Rattle.h5_tables.specs.TagSets.{is_body_end_ok, is_button_scope, is_default_scope, is_html_named, is_special}
use Rattle.h5_builder_state.specs.Summaries.{all_open, summaries, summary_of}
use Rattle.h5_builder_state.specs.View.{IsKeptOver, open_node}
use Rattle.h5_builder_state.specs.declared.open_element.AllOpen.{AllOpen}
use Rattle.h5_builder_state.specs.declared.open_element.OpenElement.{OpenElement}
use Rattle.h5_builder_state.proofs.SummaryLaws.{cut_in_two, kept, kept_under, names, one_more, summaries_behind}

-- what is known with one more, by its name, what is known of the others, and how many they are
all_next : QualName → AllOpen → ℕ → AllOpen
all_next n all count = record {
  unclosed = not (is_body_end_ok n) || all.unclosed;
  body_in_scope = cond (is_html_named (codes "body") n) true (cond (is_default_scope n) false all.body_in_scope);
  p_in_button_scope = cond (is_html_named (codes "p") n) true (cond (is_button_scope n) false all.p_in_button_scope);
  templates = from_bool (is_html_template n) + all.templates;
  special = cond (is_special n) (count + 1) all.special;
  item_end = cond (ends_item_search n) (count + 1) all.item_end;
  scope_end = cond (is_default_scope n) (count + 1) all.scope_end;
  html = cond (is_html_element n) (count + 1) all.html;
  oldest_option = cond ((all.oldest_option == 0) && is_html_named (codes "option") n) (count + 1) all.oldest_option;
}

known_next : (n : QualName) (older : List QualName) → all_open (n ∷ older) ≡ all_next n (all_open older) (length older)
unfolding is_body_end_ok all_next is_html_named is_special is_default_scope
known_next n older = ap (λ t. record (all_next n (all_open older) (length older)) { templates = t }) (one_more n older)

pub all_alike : (n : QualName) (olds news : List QualName) → all_open olds ≡ all_open news → length olds ≡ length news → all_open (n ∷ olds) ≡ all_open (n ∷ news)
all_alike n olds news e l = known_next n olds ∙ ap (λ a. all_next n a (length olds)) e ∙ ap (all_next n (all_open news)) l ∙ sym (known_next n news)

-- what is compared field by field
same_bool : (a b : Bool) → beq a b ≡ true → a ≡ b
same_bool true true e = refl
same_bool false false e = refl
same_bool true false e = absurd (cc)
same_bool false true e = absurd (cc)

pub same_all : (a b : AllOpen) → (beq a.unclosed b.unclosed && (beq a.body_in_scope b.body_in_scope && (beq a.p_in_button_scope b.p_in_button_scope && (eqb a.templates b.templates
    && (eqb a.special b.special && (eqb a.item_end b.item_end && (eqb a.scope_end b.scope_end && (eqb a.html b.html && eqb a.oldest_option b.oldest_option)))))))) ≡ true → a ≡ b
same_all a b e =
    let e1 = and_parts (beq a.unclosed b.unclosed) _ e in
    let e2 = and_parts (beq a.body_in_scope b.body_in_scope) _ e1.1 in
    let e3 = and_parts (beq a.p_in_button_scope b.p_in_button_scope) _ e2.1 in
    let e4 = and_parts (eqb a.templates b.templates) _ e3.1 in
    let e5 = and_parts (eqb a.special b.special) _ e4.1 in
    let e6 = and_parts (eqb a.item_end b.item_end) _ e5.1 in
    let e7 = and_parts (eqb a.scope_end b.scope_end) _ e6.1 in
    let e8 = and_parts (eqb a.html b.html) _ e7.1 in
    rw (
      same_bool a.unclosed b.unclosed e1.0,
      same_bool a.body_in_scope b.body_in_scope e2.0,
      same_bool a.p_in_button_scope b.p_in_button_scope e3.0,
      eqb-true a.templates b.templates e4.0,
      eqb-true a.special b.special e5.0,
      eqb-true a.item_end b.item_end e6.0,
      eqb-true a.scope_end b.scope_end e7.0,
      eqb-true a.html b.html e8.0,
      eqb-true a.oldest_option b.oldest_option e8.1,
    ) refl

module _ {H : Type 0} (node : H → ℕ) (f : Forest) where
  kept_next : (x : OpenElement H) (xs : List (OpenElement H)) → kept node f (x ∷ xs) ≡ kept node f xs ++ x.summary ∷ []
  kept_next x xs = reverse-append (x.summary ∷ []) (map (λ element. element.summary) xs)

  names_next : (x : OpenElement H) (xs : List (OpenElement H)) → names node f (x ∷ xs) ≡ names node f xs ++ name_in f (node x.handle) ∷ []
  names_next x xs =
      ap (map (name_in f)) (reverse-append (node x.handle ∷ []) (map (open_node node) xs)) ∙ map-append (name_in f) (reverse (map (open_node node) xs)) (node x.handle ∷ [])

  -- the oldest of them
  pub over_next : (x : OpenElement H) (xs : List (OpenElement H)) (older : List QualName) → IsKeptOver node f (x ∷ xs) older
      → (x.summary ≡ summary_of (name_in f (node x.handle)) older) × IsKeptOver node f xs (name_in f (node x.handle) ∷ older)
  over_next x xs older h =
      let n = name_in f (node x.handle) in
      let whole : kept node f xs ++ (x.summary ∷ summaries older) ≡ summaries (names node f xs ++ n ∷ older) =
      sym (append_assoc (kept node f xs) (x.summary ∷ []) (summaries older)) ∙ ap (λ z. z ++ summaries older) (sym (kept_next x xs)) ∙ h
      ∙ ap (λ z. summaries (z ++ older)) (names_next x xs) ∙ ap summaries (append_assoc (names node f xs) (n ∷ []) older) in
      let same : length (kept node f xs) ≡ length (names node f xs) = simp (length-reverse, length-map) in
      let first : x.summary ∷ summaries older ≡ summary_of n older ∷ summaries older = summaries_behind (names node f xs) (n ∷ older) (kept node f xs) (x.summary ∷ summaries older) same whole in
      let it : x.summary ≡ summary_of n older = cc in
      (it, ap (λ s. kept node f xs ++ s ∷ summaries older) (sym it) ∙ whole)

  pub over_more : (x : OpenElement H) (xs : List (OpenElement H)) (older : List QualName) → x.summary ≡ summary_of (name_in f (node x.handle)) older → IsKeptOver node f xs (name_in f (node x.handle) ∷ older)
      → IsKeptOver node f (x ∷ xs) older
  over_more x xs older e h =
      let n = name_in f (node x.handle) in
      ap (λ z. z ++ summaries older) (kept_next x xs) ∙ append_assoc (kept node f xs) (x.summary ∷ []) (summaries older) ∙ ap (λ s. kept node f xs ++ s ∷ summaries older) e ∙ h
      ∙ ap summaries (sym (append_assoc (names node f xs) (n ∷ []) older)) ∙ ap (λ z. summaries (z ++ older)) (sym (names_next x xs))

  -- above others of which the same is known
  pub over_alike : (xs : List (OpenElement H)) (olds news : List QualName) → all_open olds ≡ all_open news → length olds ≡ length news → IsKeptOver node f xs olds → IsKeptOver node f xs news
  over_alike [] olds news e l h = refl
  over_alike (x ∷ xs) olds news e l h =
      let n = name_in f (node x.handle) in
      let next = over_next x xs olds h in
      let alike = all_alike n olds news e l in
      over_more x xs news (next.0 ∙ ap (λ a. record { special = (summary_of n []).special; implied = (summary_of n []).implied; all = a }) alike)
      (over_alike xs (n ∷ olds) (n ∷ news) alike (omega (arith, l)) next.1)

  split_names : (xs : List (OpenElement H)) (count : ℕ) → names node f xs ≡ names node f (drop count xs) ++ names node f (take count xs)
  split_names xs count =
      ap (map (name_in f)) (cut_in_two (open_node node) xs count) ∙ map-append (name_in f) (reverse (map (open_node node) (drop count xs))) (reverse (map (open_node node) (take count xs)))

  -- those above a place
  pub over_cut : (xs : List (OpenElement H)) (count : ℕ) → kept node f xs ≡ summaries (names node f xs) → IsKeptOver node f (drop count xs) (names node f (take count xs))
  over_cut xs count h =
      ap (λ s. kept node f (drop count xs) ++ s) (sym (kept_under node f xs count h)) ∙ sym (cut_in_two (λ element. element.summary) xs count) ∙ h ∙ ap summaries (split_names xs count)

  pub over_whole : (xs : List (OpenElement H)) (count : ℕ) → kept node f (take count xs) ≡ summaries (names node f (take count xs)) → IsKeptOver node f (drop count xs) (names node f (take count xs))
      → kept node f xs ≡ summaries (names node f xs)
  over_whole xs count k h =
      cut_in_two (λ element. element.summary) xs count ∙ ap (λ s. kept node f (drop count xs) ++ s) k ∙ h ∙ ap summaries (sym (split_names xs count))

-- The search for the element that an end tag closes, by the places of two elements.
use Rattle.std.proofs.Common.{◌≡◌, ◌<◌, ◌+◌, ℕ, nat_le, nat_lt, Bool, true, false, cond, not, ◌&&◌, ◌||◌, List, [], ◌∷◌, length, refl, ap, sym, ◌∙◌, arith}
use Rattle.std.proofs.Math.Bool.{or-true}
use Rattle.std.proofs.lemmas.Bool.{le-leb, lt-ltb, lt-leb}
use Rattle.h5_names.specs.declared.qualified.QualName.{QualName}
use Rattle.h5_builder_spec.specs.reset.Roles.{is_html_element}
use Rattle.h5_builder_spec.specs.insertion.Foreign.{is_named_in_any_case}
use Rattle.h5_builder_spec.specs.modes.ForeignContent.{Finds, ReachesHtml, ReachesRoot, search_end}
use Rattle.h5_builder_spec.specs.World.{World, names_of}
use Rattle.h5_builder_actions.specs.EndSearches.{IsFoundBy, IsFoundIn, end_by}
use Rattle.h5_builder_actions.specs.declared.leaving_foreign.EndSearch.{EndSearch as Kept}
use Rattle.h5_builder_actions.specs.declared.leaving_foreign.EndSearch.TheVariants as kept
use Rattle.h5_builder_actions.proofs.SearchLaws.{search_step}
use Rattle.h5_builder_state.specs.Newest.{is_foreign_named, newest_where}
use Rattle.h5_builder_state.proofs.NewestLaws.{cut_newest, newest_le}

module _ (local : List ℕ) where
  abbrev foreign : List QualName → ℕ
  foreign names = newest_where (is_foreign_named local) names

  abbrev html : List QualName → ℕ
  html names = newest_where is_html_element names

  -- the search is a comparison of two places
  pub search_by_places : (names : List QualName) → search_end local names ≡ end_by (foreign names) (html names)
  search_by_places [] = refl
  search_by_places (n ∷ []) = at (is_html_element n) (is_named_in_any_case local n)
    where
      at : (a b : Bool) → ReachesRoot ≡ end_by (cond (not a && b) 1 0) (cond a 1 0)
      at true b = refl
      at false true = refl
      at false false = refl
  search_by_places (n ∷ m ∷ ns) = search_step local n (m ∷ ns) (omega arith) ∙ at (is_html_element n) (is_named_in_any_case local n) (search_by_places (m ∷ ns))
    where
      at : (a b : Bool) → search_end local (m ∷ ns) ≡ end_by (foreign (m ∷ ns)) (html (m ∷ ns))
          → cond a ReachesHtml (cond b Finds (search_end local (m ∷ ns))) ≡ end_by (cond (not a && b) (length (m ∷ ns) + 1) (foreign (m ∷ ns))) (cond a (length (m ∷ ns) + 1) (html (m ∷ ns)))
      at true b go =
          let less = newest_le (is_foreign_named local) (m ∷ ns) in
          sym (ap (λ c. cond c (cond (nat_le (foreign (m ∷ ns)) (length (m ∷ ns) + 1)) ReachesHtml Finds) ReachesRoot) (ap (λ d. nat_lt 1 (foreign (m ∷ ns)) || d) (lt-ltb 1 (length (m ∷ ns) + 1) (omega arith)) ∙ or-true (nat_lt 1 (foreign (m ∷ ns))))
          ∙ ap (λ c. cond c ReachesHtml Finds) (le-leb (foreign (m ∷ ns)) (length (m ∷ ns) + 1) (omega (arith, less))))
      at false true go =
          let less = newest_le is_html_element (m ∷ ns) in
          sym (ap (λ c. cond (c || nat_lt 1 (html (m ∷ ns))) (cond (nat_le (length (m ∷ ns) + 1) (html (m ∷ ns))) ReachesHtml Finds) ReachesRoot) (lt-ltb 1 (length (m ∷ ns) + 1) (omega arith))
          ∙ ap (λ c. cond c ReachesHtml Finds) (lt-leb (length (m ∷ ns) + 1) (html (m ∷ ns)) (omega (arith, less))))
      at false false go = go

  -- the newest of the name is one of MathML or SVG, if no HTML element is newer
  pub newest_is_foreign : (names : List QualName) → html names < foreign names → newest_where (is_named_in_any_case local) names ≡ foreign names
  newest_is_foreign [] h = refl
  newest_is_foreign (n ∷ ns) h = at (is_html_element n) (is_named_in_any_case local n) (newest_is_foreign ns) h
    where
      at : (a b : Bool) → (html ns < foreign ns → newest_where (is_named_in_any_case local) ns ≡ foreign ns) → cond a (length ns + 1) (html ns) < cond (not a && b) (length ns + 1) (foreign ns)
          → cond b (length ns + 1) (newest_where (is_named_in_any_case local) ns) ≡ cond (not a && b) (length ns + 1) (foreign ns)
      at true b go k = absurd (omega (arith, k, newest_le (is_foreign_named local) ns))
      at false true go k = refl
      at false false go k = go k

  pub found_by_places : (w : World) (here other : ℕ) (found : Kept) → length w.stack ≡ length (names_of w) → here ≡ foreign (names_of w) → other ≡ html (names_of w) → IsFoundBy here other found → IsFoundIn w local found
  found_by_places w here other kept.ReachesRoot long e f by = tt
  found_by_places w here other kept.ReachesHtml long e f by = tt
  found_by_places w here other (kept.Finds place) long e f by =
      let newest = newest_is_foreign (names_of w) (omega (arith, by.1, e, f)) in
      omega (arith, by.0, e, newest, cut_newest (is_named_in_any_case local) (names_of w) w.stack long)

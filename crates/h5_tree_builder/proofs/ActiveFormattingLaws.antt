-- What an iterator over the list of active formatting elements gives.
use Rattle.std.proofs.Common.{◌≡◌, ℕ, List, [], ◌∷◌, ◌++◌, length, map, reverse, refl, ap, sym, ◌∙◌}
use Rattle.std.proofs.lemmas.List.{length-map, map-append, reverse-append}
use Rattle.h5_token.specs.TokenText.{tag_text}
use Rattle.h5_tables.specs.declared.entry.FormatEntry.{FormatEntry}
use Rattle.h5_tables.specs.declared.entry.FormatEntry.TheVariants.{Element, Marker}
use Rattle.h5_builder_spec.specs.formatting.FormattingList.{ElementEntry, after_marker}
use Rattle.h5_builder_state.specs.Listed.{entry_of}
use Rattle.h5_builder_state.specs.View.{listed_node}
use Rattle.h5_builder_state.specs.declared.open_element.Listed.{Listed}
use Rattle.h5_tree_builder.specs.ActiveFormatting.{falling, given_entry, given_place, placed, still_given}

map-reversed : {A B : Type 0} (f : A → B) (l : List A) → map f (reverse l) ≡ reverse (map f l)
map-reversed f [] = refl
map-reversed f (x ∷ l) = ap (map f) (reverse-append (x ∷ []) l) ∙ map-append f (reverse l) (x ∷ []) ∙ ap (λ y. y ++ f x ∷ []) (map-reversed f l) ∙ sym (reverse-append (f x ∷ []) (map f l))

-- the entries of a world's list, and their places
module _ {H : Type 0} (node : H → ℕ) where
  placed_entries : (l : List (FormatEntry (Listed H))) → map (given_entry node) (placed l) ≡ after_marker (map (entry_of (listed_node node)) l)
  placed_entries [] = refl
  placed_entries (Marker ∷ l) = refl
  placed_entries (Element listed tag ∷ l) = ap (λ x. ElementEntry (node listed.handle) (tag_text tag) ∷ x) (placed_entries l)

  placed_places : (l : List (FormatEntry (Listed H))) → map given_place (placed l) ≡ falling (length (map (entry_of (listed_node node)) l)) (after_marker (map (entry_of (listed_node node)) l))
  placed_places [] = refl
  placed_places (Marker ∷ l) = refl
  placed_places (Element listed tag ∷ l) = ap (λ n. n ∷ map given_place (placed l)) (sym (length-map l (entry_of (listed_node node)))) ∙ ap (λ x. length (map (entry_of (listed_node node)) l) ∷ x) (placed_places l)

  pub given_entries : (entries : List (FormatEntry (Listed H))) → map (given_entry node) (still_given entries) ≡ after_marker (reverse (map (entry_of (listed_node node)) entries))
  given_entries entries = placed_entries (reverse entries) ∙ ap after_marker (map-reversed (entry_of (listed_node node)) entries)

  pub given_places : (entries : List (FormatEntry (Listed H))) → map given_place (still_given entries) ≡ falling (length (reverse (map (entry_of (listed_node node)) entries))) (after_marker (reverse (map (entry_of (listed_node node)) entries)))
  given_places entries = placed_places (reverse entries) ∙ ap (λ x. falling (length x) (after_marker x)) (map-reversed (entry_of (listed_node node)) entries)

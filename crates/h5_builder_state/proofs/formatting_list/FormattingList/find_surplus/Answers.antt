use Rattle.std.proofs.Common.{◌≡◌, ◌<◌, ◌≤◌, ℕ, List, ap, arith, length, refl, subst, sym, ◌∙◌}
use Rattle.h5_token.specs.TokenText.{tag_text}
use Rattle.h5_tables.specs.declared.entry.FormatEntry.{FormatEntry}
use Rattle.h5_builder_spec.specs.formatting.FormattingList.{count_alike, without_earliest}
use Rattle.h5_builder_state.specs.Listed.{entries_of, without_place}
use Rattle.h5_builder_state.proofs.AlikeLaws.{IsEarliest, all_counted, earliest_found}
use Rattle.h5_builder_state.proofs.ListWalkLaws.{length-under, under_all}
use Rattle.h5_builder_state.proofs.formatting_list.FormattingList.find_surplus.Goals as goal

pub returns-then-found-lt-MOST_ALIKE-clause-few : goal.returns-then-found-lt-MOST_ALIKE-clause-few
returns-then-found-lt-MOST_ALIKE-clause-few g c = λ node.
    let t = tag_text c.args.tag.now in
    let many = all_counted t (entries_of node c.self.inside.entries.items) c.find_alike-found.result (c.find_alike-found.ensures node) in
    subst (λ (xs : List (FormatEntry _)). count_alike t (entries_of node xs) < 3) c.self.view_is (omega (arith, many, c.if-found-lt-MOST_ALIKE.true))

module _ (g : _) (c : goal.Else-found-lt-MOST_ALIKE g) (node : g.row.Handle.Denot → ℕ) where
  is_earliest : IsEarliest (tag_text c.args.tag.now) (entries_of node c.self.inside.entries.items) c.find_alike-found.result.earliest
  is_earliest = earliest_found (tag_text c.args.tag.now) (entries_of node c.self.inside.entries.items) c.find_alike-found.result (c.find_alike-found.ensures node) (omega (arith, c.if-found-lt-MOST_ALIKE.false))

pub returns-else-found-lt-MOST_ALIKE-clause-within : goal.returns-else-found-lt-MOST_ALIKE-clause-within
returns-else-found-lt-MOST_ALIKE-clause-within g c =
    let items = c.self.inside.entries.items in
    let within = (is_earliest g c (λ h. 0)).within in
    let many : length (entries_of (λ h. 0) items) ≡ length items = ap (λ l. length l) (sym (under_all (λ h. 0) items (length items) refl)) ∙ length-under (λ h. 0) items (length items) (omega arith) in
    omega (arith, within, many, ap (λ (xs : List (FormatEntry _)). length xs) c.self.view_is)

pub returns-else-found-lt-MOST_ALIKE-clause-few : goal.returns-else-found-lt-MOST_ALIKE-clause-few
returns-else-found-lt-MOST_ALIKE-clause-few g c = λ node.
    let t = tag_text c.args.tag.now in
    let many = all_counted t (entries_of node c.self.inside.entries.items) c.find_alike-found.result (c.find_alike-found.ensures node) in
    subst (λ (xs : List (FormatEntry _)). 3 ≤ count_alike t (entries_of node xs)) c.self.view_is (omega (arith, many, c.if-found-lt-MOST_ALIKE.false))

pub returns-else-found-lt-MOST_ALIKE-clause-earliest : goal.returns-else-found-lt-MOST_ALIKE-clause-earliest
returns-else-found-lt-MOST_ALIKE-clause-earliest g c = λ node.
    subst (λ (xs : List (FormatEntry _)). without_place c.find_alike-found.result.earliest (entries_of node xs) ≡ without_earliest (tag_text c.args.tag.now) (entries_of node xs)) c.self.view_is (is_earliest g c node).goes

use Rattle.std.proofs.Common.{◌≡◌, ℕ, zero, suc, List, [], ◌∷◌, ◌++◌, append_assoc, ap, length, length-append, refl, sym, arith, ◌∙◌}
use Rattle.std.proofs.lemmas.List.{append-nil, nil_from_length}
use Rattle.std.proofs.lemmas.Bool.{false≢true}
use Rattle.h5_tables.specs.declared.entry.FormatEntry.{FormatEntry}
use Rattle.h5_builder_state.specs.Listed.{entries_of, entry_of}
use Rattle.h5_builder_spec.specs.formatting.FormattingList.{clear_to_marker}
use Rattle.h5_builder_actions.proofs.ListLaws.{entries_pushed}
use Rattle.h5_builder_actions.proofs.markers.clear_to_marker.Goals as goal

pub returns-in-Marker-clause-cleared : goal.returns-in-Marker-clause-cleared
returns-in-Marker-clause-cleared g c = λ node.
    let left = c.pop.new.self in
    sym (ap clear_to_marker (entries_pushed node left c.clear.entries c.in-Some.entry c.in-Some.ensures.value ∙ ap (λ e. entry_of node e ∷ entries_of node left) c.in-Marker.is)) ∙ c.clear.invariant.cleared node

one_less : {X : Type 0} (all now left newer : List X) (x : X) → now ≡ left ++ x ∷ [] → all ≡ now ++ newer → all ≡ left ++ x ∷ newer
one_less all now left newer x e h = h ∙ ap (λ z. z ++ newer) e ∙ append_assoc left (x ∷ []) newer

pub returns-in-Marker-clause-older : goal.returns-in-Marker-clause-older
returns-in-Marker-clause-older g c = (c.in-Some.entry ∷ c.clear.invariant.older.0, one_less _ _ _ _ c.in-Some.entry c.in-Some.ensures.value c.clear.invariant.older.1)

pub clear-preserved-in_default-entry : goal.clear-preserved-in_default-entry
clear-preserved-in_default-entry g c =
    let left = c.pop.new.self in
    record {
      cleared = λ node.
          sym (ap clear_to_marker (entries_pushed node left c.clear.entries c.in-Some.entry c.in-Some.ensures.value ∙ ap (λ e. entry_of node e ∷ entries_of node left) c.in_default-entry.is)) ∙ c.clear.invariant.cleared node;
      older = (c.in-Some.entry ∷ c.clear.invariant.older.0, one_less _ _ _ _ c.in-Some.entry c.in-Some.ensures.value c.clear.invariant.older.1);
    }

pub clear-smaller-in_default-entry : goal.clear-smaller-in_default-entry
clear-smaller-in_default-entry g c =
    omega (arith, ap (λ (xs : List (FormatEntry _)). length xs) c.in-Some.ensures.value, length-append c.pop.new.self (c.in-Some.entry ∷ []))

pub returns-clause-cleared : goal.returns-clause-cleared
returns-clause-cleared g c = λ node.
    let none : length c.clear.entries ≡ 0 = at (length c.clear.entries) refl in
    let same : c.clear.entries ≡ c.pop.new.self = c.in_default.ensures.value ∙ append-nil c.pop.new.self in
    ap (entries_of node) (sym same)
    ∙ ap (entries_of node) (nil_from_length c.clear.entries none)
    ∙ sym (ap (λ xs. clear_to_marker (entries_of node xs)) (nil_from_length c.clear.entries none))
    ∙ c.clear.invariant.cleared node
  where
    at : (n : ℕ) → length c.clear.entries ≡ n → length c.clear.entries ≡ 0
    at zero e = e
    at (suc n) e = absurd (false≢true (c.in_default.ensures.some.1 (omega (arith, e))))

pub returns-clause-older : goal.returns-clause-older
returns-clause-older g c =
    let same : c.clear.entries ≡ c.pop.new.self = c.in_default.ensures.value ∙ append-nil c.pop.new.self in
    (c.clear.invariant.older.0, c.clear.invariant.older.1 ∙ ap (λ z. z ++ c.clear.invariant.older.0) same)

pub clear-init : goal.clear-init
clear-init g c = record { cleared = λ node. refl; older = ([], sym (append-nil c.args.entries.now)) }

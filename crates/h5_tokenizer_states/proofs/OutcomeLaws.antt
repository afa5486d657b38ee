-- The results of rows, by their outcomes.
use Rattle.std.proofs.Common.{◌≡◌, List, ℕ, false, [], ◌++◌, refl, sym, ap, ◌∙◌, subst}
use Rattle.std.proofs.lemmas.List.{append-nil}
use Rattle.h5_tokenizer_spec.specs.Lines.{normal}
use Rattle.h5_tokenizer_spec.specs.Machine.{turn}
use Rattle.h5_tokenizer_spec.specs.Reading.{behind, is_dropped}
use Rattle.h5_tokenizer_spec.specs.ReferenceTable.{references}
use Rattle.h5_tokenizer_spec.specs.States.{BogusComment}
use Rattle.h5_tokenizer_spec.specs.Turn.{Turn, Outcome}
use Rattle.h5_tokenizer_states.specs.declared.machine_state.MachineState.{MachineState}
use Rattle.h5_tokenizer_states.specs.declared.transition.Transition.{Transition}
use Rattle.h5_tokenizer_states.specs.declared.transition.Transition.TheVariants.{Reconsumed, Asks, Consumed, Emitted}
use Rattle.h5_tokenizer_states.specs.Parts.{Parts}
use Rattle.h5_tokenizer_states.specs.OutcomeOf.{Does, outcome_of, emitted}
use Rattle.h5_tokenizer_states.specs.MachineText.{MachineText, Wonders, place_of}
use Rattle.h5_tokenizer_states.specs.StateOf.{state_of}

-- of a turn, only the outcome matters
pub does_same : (transition : Transition) (old new : List ℕ) (parts : Parts) (t u : Turn) → t.outcome ≡ u.outcome → Does transition old new parts u → Does transition old new parts t
does_same transition old new parts t u e h =
    subst (λ (d : Outcome). (new ≡ old ++ emitted d) × (outcome_of transition (emitted d) parts ≡ d)) (sym e) h

pub nothing_more : (old new : List ℕ) → new ≡ old → new ≡ old ++ []
nothing_more old new h = h ∙ sym (append-nil old)

emits_nothing : (transition : Transition) (parts : Parts) → emitted (outcome_of transition [] parts) ≡ []
emits_nothing (Consumed at) parts = refl
emits_nothing (Reconsumed at) parts = refl
emits_nothing (Emitted construct kind) parts = refl
emits_nothing Asks parts = refl

-- if nothing is emitted
pub does_silently : (transition : Transition) (out : List ℕ) (parts : Parts) (outcome : Outcome) → outcome_of transition [] parts ≡ outcome
    → (out ≡ out ++ emitted outcome) × (outcome_of transition (emitted outcome) parts ≡ outcome)
does_silently transition out parts outcome h =
    let none = sym (ap emitted h) ∙ emits_nothing transition parts in
    (subst (λ text. out ≡ out ++ text) (sym none) (nothing_more out out refl), subst (λ text. outcome_of transition text parts ≡ outcome) (sym none) h)

-- the row of a machine in a state, by its view
pub turn_at : (m n : MachineText) (at : MachineState) (x : ℕ) → m ≡ n → m.at ≡ at
    → turn references m.last (state_of at m.parts) x ≡ turn references n.last (state_of n.at n.parts) x
turn_at m n at x same is =
    ap (λ (a : MachineState). turn references m.last (state_of a m.parts) x) (sym is) ∙ ap (λ (k : MachineText). turn references k.last (state_of k.at k.parts) x) same

-- a row that checks the adjusted current node emits nothing
asks : (m : MachineText) (x : ℕ) (old new : List ℕ) (k n : MachineText) → is_dropped (place_of m) x ≡ false
    → Does Asks old new k.parts (turn references m.last (state_of m.at m.parts) (normal x))
    → place_of n ≡ behind x (BogusComment k.parts.comment) (place_of m) → Wonders m x old new n
asks m x old new k n not_dropped row place = record {
  elsewhere = BogusComment k.parts.comment;
  not_dropped = not_dropped;
  outcome = sym row.1;
  place = place;
  put = row.0 ∙ (ap (λ (d : Outcome). old ++ emitted d) (sym row.1) ∙ append-nil old);
}

-- as above, for a machine that goes from m by way of k to n
pub wonders : (m : MachineText) (x y : ℕ) (transition : Transition) (old new : List ℕ) (k n : MachineText) → false ≡ is_dropped (place_of m) x → transition ≡ Asks → y ≡ normal x
    → Does transition old new k.parts (turn references m.last (state_of m.at m.parts) y) → k ≡ record m { parts = k.parts }
    → place_of n ≡ behind x (BogusComment k.parts.comment) (place_of k) → Wonders m x old new n
wonders m x y transition old new k n not_dropped is same row others place =
    asks m x old new k n (sym not_dropped)
    (subst (λ z. Does Asks old new k.parts (turn references m.last (state_of m.at m.parts) z)) same
    (subst (λ (does : Transition). Does does old new k.parts (turn references m.last (state_of m.at m.parts) y)) is row))
    (place ∙ ap (λ (j : MachineText). behind x (BogusComment k.parts.comment) (place_of j)) others)

-- Each call that a cleaner passes on has a parent, so a walk over a cleaner stops only if an allocation or the writer fails.
use Rattle.std.proofs.Common.{◌≡◌, ◌∙◌, ◌⊎◌, ◌∷◌, Bool, true, false, List, [], ℕ, zero, suc, Option, Some, None, Result, Ok, Err, inl, inr, refl, subst, sym, if◌then◌else◌}
use Rattle.std.specs.Option.{option_map_or}
use Rattle.std.specs.Prelude.{IfErr}
use Rattle.std.specs.Result.{IsErrAnd}
use Rattle.h5_names.specs.AttributeText.{AttributeText}
use Rattle.h5_names.specs.declared.qualified.QualName.{QualName}
use Rattle.h5_serialize.specs.Call.{Call, CommentOf, DoctypeOf, EndOf, InstructionOf, StartOf, TextOf}
use Rattle.h5_serialize.specs.Standing.{Standing, Broken, Working, answer_to, standing_after}
use Rattle.h5_serialize.specs.Walk.{AreMade, IsStopped, NoCall, OneMore, Refused, Starved}
use Rattle.h5_serialize.specs.declared.fault.SerializeFault.{SerializeFault}
use Rattle.h5_serialize.specs.declared.fault.SerializeFault.TheVariants.{Failed, Memory, NoParent, Write}
use Rattle.h5_serialize.specs.declared.openers.Opener.{Opener}
use Rattle.h5_clean.specs.Calls.{State, after_call, answer_of, call_of, ends_written, first_state, opened, place_of, text_handed, text_of, without_first}
use Rattle.h5_clean.specs.Pass.{is_let}
use Rattle.h5_clean.specs.Policies.{Rules, attributes_left}
use Rattle.h5_clean.specs.declared.elements.OpenElement.{OpenElement}
use Rattle.h5_clean.proofs.HandedLaws.{Cleans}

-- how many open elements are written
abbrev written_count : List OpenElement → ℕ
written_count [] = 0
written_count (e ∷ es) = if e.is_written then suc (written_count es) else written_count es

-- there are more openers than that: the entry of the fragment is below them
abbrev AreMore : ℕ → List Opener → Type 0
AreMore n [] = ⊥
AreMore zero (o ∷ os) = Unit {0}
AreMore (suc n) (o ∷ os) = AreMore n os

abbrev IsAbove : ℕ → Standing → Type 0
IsAbove n Broken = ⊥
IsAbove n (Working scripting create openers) = AreMore n openers

abbrev IsParented : State → Type 0
IsParented s = IsAbove (written_count s.elements) s.standing

answered : (n : ℕ) (m : Standing) (call : Call) → IsAbove n m → answer_to m call ≡ Ok tt
answered n Broken call h = absurd h
answered n (Working scripting create []) call h = absurd h
answered n (Working scripting create (o ∷ os)) call h = refl

start_above : (n : ℕ) (m : Standing) (name : QualName) (attrs : List AttributeText) → IsAbove n m → IsAbove (suc n) (standing_after m (StartOf name attrs))
start_above n Broken name attrs h = absurd h
start_above n (Working scripting create []) name attrs h = absurd h
start_above n (Working scripting false (o ∷ os)) name attrs h = h
start_above n (Working scripting true (o ∷ os)) name attrs h = h

end_above : (n : ℕ) (m : Standing) (name : QualName) → IsAbove (suc n) m → IsAbove n (standing_after m (EndOf name))
end_above n Broken name h = absurd h
end_above n (Working scripting create []) name h = absurd h
end_above n (Working scripting false (o ∷ os)) name h = h
end_above n (Working scripting true (o ∷ os)) name h = h

text_above : (n : ℕ) (m : Standing) (text : List ℕ) → IsAbove n m → IsAbove n (standing_after m (TextOf text))
text_above n Broken text h = absurd h
text_above n (Working scripting create []) text h = absurd h
text_above n (Working scripting false (o ∷ os)) text h = h
text_above n (Working scripting true (o ∷ os)) text h = h

-- a call that may be passed on has a parent, and so has the next one
abbrev Passes : Standing → Option Call → ℕ → Type 0
Passes m handed n = (option_map_or (answer_to m) handed (Ok tt) ≡ Ok tt) × IsAbove n (option_map_or (standing_after m) handed m)

start_passes : (n : ℕ) (m : Standing) (e f : OpenElement) (name : QualName) (attrs : List AttributeText) → e.is_written ≡ true → f.is_written ≡ false → (es : List OpenElement) → n ≡ written_count es → (is_let : Bool) → IsAbove n m
    → Passes m (if is_let then Some (StartOf name attrs) else None) (written_count ((if is_let then e else f) ∷ es))
start_passes n m e f name attrs is_written is_not es same true h = (
  answered n m (StartOf name attrs) h,
  subst (λ w. IsAbove (if w then suc (written_count es) else written_count es) (standing_after m (StartOf name attrs))) (sym is_written)
      (subst (λ k. IsAbove (suc k) (standing_after m (StartOf name attrs))) same (start_above n m name attrs h)),
)
start_passes n m e f name attrs is_written is_not es same false h =
    (refl, subst (λ w. IsAbove (if w then suc (written_count es) else written_count es) m) (sym is_not) (subst (λ k. IsAbove k m) same h))

end_passes_by : (is_written : Bool) (n : ℕ) (m : Standing) (name : QualName) → IsAbove (if is_written then suc n else n) m → Passes m (if is_written then Some (EndOf name) else None) n
end_passes_by true n m name h = (answered (suc n) m (EndOf name) h, end_above n m name h)
end_passes_by false n m name h = (refl, h)

end_passes : (es : List OpenElement) (m : Standing) (name : QualName) → IsAbove (written_count es) m → Passes m (if ends_written es then Some (EndOf name) else None) (written_count (without_first es))
end_passes [] m name h = (refl, h)
end_passes (e ∷ es) m name h = end_passes_by e.is_written (written_count es) m name h

text_passes : (n : ℕ) (m : Standing) (text : List ℕ) → IsAbove n m → Passes m (call_of text) n
text_passes n m [] h = (refl, h)
text_passes n m (b ∷ text) h = (answered n m (TextOf (b ∷ text)) h, text_above n m (b ∷ text) h)

-- a call of a cleaner succeeds where memory and the writer do
abbrev Goes : State → Call → Type 0
Goes s call = (answer_of s call ≡ Ok tt) × IsParented (after_call s call)

goes : (s : State) (call : Call) → IsParented s → Goes s call
goes s (StartOf name attrs) h = start_passes (written_count s.elements) s.standing _ _ name (attributes_left s.rules name.local attrs) refl refl s.elements refl (is_let s.rules (place_of s) name) h
goes s (EndOf name) h = end_passes s.elements s.standing name h
goes s (TextOf text) h = text_passes (written_count s.elements) s.standing (text_handed s text) h
goes s (CommentOf text) h = (refl, h)
goes s (DoctypeOf name) h = (refl, h)
goes s (InstructionOf target content) h = (refl, h)

made_parented : {m : State} {t : Option (List ℕ)} {calls : List Call} {n : State} {u : Option (List ℕ)} → AreMade answer_of after_call text_of (λ before called call fault after written. Unit {0}) m t calls n u → IsParented m → IsParented n
made_parented NoCall h = h
made_parented (OneMore {calls} {k} {v} call n u before makes) h = subst IsParented (sym makes.meant) (goes k call (made_parented before h)).1

fault_by : (fault : SerializeFault) {call : Call} {k n : State} {v u : Option (List ℕ)} → Cleans call k v (Err fault) n u → IsParented k → (fault ≡ Memory) ⊎ (fault ≡ Write)
fault_by Memory makes h = inl refl
fault_by Write makes h = inr refl
fault_by NoParent {call} {k} makes h = let same = makes.answered ∙ (goes k call h).0 in absurd (cc)
fault_by Failed {call} {k} makes h = let same = makes.answered ∙ (goes k call h).0 in absurd (cc)

pub stopped_by_memory_or_writer : {rules : Rules} {t : Option (List ℕ)} {calls : List Call} {m n : State} {fault : SerializeFault} {u : Option (List ℕ)} → m ≡ first_state rules
    → IsStopped answer_of after_call text_of (λ before called call fault after written. Unit {0}) calls m t fault n u → (fault ≡ Memory) ⊎ (fault ≡ Write)
stopped_by_memory_or_writer first (Starved made left e h) = inl refl
stopped_by_memory_or_writer first (Refused made call left {k} {n} {v} {u} {fault} e h makes) = fault_by fault makes (made_parented h (subst IsParented (sym first) tt))

-- the error that is returned is that of the walk
pub returned_fault : {A : Type 0} (r : Result A SerializeFault) (walked : SerializeFault) → IsErrAnd r (λ answered. answered ≡ walked) → (walked ≡ Memory) ⊎ (walked ≡ Write) → IfErr r (λ fault. (fault ≡ Memory) ⊎ (fault ≡ Write))
returned_fault (Ok x) walked same fault = tt
returned_fault (Err answered) walked same fault = subst (λ f. (f ≡ Memory) ⊎ (f ≡ Write)) (sym same) fault

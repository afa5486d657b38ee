-- What holds at every moment, after a forest whose nodes may have been hung elsewhere.
use Rattle.std.proofs.Common.{◌≡◌, ℕ, List, [], ◌∷◌, map, inl, inr, refl, ap, sym, subst, ◌∙◌}
use Rattle.h5_builder_spec.specs.formatting.AdoptionAgency.{KeepsKinds}
use Rattle.h5_interface.specs.Forest.{Forest, IsElement}
use Rattle.h5_interface.specs.Seen.{Seen, changed}
use Rattle.h5_interface.specs.declared.sink.TreeSink.{Ghosts}
use Rattle.h5_builder_spec.specs.stack.Order.{IsIn}
use Rattle.h5_builder_spec.specs.Sound.{AllStand}
use Rattle.h5_builder_spec.specs.World.{name_in, name_of_found, names_of}
use Rattle.h5_builder_spec.proofs.changes.SoundLaws.{element_is_node}
use Rattle.h5_builder_state.specs.Steps.{IsSound, world_of}
use Rattle.h5_builder_state.specs.Summaries.{IsKept}
use Rattle.h5_builder_state.specs.View.{world}
use Rattle.h5_builder_state.specs.declared.state.State.{State}

-- open elements keep their names
names_same : (f g : Forest) (s : List ℕ) → ((n : ℕ) → IsIn n s → IsElement f n) → KeepsKinds f g → map (name_in g) s ≡ map (name_in f) s
names_same f g [] k same = refl
names_same f g (n ∷ s) k same =
    ap (λ x. x ∷ map (name_in g) s) (ap name_of_found (same n (element_is_node f n (k n (inl refl)))))
    ∙ ap (λ xs. name_in f n ∷ xs) (names_same f g s (λ m h. k m (inr h)) same)

-- the world is sound in the new forest, and old nodes are what they were
pub sound_rehung : {S H O : Type 0} (law : Ghosts S H O) (old new : S) (state : State H) → IsSound law old state
    → (let w = world_of law old state in AllStand (law.sees new).forest w.stack w.formatting w.head w.form w.context)
    → KeepsKinds (law.sees old).forest (law.sees new).forest → IsSound law new state
unfolding world names_of
sound_rehung law old new state k all same = record {
  sound = all;
  kept = subst (IsKept state.open_elems) (sym (names_same (law.sees old).forest (law.sees new).forest (world_of law old state).stack k.sound.stands.elements same)) k.kept;
  stamped = k.stamped;
}

-- the same where it is known what the forest became
pub sound_by : {S H O : Type 0} (law : Ghosts S H O) (old new : S) (state : State H) (change : Forest → Forest) → law.sees new ≡ changed change (law.sees old) → IsSound law old state
    → (let w = world_of law old state in AllStand (change (law.sees old).forest) w.stack w.formatting w.head w.form w.context)
    → KeepsKinds (law.sees old).forest (change (law.sees old).forest) → IsSound law new state
sound_by law old new state change e k all same =
    let w = world_of law old state in
    sound_rehung law old new state k
    (subst (λ (s : Seen). AllStand s.forest w.stack w.formatting w.head w.form w.context) (sym e) all)
    (subst (λ (s : Seen). KeepsKinds (law.sees old).forest s.forest) (sym e) same)

pub kinds_by : (old new : Seen) (change : Forest → Forest) → new ≡ changed change old → KeepsKinds old.forest (change old.forest) → KeepsKinds old.forest new.forest
kinds_by old new change e same = subst (λ (s : Seen). KeepsKinds old.forest s.forest) (sym e) same

-- One call or several calls of a serializer. The parameters come first: the serializer's result of a call, its meaning after it and its
-- text for it, and what may hold after a call in which an allocation or a writer failed.
use Rattle.std.specs.Prelude.{◌≡◌, ◌⊎◌, ℕ, List, [], ◌∷◌, ◌++◌, map, Option, Result, Ok, Err}
use Rattle.std.specs.Io.KnownBytes.{Appends}
use Rattle.h5_names.specs.AttributeText.{AttributeText}
use Rattle.h5_names.specs.declared.qualified.QualName.{QualName}
use Rattle.h5_serialize.specs.Call.{Call, StartOf}
use Rattle.h5_serialize.specs.declared.fault.SerializeFault.{SerializeFault}
use Rattle.h5_serialize.specs.declared.fault.SerializeFault.TheVariants.{NoParent, Memory, Write, Failed}

-- P, unless an allocation or a writer failed
abbrev pub UnlessBroken : Result (Unit {0}) SerializeFault → Type 0 → Type 0
UnlessBroken (Ok done) P = P
UnlessBroken (Err NoParent) P = P
UnlessBroken (Err Memory) P = Unit {0}
UnlessBroken (Err Write) P = Unit {0}
UnlessBroken (Err Failed) P = P

-- if an allocation or a writer failed, P of that error
abbrev pub WhereBroken : Result (Unit {0}) SerializeFault → (SerializeFault → Type 0) → Type 0
WhereBroken (Ok done) P = Unit {0}
WhereBroken (Err NoParent) P = Unit {0}
WhereBroken (Err Memory) P = P Memory
WhereBroken (Err Write) P = P Write
WhereBroken (Err Failed) P = Unit {0}

-- the meaning after calls that all succeed
abbrev pub after_each : {M : Type 0} → (M → Call → M) → M → List Call → M
after_each after m [] = m
after_each after m (call ∷ calls) = after_each after (after m call) calls

-- the text for them: the text of each call, one after the other
abbrev pub text_of_each : {M : Type 0} → (after : M → Call → M) → (writes : M → Call → List ℕ) → M → List Call → List ℕ
text_of_each after writes m [] = []
text_of_each after writes m (call ∷ calls) = writes m call ++ text_of_each after writes (after m call) calls

module _ {M : Type 0} (answer : M → Call → Result (Unit {0}) SerializeFault) (after : M → Call → M) (writes : M → Call → List ℕ) (breaks : M → Option (List ℕ) → Call → SerializeFault → M → Option (List ℕ) → Type 0) where
  -- one call with this result, from the meaning m and the text t to n and u
  pub record Makes (call : Call) (m : M) (t : Option (List ℕ)) (result : Result (Unit {0}) SerializeFault) (n : M) (u : Option (List ℕ)) : Type 0 where
    pub answered : UnlessBroken result (result ≡ answer m call)
    pub meant : UnlessBroken result (n ≡ after m call)
    pub written : UnlessBroken result (Appends t u (writes m call))
    pub broken : WhereBroken result (λ fault. breaks m t call fault n u)

  -- one start with the attributes of an iterator: it read all of them, or its outcome doesn't depend on them
  abbrev pub MakesStart : {A : Type 0} → (A → AttributeText) → (given : List A → Type 0) → QualName → M → Option (List ℕ) → Result (Unit {0}) SerializeFault → M → Option (List ℕ) → Type 0
  MakesStart {A} attribute given name m t result n u =
      ((all : List A) × given all × Makes (StartOf name (map attribute all)) m t result n u)
      ⊎ ((attrs : List AttributeText) → Makes (StartOf name attrs) m t result n u)

  -- calls made one after another, all with success, from m and t to n and u
  pub data AreMade (m : M) (t : Option (List ℕ)) : List Call → M → Option (List ℕ) → Type 0 where
    NoCall : AreMade m t [] m t
    OneMore : {calls : List Call} {k : M} {v : Option (List ℕ)} (call : Call) (n : M) (u : Option (List ℕ)) → AreMade m t calls k v → Makes call k v (Ok tt) n u → AreMade m t (calls ++ call ∷ []) n u

  -- a walk stopped after the calls made: an allocation of its own failed, or the next call did
  pub data IsStopped (calls : List Call) (m : M) (t : Option (List ℕ)) : SerializeFault → M → Option (List ℕ) → Type 0 where
    Starved : (made left : List Call) {n : M} {u : Option (List ℕ)} → calls ≡ made ++ left → AreMade m t made n u → IsStopped calls m t Memory n u
    Refused : (made : List Call) (call : Call) (left : List Call) {k n : M} {v u : Option (List ℕ)} {fault : SerializeFault} → calls ≡ made ++ call ∷ left → AreMade m t made k v → Makes call k v (Err fault) n u → IsStopped calls m t fault n u

  -- the calls of a walk, made in order up to the first error
  abbrev pub Walks : List Call → M → Option (List ℕ) → Result (Unit {0}) SerializeFault → M → Option (List ℕ) → Type 0
  Walks calls m t (Ok done) n u = AreMade m t calls n u
  Walks calls m t (Err fault) n u = IsStopped calls m t fault n u

  -- a walk of one start, with the attributes of an iterator as in MakesStart
  abbrev pub WalksStart : {A : Type 0} → (A → AttributeText) → (given : List A → Type 0) → QualName → M → Option (List ℕ) → Result (Unit {0}) SerializeFault → M → Option (List ℕ) → Type 0
  WalksStart {A} attribute given name m t result n u =
      ((all : List A) × given all × Walks (StartOf name (map attribute all) ∷ []) m t result n u)
      ⊎ ((attrs : List AttributeText) → Walks (StartOf name attrs ∷ []) m t result n u)

-- The calls of a walk, joined, over any serializer.
use Rattle.std.proofs.Common.{◌≡◌, ℕ, List, [], ◌∷◌, ◌++◌, map, Option, Result, Ok, Err, refl, sym, ap, ◌∙◌, subst, append_assoc, append-nil, inl, inr, ⊎_elim, length, Bor, ◌<◌, ◌+◌, get_or, take, drop}
use Rattle.std.proofs.lemmas.List.{take_more, take-append-drop}
use Rattle.std.specs.Iterator.{Drains}
use Rattle.std.specs.Result.{IsErrAnd}
use Rattle.std.specs.Slice.Iter.{iter_steps, iter_rest}
use Rattle.std.specs.declared.slice.Iter.{Iter}
use Rattle.h5_names.specs.AttributeText.{AttributeText, attribute_text, attribute_texts}
use Rattle.h5_names.specs.declared.qualified.Attribute.{Attribute}
use Rattle.h5_names.specs.declared.qualified.QualName.{QualName}
use Rattle.h5_serialize.specs.Call.{Call, StartOf}
use Rattle.h5_serialize.specs.Walk.{Makes, MakesStart, AreMade, NoCall, OneMore, IsStopped, Starved, Refused, Walks, WalksStart}
use Rattle.h5_serialize.specs.declared.fault.SerializeFault.{SerializeFault}
use Rattle.h5_serialize.specs.declared.fault.SerializeFault.TheVariants.{Memory}

module _ {M : Type 0} (answer : M → Call → Result (Unit {0}) SerializeFault) (after : M → Call → M) (writes : M → Call → List ℕ) (breaks : M → Option (List ℕ) → Call → SerializeFault → M → Option (List ℕ) → Type 0) where
  -- first these calls, then those
  pub made_join : {m k : M} {t v : Option (List ℕ)} {xs ys : List Call} {n : M} {u : Option (List ℕ)} → AreMade answer after writes breaks m t xs k v → AreMade answer after writes breaks k v ys n u → AreMade answer after writes breaks m t (xs ++ ys) n u
  made_join {m} {k} {t} {v} {xs} h NoCall = subst (λ l. AreMade answer after writes breaks m t l k v) (sym (append-nil xs)) h
  made_join {m} {k} {t} {v} {xs} h (OneMore {calls} call o w before made) =
      subst (λ l. AreMade answer after writes breaks m t l o w) (append_assoc xs calls (call ∷ [])) (OneMore call o w (made_join h before) made)

  pub stopped_join : {m k n : M} {t v u : Option (List ℕ)} {xs ys : List Call} {fault : SerializeFault} → AreMade answer after writes breaks m t xs k v → IsStopped answer after writes breaks ys k v fault n u → IsStopped answer after writes breaks (xs ++ ys) m t fault n u
  stopped_join {xs} h (Starved made left e g) = Starved (xs ++ made) left (ap (λ l. xs ++ l) e ∙ sym (append_assoc xs made left)) (made_join h g)
  stopped_join {xs} h (Refused made call left e g makes) = Refused (xs ++ made) call left (ap (λ l. xs ++ l) e ∙ sym (append_assoc xs made (call ∷ left))) (made_join h g) makes

  -- if the first calls of a walk are stopped, so is the walk
  pub stopped_early : {m n : M} {t u : Option (List ℕ)} {xs : List Call} {fault : SerializeFault} (ys : List Call) → IsStopped answer after writes breaks xs m t fault n u → IsStopped answer after writes breaks (xs ++ ys) m t fault n u
  stopped_early ys (Starved made left e g) = Starved made (left ++ ys) (ap (λ l. l ++ ys) e ∙ append_assoc made left ys) g
  stopped_early ys (Refused made call left e g makes) = Refused made call (left ++ ys) (ap (λ l. l ++ ys) e ∙ append_assoc made (call ∷ left) ys) g makes

  pub walk_join : {m k : M} {t v : Option (List ℕ)} {xs : List Call} (ys : List Call) (n : M) (u : Option (List ℕ)) (result : Result (Unit {0}) SerializeFault) → AreMade answer after writes breaks m t xs k v → Walks answer after writes breaks ys k v result n u → Walks answer after writes breaks (xs ++ ys) m t result n u
  walk_join ys n u (Ok done) h g = made_join h g
  walk_join ys n u (Err fault) h g = stopped_join h g

  -- a walk of one call
  pub walk_one : {m n : M} {t u : Option (List ℕ)} (call : Call) (result : Result (Unit {0}) SerializeFault) → Makes answer after writes breaks call m t result n u → Walks answer after writes breaks (call ∷ []) m t result n u
  walk_one {m} {n} {t} {u} call (Ok done) made = OneMore call n u NoCall made
  walk_one {m} {n} {t} {u} call (Err fault) made = Refused [] call [] refl NoCall made

  -- an allocation that fails before the first call
  pub walk_starved : (m : M) (t : Option (List ℕ)) (calls : List Call) (result : Result (Unit {0}) SerializeFault) → IsErrAnd result (λ fault. fault ≡ Memory) → Walks answer after writes breaks calls m t result m t
  walk_starved m t calls (Ok done) is = absurd is
  walk_starved m t calls (Err fault) is = let P : SerializeFault → Type 0 = λ f. IsStopped answer after writes breaks calls m t f m t in subst P (sym is) (Starved [] calls refl NoCall)

  -- an error that is returned unchanged
  pub walk_stopped : {m n : M} {t u : Option (List ℕ)} {calls : List Call} {fault : SerializeFault} (result : Result (Unit {0}) SerializeFault) → IsErrAnd result (λ answered. answered ≡ fault) → IsStopped answer after writes breaks calls m t fault n u → Walks answer after writes breaks calls m t result n u
  walk_stopped (Ok done) is h = absurd is
  walk_stopped {m} {n} {t} {u} {calls} (Err answered) is h = let P : SerializeFault → Type 0 = λ f. IsStopped answer after writes breaks calls m t f n u in subst P (sym is) h

  -- a start with the attributes of an iterator, if these are known
  pub start_made : {A : Type 0} (attribute : A → AttributeText) (given : List A → Type 0) (name : QualName) (attrs : List AttributeText) {m n : M} {t u : Option (List ℕ)} {result : Result (Unit {0}) SerializeFault} → ((all : List A) → given all → map attribute all ≡ attrs) → MakesStart answer after writes breaks attribute given name m t result n u → Makes answer after writes breaks (StartOf name attrs) m t result n u
  start_made attribute given name attrs {m} {n} {t} {u} {result} known h = ⊎_elim (λ read. subst (λ l. Makes answer after writes breaks (StartOf name l) m t result n u) (known read.0 read.1) read.2) (λ whatever. whatever attrs) h

  -- a start with a borrowed name and the attributes of an iterator, if these are known
  pub start_walked : {A : Type 0} (attribute : A → AttributeText) (given : List A → Type 0) (name : QualName) (attrs : List AttributeText) (m : M) (t : Option (List ℕ)) (result : Result (Unit {0}) SerializeFault) (n : M) (u : Option (List ℕ)) → ((all : List A) → given all → map attribute all ≡ attrs) → WalksStart answer after writes breaks attribute given name m t result n u → Walks answer after writes breaks (StartOf name attrs ∷ []) m t result n u
  start_walked attribute given name attrs m t result n u known h = ⊎_elim (λ read. subst (λ l. Walks answer after writes breaks (StartOf name l ∷ []) m t result n u) (known read.0 read.1) read.2) (λ whatever. whatever attrs) h

  -- a start that was made is a walk of one call
  pub walk_start : {A : Type 0} (attribute : A → AttributeText) (given : List A → Type 0) (name : QualName) {m n : M} {t u : Option (List ℕ)} (result : Result (Unit {0}) SerializeFault) → MakesStart answer after writes breaks attribute given name m t result n u → WalksStart answer after writes breaks attribute given name m t result n u
  walk_start attribute given name result h = ⊎_elim (λ read. inl (read.0, read.1, walk_one (StartOf name (map attribute read.0)) result read.2)) (λ whatever. inr (λ attrs. walk_one (StartOf name attrs) result (whatever attrs))) h

-- the items of a slice's iterator
pub slice_gives : {A : Type 0} (all : List (Bor A)) (it : Iter A) → Drains iter_steps it all → map (λ x. x.now) all ≡ iter_rest it
slice_gives {A} [] it (u, (t, e, h)) = empty (iter_rest it) (ap length (ap iter_rest e) ∙ h.0)
  where
    empty : (l : List A) → length l ≡ 0 → [] ≡ l
    empty [] e = refl
    empty (x ∷ l) e = cc
slice_gives (x ∷ all) it (u, (t, (j, s, ys), h)) = ap (λ l. x.now ∷ l) (slice_gives all j (u, (t, ys, h))) ∙ sym s

fused : {A B C : Type 0} (f : B → C) (v : A → B) (xs : List A) → map (λ x. f (v x)) xs ≡ map f (map v xs)
fused f v [] = refl
fused f v (x ∷ xs) = ap (λ l. f (v x) ∷ l) (fused f v xs)

-- the attributes of a slice's iterator
pub slice_attributes : (all : List (Bor Attribute)) (it : Iter Attribute) (attrs : List Attribute) → iter_rest it ≡ attrs → Drains iter_steps it all → map (λ a. attribute_text a.now) all ≡ attribute_texts attrs
slice_attributes all it attrs e h = fused attribute_text (λ a. a.now) all ∙ ap attribute_texts (slice_gives all it h ∙ e)

map_append : {X Y : Type 0} (f : X → Y) (xs ys : List X) → map f (xs ++ ys) ≡ map f xs ++ map f ys
map_append f [] ys = refl
map_append f (x ∷ xs) ys = ap (λ l. f x ∷ l) (map_append f xs ys)

-- the calls of a list of items, at one item: those before it, its own, and those after it
pub calls_so_far : {X : Type 0} (call_of : X → Call) (xs : List X) (i : ℕ) (x : X) → i < length xs → x ≡ get_or xs i x → map call_of (take (i + 1) xs) ≡ map call_of (take i xs) ++ call_of x ∷ []
calls_so_far call_of xs i x lt is = ap (map call_of) (take_more xs i x lt ∙ ap (λ y. take i xs ++ y ∷ []) (sym is)) ∙ map_append call_of (take i xs) (x ∷ [])

pub calls_split : {X : Type 0} (call_of : X → Call) (xs : List X) (i : ℕ) (x : X) → i < length xs → x ≡ get_or xs i x → map call_of xs ≡ (map call_of (take i xs) ++ call_of x ∷ []) ++ map call_of (drop (i + 1) xs)
calls_split call_of xs i x lt is =
    ap (map call_of) (sym (take-append-drop (i + 1) xs)) ∙ map_append call_of (take (i + 1) xs) (drop (i + 1) xs)
    ∙ ap (λ l. l ++ map call_of (drop (i + 1) xs)) (calls_so_far call_of xs i x lt is)

-- The effect of a call of a cleaner, by the call that it passes on.
use Rattle.std.proofs.Common.{◌≡◌, ◌∷◌, Bool, true, false, List, [], ℕ, Option, Some, None, Result, Ok, Err, ap, subst, sym, if◌then◌else◌}
use Rattle.std.specs.Io.KnownBytes.{Appends}
use Rattle.std.specs.Option.{option_map_or}
use Rattle.h5_names.specs.AttributeText.{AttributeText}
use Rattle.h5_names.specs.declared.qualified.QualName.{QualName}
use Rattle.h5_serialize.specs.Call.{Call, StartOf, TextOf}
use Rattle.h5_serialize.specs.Standing.{IsBrokenBy, Standing, answer_to, standing_after, text_written}
use Rattle.h5_serialize.specs.Walk.{Makes, UnlessBroken, WhereBroken}
use Rattle.h5_serialize.specs.declared.fault.SerializeFault.{SerializeFault}
use Rattle.h5_serialize.specs.declared.fault.SerializeFault.TheVariants.{Failed, Memory, NoParent, Write}
use Rattle.h5_clean.specs.Calls.{State, after_call, answer_of, call_of, front_inside, is_nothing, place_of, text_handed, text_of}
use Rattle.h5_clean.specs.Kinds.{kind_of}
use Rattle.h5_clean.specs.Pass.{is_dropped, is_let}
use Rattle.h5_clean.specs.Places.{inside, nowhere}
use Rattle.h5_clean.specs.declared.cleaner.Front.TheVariants as front
use Rattle.h5_clean.specs.Policies.{attributes_left}

-- a call of the serializer of HTML, and one of a cleaner
abbrev pub Writes : Call → Standing → Option (List ℕ) → Result (Unit {0}) SerializeFault → Standing → Option (List ℕ) → Type 0
Writes = Makes answer_to standing_after text_written IsBrokenBy

abbrev pub Cleans : Call → State → Option (List ℕ) → Result (Unit {0}) SerializeFault → State → Option (List ℕ) → Type 0
Cleans = Makes answer_of after_call text_of (λ before called call fault after written. Unit {0})

-- and one that writes a text, whatever broke
abbrev pub Texts : List ℕ → Standing → Option (List ℕ) → Result (Unit {0}) SerializeFault → Standing → Option (List ℕ) → Type 0
Texts text = Makes answer_to standing_after text_written (λ before called call fault after written. Unit {0}) (TextOf text)

pub unless_map : {P Q : Type 0} (r : Result (Unit {0}) SerializeFault) → (P → Q) → UnlessBroken r P → UnlessBroken r Q
unless_map (Ok done) f p = f p
unless_map (Err NoParent) f p = f p
unless_map (Err Memory) f p = tt
unless_map (Err Write) f p = tt
unless_map (Err Failed) f p = f p

pub whatever_broke : (r : Result (Unit {0}) SerializeFault) → WhereBroken r (λ fault. Unit {0})
whatever_broke (Ok done) = tt
whatever_broke (Err NoParent) = tt
whatever_broke (Err Memory) = tt
whatever_broke (Err Write) = tt
whatever_broke (Err Failed) = tt

-- a text of the serializer of HTML
pub text_told : (x : List ℕ) (m n : Standing) (t u : Option (List ℕ)) (r : Result (Unit {0}) SerializeFault) → Writes (TextOf x) m t r n u → Texts x m t r n u
text_told x m n t u r h = record { answered = h.answered; meant = h.meant; written = h.written; broken = whatever_broke r }

-- a text of which something is left
pub text_cleaned : (s : State) (whole v : List ℕ) (n : Standing) (t u : Option (List ℕ)) (r : Result (Unit {0}) SerializeFault) → text_handed s whole ≡ v → is_nothing v ≡ false → Texts v s.standing t r n u
    → Cleans (TextOf whole) s t r (record s { front = front.Nothing; standing = n }) u
text_cleaned s whole [] n t u r e f h = absurd (cc)
text_cleaned s whole (b ∷ v) n t u r e f h = record {
  answered = subst (λ l. UnlessBroken r (r ≡ option_map_or (answer_to s.standing) (call_of l) (Ok tt))) (sym e) h.answered;
  meant = subst (λ l. UnlessBroken r (behind n ≡ after l)) (sym e) (unless_map r (λ (same : n ≡ standing_after s.standing (TextOf (b ∷ v))). ap behind same) h.meant);
  written = subst (λ l. UnlessBroken r (Appends t u (option_map_or (text_written s.standing) (call_of l) []))) (sym e) h.written;
  broken = whatever_broke r;
}
  where
    behind : Standing → State
    behind m = record s { front = front.Nothing; standing = m }

    after : List ℕ → State
    after l = record s { front = if is_nothing l then s.front else front.Nothing; standing = option_map_or (standing_after s.standing) (call_of l) s.standing }

-- the start of an element that is let through
pub start_written : (s : State) (name : QualName) (attrs : List AttributeText) (n : Standing) (t u : Option (List ℕ)) (r : Result (Unit {0}) SerializeFault) → is_let s.rules (place_of s) name ≡ true
    → Writes (StartOf name (attributes_left s.rules name.local attrs)) s.standing t r n u
    → Cleans (StartOf name attrs) s t r (record s { elements = record { is_written = true; place = inside (kind_of name.local) (place_of s) } ∷ s.elements; front = front_inside (kind_of name.local); standing = n }) u
start_written s name attrs n t u r e h = record {
  answered = subst (λ c. UnlessBroken r (r ≡ option_map_or (answer_to s.standing) (if c then Some start else None) (Ok tt))) (sym e) h.answered;
  meant = subst (λ c. UnlessBroken r (begun n ≡ after c)) (sym e) (unless_map r (λ (same : n ≡ standing_after s.standing start). ap begun same) h.meant);
  written = subst (λ c. UnlessBroken r (Appends t u (option_map_or (text_written s.standing) (if c then Some start else None) []))) (sym e) h.written;
  broken = whatever_broke r;
}
  where
    start : Call
    start = StartOf name (attributes_left s.rules name.local attrs)

    begun : Standing → State
    begun m = record s { elements = record { is_written = true; place = inside (kind_of name.local) (place_of s) } ∷ s.elements; front = front_inside (kind_of name.local); standing = m }

    after : Bool → State
    after c = record s {
      elements = (if c then record { is_written = true; place = inside (kind_of name.local) (place_of s) } else record { is_written = false; place = if is_dropped s.rules name then nowhere (place_of s) else place_of s }) ∷ s.elements;
      front = if c then front_inside (kind_of name.local) else s.front;
      standing = option_map_or (standing_after s.standing) (if c then Some start else None) s.standing;
    }

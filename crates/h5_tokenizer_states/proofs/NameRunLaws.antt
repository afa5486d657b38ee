-- The bytes that continue the name of a reference are passed, and become what was seen.
use Rattle.std.proofs.Common.{◌≡◌, ℕ, zero, suc, add-one, ◌<◌, ◌≤◌, Bool, true, false, ◌==◌, List, [], ◌∷◌, ◌++◌, length, take, drop, slice_index, refl, sym, ap, ◌∙◌, subst, arith, append_assoc, append-nil, IsUtf8, if◌then◌else◌}
use Rattle.std.proofs.lemmas.Bool.{and_parts}
use Rattle.std.proofs.lemmas.Bool.Decides.{nat_tests}
use Rattle.std.proofs.lemmas.List.{take-append-drop}
use Rattle.std.proofs.lemmas.Str.{IsCharBoundary-after_ascii}
use Rattle.std.specs.List.{list_all}
use Rattle.std.specs.Str.{IsCharBoundary}
use Rattle.h5_tokenizer_spec.specs.References.{is_beginning, longest, named}
use Rattle.h5_tokenizer_spec.specs.ReferenceTable.{references}
use Rattle.h5_tokenizer_spec.specs.Reading.{ReaderPlace, Passes, passed, goes, outcome, behind, is_dropped}
use Rattle.h5_tokenizer_spec.specs.States.{NamedCharacterReference, Return}
use Rattle.h5_tokenizer_spec.specs.Machine.{turn}
use Rattle.h5_tokenizer_spec.specs.Turn.{Consumed, to}
use Rattle.h5_tokenizer_states.proofs.LongestLemmas.{beginning_shorter}
use Rattle.h5_tokenizer_states.proofs.ReferenceNameLaws.{is_name_byte, beginning_has_name_bytes}
use Rattle.h5_tokenizer_states.specs.MachineText.{MachineText, place_of, PassesRun}
use Rattle.h5_tokenizer_states.specs.StateOf.{return_of}
use Rattle.h5_tokenizer_states.specs.declared.machine_state.MachineState.TheVariants as at
use Rattle.h5_tokenizer_states.specs.declared.machine_state.ReferenceState.TheVariants as r
use Rattle.h5_tokenizer_states.specs.declared.machine_state.ReturnTo.{ReturnTo}

-- properties of a byte of a name
record NameByte (x : ℕ) : Type 0 where
  low : x < 128
  feed : (x == 10) ≡ false
  return : (x == 13) ≡ false

small : (x : ℕ) → is_name_byte x ≡ true → x < 128
small x h = grind (arith, nat_tests)

no_feed : (x : ℕ) → is_name_byte x ≡ true → (x == 10) ≡ false
no_feed x h = grind (arith, nat_tests)

no_return : (x : ℕ) → is_name_byte x ≡ true → (x == 13) ≡ false
no_return x h = grind (arith, nat_tests)

name_byte : (x : ℕ) → is_name_byte x ≡ true → NameByte x
name_byte x h = record { low = small x h; feed = no_feed x h; return = no_return x h }

-- the byte after what was seen
last_of : (seen : List ℕ) (x : ℕ) (xs : List ℕ) → list_all is_name_byte (seen ++ x ∷ xs) ≡ true → is_name_byte x ≡ true
last_of [] x xs h = (and_parts (is_name_byte x) (list_all is_name_byte xs) h).0
last_of (y ∷ seen) x xs h = last_of seen x xs (and_parts (is_name_byte y) (list_all is_name_byte (seen ++ x ∷ xs)) h).1

byte_behind : (seen : List ℕ) (x : ℕ) (xs : List ℕ) → is_beginning references (seen ++ x ∷ xs) ≡ true → NameByte x
byte_behind seen x xs h = name_byte x (last_of seen x xs (beginning_has_name_bytes (seen ++ x ∷ xs) h))

-- after more was seen
abbrev pub with_seen : ReaderPlace → Return → List ℕ → ReaderPlace
with_seen p return seen = record p { state = NamedCharacterReference return seen; after_return = false }

by_one : (seen : List ℕ) (x : ℕ) (xs : List ℕ) → (seen ++ x ∷ []) ++ xs ≡ seen ++ x ∷ xs
by_one seen x xs = append_assoc seen (x ∷ []) xs

begins_so : (seen : List ℕ) (x : ℕ) (xs : List ℕ) → is_beginning references (seen ++ x ∷ xs) ≡ true → is_beginning references (seen ++ x ∷ []) ≡ true
begins_so seen x xs h = beginning_shorter references (seen ++ x ∷ []) xs (ap (is_beginning references) (by_one seen x xs) ∙ h)

outcome_of_name : (p : ReaderPlace) (return : Return) (seen : List ℕ) (x : ℕ) → p.state ≡ NamedCharacterReference return seen → NameByte x → is_beginning references (seen ++ x ∷ []) ≡ true
    → outcome references p x ≡ Consumed [] (NamedCharacterReference return (seen ++ x ∷ []))
outcome_of_name p return seen x e b h =
    ap (λ (c : Bool). (turn references p.last p.state (if c then 10 else x)).outcome) b.return
    ∙ ap (λ s. (turn references p.last s x).outcome) e
    ∙ ap (λ (c : Bool). (if c then to (NamedCharacterReference return (seen ++ x ∷ [])) else named return seen x (longest references seen)).outcome) h

behind_name : (p : ReaderPlace) (return : Return) (seen : List ℕ) (x : ℕ) → NameByte x → behind x (NamedCharacterReference return seen) p ≡ with_seen p return seen
behind_name p return seen x b = rw (b.return, b.feed) refl

passes_name : (p : ReaderPlace) (return : Return) (seen : List ℕ) (x : ℕ) (xs ys : List ℕ) → p.state ≡ NamedCharacterReference return seen → is_dropped p x ≡ false
    → is_beginning references (seen ++ x ∷ xs) ≡ true → Passes references p (x ∷ (xs ++ ys)) [] (with_seen p return (seen ++ x ∷ xs)) ys
passes_name p return seen x [] ys e kept h =
    let b = byte_behind seen x [] h in
    goes [] (NamedCharacterReference return (seen ++ x ∷ [])) kept (outcome_of_name p return seen x e b h)
    (subst (λ q. Passes references (behind x (NamedCharacterReference return (seen ++ x ∷ [])) p) ys [] q ys) (behind_name p return (seen ++ x ∷ []) x b) passed)
passes_name p return seen x (y ∷ xs) ys e kept h =
    let b = byte_behind seen x (y ∷ xs) h in
    let here = begins_so seen x (y ∷ xs) h in
    let now = seen ++ x ∷ [] in
    goes [] (NamedCharacterReference return now) kept (outcome_of_name p return seen x e b here)
    (subst (λ q. Passes references q (y ∷ (xs ++ ys)) [] (with_seen p return (seen ++ x ∷ (y ∷ xs))) ys) (sym (behind_name p return now x b))
    (subst (λ l. Passes references (with_seen p return now) (y ∷ (xs ++ ys)) [] (with_seen p return l) ys) (by_one seen x (y ∷ xs))
    (passes_name (with_seen p return now) return now y xs ys refl refl (ap (is_beginning references) (by_one seen x (y ∷ xs)) ∙ h))))

name_passed : (p : ReaderPlace) (return : Return) (seen front ys xs : List ℕ) → xs ≡ front ++ ys → 0 < length front → p.state ≡ NamedCharacterReference return seen → is_dropped p (slice_index xs 0) ≡ false
    → is_beginning references (seen ++ front) ≡ true → Passes references p xs [] (with_seen p return (seen ++ front)) ys
name_passed p return seen [] ys xs split some e kept h = absurd (omega arith)
name_passed p return seen (x ∷ front) ys xs split some e kept h =
    subst (λ l. Passes references p l [] (with_seen p return (seen ++ x ∷ front)) ys) (sym split) (passes_name p return seen x front ys e (rw split at kept) h)

-- a machine that took the first k bytes that continue a name
pub took_name : (m n : MachineText) (return_to : ReturnTo) (xs ys front out : List ℕ) (k : ℕ) → m.at ≡ at.Reference r.NamedCharacterReference return_to → front ≡ take k xs → ys ≡ drop k xs
    → 0 < length front → is_dropped (place_of m) (slice_index xs 0) ≡ false → is_beginning references (m.parts.seen ++ take k xs) ≡ true
    → n ≡ record m { parts = record m.parts { seen = m.parts.seen ++ front }; after_return = false } → PassesRun m xs out out n ys
took_name m n return_to xs ys front out k at is_front is_rest some kept h e =
    let split : xs ≡ front ++ ys = sym (take-append-drop k xs) ∙ ap (λ l. l ++ drop k xs) (sym is_front) ∙ ap (λ l. front ++ l) (sym is_rest) in
    let return = return_of return_to m.parts.tag in
    let there : with_seen (place_of m) return (m.parts.seen ++ front) ≡ place_of n = rw (e, at) refl in
    record {
      text = [];
      passes = subst (λ q. Passes references (place_of m) xs [] q ys) there
          (name_passed (place_of m) return m.parts.seen front ys xs split some (rw at refl) kept (ap (λ l. is_beginning references (m.parts.seen ++ l)) is_front ∙ h));
      put = sym (append-nil out);
    }

-- a text may be split after such bytes
byte_at : (seen xs : List ℕ) (n : ℕ) → n < length xs → list_all is_name_byte (seen ++ take (suc n) xs) ≡ true → is_name_byte (slice_index xs n) ≡ true
byte_at (y ∷ seen) xs n lt h = byte_at seen xs n lt (and_parts (is_name_byte y) (list_all is_name_byte (seen ++ take (suc n) xs)) h).1
byte_at [] [] n lt h = absurd (omega arith)
byte_at [] (x ∷ xs) zero lt h = (and_parts (is_name_byte x) _ h).0
byte_at [] (x ∷ xs) (suc n) lt h = byte_at [] xs n (omega arith) (and_parts (is_name_byte x) _ h).1

pub cut_name : (seen xs : List ℕ) (n : ℕ) → IsUtf8 xs → n ≤ length xs → 0 < n → is_beginning references (seen ++ take n xs) ≡ true → IsCharBoundary xs n
cut_name seen xs zero utf8 within some h = absurd (omega arith)
cut_name seen xs (suc n) utf8 within some h =
    let lt : n < length xs = omega arith in
    rw (sym (add-one n)) (IsCharBoundary-after_ascii xs n utf8 lt (small (slice_index xs n) (byte_at seen xs n lt (beginning_has_name_bytes (seen ++ take (suc n) xs) h))))

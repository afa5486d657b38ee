-- Errors are reported, and then more.
use Rattle.std.proofs.Common.{◌≡◌, ◌==◌, ℕ, Bool, true, false, if◌then◌else◌, List, [], ◌∷◌, ◌++◌, refl, sym, ap, ◌∙◌, subst, append-nil, append_assoc}
use Rattle.h5_tokenizer_spec.specs.declared.errors.ParseError.{ParseError}
use Rattle.h5_tokenizer_spec.specs.declared.position.Position.{Position}
use Rattle.h5_tokenizer_spec.specs.declared.position.LocatedError.{LocatedError}
use Rattle.h5_tokenizer_spec.specs.Reading.{ReaderPlace}
use Rattle.h5_tokenizer_spec.specs.References.{Reference}
use Rattle.h5_tokenizer_spec.specs.SeenAhead.{error_position, seen_ahead, told_of_row}
use Rattle.h5_tokenizer_spec.specs.Telling.{in_order, row_errors, told_at_byte}
use Rattle.h5_tokenizer_spec.specs.Told.{Tells}

pub tells_none : {S : Type 0} (told : S → List LocatedError → Type 0) (s : S) → Tells told s s []
tells_none told s before h = subst (told s) (sym (append-nil before)) h

pub tells_twice : {S : Type 0} (told : S → List LocatedError → Type 0) (a b c : S) (es fs : List LocatedError) → Tells told a b es → Tells told b c fs → Tells told a c (es ++ fs)
tells_twice told a b c es fs first second before h = subst (told c) (append_assoc before es fs) (second (before ++ es) (first before h))

-- three parts of a row
row_append : (ahead : ℕ) (at : Position) (es fs : List ParseError) → told_of_row ahead at (es ++ fs) ≡ told_of_row ahead at es ++ told_of_row ahead at fs
row_append ahead at [] fs = refl
row_append ahead at (e ∷ es) fs = ap (λ l. record { error = e; at = error_position ahead at e } ∷ l) (row_append ahead at es fs)

pub tells_thrice : {S : Type 0} (told : S → List LocatedError → Type 0) (a b c d : S) (ahead : ℕ) (at : Position) (es fs gs : List ParseError)
    → Tells told a b (told_of_row ahead at es) → Tells told b c (told_of_row ahead at fs) → Tells told c d (told_of_row ahead at gs) → Tells told a d (told_of_row ahead at (es ++ (fs ++ gs)))
tells_thrice told a b c d ahead at es fs gs first second third =
    let t = told_of_row ahead at in
    subst (Tells told a d) (sym (row_append ahead at es (fs ++ gs) ∙ ap (λ l. t es ++ l) (row_append ahead at fs gs)))
    (tells_twice told a b d (t es) (t fs ++ t gs) first (tells_twice told b c d (t fs) (t gs) second third))

-- ---- at a byte

first_or_last : (b : Bool) (row : List LocatedError) → (if b then row else row ++ []) ≡ row
first_or_last true row = refl
first_or_last false row = append-nil row

-- if the input has no errors, the reports are those of the row
pub row_alone : (table : List Reference) (p : ReaderPlace) (at : Position) (x : ℕ) → told_at_byte table p at x [] ≡ told_of_row (seen_ahead table p.state) at (row_errors table p x)
row_alone table p at x = first_or_last (seen_ahead table p.state == 0) (told_of_row (seen_ahead table p.state) at (row_errors table p x))

-- and if the row has none either, nothing is reported
pub none_at_byte : (table : List Reference) (p : ReaderPlace) (at : Position) (x : ℕ) → row_errors table p x ≡ [] → told_at_byte table p at x [] ≡ []
none_at_byte table p at x e = row_alone table p at x ∙ ap (told_of_row (seen_ahead table p.state) at) e

-- the input's errors come first, or else the row's
pub input_first : (ahead : ℕ) (input row : List LocatedError) → (ahead == 0) ≡ true → in_order ahead input row ≡ input ++ row
input_first ahead input row e = ap (λ b. if b then input ++ row else row ++ input) e

pub row_first : (ahead : ℕ) (input row : List LocatedError) → (ahead == 0) ≡ false → in_order ahead input row ≡ row ++ input
row_first ahead input row e = ap (λ b. if b then input ++ row else row ++ input) e

-- The errors of character references.
use Rattle.std.proofs.Common.{◌≡◌, ℕ, Bool, true, false, List, [], ◌∷◌, ◌++◌, refl, sym, ap, ◌∙◌, subst, if◌then◌else◌}
use Rattle.std.specs.Prelude.{Option, Some, None, codes, not}
use Rattle.h5_tokenizer_spec.specs.declared.errors.ParseError.{ParseError}
use Rattle.h5_tokenizer_spec.specs.declared.errors.ParseError.TheVariants.{MissingSemicolonAfterCharacterReference}
use Rattle.h5_tokenizer_spec.specs.AtEnd.{flushed, named_at_end, wrongly_unless}
use Rattle.h5_tokenizer_spec.specs.References.{Longest, ends_in, is_closed, is_historical, longest, named, unnamed}
use Rattle.h5_tokenizer_spec.specs.ReferenceTable.{references}
use Rattle.h5_tokenizer_spec.specs.Signs.{null}
use Rattle.h5_tokenizer_spec.specs.States.{Return, ToData, ToRcdata, ToValue}
use Rattle.h5_tokenizer_spec.specs.Told.{if_any}
use Rattle.h5_tokenizer_spec.specs.Turn.{flush_again, wrong_if}

unnamed_quiet : (return : Return) (text : List ℕ) → (unnamed return text).errors ≡ []
unnamed_quiet ToData text = refl
unnamed_quiet ToRcdata text = refl
unnamed_quiet (ToValue value tag) text = refl

pub flush_quiet : (return : Return) (text : List ℕ) → (flush_again return text).errors ≡ []
flush_quiet ToData text = refl
flush_quiet ToRcdata text = refl
flush_quiet (ToValue value tag) text = refl

-- no name was found
pub none_named : (return : Return) (seen : List ℕ) (x : ℕ) → None ≡ longest references seen → [] ≡ (named return seen x (longest references seen)).errors
none_named return seen x e = subst (λ (found : Option Longest). [] ≡ (named return seen x found).errors) e (sym (unnamed_quiet return (codes "&" ++ seen)))

abbrev found_as : List ℕ → List ℕ → List ℕ → Longest
found_as name text rest = record { name = name; text = text; rest = rest }

named_by : (historical closed : Bool) (return : Return) (text other : List ℕ)
    → (if historical then flush_again return text else wrong_if (not closed) MissingSemicolonAfterCharacterReference (flush_again return other)).errors
    ≡ (if historical then [] else (if not closed then MissingSemicolonAfterCharacterReference ∷ [] else []))
named_by true closed return text other = flush_quiet return text
named_by false true return text other = flush_quiet return other
named_by false false return text other = ap (λ l. MissingSemicolonAfterCharacterReference ∷ l) (flush_quiet return other)

found_errors : (return : Return) (seen : List ℕ) (x : ℕ) (found : Longest)
    → (named return seen x (Some found)).errors ≡ (if is_historical return found x then [] else (if not (is_closed found) then MissingSemicolonAfterCharacterReference ∷ [] else []))
found_errors return seen x found = named_by (is_historical return found x) (is_closed found) return (codes "&" ++ seen) (found.text ++ found.rest)

-- a name was found that is text for historical reasons
pub historical_quiet : (return : Return) (seen : List ℕ) (x : ℕ) (text name rest name_now rest_now : List ℕ) → name_now ≡ name → rest_now ≡ rest
    → true ≡ is_historical return (found_as name_now text rest_now) x
    → [] ≡ (named return seen x (Some (found_as name text rest))).errors
historical_quiet return seen x text name rest name_now rest_now e f h =
    let same : true ≡ is_historical return (found_as name text rest) x = h ∙ (λ i. is_historical return (found_as (e i) text (f i)) x) in
    ap (λ b. if b then [] else (if not (ends_in 59 name) then MissingSemicolonAfterCharacterReference ∷ [] else [])) same ∙ sym (found_errors return seen x (found_as name text rest))

-- and one that isn't
pub found_missing : (return : Return) (seen : List ℕ) (x : ℕ) (text name rest name_now rest_now : List ℕ) (closed : Bool) (errors : List ParseError) → name_now ≡ name → rest_now ≡ rest
    → false ≡ is_historical return (found_as name_now text rest_now) x
    → closed ≡ ends_in 59 name_now → errors ≡ (if not closed then MissingSemicolonAfterCharacterReference ∷ [] else [])
    → errors ≡ (named return seen x (Some (found_as name text rest))).errors
found_missing return seen x text name rest name_now rest_now closed errors e f h c are =
    let same : false ≡ is_historical return (found_as name text rest) x = h ∙ (λ i. is_historical return (found_as (e i) text (f i)) x) in
    are
    ∙ ap (λ b. if not b then MissingSemicolonAfterCharacterReference ∷ [] else []) (c ∙ ap (ends_in 59) e)
    ∙ ap (λ b. if b then [] else (if not (ends_in 59 name) then MissingSemicolonAfterCharacterReference ∷ [] else [])) same
    ∙ sym (found_errors return seen x (found_as name text rest))

-- ---- at the end

closed_at_end : (historical closed : Bool) (return : Return) (text other : List ℕ)
    → (if historical then flushed return text else wrongly_unless closed MissingSemicolonAfterCharacterReference (flushed return other)).errors
    ≡ (if historical then [] else (if not closed then MissingSemicolonAfterCharacterReference ∷ [] else [])) ++ (flushed return []).errors
closed_at_end true closed ToData text other = refl
closed_at_end true closed ToRcdata text other = refl
closed_at_end true closed (ToValue value tag) text other = refl
closed_at_end false true ToData text other = refl
closed_at_end false true ToRcdata text other = refl
closed_at_end false true (ToValue value tag) text other = refl
closed_at_end false false ToData text other = refl
closed_at_end false false ToRcdata text other = refl
closed_at_end false false (ToValue value tag) text other = refl

unnamed_at_end : (return : Return) (text : List ℕ) → (flushed return text).errors ≡ (unnamed return text).errors ++ (flushed return []).errors
unnamed_at_end ToData text = refl
unnamed_at_end ToRcdata text = refl
unnamed_at_end (ToValue value tag) text = refl

-- the errors of what was seen, as if null followed, and then that of its tag
named_ends : (return : Return) (seen : List ℕ) (found : Option Longest) → (named_at_end return seen found).errors ≡ (named return seen null found).errors ++ (flushed return []).errors
named_ends return seen None = unnamed_at_end return (codes "&" ++ seen)
named_ends return seen (Some found) =
    closed_at_end (is_historical return found null) (is_closed found) return (codes "&" ++ seen) (found.text ++ found.rest)
    ∙ ap (λ l. l ++ (flushed return []).errors) (sym (found_errors return seen null found))

pub named_at_end_errors : (return : Return) (seen seen_now : List ℕ) (error : Option ParseError) (errors : List ParseError) → seen_now ≡ seen
    → if_any error ≡ (named return seen_now null (longest references seen_now)).errors → errors ≡ if_any error ++ (flushed return []).errors
    → errors ≡ (named_at_end return seen (longest references seen)).errors
named_at_end_errors return seen seen_now error errors same is all =
    all ∙ ap (λ l. l ++ (flushed return []).errors) (is ∙ (λ i. (named return (same i) null (longest references (same i))).errors)) ∙ sym (named_ends return seen (longest references seen))

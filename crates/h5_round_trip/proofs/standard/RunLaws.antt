-- Rows without errors, one after another, that emit nothing.
use Rattle.std.proofs.Common.{◌≡◌, ◌==◌, ℕ, Bool, true, false, List, [], ◌∷◌, ◌++◌, Option, Some, None, if◌then◌else◌, refl, ap, subst, ◌∙◌}
use Rattle.h5_tokenizer_spec.specs.Lines.{normal}
use Rattle.h5_tokenizer_spec.specs.ReferenceTable.{references}
use Rattle.h5_tokenizer_spec.specs.Machine.{turn}
use Rattle.h5_tokenizer_spec.specs.Reading.{ReaderPlace, behind, in_state, is_dropped}
use Rattle.h5_tokenizer_spec.specs.States.{State}
use Rattle.h5_tokenizer_spec.specs.Turn.{Reconsumed, Asks, Outcome, Consumed, Emitted, Turn}
use Rattle.h5_tokenizer_spec.specs.declared.errors.ParseError.{ParseError}
use Rattle.h5_round_trip.proofs.standard.QuietLaws.{PassesQuietly, quiet, quietly_again, quietly_goes, quietly_more, quietly_passed, row_at}

-- a place in a state, if the byte before wasn't a CR
pub record IsIn (p : ReaderPlace) (state : State) : Type 0 where
  pub at : p.state ≡ state
  pub after_return : p.after_return ≡ false

-- from a place these bytes are passed without errors, which emit this text, up to a state
pub record Moves (p : ReaderPlace) (xs text : List ℕ) (state : State) (ys : List ℕ) : Type 0 where
  pub place : ReaderPlace
  pub passes : PassesQuietly p xs text place ys
  pub is_in : IsIn place state
  pub last : place.last ≡ p.last

pub stays : (p : ReaderPlace) (state : State) (ys : List ℕ) → IsIn p state → Moves p ys [] state ys
stays p state ys h = record { place = p; passes = quietly_passed; is_in = h; last = refl }

-- one run of rows, and then another
pub moves_then : {p : ReaderPlace} {xs text more : List ℕ} {s t : State} {ys zs : List ℕ} → Moves p xs text s ys → ((q : ReaderPlace) → IsIn q s → q.last ≡ p.last → Moves q ys more t zs) → Moves p xs (text ++ more) t zs
moves_then a f =
    let b = f a.place a.is_in a.last in
    record { place = b.place; passes = quietly_more a.passes b.passes; is_in = b.is_in; last = b.last ∙ a.last }

normal_same : (x : ℕ) → x == 13 ≡ false → normal x ≡ x
normal_same x e = rw e refl

-- the row of a state at a byte, as it stands at a place
pub row_there : (p : ReaderPlace) (s : State) (x : ℕ) (t : Turn) → IsIn p s → x == 13 ≡ false → turn references p.last s x ≡ t → row_at p x ≡ t
row_there p s x t h c e = ap (turn references p.last p.state) (normal_same x c) ∙ ap (λ r. turn references p.last r x) h.at ∙ e

pub kept : (p : ReaderPlace) (s : State) (x : ℕ) → IsIn p s → is_dropped p x ≡ false
kept p s x h = rw h.after_return refl

-- a byte that is consumed
pub goes_by : (p : ReaderPlace) (s t : State) (x : ℕ) (text ys : List ℕ) → IsIn p s → x == 13 ≡ false → turn references p.last s x ≡ quiet (Consumed text t) → Moves p (x ∷ ys) (text ++ []) t ys
goes_by p s t x text ys h c e = record {
  place = behind x t p;
  passes = quietly_goes text t (kept p s x h) (row_there p s x (quiet (Consumed text t)) h c e) quietly_passed;
  is_in = record { at = refl; after_return = c };
  last = refl;
}

-- one that is reconsumed, whatever it is
pub again_at : (p : ReaderPlace) (s t : State) (x : ℕ) (text ys : List ℕ) → IsIn p s → turn references p.last s (normal x) ≡ quiet (Reconsumed text t) → Moves p (x ∷ ys) (text ++ []) t (x ∷ ys)
again_at p s t x text ys h e = record {
  place = in_state t p;
  passes = quietly_again text t (kept p s x h) (ap (λ r. turn references p.last r (normal x)) h.at ∙ e) quietly_passed;
  is_in = record { at = refl; after_return = h.after_return };
  last = refl;
}

pub again_by : (p : ReaderPlace) (s t : State) (x : ℕ) (text ys : List ℕ) → IsIn p s → x == 13 ≡ false → turn references p.last s x ≡ quiet (Reconsumed text t) → Moves p (x ∷ ys) (text ++ []) t (x ∷ ys)
again_by p s t x text ys h c e = again_at p s t x text ys h (ap (turn references p.last s) (normal_same x c) ∙ e)

-- ---- rows that emit nothing, by computing

-- where a row leads that consumes its byte and has no errors
abbrev consumed_by : List ParseError → Outcome → Option State
consumed_by [] (Consumed [] state) = Some state
consumed_by _ _ = None

abbrev consumed : Turn → Option State
consumed t = consumed_by t.errors t.outcome

-- where one or two rows lead that consume a byte and have no errors
abbrev row_by : List ℕ → ℕ → List ParseError → Outcome → Option State
row_by last x [] (Consumed [] state) = Some state
row_by last x [] (Reconsumed [] state) = consumed (turn references last state x)
row_by last x _ _ = None

abbrev row : List ℕ → ℕ → Turn → Option State
row last x t = row_by last x t.errors t.outcome

abbrev pub rows : List ℕ → List ℕ → Option State → Option State
rows last xs None = None
rows last [] (Some s) = Some s
rows last (x ∷ xs) (Some s) = if x == 13 then None else rows last xs (row last x (turn references last s x))

-- a row by its parts
of_parts : (t : Turn) (errors : List ParseError) (deed : Outcome) → t.errors ≡ errors → t.outcome ≡ deed → t ≡ record { errors = errors; outcome = deed }
of_parts t errors deed e f = λ i. record { errors = e i; outcome = f i }

consumed_goes : (t : Turn) (s : State) (errors : List ParseError) (deed : Outcome) → t.errors ≡ errors → t.outcome ≡ deed → consumed_by errors deed ≡ Some s → t ≡ quiet (Consumed [] s)
consumed_goes t s [] (Consumed [] u) e f g = let same : u ≡ s = cc in of_parts t [] (Consumed [] u) e f ∙ ap (λ v. quiet (Consumed [] v)) same
consumed_goes t s [] (Consumed (x ∷ text) u) e f g = cc
consumed_goes t s [] (Reconsumed text u) e f g = cc
consumed_goes t s [] (Emitted token u) e f g = cc
consumed_goes t s [] (Asks there error elsewhere) e f g = cc
consumed_goes t s (error ∷ errors) deed e f g = cc

row_moves : (p : ReaderPlace) (s t : State) (x : ℕ) (ys : List ℕ) (errors : List ParseError) (d : Outcome) → IsIn p s → x == 13 ≡ false
    → (turn references p.last s x).errors ≡ errors → (turn references p.last s x).outcome ≡ d → row_by p.last x errors d ≡ Some t → Moves p (x ∷ ys) [] t ys
row_moves p s t x ys [] (Consumed [] u) h c e f g =
    let same : u ≡ t = cc in
    goes_by p s t x [] ys h c (of_parts (turn references p.last s x) [] (Consumed [] u) e f ∙ ap (λ v. quiet (Consumed [] v)) same)
row_moves p s t x ys [] (Reconsumed [] u) h c e f g =
    moves_then (again_by p s u x [] ys h c (of_parts (turn references p.last s x) [] (Reconsumed [] u) e f))
    (λ q i l. goes_by q u t x [] ys i c (ap (λ last. turn references last u x) l
    ∙ consumed_goes (turn references p.last u x) t (turn references p.last u x).errors (turn references p.last u x).outcome refl refl g))
row_moves p s t x ys [] (Consumed (y ∷ text) u) h c e f g = cc
row_moves p s t x ys [] (Reconsumed (y ∷ text) u) h c e f g = cc
row_moves p s t x ys [] (Emitted token u) h c e f g = cc
row_moves p s t x ys [] (Asks there error elsewhere) h c e f g = cc
row_moves p s t x ys (error ∷ errors) d h c e f g = cc

rows_none : (last xs : List ℕ) (t : State) → rows last xs None ≡ Some t → ⊥
rows_none last [] t e = cc
rows_none last (x ∷ xs) t e = cc

-- where rows lead by computing there they lead
module _ (p : ReaderPlace) (s t : State) (x : ℕ) (xs ys : List ℕ) (h : IsIn p s) (more : (q : ReaderPlace) (u : State) → IsIn q u → rows q.last xs (Some u) ≡ Some t → Moves q (xs ++ ys) [] t ys) where
  behind_row : (o : Option State) → row p.last x (turn references p.last s x) ≡ o → x == 13 ≡ false → rows p.last xs o ≡ Some t → Moves p (x ∷ (xs ++ ys)) [] t ys
  behind_row None e c f = absurd (rows_none p.last xs t f)
  behind_row (Some u) e c f =
      moves_then (row_moves p s u x (xs ++ ys) (turn references p.last s x).errors (turn references p.last s x).outcome h c refl refl e)
      (λ q i l. more q u i (ap (λ last. rows last xs (Some u)) l ∙ f))

  by_return : (b : Bool) → x == 13 ≡ b → (if b then None else rows p.last xs (row p.last x (turn references p.last s x))) ≡ Some t → Moves p (x ∷ (xs ++ ys)) [] t ys
  by_return true c f = cc
  by_return false c f = behind_row (row p.last x (turn references p.last s x)) refl c f

pub rows_move : (p : ReaderPlace) (s t : State) (xs ys : List ℕ) → IsIn p s → rows p.last xs (Some s) ≡ Some t → Moves p (xs ++ ys) [] t ys
rows_move p s t [] ys h e = let same : s ≡ t = cc in subst (λ u. Moves p ys [] u ys) same (stays p s ys h)
rows_move p s t (x ∷ xs) ys h e = by_return p s t x xs ys h (λ q u i f. rows_move q u t xs ys i f) (x == 13) refl e

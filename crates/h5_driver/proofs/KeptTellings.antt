-- Readings with their errors over meanings with a property that every token keeps.
use Rattle.std.proofs.Common.{◌≡◌, ℕ, Bool, List, [], ◌∷◌, ◌++◌, inl, inr, refl, subst, sym}
use Rattle.h5_token.specs.TokenText.{Characters, TokenText}
use Rattle.h5_token.specs.Reply.{Reply}
use Rattle.h5_tokenizer_spec.specs.declared.position.LocatedError.{LocatedError}
use Rattle.h5_tokenizer_spec.specs.declared.position.Spot.{Spot}
use Rattle.h5_tokenizer_spec.specs.References.{Reference}
use Rattle.h5_tokenizer_spec.specs.Reading.{Passes, Read, ReaderPlace, quiet_step, read_on}
use Rattle.h5_tokenizer_spec.specs.Telling.{MeetsByte, Reached, Reaches, again, asks, at_first, begins, drops, goes, hands_nothing, hands_text, hands_token}
use Rattle.h5_tokenizer_spec.specs.Turn.{Outcome}
use Rattle.h5_tokenizer_spec.specs.Whole.{Readings, more_reading, no_reading}
use Rattle.h5_tokenizer_spec.specs.WholeTelling.{Tellings, TellsToEnd, more_telling, no_telling}
use Rattle.h5_tokenizer_spec.proofs.TellingLaws.{reaches_read}
use Rattle.h5_tokenizer_spec.proofs.ToldCutLaws.{told_agree}
use Rattle.h5_driver.specs.KeptReadings.{Kept, blind, kept, kept_after, kept_foreign, kept_reply, same_meaning}

module _ (table : List Reference) {M : Type 0} (reply_to : M → TokenText → Reply) (after : M → TokenText → ℕ → M) (foreign : M → Bool) (Holds : M → Type 0) (keeps : (m : M) (t : TokenText) (line : ℕ) → Holds m → Holds (after m t line)) where
  abbrev kept_so : (m : M) → Holds m → Kept M Holds
  kept_so m h = kept table reply_to after foreign Holds keeps m h

  abbrev reply_so : Kept M Holds → TokenText → Reply
  reply_so = kept_reply table reply_to after foreign Holds keeps

  abbrev after_so : Kept M Holds → TokenText → ℕ → Kept M Holds
  after_so = kept_after table reply_to after foreign Holds keeps

  abbrev foreign_so : Kept M Holds → Bool
  foreign_so = kept_foreign table reply_to after foreign Holds keeps

  abbrev lifted : (r : Reached M) → Holds r.meaning → Reached (Kept M Holds)
  lifted r h = record { text = r.text; line = r.line; reply = r.reply; place = r.place; spot = r.spot; meaning = kept_so r.meaning h; rest = r.rest }

  meets : {r : Reached M} {x : ℕ} {xs : List ℕ} {deed : Outcome} {errors : List LocatedError} → MeetsByte table r x xs deed errors → (h : Holds r.meaning) → MeetsByte table (lifted r h) x xs deed errors
  meets b h = record {
    goes_on = b.goes_on;
    front = b.front;
    not_dropped = b.not_dropped;
    outcome = b.outcome;
    input = b.input;
    input_errors = b.input_errors;
    errors_are = b.errors_are;
  }

  record KeptReach (start r : Reached M) (told : List LocatedError) (h : Holds start.meaning) : Type 0 where
    holds : Holds r.meaning
    reaches : Reaches table reply_so after_so foreign_so (lifted start h) (lifted r holds) told

  reaches_kept : {start r : Reached M} {told : List LocatedError} → Reaches table reply_to after foreign start r told → (h : Holds start.meaning) → KeptReach start r told h
  reaches_kept begins h = record { holds = h; reaches = begins }
  reaches_kept (drops a g f d) h = let k = reaches_kept a h in record { holds = k.holds; reaches = drops k.reaches g f d }
  reaches_kept (goes text state a b) h = let k = reaches_kept a h in record { holds = k.holds; reaches = goes text state k.reaches (meets b k.holds) }
  reaches_kept (again text state a b) h = let k = reaches_kept a h in record { holds = k.holds; reaches = again text state k.reaches (meets b k.holds) }
  reaches_kept (hands_text {r = r} a g e) h = let k = reaches_kept a h in record { holds = keeps r.meaning (Characters r.text) r.line k.holds; reaches = hands_text k.reaches g e }
  reaches_kept (hands_nothing a g e) h = let k = reaches_kept a h in record { holds = k.holds; reaches = hands_nothing k.reaches g e }
  reaches_kept (hands_token {r = r} token state a e b) h = let k = reaches_kept a h in record { holds = keeps r.meaning token r.place.began k.holds; reaches = hands_token token state k.reaches e (meets b k.holds) }
  reaches_kept (asks there error elsewhere a e b) h = let k = reaches_kept a h in record { holds = k.holds; reaches = asks there error elsewhere k.reaches e (meets b k.holds) }

  record KeptTellings (p : ReaderPlace) (s : Spot) (m : M) (xs : List ℕ) (told : List LocatedError) (q : ReaderPlace) (t : Spot) (n : M) (ys : List ℕ) (h : Holds m) : Type 0 where
    holds : Holds n
    tellings : Tellings table reply_so after_so foreign_so p s (kept_so m h) xs told q t (kept_so n holds) ys

  tellings_kept : {p q : ReaderPlace} {s t : Spot} {m n : M} {xs ys : List ℕ} {told : List LocatedError} → Tellings table reply_to after foreign p s m xs told q t n ys → (h : Holds m) → KeptTellings p s m xs told q t n ys h
  tellings_kept no_telling h = record { holds = h; tellings = no_telling }
  tellings_kept (more_telling a r g e) h =
      let k = tellings_kept a h in let l = reaches_kept r k.holds in record { holds = l.holds; tellings = more_telling k.tellings l.reaches g e }

  told_kept : {p : ReaderPlace} {s : Spot} {m : M} {xs : List ℕ} {told : List LocatedError} → TellsToEnd table reply_to after foreign p s m xs told → (h : Holds m) → TellsToEnd table reply_so after_so foreign_so p s (kept_so m h) xs told
  told_kept r h =
      let k = tellings_kept r.tellings h in
      record { errors = r.errors; place = r.place; spot = r.spot; meaning = kept_so r.meaning k.holds; tellings = k.tellings; told_are = r.told_are }

  -- how a text is split doesn't matter for its errors
  module _ (lines : (m : M) (t : TokenText) (k l : ℕ) → after m t k ≡ after m t l)
      (cut : (m : M) (x y : ℕ) (xs ys : List ℕ) (j k l : ℕ) → Holds m → after m (Characters ((x ∷ xs) ++ y ∷ ys)) j ≡ after (after m (Characters (x ∷ xs)) k) (Characters (y ∷ ys)) l) where
    pub tellings_agree : (p : ReaderPlace) (s : Spot) (m : M) (xs : List ℕ) (told others : List LocatedError) → Holds m
        → TellsToEnd table reply_to after foreign p s m xs told → TellsToEnd table reply_to after foreign p s m xs others → told ≡ others
    tellings_agree p s m xs told others h a b =
        told_agree reply_so after_so foreign_so (λ k. k) (same_meaning table reply_to after foreign Holds keeps (λ k. k) lines cut) (blind table reply_to after foreign Holds keeps (λ k. k) lines cut)
        table p s (kept_so m h) (kept_so m h) xs told others refl (told_kept a h) (told_kept b h)

-- what is read with its errors is read
module _ (table : List Reference) {M : Type 0} (reply_to : M → TokenText → Reply) (after : M → TokenText → ℕ → M) (foreign : M → Bool) where
  pub record AreRead (p : ReaderPlace) (m : M) (xs : List ℕ) (q : ReaderPlace) (n : M) (ys : List ℕ) : Type 0 where
    pub tokens : List TokenText
    pub readings : Readings table reply_to after foreign p m xs tokens q n ys

  pub record IsRead (p : ReaderPlace) (m : M) (xs : List ℕ) (r : Reached M) : Type 0 where
    pub tokens : List TokenText
    pub read : Read table reply_to after foreign p m xs tokens r.reply r.place r.meaning r.rest

  -- a reading that holds no text passed all of its tokens on
  reached_read : {p : ReaderPlace} {s : Spot} {m : M} {xs : List ℕ} {r : Reached M} {told : List LocatedError} → Reaches table reply_to after foreign (at_first p s m xs) r told → r.text ≡ [] → IsRead p m xs r
  reached_read {p = p} {m = m} {xs = xs} {r = r} h none = elim (reaches_read table reply_to after foreign h) [
    | inl v ↦
        let k = v.1 in
        record {
          tokens = k.tokens ++ [];
          read = subst (λ reply. Read table reply_to after foreign p m xs (k.tokens ++ []) reply r.place r.meaning r.rest) (sym v.0)
              (read_on k.read k.goes_on (quiet_step (subst (λ text. Passes table k.place k.rest text r.place r.rest) none k.passes)));
        }
    | inr v ↦ record { tokens = v.tokens; read = v.read }
  ]

  pub tellings_read : {p q : ReaderPlace} {s t : Spot} {m n : M} {xs ys : List ℕ} {told : List LocatedError} → Tellings table reply_to after foreign p s m xs told q t n ys → AreRead p m xs q n ys
  tellings_read no_telling = record { tokens = []; readings = no_reading }
  tellings_read (more_telling a r g e) =
      let k = tellings_read a in let l = reached_read r e in record { tokens = k.tokens ++ l.tokens; readings = more_reading k.readings l.read g }

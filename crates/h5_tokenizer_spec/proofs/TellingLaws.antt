-- A reading with errors is a reading, goes on and joins.
use Rattle.std.proofs.Common.{◌≡◌, ℕ, Bool, true, false, List, [], ◌∷◌, ◌++◌, inl, inr, refl, sym, ap, ◌∙◌, subst, append-nil, append_assoc}
use Rattle.h5_token.specs.TokenText.{TokenText, Characters}
use Rattle.h5_token.specs.Reply.{Reply, Continues}
use Rattle.h5_tokenizer_input.specs.Answers.{goes_on}
use Rattle.h5_tokenizer_spec.specs.declared.errors.ParseError.{ParseError}
use Rattle.h5_tokenizer_spec.specs.declared.position.LocatedError.{LocatedError}
use Rattle.h5_tokenizer_spec.specs.States.{State}
use Rattle.h5_tokenizer_spec.specs.Turn.{Outcome, Consumed, Reconsumed}
use Rattle.h5_tokenizer_spec.specs.References.{Reference}
use Rattle.h5_tokenizer_spec.specs.Reading as reading
use Rattle.h5_tokenizer_spec.specs.Reading.{ReaderPlace, outcome, is_dropped, behind, behind_newline, in_state, after_token, Passes, passed, Read, nothing_read, read_on, quiet_step, text_step, token_step, ask_step}
use Rattle.h5_tokenizer_spec.specs.InputErrors.{InputErrors, of_character, inside, not_new}
use Rattle.h5_tokenizer_spec.specs.declared.position.Spot.{Spot}
use Rattle.h5_tokenizer_spec.specs.Telling.{Reached, at_first, MeetsByte, Reaches, begins, drops, goes, again, hands_text, hands_nothing, hands_token, asks, IsHeld, IsReadSo}
use Rattle.h5_tokenizer_spec.proofs.ReadLaws.{passes_join}

-- one byte is passed
drop_passes : (table : List Reference) {p : ReaderPlace} {x : ℕ} {xs ys : List ℕ} → ys ≡ x ∷ xs → is_dropped p x ≡ true → Passes table p ys [] (behind_newline p) xs
drop_passes table {p} {x} {xs} front d = subst (λ l. Passes table p l [] (behind_newline p) xs) (sym front) (reading.drops d passed)

go_passes : (table : List Reference) {p : ReaderPlace} {x : ℕ} {xs ys : List ℕ} (text : List ℕ) (state : State) → ys ≡ x ∷ xs → is_dropped p x ≡ false → outcome table p x ≡ Consumed text state
    → Passes table p ys text (behind x state p) xs
go_passes table {p} {x} {xs} text state front d e =
    subst (λ l. Passes table p l text (behind x state p) xs) (sym front) (subst (λ t. Passes table p (x ∷ xs) t (behind x state p) xs) (append-nil text) (reading.goes text state d e passed))

again_passes : (table : List Reference) {p : ReaderPlace} {x : ℕ} {xs ys : List ℕ} (text : List ℕ) (state : State) → ys ≡ x ∷ xs → is_dropped p x ≡ false → outcome table p x ≡ Reconsumed text state
    → Passes table p ys text (in_state state p) ys
again_passes table {p} {x} {xs} text state front d e =
    subst (λ l. Passes table p l text (in_state state p) l) (sym front) (subst (λ t. Passes table p (x ∷ xs) t (in_state state p) (x ∷ xs)) (append-nil text) (reading.again text state d e passed))

module _ (table : List Reference) {M : Type 0} (reply_to : M → TokenText → Reply) (after : M → TokenText → ℕ → M) (foreign : M → Bool) where
  -- if reading goes on, what is held is what was passed after what was emitted
  pub held : {p : ReaderPlace} {m : M} {xs : List ℕ} (r : Reached M) → IsReadSo table reply_to after foreign p m xs r → goes_on r.reply ≡ true → IsHeld table reply_to after foreign p m xs r
  held r (inl h) on = h.1
  held r (inr h) on = record {
    tokens = h.tokens;
    reply = r.reply;
    place = r.place;
    rest = r.rest;
    read = h.read;
    goes_on = on;
    passes = subst (λ t. Passes table r.place r.rest t r.place r.rest) (sym h.none) passed;
    began = h.began;
  }

  -- a held text is emitted
  text_read : {p : ReaderPlace} {m : M} {xs : List ℕ} {ts : List TokenText} {reply : Reply} {place q : ReaderPlace} {n : M} {rest ys : List ℕ} (x line : ℕ) (t text : List ℕ)
      → text ≡ x ∷ t → line ≡ place.began → Read table reply_to after foreign p m xs ts reply place n rest → goes_on reply ≡ true → Passes table place rest text q ys
      → (us : List TokenText) × Read table reply_to after foreign p m xs us (reply_to n (Characters text)) q (after n (Characters text) line) ys
  text_read {ts = ts} x line t text e l read on passes = rw (e, l) (ts ++ (Characters (x ∷ t) ∷ []), read_on read on (text_step (rw e at passes)))

  -- nothing is held, and reading goes on from here
  pub none_read : {p : ReaderPlace} {m : M} {xs : List ℕ} (r : Reached M) → IsHeld table reply_to after foreign p m xs r → r.text ≡ []
      → (us : List TokenText) × Read table reply_to after foreign p m xs us Continues r.place r.meaning r.rest
  none_read r h e = (h.tokens ++ [], read_on h.read h.goes_on (quiet_step (subst (λ t. Passes table h.place h.rest t r.place r.rest) e h.passes)))

  -- a reading with errors is a reading
  pub reaches_read : {p : ReaderPlace} {s : Spot} {m : M} {xs : List ℕ} {r : Reached M} {told : List LocatedError}
      → Reaches table reply_to after foreign (at_first p s m xs) r told → IsReadSo table reply_to after foreign p m xs r
  reaches_read begins = inr (record { tokens = []; read = nothing_read; none = refl; began = refl })
  reaches_read (drops {r} {xs = ys} so on front d) =
      let h = held r (reaches_read so) on in
      inl (
        refl,
        record {
          tokens = h.tokens;
          reply = h.reply;
          place = h.place;
          rest = h.rest;
          read = h.read;
          goes_on = h.goes_on;
          began = h.began;
          passes = subst (λ t. Passes table h.place h.rest t (behind_newline r.place) ys) (append-nil r.text) (passes_join table h.passes (drop_passes table front d));
        },
      )
  reaches_read (goes {r} text state so here) =
      let h = held r (reaches_read so) here.goes_on in
      inl (
        refl,
        record {
          tokens = h.tokens;
          reply = h.reply;
          place = h.place;
          rest = h.rest;
          read = h.read;
          goes_on = h.goes_on;
          began = h.began;
          passes = passes_join table h.passes (go_passes table text state here.front here.not_dropped here.outcome);
        },
      )
  reaches_read (again {r} text state so here) =
      let h = held r (reaches_read so) here.goes_on in
      inl (
        refl,
        record {
          tokens = h.tokens;
          reply = h.reply;
          place = h.place;
          rest = h.rest;
          read = h.read;
          goes_on = h.goes_on;
          began = h.began;
          passes = passes_join table h.passes (again_passes table text state here.front here.not_dropped here.outcome);
        },
      )
  reaches_read (hands_text {r} {x} {text} so on e) =
      let h = held r (reaches_read so) on in
      let done = text_read x r.line text r.text e h.began h.read h.goes_on h.passes in
      inr (record { tokens = done.0; read = done.1; none = refl; began = refl })
  reaches_read (hands_nothing {r} so on e) =
      let done = none_read r (held r (reaches_read so) on) e in
      inr (record { tokens = done.0; read = done.1; none = refl; began = refl })
  reaches_read {p} {m = m} {xs = xs} (hands_token {r} {x} {xs = ys} token state so e here) =
      let done = none_read r (held r (reaches_read so) here.goes_on) e in
      let before = subst (λ l. Read table reply_to after foreign p m xs done.0 Continues r.place r.meaning l) here.front done.1 in
      inr (record { tokens = done.0 ++ (token ∷ []); read = read_on before refl (token_step token state here.not_dropped here.outcome); none = refl; began = refl })
  reaches_read {p} {m = m} {xs = xs} (asks {r} {x} {xs = ys} there error elsewhere so e here) =
      let done = none_read r (held r (reaches_read so) here.goes_on) e in
      let before = subst (λ l. Read table reply_to after foreign p m xs done.0 Continues r.place r.meaning l) here.front done.1 in
      inr (record { tokens = done.0 ++ []; read = read_on before refl (ask_step there error elsewhere here.not_dropped here.outcome); none = refl; began = refl })

  -- with more input after it
  abbrev longer : List ℕ → Reached M → Reached M
  longer more r = record r { rest = r.rest ++ more }

  input_goes_on : {b : Bool} {xs : List ℕ} {errors : List ParseError} (more : List ℕ) → InputErrors b xs errors → InputErrors b (xs ++ more) errors
  input_goes_on more (of_character c rest scalar e) = of_character c (rest ++ more) scalar (ap (λ l. l ++ more) e ∙ append_assoc _ rest more)
  input_goes_on more (inside e) = inside e
  input_goes_on more not_new = not_new

  meets_goes_on : {r : Reached M} {x : ℕ} {xs : List ℕ} {deed : Outcome} {errors : List LocatedError} (more : List ℕ) → MeetsByte table r x xs deed errors → MeetsByte table (longer more r) x (xs ++ more) deed errors
  meets_goes_on more here = record {
    goes_on = here.goes_on;
    front = ap (λ l. l ++ more) here.front;
    not_dropped = here.not_dropped;
    outcome = here.outcome;
    input = here.input;
    input_errors = input_goes_on more here.input_errors;
    errors_are = here.errors_are;
  }

  -- what was read is reported in the same way, whatever follows
  pub reaches_goes_on : {start r : Reached M} {told : List LocatedError} (more : List ℕ) → Reaches table reply_to after foreign start r told → Reaches table reply_to after foreign (longer more start) (longer more r) told
  reaches_goes_on more begins = begins
  reaches_goes_on more (drops so on front d) = drops (reaches_goes_on more so) on (ap (λ l. l ++ more) front) d
  reaches_goes_on more (goes text state so here) = goes text state (reaches_goes_on more so) (meets_goes_on more here)
  reaches_goes_on more (again text state so here) = again text state (reaches_goes_on more so) (meets_goes_on more here)
  reaches_goes_on more (hands_text so on e) = hands_text (reaches_goes_on more so) on e
  reaches_goes_on more (hands_nothing so on e) = hands_nothing (reaches_goes_on more so) on e
  reaches_goes_on more (hands_token token state so e here) = hands_token token state (reaches_goes_on more so) e (meets_goes_on more here)
  reaches_goes_on more (asks there error elsewhere so e here) = asks there error elsewhere (reaches_goes_on more so) e (meets_goes_on more here)

  -- a reading, and then another from its end
  pub reaches_join : {start q r : Reached M} {told errors : List LocatedError} → Reaches table reply_to after foreign start q told → goes_on q.reply ≡ true → q.text ≡ []
      → Reaches table reply_to after foreign (at_first q.place q.spot q.meaning q.rest) r errors → Reaches table reply_to after foreign start r (told ++ errors)
  reaches_join first on none begins = rw append-nil (hands_nothing first on none)
  reaches_join first on none (drops so on' front d) = drops (reaches_join first on none so) on' front d
  reaches_join first on none (goes text state so here) = rw (← append_assoc) (goes text state (reaches_join first on none so) here)
  reaches_join first on none (again text state so here) = rw (← append_assoc) (again text state (reaches_join first on none so) here)
  reaches_join first on none (hands_text so on' e) = hands_text (reaches_join first on none so) on' e
  reaches_join first on none (hands_nothing so on' e) = hands_nothing (reaches_join first on none so) on' e
  reaches_join first on none (hands_token token state so e here) = rw (← append_assoc) (hands_token token state (reaches_join first on none so) e here)
  reaches_join first on none (asks there error elsewhere so e here) = rw (← append_assoc) (asks there error elsewhere (reaches_join first on none so) e here)

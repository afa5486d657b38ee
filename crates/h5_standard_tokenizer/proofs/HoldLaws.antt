-- A held text grows, and is passed to the sink.
use Rattle.std.proofs.Common.{◌≡◌, ℕ, Bool, false, List, [], ◌∷◌, ◌++◌, refl, sym, subst, if◌then◌else◌, Result, Ok, Err, Option, Some, None}
use Rattle.h5_token.specs.TokenText.{TokenText, Characters}
use Rattle.h5_token.specs.Reply.{Reply, Continues, Refuses}
use Rattle.h5_token.specs.declared.fault.BuildFault.{BuildFault}
use Rattle.h5_token.specs.declared.fault.BuildFault.TheVariants as fault
use Rattle.h5_tokenizer_input.specs.declared.stop.Stop.{Stop}
use Rattle.h5_tokenizer_spec.specs.ReferenceTable.{references}
use Rattle.h5_tokenizer_spec.specs.declared.errors.ParseError.{ParseError}
use Rattle.h5_tokenizer_spec.specs.Turn.{Emitted, Asks}
use Rattle.h5_tokenizer_spec.specs.States.{State}
use Rattle.h5_tokenizer_spec.specs.Reading.{ReaderPlace, Passes, passed, Step, quiet_step, text_step, token_step, ask_step, nothing_read, read_on, is_dropped, outcome, behind, after_token}
use Rattle.h5_tokenizer_spec.proofs.ReadLaws.{passes_join}
use Rattle.h5_standard_tokenizer.specs.Steps.{Stopped, ReadsOn, Holds, RefusedAt, HandsOn, Leads}

module _ {M : Type 0} (reply_to : M → TokenText → Reply) (after : M → TokenText → ℕ → M) (foreign : M → Bool) where
  -- a reading, and a step after it
  step_more : {p q r : ReaderPlace} {m n o : M} {xs ys zs : List ℕ} {us : List TokenText} {reply : Reply} → ReadsOn reply_to after foreign p m xs q n ys
      → Step references reply_to after foreign q n ys us reply r o zs → Stopped reply_to after foreign p m xs reply r o zs
  step_more {us} h step = record { tokens = h.stopped.tokens ++ us; read = read_on h.stopped.read h.goes_on step }

  -- if reading goes on, no text is held
  pub holds_none : {p q : ReaderPlace} {m n : M} {xs ys : List ℕ} → ReadsOn reply_to after foreign p m xs q n ys → Holds reply_to after foreign p m xs [] q.began q n ys
  holds_none {q} {ys} h = record { place = q; rest = ys; reads = h; passes = passed; began = refl }

  pub nothing_is_read : (p : ReaderPlace) (m : M) (xs : List ℕ) → ReadsOn reply_to after foreign p m xs p m xs
  nothing_is_read p m xs = record { reply = Continues; goes_on = refl; stopped = record { tokens = []; read = nothing_read } }

  -- more is passed, and what it emits is also held
  pub holds_more : {p q r : ReaderPlace} {m n : M} {xs ys zs text more : List ℕ} {line : ℕ} → Holds reply_to after foreign p m xs text line q n ys
      → Passes references q ys more r zs → Holds reply_to after foreign p m xs (text ++ more) line r n zs
  holds_more h passes = record { place = h.place; rest = h.rest; reads = h.reads; passes = passes_join references h.passes passes; began = h.began }

  -- the text is passed to the sink
  pub text_is_handed_on : {p q : ReaderPlace} {m n : M} {xs ys text : List ℕ} {x line : ℕ} → Holds reply_to after foreign p m xs (x ∷ text) line q n ys
      → Stopped reply_to after foreign p m xs (reply_to n (Characters (x ∷ text))) q (after n (Characters (x ∷ text)) line) ys
  text_is_handed_on h = rw h.began (step_more h.reads (text_step h.passes))

  -- no text is held
  pub no_text_is_handed_on : {p q : ReaderPlace} {m n : M} {xs ys : List ℕ} {line : ℕ} → Holds reply_to after foreign p m xs [] line q n ys
      → ReadsOn reply_to after foreign p m xs q n ys
  no_text_is_handed_on h = record { reply = Continues; goes_on = refl; stopped = step_more h.reads (quiet_step h.passes) }

  -- a token is passed to the sink
  pub token_is_handed_on : {p q : ReaderPlace} {m n : M} {xs ys : List ℕ} {x : ℕ} {token : TokenText} {state : State} → ReadsOn reply_to after foreign p m xs q n (x ∷ ys)
      → is_dropped q x ≡ false → outcome references q x ≡ Emitted token state
      → Stopped reply_to after foreign p m xs (reply_to n token) (after_token token (reply_to n token) (behind x state q)) (after n token q.began) ys
  token_is_handed_on {token} {state} h d e = step_more h (token_step token state d e)

  -- the adjusted current node is checked
  pub node_is_asked_for : {p q : ReaderPlace} {m n : M} {xs ys : List ℕ} {x : ℕ} {there elsewhere : State} {error : ParseError} → ReadsOn reply_to after foreign p m xs q n (x ∷ ys)
      → is_dropped q x ≡ false → outcome references q x ≡ Asks there error elsewhere
      → ReadsOn reply_to after foreign p m xs (behind x (if foreign n then there else elsewhere) q) n ys
  node_is_asked_for {there} {elsewhere} {error} h d e = record { reply = Continues; goes_on = refl; stopped = step_more h (ask_step there error elsewhere d e) }

  -- the reply, the place, and the sink's meaning afterwards, in other words
  pub in_other_words : {p q r : ReaderPlace} {m k l : M} {xs ys : List ℕ} {reply other : Reply} → reply ≡ other → q ≡ r → k ≡ l
      → Stopped reply_to after foreign p m xs reply r l ys → Stopped reply_to after foreign p m xs other q k ys
  in_other_words {p} {q} {r} {m} {k} {l} {xs} {ys} {reply} {other} e f g h =
      subst (λ n. Stopped reply_to after foreign p m xs other q n ys) (sym g)
      (subst (λ t. Stopped reply_to after foreign p m xs other t l ys) (sym f)
      (subst (λ a. Stopped reply_to after foreign p m xs a r l ys) e h))

  -- the sink refused what was passed to it
  pub was_refused : {p q : ReaderPlace} {m k l : M} {xs ys : List ℕ} {reply : Reply} (f : BuildFault) → (reply ≡ Refuses f) × (k ≡ l)
      → Stopped reply_to after foreign p m xs reply q l ys → RefusedAt reply_to after foreign p m xs f k
  was_refused {q} {ys} f h stopped = record { place = q; rest = ys; stopped = in_other_words h.0 refl h.1 stopped }

  pub empty_is_handed_on : {p q : ReaderPlace} {m n : M} {xs ys text : List ℕ} {line : ℕ} → text ≡ [] → Holds reply_to after foreign p m xs text line q n ys
      → ReadsOn reply_to after foreign p m xs q n ys
  empty_is_handed_on {p} {q} {m} {n} {xs} {ys} {line} e h = no_text_is_handed_on (subst (λ t. Holds reply_to after foreign p m xs t line q n ys) e h)

  -- the effect of the reply to a token, from a place
  pub leads : {H : Type 0} (node : H → ℕ) {p : ReaderPlace} {m n : M} {xs ys : List ℕ} {token : TokenText} {line : ℕ} (r q : ReaderPlace) (k : M) (result : Result (Option (Stop H)) BuildFault)
      → Stopped reply_to after foreign p m xs (reply_to n token) (after_token token (reply_to n token) r) (after n token line) ys
      → HandsOn reply_to after node r n token line q k result → Leads reply_to after foreign node p m xs q ys k result
  leads node {n} {token} r q k (Ok None) h e = record { reply = reply_to n token; goes_on = e.answer; stopped = in_other_words refl e.place e.meaning h }
  leads node r q k (Ok (Some s)) h e = in_other_words e.answer e.place e.meaning h
  leads node r q k (Err fault.Memory) h e = tt
  leads node r q k (Err fault.AfterEnd) h e = was_refused fault.AfterEnd e h
  leads node r q k (Err fault.NotInText) h e = was_refused fault.NotInText e h
  leads node r q k (Err fault.Failed) h e = was_refused fault.Failed e h

  -- the effect of passing the text to the sink
  pub text_leads : {H : Type 0} (node : H → ℕ) {p q : ReaderPlace} {m n : M} {xs ys : List ℕ} {line : ℕ} (text : List ℕ) (k : M) (result : Result (Option (Stop H)) BuildFault)
      → (text ≡ [] → ⊥) → Holds reply_to after foreign p m xs text line q n ys → HandsOn reply_to after node q n (Characters text) line q k result
      → Leads reply_to after foreign node p m xs q ys k result
  text_leads node [] k result some h e = absurd (some refl)
  text_leads node {q} (x ∷ text) k result some h e = leads node q q k result (text_is_handed_on h) e

-- What reports errors reads, as any tokenizer does.
use Rattle.std.proofs.Common.{◌≡◌, ◌⊎◌, inl, inr, ℕ, ◌+◌, ◌-◌, Bool, List, [], length, refl, sym, ap, ◌∙◌, subst, Result, Ok, Err}
use Rattle.std.specs.Io.Iter.{u64_saturate}
use Rattle.h5_token.specs.TokenText.{TokenText}
use Rattle.h5_token.specs.Reply.{Reply, Continues, RunsScript, Refuses}
use Rattle.h5_token.specs.declared.fault.BuildFault.{BuildFault}
use Rattle.h5_token.specs.declared.fault.BuildFault.TheVariants as fault
use Rattle.h5_tokenizer_input.specs.Stops.{result_of, stops_as}
use Rattle.h5_tokenizer_input.specs.declared.stage.Stage.{Stage}
use Rattle.h5_tokenizer_input.specs.declared.stop.Stop.{Stop}
use Rattle.h5_tokenizer_input.specs.declared.stop.Stop.TheVariants as stop
use Rattle.h5_tokenizer_spec.specs.declared.position.Spot.{Spot}
use Rattle.h5_tokenizer_spec.specs.declared.position.LocatedError.{LocatedError}
use Rattle.h5_tokenizer_spec.specs.ReferenceTable.{references}
use Rattle.h5_tokenizer_spec.specs.Reading.{ReaderPlace}
use Rattle.h5_tokenizer_spec.specs.Telling.{Reached, at_first, IsHeld, IsHanded}
use Rattle.h5_tokenizer_spec.proofs.TellingLaws.{held, none_read, reaches_read}
use Rattle.h5_standard_tokenizer.specs.Steps.{ReadsOn, RefusedAt, Runs, Stopped}
use Rattle.h5_standard_tokenizer.specs.Mark.{behind_mark}
use Rattle.h5_standard_tokenizer.specs.ReaderText.{ReaderText}
use Rattle.h5_standard_tokenizer.specs.Telling.{CameOn, CameRefused, CameTo, FeedsTelling, RunsTelling, spot_behind_mark}
use Rattle.h5_standard_tokenizer.specs.declared.steps.Halt.{Halt}
use Rattle.h5_standard_tokenizer.specs.declared.steps.Halt.TheVariants as halt

stops_not : {H : Type 0} (node : H → ℕ) (s : Stop H) → stops_as node s ≡ Continues → ⊥
stops_not node (stop.Script handle) e =
    let clash : RunsScript (node handle) ≡ Continues = e in
    cc
stops_not node (stop.EncodingIndicator encoding) e = cc

refuses_not : (f : BuildFault) → Refuses f ≡ Continues → ⊥
refuses_not f e = cc

module _ {M : Type 0} (reply_to : M → TokenText → Reply) (after : M → TokenText → ℕ → M) (foreign : M → Bool) where
  handed_reads : {p : ReaderPlace} {m : M} {xs : List ℕ} (r : Reached M) → ((r.reply ≡ Continues) × IsHeld references reply_to after foreign p m xs r) ⊎ IsHanded references reply_to after foreign p m xs r
      → (r.reply ≡ Continues → ⊥) → Stopped reply_to after foreign p m xs r.reply r.place r.meaning r.rest
  handed_reads r (inl h) not = absurd (not h.0)
  handed_reads r (inr h) not = record { tokens = h.tokens; read = h.read }

  module _ {E : Type 0} (told : E → List LocatedError → Type 0) where
    stopped_reads : (p : ReaderPlace) (s : Spot) (m : M) (xs : List ℕ) (first : E) (reply : Reply) (q : ReaderPlace) (t : Spot) (n : M) (ys : List ℕ) (now : E) → (reply ≡ Continues → ⊥)
        → CameTo reply_to after foreign told (at_first p s m xs) first reply q t n ys now → Stopped reply_to after foreign p m xs reply q n ys
    stopped_reads p s m xs first reply q t n ys now not h =
        handed_reads (record { text = []; line = q.began; reply = reply; place = q; spot = t; meaning = n; rest = ys }) (reaches_read references reply_to after foreign h.reaches) not

    on_reads : (p : ReaderPlace) (s : Spot) (m : M) (xs : List ℕ) (first : E) (q : ReaderPlace) (t : Spot) (n : M) (ys : List ℕ) (now : E)
        → CameOn reply_to after foreign told (at_first p s m xs) first [] q.began q t n ys now → ReadsOn reply_to after foreign p m xs q n ys
    on_reads p s m xs first q t n ys now h =
        let r : Reached M = record { text = []; line = q.began; reply = h.reply; place = q; spot = t; meaning = n; rest = ys } in
        let done = none_read references reply_to after foreign r (held references reply_to after foreign r (reaches_read references reply_to after foreign h.came.reaches) h.goes_on) refl in
        record { reply = Continues; goes_on = refl; stopped = record { tokens = done.0; read = done.1 } }

    refused_reads : (p : ReaderPlace) (s : Spot) (m : M) (xs : List ℕ) (first : E) (n : M) (now : E) (f : BuildFault)
        → CameRefused reply_to after foreign told (at_first p s m xs) first n now f → RefusedAt reply_to after foreign p m xs f n
    refused_reads p s m xs first n now f h = record { place = h.place; rest = h.rest; stopped = stopped_reads p s m xs first (Refuses f) h.place h.spot n h.rest now (refuses_not f) h.came }

    pub runs_telling : {H : Type 0} (node : H → ℕ) (p : ReaderPlace) (s : Spot) (m : M) (xs : List ℕ) (first : E) (q : ReaderPlace) (t : Spot) (n : M) (now : E) (result : Result (Halt H) BuildFault)
        → RunsTelling reply_to after foreign told (at_first p s m xs) first node q t n now result → Runs reply_to after foreign node p m xs q n result
    runs_telling node p s m xs first q t n now (Ok halt.Done) h = on_reads p s m xs first q t n [] now h
    runs_telling node p s m xs first q t n now (Ok (halt.Stops reason rest)) h = stopped_reads p s m xs first (stops_as node reason) q t n rest.now now (stops_not node reason) h
    runs_telling node p s m xs first q t n now (Err fault.Memory) h = tt
    runs_telling node p s m xs first q t n now (Err fault.AfterEnd) h = refused_reads p s m xs first n now fault.AfterEnd h
    runs_telling node p s m xs first q t n now (Err fault.NotInText) h = refused_reads p s m xs first n now fault.NotInText h
    runs_telling node p s m xs first q t n now (Err fault.Failed) h = refused_reads p s m xs first n now fault.Failed h

    -- what stopped reading, as a result of the tokenizer
    pub tells_stop : {H : Type 0} (node : H → ℕ) (start : Reached M) (first : E) (p : ReaderPlace) (s : Spot) (m : M) (queue rest : List ℕ) (now : E) (reason : Stop H) → queue ≡ rest
        → CameTo reply_to after foreign told start first (stops_as node reason) p s m rest now → FeedsTelling reply_to after foreign told start first node p s m queue now (Ok (result_of reason))
    tells_stop node start first p s m queue rest now (stop.Script handle) e h = subst (λ l. CameTo reply_to after foreign told start first (RunsScript (node handle)) p s m l now) (sym e) h
    tells_stop node start first p s m queue rest now (stop.EncodingIndicator encoding) e h =
        subst (λ l. CameTo reply_to after foreign told start first (stops_as node (stop.EncodingIndicator encoding)) p s m l now) (sym e) h

-- where reading began, by the tokenizer's state and the queue
pub begins_behind_mark : {M : Type 0} (old : ReaderText) (at_start : Bool) (p : ReaderPlace) (stage : Stage) (m : M) (xs buffer text piece : List ℕ) (s : Spot) (offset : ℕ)
    → record { at_start = at_start; place = p; stage = stage } ≡ old → buffer ≡ xs → text ≡ buffer → piece ≡ behind_mark at_start text → offset ≡ u64_saturate (s.offset + (length text - length piece))
    → at_first p (record s { offset = offset }) m piece ≡ at_first old.place (spot_behind_mark old.at_start xs s) m (behind_mark old.at_start xs)
begins_behind_mark old at_start p stage m xs buffer text piece s offset a b e f g =
    let whole : text ≡ xs = e ∙ b in
    let same : piece ≡ behind_mark at_start xs = f ∙ ap (behind_mark at_start) whole in
    let there : offset ≡ u64_saturate (s.offset + (length xs - length (behind_mark at_start xs))) = g ∙ (λ i. u64_saturate (s.offset + (length (whole i) - length (same i)))) in
    subst (λ (o : ReaderText). at_first p (record s { offset = offset }) m piece ≡ at_first o.place (spot_behind_mark o.at_start xs s) m (behind_mark o.at_start xs)) a
    (λ i. at_first p (record s { offset = there i }) m (same i))

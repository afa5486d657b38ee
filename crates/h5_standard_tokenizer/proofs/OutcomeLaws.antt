-- What stopped reading, as a result of the tokenizer.
use Rattle.std.proofs.Common.{◌≡◌, ◌-◌, ℕ, Bool, List, Ok, length, drop, refl, sym, ap, subst, ◌∙◌}
use Rattle.h5_token.specs.TokenText.{TokenText}
use Rattle.h5_token.specs.Reply.{Reply}
use Rattle.h5_tokenizer_input.specs.Stops.{stops_as, result_of}
use Rattle.h5_tokenizer_input.specs.declared.stage.Stage.{Stage}
use Rattle.h5_tokenizer_input.specs.declared.stage.Stage.TheVariants.{Reading}
use Rattle.h5_tokenizer_input.specs.declared.stop.Stop.{Stop}
use Rattle.h5_tokenizer_input.specs.declared.stop.Stop.TheVariants as stop
use Rattle.h5_tokenizer_spec.specs.Reading.{ReaderPlace}
use Rattle.h5_standard_tokenizer.specs.Mark.{behind_mark, still_at_start}
use Rattle.h5_standard_tokenizer.specs.ReaderText.{ReaderText}
use Rattle.h5_standard_tokenizer.specs.Steps.{Stopped}
use Rattle.h5_standard_tokenizer.specs.Outcome.{StopsAt, Feeds}
use Rattle.h5_standard_tokenizer.proofs.LeftLaws.{Leaves, leaves_more, stopped_leaves, behind_mark_leaves, left_is_kept}

module _ {M : Type 0} (reply_to : M → TokenText → Reply) (after : M → TokenText → ℕ → M) (foreign : M → Bool) where
  pub feeds_stop : {H : Type 0} (node : H → ℕ) (old : ReaderText) (m : M) (xs : List ℕ) (new : ReaderText) (n : M) (queue : List ℕ) (s : Stop H)
      → StopsAt reply_to after foreign old m xs (stops_as node s) new n queue → Feeds reply_to after foreign node old m xs new n queue (Ok (result_of s))
  feeds_stop node old m xs new n queue (stop.Script handle) h = h
  feeds_stop node old m xs new n queue (stop.EncodingIndicator encoding) h = h

  -- what is left of the queue
  pub left_of_queue : {p q : ReaderPlace} {m n : M} {reply : Reply} (at_start : Bool) (buffer text piece rest left : List ℕ) → text ≡ buffer → piece ≡ behind_mark at_start text → left ≡ rest
      → Stopped reply_to after foreign p m piece reply q n rest → Leaves buffer left
  left_of_queue at_start buffer text piece rest left e f g h =
      subst (λ l. Leaves l left) e
      (subst (λ r. Leaves text r) (sym g)
      (leaves_more (behind_mark_leaves at_start text) (subst (λ l. Leaves l rest) f (stopped_leaves reply_to after foreign h))))

  pub stops_at : (old : ReaderText) (at_start : Bool) (p : ReaderPlace) (stage : Stage) (m : M) (xs buffer text piece rest left kept : List ℕ) (reply : Reply) (now : Bool) (q : ReaderPlace) (n : M)
      → record { at_start = at_start; place = p; stage = stage } ≡ old → buffer ≡ xs → text ≡ buffer → piece ≡ behind_mark at_start text → now ≡ still_at_start at_start text
      → left ≡ rest → kept ≡ drop (length buffer - length left) buffer → Stopped reply_to after foreign p m piece reply q n rest
      → StopsAt reply_to after foreign old m xs reply (record { at_start = now; place = q; stage = Reading }) n kept
  stops_at old at_start p stage m xs buffer text piece rest left kept reply now q n a b e f s g k h =
      let whole : text ≡ xs = e ∙ b in
      let same : kept ≡ rest = k ∙ left_is_kept (left_of_queue at_start buffer text piece rest left e f g h) ∙ g in
      subst (λ (o : ReaderText). StopsAt reply_to after foreign o m xs reply (record { at_start = now; place = q; stage = Reading }) n kept) a
      (record {
        stopped = subst (λ l. Stopped reply_to after foreign p m (behind_mark at_start xs) reply q n l) (sym same)
            (subst (λ l. Stopped reply_to after foreign p m l reply q n rest) (f ∙ ap (behind_mark at_start) whole) h);
        at_start = s ∙ ap (still_at_start at_start) whole;
        stage = refl;
      })

-- The result of a run, as a result of the tokenizer.
use Rattle.std.proofs.Common.{◌≡◌, ◌++◌, ℕ, Bool, List, [], length, drop, ◌-◌, refl, sym, ◌∙◌, subst, Option, Ok, IsUtf8}
use Rattle.std.specs.Str.{IsCharBoundary}
use Rattle.h5_token.specs.TokenText.{TokenText}
use Rattle.h5_token.specs.Reply.{Reply}
use Rattle.h5_tokenizer_input.specs.Stops.{stops_as, result_of}
use Rattle.h5_tokenizer_input.specs.declared.stage.Stage.TheVariants.{Reading}
use Rattle.h5_tokenizer_input.specs.declared.stop.Stop.{Stop}
use Rattle.h5_tokenizer_input.specs.declared.stop.Stop.TheVariants as stop
use Rattle.h5_plain_tokenizer.specs.Front.{ReaderPlace}
use Rattle.h5_plain_tokenizer.specs.ReaderText.{ReaderText}
use Rattle.h5_plain_tokenizer.specs.Steps.{WaitsAt, HaltsAt, Pending}
use Rattle.h5_plain_tokenizer.specs.Outcome.{ReadsAll, StopsAt, Feeds}
use Rattle.h5_plain_tokenizer.specs.declared.front.Mode.{Mode}
use Rattle.h5_plain_tokenizer.specs.declared.state.Search.{Search}
use Rattle.h5_plain_tokenizer.proofs.MarkLaws.{kept, kept_boundary, pending_more}

-- the search that was stored, for what is held and waits now
pub pending_on : (old search : Option Search) (mode : Mode) (last held whole input : List ℕ) → search ≡ old → whole ≡ held ++ input → Pending old mode last held → Pending search mode last whole
pending_on old search mode last held whole input e f h =
    subst (λ (s : Option Search). Pending s mode last whole) (sym e)
    (subst (λ (l : List ℕ). Pending old mode last l) (sym f) (pending_more old mode last held input h))

module _ {M : Type 0} (reply_to : M → TokenText → Reply) (after : M → TokenText → ℕ → M) (foreign : M → Bool) where
  pub waits_boundary : (p : ReaderPlace) (m : M) (text whole : List ℕ) (q : ReaderPlace) (n : M) (ys rest : List ℕ) (search : Option Search) → WaitsAt reply_to after foreign p m text q n ys search → IsUtf8 rest → rest ≡ ys → text ≡ whole → IsCharBoundary whole (length whole - length rest)
  waits_boundary p m text whole q n ys rest search h utf8 e f =
      subst (λ (l : List ℕ). IsCharBoundary l (length l - length rest)) f
      (subst (λ (r : List ℕ). IsCharBoundary text (length text - length r)) (sym e) (kept_boundary reply_to after foreign p m text h.reply q n ys (subst IsUtf8 e utf8) h.reads))

  pub halts_boundary : (p : ReaderPlace) (m : M) (text whole : List ℕ) (reply : Reply) (q : ReaderPlace) (n : M) (ys rest : List ℕ) → HaltsAt reply_to after foreign p m text reply q n ys → IsUtf8 rest → rest ≡ ys → text ≡ whole → IsCharBoundary whole (length whole - length rest)
  halts_boundary p m text whole reply q n ys rest h utf8 e f =
      subst (λ (l : List ℕ). IsCharBoundary l (length l - length rest)) f
      (subst (λ (r : List ℕ). IsCharBoundary text (length text - length r)) (sym e) (kept_boundary reply_to after foreign p m text reply q n ys (subst IsUtf8 e utf8) h.reads))

  pub waits_keeps : (p : ReaderPlace) (m : M) (text whole : List ℕ) (q : ReaderPlace) (n : M) (ys rest held : List ℕ) (search : Option Search) → WaitsAt reply_to after foreign p m text q n ys search → rest ≡ ys → text ≡ whole → held ≡ drop (length whole - length rest) whole → held ≡ ys
  waits_keeps p m text whole q n ys rest held search h e f k =
      k ∙ (λ i. drop (length (sym f i) - length (e i)) (sym f i)) ∙ kept reply_to after foreign p m text h.reply q n ys h.reads

  pub halts_keeps : (p : ReaderPlace) (m : M) (text whole : List ℕ) (reply : Reply) (q : ReaderPlace) (n : M) (ys rest held : List ℕ) → HaltsAt reply_to after foreign p m text reply q n ys → rest ≡ ys → text ≡ whole → held ≡ drop (length whole - length rest) whole → held ≡ ys
  halts_keeps p m text whole reply q n ys rest held h e f k =
      k ∙ (λ i. drop (length (sym f i) - length (e i)) (sym f i)) ∙ kept reply_to after foreign p m text reply q n ys h.reads

  pub reads_all : (old : ReaderPlace) (m : M) (whole : List ℕ) (p : ReaderPlace) (text : List ℕ) (q : ReaderPlace) (n : M) (ys held queue : List ℕ) (search : Option Search) → p ≡ old → text ≡ whole → held ≡ ys → queue ≡ [] → WaitsAt reply_to after foreign p m text q n ys search → ReadsAll reply_to after foreign old m whole (record { place = q; held = held; stage = Reading }) n queue
  reads_all old m whole p text q n ys held queue search e f g k h =
      subst (λ (o : ReaderPlace). ReadsAll reply_to after foreign o m whole (record { place = q; held = held; stage = Reading }) n queue) e
      (subst (λ (l : List ℕ). ReadsAll reply_to after foreign p m l (record { place = q; held = held; stage = Reading }) n queue) f
      (subst (λ (l : List ℕ). ReadsAll reply_to after foreign p m text (record { place = q; held = l; stage = Reading }) n queue) (sym g)
      (record { reply = h.reply; goes_on = h.goes_on; reads = h.reads; empty = k; undecided = h.undecided; stage = refl })))

  stops_by : (p : ReaderPlace) (m : M) (text : List ℕ) (reply : Reply) (q : ReaderPlace) (n : M) (ys held : List ℕ) → held ≡ [] → HaltsAt reply_to after foreign p m text reply q n ys → StopsAt reply_to after foreign p m text reply (record { place = q; held = held; stage = Reading }) n ys
  stops_by p m text reply q n ys held k h = record { reads = h.reads; nothing_held = k; shorter = h.shorter; stage = refl }

  pub stops_at : (old : ReaderPlace) (m : M) (whole : List ℕ) (p : ReaderPlace) (text : List ℕ) (reply : Reply) (q : ReaderPlace) (n : M) (ys held queue : List ℕ) → p ≡ old → text ≡ whole → queue ≡ ys → held ≡ [] → HaltsAt reply_to after foreign p m text reply q n ys → StopsAt reply_to after foreign old m whole reply (record { place = q; held = held; stage = Reading }) n queue
  stops_at old m whole p text reply q n ys held queue e f g k h =
      subst (λ (o : ReaderPlace). StopsAt reply_to after foreign o m whole reply (record { place = q; held = held; stage = Reading }) n queue) e
      (subst (λ (l : List ℕ). StopsAt reply_to after foreign p m l reply (record { place = q; held = held; stage = Reading }) n queue) f
      (subst (λ (l : List ℕ). StopsAt reply_to after foreign p m text reply (record { place = q; held = held; stage = Reading }) n l) (sym g)
      (stops_by p m text reply q n ys held k h)))

  pub feeds_stop : {H : Type 0} (node : H → ℕ) (p : ReaderPlace) (m : M) (xs : List ℕ) (new : ReaderText) (n : M) (queue : List ℕ) (s : Stop H) → StopsAt reply_to after foreign p m xs (stops_as node s) new n queue → Feeds reply_to after foreign node p m xs new n queue (Ok (result_of s))
  feeds_stop node p m xs new n queue (stop.Script handle) h = h
  feeds_stop node p m xs new n queue (stop.EncodingIndicator encoding) h = h

-- Readings one after another, and to the end, for any tokenizer.
use Rattle.std.proofs.Common.{◌≡◌, ◌++◌, ℕ, List, [], Result, Ok, Err, IfOk, ap, sym, subst, ◌∙◌}
use Rattle.h5_token.specs.TokenText.{TokenText}
use Rattle.h5_token.specs.declared.fault.BuildFault.{BuildFault}
use Rattle.h5_interface.specs.Seen.{Seen}
use Rattle.h5_interface.specs.SinkChoices.{SinkChoices}
use Rattle.h5_builder_spec.specs.Run.{View, after_all}
use Rattle.h5_tokenizer_input.specs.declared.options.TokenizerOpts.{TokenizerOpts}
use Rattle.h5_driver.specs.Reading.{Advances, IsReadToEnd, Parses}
use Rattle.h5_driver.specs.inner.Readings.{AreReadings}
use Rattle.h5_driver.specs.inner.Working.{IsReady}
use Rattle.h5_driver.specs.BuilderSink.{ended}

module _ {T : Type 0} {choices : SinkChoices} {first : TokenizerOpts → T} {Readings : T → View → List ℕ → List TokenText → T → View → List ℕ → Type 0} {Reads : T → View → List ℕ → List TokenText → View → Type 0}
    (law : AreReadings choices first Readings Reads) where
  pub nothing_read : (r : T) (v : View) (xs : List ℕ) → Advances Readings r v xs r v xs
  nothing_read r v xs = record { tokens = []; readings = law.nothing r v xs }

  -- what was read, and then more
  pub read_further : {r s t : T} {v w x : View} {xs ys zs : List ℕ} → Advances Readings r v xs s w ys → Advances Readings s w ys t x zs → Advances Readings r v xs t x zs
  read_further {r = r} {s = s} {t = t} {v = v} {w = w} {x = x} {xs = xs} {ys = ys} {zs = zs} a b =
      record { tokens = a.tokens ++ b.tokens; readings = law.chained r s t v w x xs ys zs a.tokens b.tokens a.readings b.readings }

  -- a text after what was read
  pub followed_by : {r s : T} {v w : View} {xs ys : List ℕ} (text : List ℕ) → Advances Readings r v xs s w ys → Advances Readings r v (xs ++ text) s w (ys ++ text)
  followed_by {r = r} {s = s} {v = v} {w = w} {xs = xs} {ys = ys} text a = record { tokens = a.tokens; readings = law.followed r s v w xs ys a.tokens text a.readings }

  pub piece_joins : {r s t : T} {v w x : View} {xs ys zs : List ℕ} (text : List ℕ) → Advances Readings r v xs s w ys → Advances Readings s w (ys ++ text) t x zs → Advances Readings r v (xs ++ text) t x zs
  piece_joins text a b = read_further (followed_by text a) b

  -- a chunk after what was read and what waits
  pub piece_taken : {r s t : T} {v w x : View} {xs waiting queue : List ℕ} (text : List ℕ) → Advances Readings r v xs s w waiting → Advances Readings s w (waiting ++ text) t x [] → queue ≡ [] → Advances Readings r v (xs ++ text) t x queue
  piece_taken {r = r} {t = t} {v = v} {x = x} {xs = xs} text a b e = subst (λ zs. Advances Readings r v (xs ++ text) t x zs) (sym e) (piece_joins text a b)

  -- a text that is read to its end, and what the sink shows then
  parses_of : {r : T} {v o : View} {xs : List ℕ} {told : Seen} (ts : List TokenText) → IsReady v → Reads r v xs ts o → told.forest ≡ o.world.forest → told.quirks ≡ o.world.seen_quirks → Parses Reads choices r v xs told
  parses_of {r = r} {v = v} {o = o} {xs = xs} ts ready reads e f = record {
    tokens = ts;
    reads = subst (Reads r v xs ts) (law.runs r v o xs ts reads) reads;
    any = λ us n h.
        let same : o ≡ n = law.agree r v o n xs ts us ready reads h in
        (law.runs r v n xs us h, (e ∙ ap (λ (w : View). w.world.forest) same, f ∙ ap (λ (w : View). w.world.seen_quirks) same));
  }

  pub parsed : {r s : T} {v w o : View} {xs ys : List ℕ} {told : Seen} → IsReady v → Advances Readings r v xs s w ys → IsReadToEnd Reads s w ys o → told.forest ≡ o.world.forest → told.quirks ≡ o.world.seen_quirks → Parses Reads choices r v xs told
  parsed {r = r} {s = s} {v = v} {w = w} {o = o} {xs = xs} {ys = ys} ready a h e f =
      parses_of (a.tokens ++ h.tokens) ready (law.to_end r s v w o xs ys a.tokens h.tokens a.readings h.reads) e f

  -- what was read before, and then the remaining input
  pub parses_behind : {r s : T} {v w : View} {xs ys : List ℕ} {told : Seen} → IsReady v → Advances Readings r v xs s w ys → Parses Reads choices s w ys told → Parses Reads choices r v xs told
  parses_behind {w = w} ready a h =
      let own = h.any h.tokens (ended choices (after_all choices h.tokens w)) h.reads in
      parsed ready a (record { tokens = h.tokens; reads = h.reads }) own.1.0 own.1.1

  pub told_behind : {O : Type 0} (told : O → Seen) {r s : T} {v w : View} {xs ys : List ℕ} → IsReady v → Advances Readings r v xs s w ys
      → (result : Result O BuildFault) → IfOk result (λ o. Parses Reads choices s w ys (told o)) → IfOk result (λ o. Parses Reads choices r v xs (told o))
  told_behind told ready a (Ok o) h = parses_behind ready a h
  told_behind told ready a (Err f) h = h

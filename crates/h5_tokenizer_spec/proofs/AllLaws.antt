-- Any input can be read: a property of the empty input that holds before a step if it holds after it holds for any input.
use Rattle.std.proofs.Common.{◌≡◌, ℕ, zero, suc, ◌<◌, Bool, true, false, true≢false, List, [], ◌∷◌, ◌++◌, refl, sym, ◌∙◌, arith, append-nil, append_assoc, if◌then◌else◌}
use Rattle.h5_token.specs.TokenText.{TokenText, Characters, EndOfFile}
use Rattle.h5_token.specs.Reply.{Reply, Continues}
use Rattle.h5_tokenizer_input.specs.Answers.{goes_on, refuses}
use Rattle.h5_tokenizer_input.specs.Told.{after_all}
use Rattle.h5_tokenizer_spec.specs.Lines.{normal}
use Rattle.h5_tokenizer_spec.specs.States.{State}
use Rattle.h5_tokenizer_spec.specs.Turn.{Outcome, Consumed, Reconsumed, Emitted, Asks}
use Rattle.h5_tokenizer_spec.specs.References.{Reference}
use Rattle.h5_tokenizer_spec.specs.Rank.{rank}
use Rattle.h5_tokenizer_spec.specs.Reading.{ReaderPlace, outcome, is_dropped, behind, behind_newline, in_state, after_token, passed, drops, goes, again, Step, quiet_step, text_step, token_step, ask_step, Read, nothing_read, read_on}
use Rattle.h5_tokenizer_spec.specs.End.{last_tokens}
use Rattle.h5_tokenizer_spec.specs.Whole.{ReadsAll, Readings, no_reading, more_reading, IsReadToEnd}
use Rattle.h5_tokenizer_spec.proofs.RankLaws.{rank_falls, rank_small}
use Rattle.h5_tokenizer_spec.proofs.ReadLaws.{read_joins}

-- by bytes, and for each byte by its rank
module _ (table : List Reference) {M : Type 0} (reply_to : M → TokenText → Reply) (after : M → TokenText → ℕ → M) (foreign : M → Bool)
    (Holds : ReaderPlace → M → List ℕ → Type 0) (at_nothing : (p : ReaderPlace) (m : M) → Holds p m [])
    (step_first : (p : ReaderPlace) (m : M) (xs : List ℕ) (ts : List TokenText) (reply : Reply) (q : ReaderPlace) (n : M) (ys : List ℕ) → Step table reply_to after foreign p m xs ts reply q n ys → Holds q n ys → Holds p m xs) where
  goes_first : (p : ReaderPlace) (m : M) (x : ℕ) (xs text : List ℕ) (state : State) → is_dropped p x ≡ false → outcome table p x ≡ Consumed text state
      → ((n : M) → Holds (behind x state p) n xs) → Holds p m (x ∷ xs)
  goes_first p m x xs [] state d e rest = step_first _ _ _ _ _ _ _ _ (quiet_step (goes [] state d e passed)) (rest m)
  goes_first p m x xs (y ∷ text) state d e rest = step_first _ _ _ _ _ _ _ _ (text_step (goes (y ∷ text) state d e passed)) (rest (after m (Characters ((y ∷ text) ++ [])) p.began))

  again_first : (p : ReaderPlace) (m : M) (x : ℕ) (xs text : List ℕ) (state : State) → is_dropped p x ≡ false → outcome table p x ≡ Reconsumed text state
      → ((n : M) → Holds (in_state state p) n (x ∷ xs)) → Holds p m (x ∷ xs)
  again_first p m x xs [] state d e rest = step_first _ _ _ _ _ _ _ _ (quiet_step (again [] state d e passed)) (rest m)
  again_first p m x xs (y ∷ text) state d e rest = step_first _ _ _ _ _ _ _ _ (text_step (again (y ∷ text) state d e passed)) (rest (after m (Characters ((y ∷ text) ++ [])) p.began))

  -- at a byte, if it holds after it, and before it in the state in which it is reconsumed
  by_outcome : (p : ReaderPlace) (m : M) (x : ℕ) (xs : List ℕ) (d : Outcome) → is_dropped p x ≡ false → outcome table p x ≡ d
      → ((q : ReaderPlace) (n : M) → Holds q n xs)
      → ((text : List ℕ) (state : State) (n : M) → outcome table p x ≡ Reconsumed text state → Holds (in_state state p) n (x ∷ xs))
      → Holds p m (x ∷ xs)
  by_outcome p m x xs (Consumed text state) e f rest same = goes_first p m x xs text state e f (λ n. rest (behind x state p) n)
  by_outcome p m x xs (Reconsumed text state) e f rest same = again_first p m x xs text state e f (λ n. same text state n f)
  by_outcome p m x xs (Emitted token state) e f rest same =
      step_first _ _ _ _ _ _ _ _ (token_step token state e f) (rest (after_token token (reply_to m token) (behind x state p)) (after m token p.began))
  by_outcome p m x xs (Asks there error elsewhere) e f rest same =
      step_first _ _ _ _ _ _ _ _ (ask_step there error elsewhere e f) (rest (behind x (if foreign m then there else elsewhere) p) m)

  by_drop : (p : ReaderPlace) (m : M) (x : ℕ) (xs : List ℕ) (b : Bool) → is_dropped p x ≡ b
      → ((q : ReaderPlace) (n : M) → Holds q n xs)
      → ((text : List ℕ) (state : State) (n : M) → outcome table p x ≡ Reconsumed text state → Holds (in_state state p) n (x ∷ xs))
      → Holds p m (x ∷ xs)
  by_drop p m x xs true e rest same = step_first _ _ _ _ _ _ _ _ (quiet_step (drops e passed)) (rest (behind_newline p) m)
  by_drop p m x xs false e rest same = by_outcome p m x xs (outcome table p x) e refl rest same

  -- a byte that is reconsumed fewer times than this
  first_byte : (k : ℕ) (p : ReaderPlace) (m : M) (x : ℕ) (xs : List ℕ) → rank p.state (normal x) < k → ((q : ReaderPlace) (n : M) → Holds q n xs) → Holds p m (x ∷ xs)
  first_byte zero p m x xs low rest = absurd (omega (arith, low))
  first_byte (suc k) p m x xs low rest =
      by_drop p m x xs (is_dropped p x) refl rest
      (λ text state n f. first_byte k (in_state state p) n x xs (omega (arith, low, rank_falls table p.last p.state (normal x) text state f)) rest)

  everywhere : (p : ReaderPlace) (m : M) (xs : List ℕ) → Holds p m xs
  everywhere p m [] = at_nothing p m
  everywhere p m (x ∷ xs) = first_byte 3 p m x xs (omega (arith, rank_small p.state (normal x))) (λ q n. everywhere q n xs)

module _ (table : List Reference) {M : Type 0} (reply_to : M → TokenText → Reply) (after : M → TokenText → ℕ → M) (foreign : M → Bool) where
  one_step : {p : ReaderPlace} {m : M} {xs : List ℕ} {ts : List TokenText} {reply : Reply} {q : ReaderPlace} {n : M} {ys : List ℕ} (b : Bool) → goes_on reply ≡ b
      → Step table reply_to after foreign p m xs ts reply q n ys → ReadsAll table reply_to after foreign q n ys → ReadsAll table reply_to after foreign p m xs
  one_step {ts} true on step rest =
      let both = read_joins table reply_to after foreign (read_on nothing_read refl step) on rest.read in
      record {
        tokens = ts ++ rest.tokens;
        reply = both.0;
        place = rest.place;
        meaning = rest.meaning;
        rest = rest.rest;
        read = both.1.1;
        all = λ h. rest.all (sym both.1.0 ∙ h);
      }
  one_step {ts} {reply} {q} {n} {ys} false on step rest = record {
    tokens = ts;
    reply = reply;
    place = q;
    meaning = n;
    rest = ys;
    read = read_on nothing_read refl step;
    all = λ h. absurd (true≢false (sym h ∙ on));
  }

  reads_nothing : (p : ReaderPlace) (m : M) → ReadsAll table reply_to after foreign p m []
  reads_nothing p m = record {
    tokens = [];
    reply = Continues;
    place = p;
    meaning = m;
    rest = [];
    read = nothing_read;
    all = λ h. refl;
  }

  pub reads_all : (p : ReaderPlace) (m : M) (xs : List ℕ) → ReadsAll table reply_to after foreign p m xs
  reads_all = everywhere table reply_to after foreign (ReadsAll table reply_to after foreign) reads_nothing (λ p m xs ts reply q n ys step rest. one_step (goes_on reply) refl step rest)

  readings_after : {p : ReaderPlace} {m : M} {xs : List ℕ} {ts : List TokenText} {reply : Reply} {q : ReaderPlace} {n : M} {ys : List ℕ} {us : List TokenText} {r : ReaderPlace} {o : M} {zs : List ℕ}
      → Read table reply_to after foreign p m xs ts reply q n ys → refuses reply ≡ false → Readings table reply_to after foreign q n ys us r o zs
      → Readings table reply_to after foreign p m xs (ts ++ us) r o zs
  readings_after read taken no_reading = rw append-nil (more_reading no_reading read taken)
  readings_after {ts} read taken (more_reading {ts = us} {us = vs} readings last on) = rw (← append_assoc) (more_reading (readings_after read taken readings) last on)

module _ (table : List Reference) {M : Type 0} (reply_to : M → TokenText → Reply) (after : M → TokenText → ℕ → M) (foreign : M → Bool) (ended : M → M)
    (taken : (m : M) (t : TokenText) → refuses (reply_to m t) ≡ false) where
  step_taken : {p : ReaderPlace} {m : M} {xs : List ℕ} {ts : List TokenText} {reply : Reply} {q : ReaderPlace} {n : M} {ys : List ℕ}
      → Step table reply_to after foreign p m xs ts reply q n ys → refuses reply ≡ false
  step_taken (quiet_step h) = refl
  step_taken {m = m} (text_step {x = x} {text = text} h) = taken m (Characters (x ∷ text))
  step_taken {m = m} (token_step token state d e) = taken m token
  step_taken (ask_step there error elsewhere d e) = refl

  step_to_end : (p : ReaderPlace) (m : M) (xs : List ℕ) (ts : List TokenText) (reply : Reply) (q : ReaderPlace) (n : M) (ys : List ℕ) → Step table reply_to after foreign p m xs ts reply q n ys
      → IsReadToEnd table reply_to after foreign ended q n ys → IsReadToEnd table reply_to after foreign ended p m xs
  step_to_end p m xs ts reply q n ys step rest = record {
    tokens = (ts ++ rest.reads.handed) ++ (last_tokens table rest.reads.place ++ EndOfFile ∷ []);
    meaning = rest.meaning;
    reads = record {
      handed = ts ++ rest.reads.handed;
      place = rest.reads.place;
      meaning = rest.reads.meaning;
      readings = readings_after table reply_to after foreign (read_on nothing_read refl step) (step_taken step) rest.reads.readings;
      tokens = refl;
      closed = rest.reads.closed;
    };
  }

  nothing_to_end : (p : ReaderPlace) (m : M) → IsReadToEnd table reply_to after foreign ended p m []
  nothing_to_end p m = record {
    tokens = last_tokens table p ++ EndOfFile ∷ [];
    meaning = ended (after (after_all after m (last_tokens table p) p.began) EndOfFile p.line);
    reads = record {
      handed = [];
      place = p;
      meaning = m;
      readings = no_reading;
      tokens = refl;
      closed = refl;
    };
  }

  pub read_to_end : (p : ReaderPlace) (m : M) (xs : List ℕ) → IsReadToEnd table reply_to after foreign ended p m xs
  read_to_end = everywhere table reply_to after foreign (IsReadToEnd table reply_to after foreign ended) nothing_to_end step_to_end

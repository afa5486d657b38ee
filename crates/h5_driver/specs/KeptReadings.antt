-- Readings over meanings with a property that every token keeps.
use Rattle.std.proofs.Common.{◌≡◌, ℕ, Bool, List, [], ◌∷◌, ◌++◌, refl, ap, sym, ◌∙◌}
use Rattle.h5_token.specs.TokenText.{Characters, EndOfFile, TokenText}
use Rattle.h5_token.specs.Reply.{Reply}
use Rattle.h5_tokenizer_input.specs.Blindness.{IsBlindToCuts}
use Rattle.h5_tokenizer_input.specs.Told.{after_all}
use Rattle.h5_tokenizer_spec.specs.References.{Reference}
use Rattle.h5_tokenizer_spec.specs.Reading.{ReaderPlace, Step, quiet_step, text_step, token_step, ask_step, Read, nothing_read, read_on}
use Rattle.h5_tokenizer_spec.specs.End.{last_tokens}
use Rattle.h5_tokenizer_spec.specs.Whole.{Readings, ReadsToEnd, more_reading, no_reading}
use Rattle.h5_tokenizer_spec.proofs.CutLaws.{cuts_agree}

-- a meaning with the property
pub record Kept (M : Type 0) (Holds : M → Type 0) : Type 0 where
  pub meaning : M
  pub holds : Holds meaning

module _ (table : List Reference) {M : Type 0} (reply_to : M → TokenText → Reply) (after : M → TokenText → ℕ → M) (foreign : M → Bool) (Holds : M → Type 0) (keeps : (m : M) (t : TokenText) (line : ℕ) → Holds m → Holds (after m t line)) where
  abbrev pub kept : (m : M) → Holds m → Kept M Holds
  kept m h = record { meaning = m; holds = h }

  abbrev pub kept_reply : Kept M Holds → TokenText → Reply
  kept_reply k t = reply_to k.meaning t

  abbrev pub kept_after : Kept M Holds → TokenText → ℕ → Kept M Holds
  kept_after k t line = record { meaning = after k.meaning t line; holds = keeps k.meaning t line k.holds }

  abbrev pub kept_foreign : Kept M Holds → Bool
  kept_foreign k = foreign k.meaning

  pub record KeptStep (p : ReaderPlace) (m : M) (xs : List ℕ) (ts : List TokenText) (reply : Reply) (q : ReaderPlace) (n : M) (ys : List ℕ) (h : Holds m) : Type 0 where
    pub holds : Holds n
    pub step : Step table kept_reply kept_after kept_foreign p (kept m h) xs ts reply q (kept n holds) ys

  pub record KeptRead (p : ReaderPlace) (m : M) (xs : List ℕ) (ts : List TokenText) (reply : Reply) (q : ReaderPlace) (n : M) (ys : List ℕ) (h : Holds m) : Type 0 where
    pub holds : Holds n
    pub read : Read table kept_reply kept_after kept_foreign p (kept m h) xs ts reply q (kept n holds) ys

  pub record KeptReadings (p : ReaderPlace) (m : M) (xs : List ℕ) (ts : List TokenText) (q : ReaderPlace) (n : M) (ys : List ℕ) (h : Holds m) : Type 0 where
    pub holds : Holds n
    pub readings : Readings table kept_reply kept_after kept_foreign p (kept m h) xs ts q (kept n holds) ys

  step_kept : {p : ReaderPlace} {m : M} {xs : List ℕ} {ts : List TokenText} {reply : Reply} {q : ReaderPlace} {n : M} {ys : List ℕ} → Step table reply_to after foreign p m xs ts reply q n ys → (h : Holds m) → KeptStep p m xs ts reply q n ys h
  step_kept (quiet_step passes) h = record { holds = h; step = quiet_step passes }
  step_kept {p = p} {m = m} (text_step passes) h = record { holds = keeps m _ p.began h; step = text_step passes }
  step_kept {p = p} {m = m} (token_step token state d e) h = record { holds = keeps m token p.began h; step = token_step token state d e }
  step_kept (ask_step there error elsewhere d e) h = record { holds = h; step = ask_step there error elsewhere d e }

  read_kept : {p : ReaderPlace} {m : M} {xs : List ℕ} {ts : List TokenText} {reply : Reply} {q : ReaderPlace} {n : M} {ys : List ℕ} → Read table reply_to after foreign p m xs ts reply q n ys → (h : Holds m) → KeptRead p m xs ts reply q n ys h
  read_kept nothing_read h = record { holds = h; read = nothing_read }
  read_kept (read_on r g s) h = let k = read_kept r h in let l = step_kept s k.holds in record { holds = l.holds; read = read_on k.read g l.step }

  pub readings_kept : {p : ReaderPlace} {m : M} {xs : List ℕ} {ts : List TokenText} {q : ReaderPlace} {n : M} {ys : List ℕ} → Readings table reply_to after foreign p m xs ts q n ys → (h : Holds m) → KeptReadings p m xs ts q n ys h
  readings_kept no_reading h = record { holds = h; readings = no_reading }
  readings_kept (more_reading a r f) h = let k = readings_kept a h in let l = read_kept r k.holds in record { holds = l.holds; readings = more_reading k.readings l.read f }

  -- tokens, one after another
  all_holds : (m : M) (ts : List TokenText) (line : ℕ) → Holds m → Holds (after_all after m ts line)
  all_holds m [] line h = h
  all_holds m (t ∷ ts) line h = all_holds (after m t line) ts line (keeps m t line h)

  all_kept : (m : M) (ts : List TokenText) (line : ℕ) (h : Holds m) → kept (after_all after m ts line) (all_holds m ts line h) ≡ after_all kept_after (kept m h) ts line
  unfolding all_holds
  all_kept m [] line h = refl
  all_kept m (t ∷ ts) line h = all_kept (after m t line) ts line (keeps m t line h)

  -- and to the end, except for what the end itself does
  pub record KeptEnd (p : ReaderPlace) (m : M) (xs : List ℕ) (ts : List TokenText) (n : M) (h : Holds m) : Type 0 where
    pub holds : Holds n
    pub reads : ReadsToEnd table kept_reply kept_after kept_foreign (λ k. k) p (kept m h) xs ts (kept n holds)

  -- the meaning right before the end
  abbrev before_end : {ended : M → M} {p : ReaderPlace} {m : M} {xs : List ℕ} {ts : List TokenText} {n : M} → ReadsToEnd table reply_to after foreign ended p m xs ts n → M
  before_end r = after (after_all after r.meaning (last_tokens table r.place) r.place.began) EndOfFile r.place.line

  reads_kept : {ended : M → M} {p : ReaderPlace} {m : M} {xs : List ℕ} {ts : List TokenText} {n : M} (r : ReadsToEnd table reply_to after foreign ended p m xs ts n) (h : Holds m) → KeptEnd p m xs ts (before_end r) h
  reads_kept r h =
      let k = readings_kept r.readings h in
      let last = last_tokens table r.place in
      record {
        holds = keeps (after_all after r.meaning last r.place.began) EndOfFile r.place.line (all_holds r.meaning last r.place.began k.holds);
        reads = record {
          handed = r.handed;
          place = r.place;
          meaning = kept r.meaning k.holds;
          readings = k.readings;
          tokens = r.tokens;
          closed = ap (λ j. kept_after j EndOfFile r.place.line) (all_kept r.meaning last r.place.began k.holds);
        };
      }

  -- If lines don't matter, nor, for a meaning with the property, how a text is split, then a text has one meaning however it is
  -- read.
  module _ (ended : M → M) (lines : (m : M) (t : TokenText) (k l : ℕ) → after m t k ≡ after m t l)
      (cut : (m : M) (x y : ℕ) (xs ys : List ℕ) (j k l : ℕ) → Holds m → after m (Characters ((x ∷ xs) ++ y ∷ ys)) j ≡ after (after m (Characters (x ∷ xs)) k) (Characters (y ∷ ys)) l) where
    abbrev pub same_meaning : Kept M Holds → Kept M Holds → Type 0
    same_meaning j k = j.meaning ≡ k.meaning

    pub blind : IsBlindToCuts kept_reply kept_after kept_foreign (λ k. k) same_meaning
    blind = record {
      reflexive = λ m. refl;
      symmetric = λ m n e. sym e;
      transitive = λ m n o e f. e ∙ f;
      replies = λ m n t e. ap (λ x. reply_to x t) e;
      spaces = λ m n e. ap foreign e;
      kept = λ m n t k l e. ap (λ x. after x t k) e ∙ lines n.meaning t k l;
      ends = λ m n e. e;
      cut = λ m x y xs ys j k l. cut m.meaning x y xs ys j k l m.holds;
    }

    pub readings_agree : {p : ReaderPlace} {m : M} {xs : List ℕ} {ts us : List TokenText} {n o : M} → Holds m
        → ReadsToEnd table reply_to after foreign ended p m xs ts n → ReadsToEnd table reply_to after foreign ended p m xs us o → n ≡ o
    readings_agree {p = p} {m = m} {xs = xs} {ts = ts} {us = us} h a b =
        let j = reads_kept a h in
        let k = reads_kept b h in
        let same : before_end a ≡ before_end b =
        (cuts_agree kept_reply kept_after kept_foreign (λ x. x) same_meaning blind table p (kept m h) (kept m h) xs ts us (kept (before_end a) j.holds) (kept (before_end b) k.holds) refl j.reads k.reads).1 in
        a.closed ∙ ap ended same ∙ sym b.closed

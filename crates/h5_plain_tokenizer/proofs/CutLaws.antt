-- Readings do what deeds bit by bit do, except how texts are split.
use Rattle.std.proofs.Common.{◌≡◌, ℕ, ◌<◌, Bool, true, false, List, [], ◌∷◌, ◌++◌, length, refl, sym, ap, ◌∙◌, subst, arith, append-nil}
use Rattle.h5_token.specs.TokenText.{TokenText, Characters, EndOfFile}
use Rattle.h5_token.specs.Reply.{Reply}
use Rattle.h5_markup.specs.Matching.{Match, Open, No, Found, and_then, or_else, literal}
use Rattle.std.specs.Prelude.{codes, Option, Some, None}
use Rattle.h5_markup.specs.Text.{reference, newline}
use Rattle.h5_tokenizer_input.specs.Blindness.{IsBlindToCuts}
use Rattle.h5_tokenizer_input.specs.Lines.{line_behind}
use Rattle.h5_tokenizer_input.specs.Told.{after_text, told}
use Rattle.h5_tokenizer_input.proofs.JoinLaws.{joins_append}
use Rattle.h5_tokenizer_input.proofs.BlindLaws.{text_cut}
use Rattle.h5_plain_tokenizer.specs.declared.front.Mode.{Mode}
use Rattle.h5_plain_tokenizer.specs.declared.front.Mode.TheVariants.{Data, RawData, Plaintext, Cdata}
use Rattle.h5_plain_tokenizer.specs.Front.{Opening, Turns, says, stands_for, comment, doctype, end_tag, start_tag, null, Piece, Bit, Whole, Switch, finished, other, front, ReaderPlace}
use Rattle.h5_token.specs.Joins.{glue, join}
use Rattle.h5_plain_tokenizer.specs.Read.{Bits, no_bit, more_bits, Step, marked, unmarked, token_step, switch_step, text_step, Read, nothing_read, read_on, behind, started, in_mode, next_place}
use Rattle.h5_plain_tokenizer.specs.Whole.{Readings, no_reading, more_reading, ReadsToEnd, closing, after_closing}
use Rattle.h5_plain_tokenizer.specs.End.{settle}
use Rattle.h5_plain_tokenizer.proofs.ProperLaws.{IsFull, bit_full, bits_full}
use Rattle.h5_plain_tokenizer.proofs.DeedLaws.{Deed, Begun, Done, behind_mark, done, deed, deed_begins, deed_goes_on, deed_waits, tokens_of, place_behind, meaning_behind, unlined, next_unlined, Runs, stays, does, runs_join, same_runs}

-- what is text where a CDATA section may begin is also text where none may
bit_by : (c d : Match Opening) (m : Match (Unit {0})) (r : Match Opening) (o : Match Piece) (bit rest : List ℕ)
    → or_else (and_then (or_else c (or_else d (or_else (says (Turns Cdata) m) r))) finished) o ≡ Found (Bit bit) rest
    → or_else (and_then (or_else c (or_else d (or_else No r))) finished) o ≡ Found (Bit bit) rest
bit_by Open d m r o bit rest h = h
bit_by (Found a l) d m r o bit rest h = h
bit_by No Open m r o bit rest h = h
bit_by No (Found a l) m r o bit rest h = h
bit_by No No Open r o bit rest h = cc
bit_by No No No r o bit rest h = h
bit_by No No (Found a l) r o bit rest h = cc

bit_anyway : (mode : Mode) (last : List ℕ) (foreign : Bool) (xs bit rest : List ℕ) → front mode last true xs ≡ Found (Bit bit) rest → front mode last foreign xs ≡ Found (Bit bit) rest
bit_anyway mode last true xs bit rest h = h
bit_anyway Data last false xs bit rest h =
    bit_by (comment xs) (doctype xs) (literal (codes "<![CDATA[") xs)
    (or_else (end_tag xs) (or_else (start_tag xs) (or_else (stands_for (reference xs)) (or_else (stands_for (newline xs)) (null xs)))))
    (other xs) bit rest h
bit_anyway (RawData kind) last false xs bit rest h = h
bit_anyway Plaintext last false xs bit rest h = h
bit_anyway Cdata last false xs bit rest h = h

told_glues : (bit text : List ℕ) → IsFull bit → join (told (bit ++ text)) ≡ glue bit (join (told text))
told_glues [] text full = absurd full
told_glues (x ∷ bit) [] full = ap (λ l. Characters (x ∷ l) ∷ []) (append-nil bit)
told_glues (x ∷ bit) (y ∷ text) full = refl

module _ {M : Type 0} (reply_to : M → TokenText → Reply) (after : M → TokenText → ℕ → M) (foreign : M → Bool) (ended : M → M) (alike : M → M → Type 0) (blind : IsBlindToCuts reply_to after foreign ended alike) where
  -- a bit, and the text after it; texts are passed with any line
  after_cut : (m n : M) (bit text : List ℕ) → IsFull bit → alike (after_text after (after m (Characters bit) 0) text 0) n → alike (after_text after m (bit ++ text) 0) n
  after_cut m n [] text full h = absurd full
  after_cut m n (x ∷ bit) text full h = blind.transitive _ _ n (text_cut reply_to after foreign ended alike blind m (x ∷ bit) text 0 0 0) h

  -- bit by bit the effect is equal, except for the line
  pub record Follows (p : ReaderPlace) (m : M) (xs : List ℕ) (ts : List TokenText) (q : ReaderPlace) (n : M) (ys : List ℕ) : Type 0 where
    pub tokens : List TokenText
    pub meaning : M
    pub run : Runs reply_to after foreign (unlined p) m xs tokens (unlined q) meaning ys
    pub joined : join ts ≡ join tokens
    pub like : alike n meaning

  bit_deed : (p : ReaderPlace) (f : Bool) (xs bit rest : List ℕ) → p.at_start ≡ false → front p.mode p.last f xs ≡ Found (Bit bit) rest → deed p f xs ≡ Found (Done (Bit bit)) rest
  bit_deed p f xs bit rest started h = deed_goes_on p f xs started ∙ ap done h

  one_bit : (p : ReaderPlace) (m n : M) (xs bit rest text ys : List ℕ) → p.at_start ≡ false → alike m n
      → front p.mode p.last (foreign n) xs ≡ Found (Bit bit) rest
      → Follows p (after n (Characters bit) 0) rest (told text) p (after_text after (after m (Characters bit) 0) text 0) ys
      → Follows p n xs (told (bit ++ text)) p (after_text after m (bit ++ text) 0) ys
  one_bit p m n xs bit rest text ys begun like h behind =
      let full = bit_full p.mode p.last (foreign n) xs bit rest h in
      record {
        tokens = Characters bit ∷ behind.tokens;
        meaning = behind.meaning;
        run = does (Done (Bit bit)) (bit_deed p (foreign n) xs bit rest begun h) behind.run;
        joined = told_glues bit text full ∙ ap (glue bit) behind.joined;
        like = after_cut m behind.meaning bit text full behind.like;
      }

  follow_bits : {xs text ys : List ℕ} (p : ReaderPlace) (m n : M) → p.at_start ≡ false → alike m n → Bits p.mode p.last true xs text ys → Follows p n xs (told text) p (after_text after m text 0) ys
  follow_bits p m n begun like no_bit = record { tokens = []; meaning = n; run = stays; joined = refl; like = like }
  follow_bits {xs} {ys} p m n begun like (more_bits {rest} {text} bit h bits) =
      one_bit p m n xs bit rest text ys begun like (bit_anyway p.mode p.last (foreign n) xs bit rest h)
      (follow_bits p (after m (Characters bit) 0) (after n (Characters bit) 0) begun (blind.kept m n (Characters bit) 0 0 like) bits)

  -- the first bit is read when the sink's reply matters
  follow_first : (p : ReaderPlace) (m n : M) (xs text ys : List ℕ) → p.at_start ≡ false → alike m n → length ys < length xs → Bits p.mode p.last (foreign m) xs text ys → Follows p n xs (told text) p (after_text after m text 0) ys
  follow_first p m n xs text ys begun like less no_bit = absurd (omega arith)
  follow_first p m n xs text ys begun like less (more_bits {rest} {text = others} bit h bits) =
      one_bit p m n xs bit rest others ys begun like (ap (λ b. front p.mode p.last b xs) (sym (blind.spaces m n like)) ∙ h)
      (follow_bits p (after m (Characters bit) 0) (after n (Characters bit) 0) begun (blind.kept m n (Characters bit) 0 0 like) bits)

  -- one deed, from an equivalent meaning
  one_deed : (p : ReaderPlace) (n : M) (xs rest : List ℕ) (d : Deed) (ts : List TokenText) (q : ReaderPlace) (k : M)
      → deed p (foreign n) xs ≡ Found d rest → place_behind reply_to after foreign (unlined p) n d ≡ unlined q → ts ≡ tokens_of d
      → alike k (meaning_behind reply_to after foreign n d) → Follows p n xs ts q k rest
  one_deed p n xs rest d ts q k h place told like = record {
    tokens = tokens_of d ++ [];
    meaning = meaning_behind reply_to after foreign n d;
    run = does d h (subst (λ (x : ReaderPlace). Runs reply_to after foreign (place_behind reply_to after foreign (unlined p) n d) (meaning_behind reply_to after foreign n d) rest [] x (meaning_behind reply_to after foreign n d) rest) place stays);
    joined = ap join (told ∙ sym (append-nil (tokens_of d)));
    like = like;
  }

  told_one : (text : List ℕ) → IsFull text → told text ≡ Characters text ∷ []
  told_one [] full = absurd full
  told_one (x ∷ text) full = refl

  after_one : (m : M) (text : List ℕ) → IsFull text → after_text after m text 0 ≡ after m (Characters text) 0
  after_one m [] full = absurd full
  after_one m (x ∷ text) full = refl

  follow_text : (p : ReaderPlace) (m n : M) (xs text ys : List ℕ) → p.at_start ≡ false → alike m n → length ys < length xs → Bits p.mode p.last (foreign m) xs text ys → Follows p n xs (Characters text ∷ []) (behind p xs ys) (after m (Characters text) p.line) ys
  follow_text p m n xs text ys begun like less bits =
      let full = bits_full less bits in
      let first = follow_first p m n xs text ys begun like less bits in
      record {
        tokens = first.tokens;
        meaning = first.meaning;
        run = first.run;
        joined = ap join (sym (told_one text full)) ∙ first.joined;
        like = blind.transitive (after m (Characters text) p.line) (after_text after m text 0) first.meaning (subst (λ (k : M). alike (after m (Characters text) p.line) k) (sym (after_one m text full)) (blind.kept m m (Characters text) p.line 0 (blind.reflexive m))) first.like;
      }

  follow_step : {p : ReaderPlace} {m : M} {xs : List ℕ} {ts : List TokenText} {reply : Reply} {q : ReaderPlace} {k : M} {ys : List ℕ} (n : M) → alike m n → Step reply_to after foreign p m xs ts reply q k ys → Follows p n xs ts q k ys
  follow_step {p} {m} n like (marked {xs} {rest} s h) =
      one_deed p n xs rest Begun [] (started p) m (deed_begins p (foreign n) xs s ∙ ap (behind_mark xs) h) refl refl like
  follow_step {p} {m} n like (unmarked {xs} s h) =
      one_deed p n xs xs Begun [] (started p) m (deed_begins p (foreign n) xs s ∙ ap (behind_mark xs) h) refl refl like
  follow_step n like (token_step {p} {m} {xs} {rest} t s h) =
      one_deed p n xs rest (Done (Whole t)) (t ∷ []) (behind (next_place p t (reply_to m t)) xs rest) (after m t p.line)
      (deed_goes_on p (foreign n) xs s ∙ ap (λ b. done (front p.mode p.last b xs)) (sym (blind.spaces m n like)) ∙ ap done h)
      (ap (next_place (unlined p) t) (sym (blind.replies m n t like)) ∙ next_unlined p t (reply_to m t)) refl (blind.kept m n t p.line 0 like)
  follow_step n like (switch_step {p} {m} {xs} {rest} mode s h) =
      one_deed p n xs rest (Done (Switch mode)) [] (behind (in_mode mode p) xs rest) m
      (deed_goes_on p (foreign n) xs s ∙ ap (λ b. done (front p.mode p.last b xs)) (sym (blind.spaces m n like)) ∙ ap done h)
      refl refl like
  follow_step n like (text_step {p} {m} {xs} {ys} text s less bits) = follow_text p m n xs text ys s like less bits

  follow_more : (p : ReaderPlace) (n : M) (xs : List ℕ) (ts : List TokenText) (q : ReaderPlace) (k : M) (ys : List ℕ) (us : List TokenText) (r : ReaderPlace) (o : M) (zs : List ℕ)
      → (first : Follows p n xs ts q k ys) → Follows q first.meaning ys us r o zs → Follows p n xs (ts ++ us) r o zs
  follow_more p n xs ts q k ys us r o zs first second = record {
    tokens = first.tokens ++ second.tokens;
    meaning = second.meaning;
    run = runs_join reply_to after foreign first.run second.run;
    joined = joins_append ts first.tokens us second.tokens first.joined second.joined;
    like = second.like;
  }

  follow_none : (p : ReaderPlace) (m n : M) (xs : List ℕ) → alike m n → Follows p n xs [] p m xs
  follow_none p m n xs like = record { tokens = []; meaning = n; run = stays; joined = refl; like = like }

  follow_read : {p : ReaderPlace} {m : M} {xs : List ℕ} {ts : List TokenText} {reply : Reply} {q : ReaderPlace} {k : M} {ys : List ℕ} (n : M) → alike m n → Read reply_to after foreign p m xs ts reply q k ys → Follows p n xs ts q k ys
  follow_read {p} {m} {xs} n like nothing_read = follow_none p m n xs like
  follow_read n like (read_on {p} {q} {r} {m} {n = k} {o} {xs} {ys} {zs} {ts} {us} read goes step) =
      let first = follow_read n like read in
      follow_more p n xs ts q k ys us r o zs first (follow_step first.meaning first.like step)

  follow_readings : {p : ReaderPlace} {m : M} {xs : List ℕ} {ts : List TokenText} {q : ReaderPlace} {k : M} {ys : List ℕ} (n : M) → alike m n → Readings reply_to after foreign p m xs ts q k ys → Follows p n xs ts q k ys
  follow_readings {p} {m} {xs} n like no_reading = follow_none p m n xs like
  follow_readings n like (more_reading {p} {q} {r} {m} {n = k} {o} {xs} {ys} {zs} {ts} {us} readings read goes) =
      let first = follow_readings n like readings in
      follow_more p n xs ts q k ys us r o zs first (follow_read first.meaning first.like read)

  closing_alike : (s : Option TokenText) (m n : M) (i j k l : ℕ) → alike m n → alike (after_closing after m s i j) (after_closing after n s k l)
  closing_alike None m n i j k l like = blind.kept m n EndOfFile j l like
  closing_alike (Some t) m n i j k l like = blind.kept (after m t i) (after n t k) EndOfFile j l (blind.kept m n t i k like)

  -- the end, after readings with equivalent meanings and equal suffixes
  ends_alike : (m n : M) (s t : Option TokenText) (i j k l : ℕ) → s ≡ t → alike m n → alike (ended (after_closing after m s i j)) (ended (after_closing after n t k l))
  ends_alike m n s t i j k l e like =
      subst (λ (o : Option TokenText). alike (ended (after_closing after m s i j)) (ended (after_closing after n o k l))) e
      (blind.ends (after_closing after m s i j) (after_closing after n s k l) (closing_alike s m n i j k l like))

  ended_alike : {p q : ReaderPlace} {m n : M} {xs ys : List ℕ} {ts us : List TokenText} {k l : M} (a : ReadsToEnd reply_to after foreign ended p m xs ts k) (b : ReadsToEnd reply_to after foreign ended q n ys us l)
      → settle a.place.mode a.place.last (foreign a.meaning) a.rest ≡ settle b.place.mode b.place.last (foreign b.meaning) b.rest → alike a.meaning b.meaning → alike k l
  ended_alike {k} {l} a b settled meanings =
      let s = settle a.place.mode a.place.last (foreign a.meaning) a.rest in
      let t = settle b.place.mode b.place.last (foreign b.meaning) b.rest in
      let i = line_behind a.place.line a.rest [] in
      let j = line_behind b.place.line b.rest [] in
      subst (λ (o : M). alike o l) (sym a.closed)
      (subst (λ (o : M). alike (ended (after_closing after a.meaning s a.place.line i)) o) (sym b.closed)
      (ends_alike a.meaning b.meaning s t a.place.line i b.place.line j settled meanings))

  -- how an input is split doesn't matter
  pub cuts_agree : (p : ReaderPlace) (m n : M) (xs : List ℕ) (ts us : List TokenText) (k l : M) → alike m n
      → ReadsToEnd reply_to after foreign ended p m xs ts k → ReadsToEnd reply_to after foreign ended p n xs us l
      → (join ts ≡ join us) × alike k l
  cuts_agree p m n xs ts us k l like a b =
      let f = follow_readings m (blind.reflexive m) a.readings in
      let g = follow_readings n (blind.reflexive n) b.readings in
      let d : deed a.place (foreign f.meaning) a.rest ≡ Open = ap (λ x. deed a.place x a.rest) (sym (blind.spaces a.meaning f.meaning f.like)) ∙ deed_waits a.place (foreign a.meaning) a.rest a.undecided in
      let e : deed b.place (foreign g.meaning) b.rest ≡ Open = ap (λ x. deed b.place x b.rest) (sym (blind.spaces b.meaning g.meaning g.like)) ∙ deed_waits b.place (foreign b.meaning) b.rest b.undecided in
      let same = same_runs reply_to after foreign ended alike blind like f.run d g.run e in
      let meanings : alike a.meaning b.meaning =
      blind.transitive a.meaning f.meaning b.meaning f.like
      (blind.transitive f.meaning g.meaning b.meaning same.like (blind.symmetric b.meaning g.meaning g.like)) in
      let settled : settle a.place.mode a.place.last (foreign a.meaning) a.rest ≡ settle b.place.mode b.place.last (foreign b.meaning) b.rest =
      (λ i. settle (same.place i).mode (same.place i).last (blind.spaces a.meaning b.meaning meanings i) (same.rest i)) in
      let handed : join a.handed ≡ join b.handed = f.joined ∙ ap join same.tokens ∙ sym g.joined in (
        ap join a.tokens
            ∙ joins_append a.handed b.handed (closing (settle a.place.mode a.place.last (foreign a.meaning) a.rest)) (closing (settle b.place.mode b.place.last (foreign b.meaning) b.rest)) handed (ap (λ o. join (closing o)) settled)
            ∙ sym (ap join b.tokens),
        ended_alike a b settled meanings,
      )

-- Whatever is read is also read row by row, except how texts are split.
use Rattle.std.proofs.Common.{◌≡◌, ℕ, Bool, List, [], ◌∷◌, ◌++◌, refl, sym, ap, ◌∙◌, subst, append-nil, append_assoc}
use Rattle.h5_token.specs.TokenText.{TokenText, EndOfFile}
use Rattle.h5_token.specs.Joins.{glue, join}
use Rattle.h5_token.specs.Reply.{Reply}
use Rattle.h5_tokenizer_input.specs.Told.{after_all, after_text, told}
use Rattle.h5_tokenizer_input.proofs.BlindLaws.{all_alike, text_cut}
use Rattle.h5_tokenizer_input.proofs.JoinLaws.{glue_twice, joins_append}
use Rattle.h5_tokenizer_input.specs.Blindness.{IsBlindToCuts}
use Rattle.h5_tokenizer_spec.specs.Turn.{Consumed, Reconsumed, Emitted, Asks}
use Rattle.h5_tokenizer_spec.specs.References.{Reference}
use Rattle.h5_tokenizer_spec.specs.Reading.{ReaderPlace, Passes, passed, drops, goes, again, Step, quiet_step, text_step, token_step, ask_step, Read, nothing_read, read_on}
use Rattle.h5_tokenizer_spec.specs.End.{last_tokens}
use Rattle.h5_tokenizer_spec.specs.Whole.{Readings, no_reading, more_reading, ReadsToEnd}
use Rattle.h5_tokenizer_spec.proofs.ByRows.{dropped, move_dropped, move_row, ByRows, ends, consumes_as, reconsumes_as, from_alike, agree}

told_joins : (t more : List ℕ) (us vs : List TokenText) → join vs ≡ join (told more ++ us) → join (told t ++ vs) ≡ join (told (t ++ more) ++ us)
told_joins [] more us vs e = e
told_joins (x ∷ xs) [] us vs e = ap (glue (x ∷ xs)) e ∙ ap (λ w. glue (x ∷ w) (join us)) (sym (append-nil xs))
told_joins (x ∷ xs) (y ∷ ys) us vs e = ap (glue (x ∷ xs)) e ∙ glue_twice x xs y ys (join us)

module _ {M : Type 0} (reply_to : M → TokenText → Reply) (after : M → TokenText → ℕ → M) (foreign : M → Bool) (ended : M → M) (alike : M → M → Type 0)
    (blind : IsBlindToCuts reply_to after foreign ended alike) (table : List Reference) where
  -- These tokens, followed by the others, are those of a reading row by row, except how texts are split. Its final meaning is
  -- equivalent.
  pub record Flat (p : ReaderPlace) (m : M) (xs : List ℕ) (ts us : List TokenText) (q : ReaderPlace) (l : M) : Type 0 where
    pub tokens : List TokenText
    pub meaning : M
    pub rows : ByRows reply_to after foreign table p m xs tokens q meaning
    pub like : alike meaning l
    pub joins : join tokens ≡ join (ts ++ us)

  flat_alike : {p q : ReaderPlace} {m n l : M} {xs : List ℕ} {us : List TokenText} → alike m n → ByRows reply_to after foreign table p n xs us q l → Flat p m xs [] us q l
  flat_alike {us = us} h rows =
      let same = from_alike reply_to after foreign ended alike blind table h rows in
      record {
        tokens = us;
        meaning = same.meaning;
        rows = same.rows;
        like = same.like;
        joins = refl;
      }

  -- the remainder of the text is passed after a part of it
  rest_alike : (m n : M) (t more : List ℕ) (j k : ℕ) → alike (after_text after m (t ++ more) j) n
      → alike (after_text after (after_text after m t k) more j) n
  rest_alike m n t more j k h =
      let whole = after_text after m (t ++ more) j in
      let parts = after_text after (after_text after m t k) more j in
      blind.transitive parts whole n (blind.symmetric whole parts (text_cut reply_to after foreign ended alike blind m t more j k j)) h

  flat_passes : {p q r : ReaderPlace} {n l : M} {xs text ys : List ℕ} {us : List TokenText} (m : M) (j : ℕ)
      → Passes table p xs text q ys → alike (after_text after m text j) n → ByRows reply_to after foreign table q n ys us r l → Flat p m xs (told text) us r l
  flat_passes m j passed h rows = flat_alike h rows
  flat_passes {p} m j (drops {x = x} e rest) h rows =
      let flat = flat_passes m j rest h rows in
      record {
        tokens = flat.tokens;
        meaning = flat.meaning;
        rows = consumes_as reply_to after foreign table (dropped reply_to after foreign p m) (move_dropped reply_to after foreign table p m x e) refl flat.rows;
        like = flat.like;
        joins = flat.joins;
      }
  flat_passes {p} {n = n} {us = us} m j (goes {x = x} {more = more} text state e d rest) h rows =
      let flat = flat_passes (after_text after m text p.began) j rest (rest_alike m n text more j p.began h) rows in
      record {
        tokens = told text ++ flat.tokens;
        meaning = flat.meaning;
        rows = consumes_as reply_to after foreign table _ (move_row reply_to after foreign table p m x (Consumed text state) e d) refl flat.rows;
        like = flat.like;
        joins = told_joins text more us flat.tokens flat.joins;
      }
  flat_passes {p} {n = n} {us = us} m j (again {x = x} {more = more} text state e d rest) h rows =
      let flat = flat_passes (after_text after m text p.began) j rest (rest_alike m n text more j p.began h) rows in
      record {
        tokens = told text ++ flat.tokens;
        meaning = flat.meaning;
        rows = reconsumes_as reply_to after foreign table _ (move_row reply_to after foreign table p m x (Reconsumed text state) e d) refl flat.rows;
        like = flat.like;
        joins = told_joins text more us flat.tokens flat.joins;
      }

  flat_step : {p : ReaderPlace} {m : M} {xs : List ℕ} {ts : List TokenText} {reply : Reply} {q : ReaderPlace} {k : M} {ys : List ℕ} {n l : M} {us : List TokenText} {r : ReaderPlace}
      → Step table reply_to after foreign p m xs ts reply q k ys → alike k n → ByRows reply_to after foreign table q n ys us r l → Flat p m xs ts us r l
  flat_step {p} {m} (quiet_step h) like rows = flat_passes m p.began h like rows
  flat_step {p} {m} (text_step h) like rows = flat_passes m p.began h like rows
  flat_step {p} {m} {us = us} (token_step {x = x} token state e d) like rows =
      let same = from_alike reply_to after foreign ended alike blind table like rows in
      record {
        tokens = token ∷ us;
        meaning = same.meaning;
        rows = consumes_as reply_to after foreign table _ (move_row reply_to after foreign table p m x (Emitted token state) e d) refl same.rows;
        like = same.like;
        joins = refl;
      }
  flat_step {p} {m} {us = us} (ask_step {x = x} there error elsewhere e d) like rows =
      let same = from_alike reply_to after foreign ended alike blind table like rows in
      record {
        tokens = us;
        meaning = same.meaning;
        rows = consumes_as reply_to after foreign table _ (move_row reply_to after foreign table p m x (Asks there error elsewhere) e d) refl same.rows;
        like = same.like;
        joins = refl;
      }

  -- what is flat after some tokens is flat with them
  flat_before : {p q r : ReaderPlace} {m k l : M} {xs ys : List ℕ} (ts us vs : List TokenText)
      → (behind : Flat q k ys us vs r l) → Flat p m xs ts behind.tokens r behind.meaning → Flat p m xs (ts ++ us) vs r l
  flat_before {l = l} ts us vs behind flat = record {
    tokens = flat.tokens;
    meaning = flat.meaning;
    rows = flat.rows;
    like = blind.transitive flat.meaning behind.meaning l flat.like behind.like;
    joins = flat.joins ∙ joins_append ts ts behind.tokens (us ++ vs) refl behind.joins ∙ ap join (sym (append_assoc ts us vs));
  }

  flat_read : {p : ReaderPlace} {m : M} {xs : List ℕ} {ts : List TokenText} {reply : Reply} {q : ReaderPlace} {k : M} {ys : List ℕ} {n l : M} {us : List TokenText} {r : ReaderPlace}
      → Read table reply_to after foreign p m xs ts reply q k ys → alike k n → ByRows reply_to after foreign table q n ys us r l → Flat p m xs ts us r l
  flat_read nothing_read like rows = flat_alike like rows
  flat_read {us = us} (read_on {n = k} {ts = ts} {us = vs} read on step) like rows =
      let behind = flat_step step like rows in
      flat_before ts vs us behind (flat_read read (blind.reflexive k) behind.rows)

  flat_readings : {p : ReaderPlace} {m : M} {xs : List ℕ} {ts : List TokenText} {q : ReaderPlace} {k : M} {ys : List ℕ} {n l : M} {us : List TokenText} {r : ReaderPlace}
      → Readings table reply_to after foreign p m xs ts q k ys → alike k n → ByRows reply_to after foreign table q n ys us r l → Flat p m xs ts us r l
  flat_readings no_reading like rows = flat_alike like rows
  flat_readings {us = us} (more_reading {n = k} {ts = ts} {us = vs} readings read taken) like rows =
      let behind = flat_read read like rows in
      flat_before ts vs us behind (flat_readings readings (blind.reflexive k) behind.rows)

  ended_alike : (m n : M) (p q : ReaderPlace) → p ≡ q → alike m n
      → alike (ended (after (after_all after m (last_tokens table p) p.began) EndOfFile p.line)) (ended (after (after_all after n (last_tokens table q) q.began) EndOfFile q.line))
  ended_alike m n p q e h =
      subst (λ (r : ReaderPlace). alike (ended (after (after_all after m (last_tokens table p) p.began) EndOfFile p.line)) (ended (after (after_all after n (last_tokens table r) r.began) EndOfFile r.line))) e
      (blind.ends _ _ (blind.kept _ _ EndOfFile p.line p.line (all_alike reply_to after foreign ended alike blind m n (last_tokens table p) p.began p.began h)))

  -- how an input is split doesn't matter
  pub cuts_agree : (p : ReaderPlace) (m n : M) (xs : List ℕ) (ts us : List TokenText) (k l : M) → alike m n
      → ReadsToEnd table reply_to after foreign ended p m xs ts k → ReadsToEnd table reply_to after foreign ended p n xs us l
      → (join ts ≡ join us) × alike k l
  cuts_agree p m n xs ts us k l like a b =
      let f = flat_readings a.readings (blind.reflexive a.meaning) ends in
      let g = flat_readings b.readings (blind.reflexive b.meaning) ends in
      let same = agree reply_to after foreign ended alike blind table like f.rows g.rows in
      let meanings : alike a.meaning b.meaning =
      blind.transitive a.meaning f.meaning b.meaning (blind.symmetric f.meaning a.meaning f.like)
      (blind.transitive f.meaning g.meaning b.meaning same.like g.like) in (
        ap join a.tokens ∙ sym f.joins ∙ ap join same.tokens ∙ g.joins ∙ sym (ap join b.tokens),
        subst (λ (o : M). alike o l) (sym a.closed)
            (subst (λ (o : M). alike (ended (after (after_all after a.meaning (last_tokens table a.place) a.place.began) EndOfFile a.place.line)) o) (sym b.closed)
            (ended_alike a.meaning b.meaning a.place b.place same.place meanings)),
      )

-- Whatever is reported is also reported row by row, so how an input is split doesn't matter for its errors.
use Rattle.std.proofs.Common.{◌≡◌, ℕ, ◌+◌, ◌/◌, ◌%◌, ◌<◌, ◌≤◌, Bool, true, false, true≢false, List, [], ◌∷◌, ◌++◌, refl, sym, ap, ◌∙◌, subst, append-nil, append_assoc, arith, cond, ltb, if◌then◌else◌}
use Rattle.std.proofs.lemmas.Bool.{and_parts, leb-true, ltb-true}
use Rattle.std.proofs.lemmas.Str.{encode_same}
use Rattle.std.specs.Char.{encode_utf8}
use Rattle.std.specs.Prelude.{nat_le}
use Rattle.h5_token.specs.TokenText.{TokenText, Characters}
use Rattle.h5_token.specs.Reply.{Reply}
use Rattle.h5_tokenizer_input.specs.Told.{after_text}
use Rattle.h5_tokenizer_input.specs.Blindness.{IsBlindToCuts}
use Rattle.h5_tokenizer_input.proofs.BlindLaws.{text_cut}
use Rattle.h5_tokenizer_spec.specs.declared.errors.ParseError.{ParseError}
use Rattle.h5_tokenizer_spec.specs.declared.position.Position.{Position}
use Rattle.h5_tokenizer_spec.specs.declared.position.Spot.{Spot}
use Rattle.h5_tokenizer_spec.specs.declared.position.LocatedError.{LocatedError}
use Rattle.h5_tokenizer_spec.specs.InputErrors.{InputErrors, of_character, inside, not_new, character_errors}
use Rattle.h5_tokenizer_spec.specs.References.{Reference}
use Rattle.h5_tokenizer_spec.specs.Reading.{ReaderPlace, behind_newline, in_state, is_dropped, outcome}
use Rattle.h5_tokenizer_spec.specs.Spots.{is_inside, position, spot_again, spot_behind, spot_past}
use Rattle.h5_tokenizer_spec.specs.Told.{told_at}
use Rattle.h5_tokenizer_spec.specs.Telling.{Reached, Reaches, MeetsByte, begins, drops, goes, again, hands_text, hands_nothing, hands_token, asks, here, told_at_byte, told_at_end}
use Rattle.h5_tokenizer_spec.specs.Turn.{Outcome, Consumed, Reconsumed, Emitted, Asks}
use Rattle.h5_tokenizer_spec.specs.WholeTelling.{Tellings, no_telling, more_telling, TellsToEnd}
use Rattle.h5_tokenizer_spec.proofs.ByRows.{Move, dropped, moved_by, move, move_dropped, move_row, same_move}
use Rattle.h5_tokenizer_spec.proofs.TellingLaws.{reaches_goes_on}

-- ---- the errors of the input at a byte

first_same : {x y : ℕ} {xs ys : List ℕ} → x ∷ xs ≡ y ∷ ys → x ≡ y
first_same e = cc

-- a character doesn't begin with a byte that is inside one
begins_outside : (c x : ℕ) (rest xs : List ℕ) → encode_utf8 c ++ rest ≡ x ∷ xs → is_inside x ≡ true → ⊥
unfolding encode_utf8
begins_outside c x rest xs e h =
    let parts = and_parts (nat_le 128 x) (nat_le x 191) h in
    by (ltb c 128) (ltb c 2048) (ltb c 65536) (ltb-true c 128) (leb-true 128 x parts.0) (leb-true x 191 parts.1) e
  where
    by : (a b d : Bool) → (a ≡ true → c < 128) → 128 ≤ x → x ≤ 191
        → cond a (c ∷ []) (cond b ((192 + c / 64) ∷ (128 + c % 64) ∷ []) (cond d ((224 + c / 4096) ∷ (128 + c / 64 % 64) ∷ (128 + c % 64) ∷ []) ((240 + c / 262144) ∷ (128 + c / 4096 % 64) ∷ (128 + c / 64 % 64) ∷ (128 + c % 64) ∷ []))) ++ rest ≡ x ∷ xs → ⊥
    by true b d small low high e = omega (arith, small refl, low, first_same e)
    by false true d small low high e = omega (arith, high, first_same e)
    by false false true small low high e = omega (arith, high, first_same e)
    by false false false small low high e = omega (arith, high, first_same e)

-- the errors don't depend on how they are found
input_same : {b : Bool} {xs : List ℕ} {es fs : List ParseError} → InputErrors b xs es → InputErrors b xs fs → es ≡ fs
input_same (of_character c rest scalar e) (of_character d more _ f) = ap character_errors (encode_same c d rest more (sym e ∙ f)).0
input_same (of_character c rest scalar e) (inside {x} {xs} h) = absurd (begins_outside c x rest xs (sym e) h)
input_same (inside {x} {xs} h) (of_character d more scalar f) = absurd (begins_outside d x more xs (sym f) h)
input_same (inside h) (inside g) = refl
input_same not_new not_new = refl

-- what is left after a byte that was consumed, or before it
abbrev left : Bool → ℕ → List ℕ → List ℕ
left true x xs = xs
left false x xs = x ∷ xs

-- the spot afterwards, after a LINE FEED that was dropped or another byte
abbrev moved_spot : Bool → Bool → ℕ → Spot → Spot
moved_spot true is_consumed x s = spot_past s
moved_spot false true x s = spot_behind x s
moved_spot false false x s = spot_again s

-- the error of a check of the adjusted current node, by the result
abbrev asked : Bool → Position → Outcome → List LocatedError
asked foreign at (Asks there error elsewhere) = if foreign then [] else told_at at (error ∷ [])
asked foreign at deed = []

module _ {M : Type 0} (reply_to : M → TokenText → Reply) (after : M → TokenText → ℕ → M) (foreign : M → Bool) (table : List Reference) where
  -- what is reported at a byte
  abbrev told_by : Bool → Bool → ReaderPlace → Spot → ℕ → List ParseError → List LocatedError
  told_by true is_foreign p s x input = []
  told_by false is_foreign p s x input = told_at_byte table p (position p.line s) x input ++ asked is_foreign (position p.line s) (outcome table p x)

  -- an input is read to its end, each row's text as a separate token, and these errors are reported
  data TellsRows : ReaderPlace → Spot → M → List ℕ → List LocatedError → ReaderPlace → Spot → Type 0 where
    ends : {p : ReaderPlace} {s : Spot} {m : M} → TellsRows p s m [] [] p s
    meets : {p q : ReaderPlace} {s t : Spot} {m : M} {x : ℕ} {xs : List ℕ} {es : List LocatedError} (input : List ParseError)
        → (is_dropped p x ≡ false → InputErrors s.is_new (x ∷ xs) input)
        → TellsRows (move reply_to after foreign table p m x).place (moved_spot (is_dropped p x) (move reply_to after foreign table p m x).is_consumed x s)
        (move reply_to after foreign table p m x).meaning (left (move reply_to after foreign table p m x).is_consumed x xs) es q t
        → TellsRows p s m (x ∷ xs) (told_by (is_dropped p x) (foreign m) p s x input ++ es) q t

  -- as above, by the kind of the move
  meets_as : {p q : ReaderPlace} {s t : Spot} {m : M} {x : ℕ} {xs : List ℕ} {es : List LocatedError} (b : Bool) (w : Move M) (input : List ParseError)
      → is_dropped p x ≡ b → move reply_to after foreign table p m x ≡ w → (b ≡ false → InputErrors s.is_new (x ∷ xs) input)
      → TellsRows w.place (moved_spot b w.is_consumed x s) w.meaning (left w.is_consumed x xs) es q t
      → TellsRows p s m (x ∷ xs) (told_by b (foreign m) p s x input ++ es) q t
  meets_as {p} {q} {s} {t} {m} {x} {xs} {es} b w input d e =
      subst (λ (v : Move M). (b ≡ false → InputErrors s.is_new (x ∷ xs) input) → TellsRows v.place (moved_spot b v.is_consumed x s) v.meaning (left v.is_consumed x xs) es q t
      → TellsRows p s m (x ∷ xs) (told_by b (foreign m) p s x input ++ es) q t) e
      (subst (λ (c : Bool). (c ≡ false → InputErrors s.is_new (x ∷ xs) input)
      → TellsRows (move reply_to after foreign table p m x).place (moved_spot c (move reply_to after foreign table p m x).is_consumed x s)
      (move reply_to after foreign table p m x).meaning (left (move reply_to after foreign table p m x).is_consumed x xs) es q t
      → TellsRows p s m (x ∷ xs) (told_by c (foreign m) p s x input ++ es) q t) d (meets input))

  drops_row : {p q : ReaderPlace} {s t : Spot} {m : M} {x : ℕ} {xs : List ℕ} {es : List LocatedError} → is_dropped p x ≡ true
      → TellsRows (behind_newline p) (spot_past s) m xs es q t → TellsRows p s m (x ∷ xs) es q t
  drops_row {p} {m = m} {x = x} d rest = meets_as true (dropped reply_to after foreign p m) [] d (move_dropped reply_to after foreign table p m x d) (λ no. absurd (true≢false no)) rest

  -- a row that was done, with the errors of a check
  meets_row : {r : Reached M} {q : ReaderPlace} {t : Spot} {x : ℕ} {xs : List ℕ} {errors es : List LocatedError} (m : M) (deed : Outcome) → MeetsByte table r x xs deed errors
      → TellsRows (moved_by reply_to after foreign r.place m x deed).place (moved_spot false (moved_by reply_to after foreign r.place m x deed).is_consumed x r.spot)
      (moved_by reply_to after foreign r.place m x deed).meaning (left (moved_by reply_to after foreign r.place m x deed).is_consumed x xs) es q t
      → TellsRows r.place r.spot m r.rest ((errors ++ asked (foreign m) (here r) deed) ++ es) q t
  meets_row {r} {q} {t} {x} {xs} {errors} {es} m deed met rest =
      let told_here = told_at_byte table r.place (here r) x met.input in
      let one : TellsRows r.place r.spot m (x ∷ xs) ((told_here ++ asked (foreign m) (here r) (outcome table r.place x)) ++ es) q t =
      meets_as false (moved_by reply_to after foreign r.place m x deed) met.input met.not_dropped (move_row reply_to after foreign table r.place m x deed met.not_dropped met.outcome)
      (λ no. subst (λ l. InputErrors r.spot.is_new l met.input) met.front met.input_errors) rest in
      let same : told_here ++ asked (foreign m) (here r) (outcome table r.place x) ≡ errors ++ asked (foreign m) (here r) deed =
      ap (λ o. told_here ++ asked (foreign m) (here r) o) met.outcome ∙ ap (λ l. l ++ asked (foreign m) (here r) deed) (sym met.errors_are) in
      subst (λ l. TellsRows r.place r.spot m l ((errors ++ asked (foreign m) (here r) deed) ++ es) q t) (sym met.front)
      (subst (λ l. TellsRows r.place r.spot m (x ∷ xs) (l ++ es) q t) same one)

  -- from another, equal place
  rows_so : {v w q : ReaderPlace} {t : Spot} {m : M} {es : List LocatedError} (s : Spot) (x : ℕ) (xs : List ℕ) (d a b : Bool) → v ≡ w → a ≡ b
      → TellsRows w (moved_spot d b x s) m (left b x xs) es q t → TellsRows v (moved_spot d a x s) m (left a x xs) es q t
  rows_so {v} {w} {q} {t} {m} {es} s x xs d a b e f c =
      subst (λ u. TellsRows u (moved_spot d a x s) m (left a x xs) es q t) (sym e) (subst (λ g. TellsRows w (moved_spot d g x s) m (left g x xs) es q t) (sym f) c)

module _ {M : Type 0} (reply_to : M → TokenText → Reply) (after : M → TokenText → ℕ → M) (foreign : M → Bool) (ended : M → M) (alike : M → M → Type 0)
    (blind : IsBlindToCuts reply_to after foreign ended alike) (table : List Reference) where
  -- equivalent meanings have the same reports
  rows_alike : {p q : ReaderPlace} {s t : Spot} {m n : M} {xs : List ℕ} {es : List LocatedError} → alike m n
      → TellsRows reply_to after foreign table p s n xs es q t → TellsRows reply_to after foreign table p s m xs es q t
  rows_alike h ends = ends
  rows_alike {p} {q} {s} {t} {m} {n} h (meets {x = x} {xs = xs} {es = es} input errors rest) =
      let same = same_move reply_to after foreign ended alike blind table p m n x h in
      subst (λ f. TellsRows reply_to after foreign table p s m (x ∷ xs) (told_by reply_to after foreign table (is_dropped p x) f p s x input ++ es) q t) (blind.spaces m n h)
      (meets input errors (rows_so reply_to after foreign table s x xs (is_dropped p x) (move reply_to after foreign table p m x).is_consumed (move reply_to after foreign table p n x).is_consumed
      same.place same.is_consumed (rows_alike same.like rest)))

  told_both : (d f g : Bool) (p : ReaderPlace) (s : Spot) (x : ℕ) (xs : List ℕ) (input other : List ParseError) → f ≡ g
      → (d ≡ false → InputErrors s.is_new (x ∷ xs) input) → (d ≡ false → InputErrors s.is_new (x ∷ xs) other)
      → told_by reply_to after foreign table d f p s x input ≡ told_by reply_to after foreign table d g p s x other
  told_both true f g p s x xs input other e i j = refl
  told_both false f g p s x xs input other e i j =
      ap (λ b. told_by reply_to after foreign table false b p s x input) e ∙ ap (told_by reply_to after foreign table false g p s x) (input_same (i refl) (j refl))

  rows_agree : {p q r : ReaderPlace} {s t u : Spot} {m n : M} {xs : List ℕ} {es fs : List LocatedError} → alike m n
      → TellsRows reply_to after foreign table p s m xs es q t → TellsRows reply_to after foreign table p s n xs fs r u
      → (es ≡ fs) × ((q ≡ r) × (t ≡ u))
  rows_agree h ends ends = (refl, (refl, refl))
  rows_agree {p} {s = s} {m = m} {n = n} h (meets {x = x} {xs = xs} {es = es} input errors rest) (meets {es = fs} other others more) =
      let same = same_move reply_to after foreign ended alike blind table p m n x h in
      let behind_it = rows_agree same.like rest
      (rows_so reply_to after foreign table s x xs (is_dropped p x) (move reply_to after foreign table p m x).is_consumed (move reply_to after foreign table p n x).is_consumed
      same.place same.is_consumed more) in
      let here_too = told_both (is_dropped p x) (foreign m) (foreign n) p s x xs input other (blind.spaces m n h) errors others in (
        ap (λ l. l ++ es) here_too ∙ ap (λ l. told_by reply_to after foreign table (is_dropped p x) (foreign n) p s x other ++ l) behind_it.0,
        behind_it.1,
      )

  -- the sink's meaning after the held text
  abbrev whole : Reached M → M
  whole r = after_text after r.meaning r.text r.line

  whole_none : (r : Reached M) → r.text ≡ [] → whole r ≡ r.meaning
  whole_none r e = ap (λ l. after_text after r.meaning l r.line) e

  whole_some : (r : Reached M) (x : ℕ) (text : List ℕ) → r.text ≡ x ∷ text → whole r ≡ after r.meaning (Characters r.text) r.line
  whole_some r x text e = ap (λ l. after_text after r.meaning l r.line) e ∙ ap (λ l. after r.meaning (Characters l) r.line) (sym e)

  alike_so : {k m n : M} → k ≡ m → alike m n → alike k n
  alike_so {n = n} e h = subst (λ o. alike o n) (sym e) h

  -- a text that is emitted after what is held
  alike_emitting : (r : Reached M) (text : List ℕ) (n : M) → alike (after_text after r.meaning (r.text ++ text) r.line) n → alike (after_text after (whole r) text r.place.began) n
  alike_emitting r text n h =
      let all = after_text after r.meaning (r.text ++ text) r.line in
      let parts = after_text after (whole r) text r.place.began in
      blind.transitive parts all n (blind.symmetric all parts (text_cut reply_to after foreign ended alike blind r.meaning r.text text r.line r.line r.place.began)) h

  told_so : (told errors es : List LocatedError) → told ++ ((errors ++ []) ++ es) ≡ (told ++ errors) ++ es
  told_so told errors es = ap (λ l. told ++ (l ++ es)) (append-nil errors) ∙ sym (append_assoc told errors es)

  asked_so : (f : Bool) (told errors more es : List LocatedError) → told ++ ((errors ++ (if f then [] else more)) ++ es) ≡ (told ++ (if f then errors else errors ++ more)) ++ es
  asked_so true told errors more es = told_so told errors es
  asked_so false told errors more es = sym (append_assoc told (errors ++ more) es)

  -- what was reported up to here, and then what is reported row by row
  rows_before : {start r : Reached M} {told us : List LocatedError} {n : M} {q : ReaderPlace} {t : Spot} → Reaches table reply_to after foreign start r told
      → alike (whole r) n → TellsRows reply_to after foreign table r.place r.spot n r.rest us q t
      → TellsRows reply_to after foreign table start.place start.spot (whole start) start.rest (told ++ us) q t
  rows_before begins like rows = rows_alike like rows
  rows_before {us = us} {n = n} {q = q} {t = t} (drops {r} so on front d) like rows =
      rows_before so like (subst (λ l. TellsRows reply_to after foreign table r.place r.spot n l us q t) (sym front) (drops_row reply_to after foreign table d rows))
  rows_before {start = start} {us = us} {n = n} {q = q} {t = t} (goes {r} {told} {errors = errors} text state so met) like rows =
      let one = meets_row reply_to after foreign table (whole r) (Consumed text state) met (rows_alike (alike_emitting r text n like) rows) in
      subst (λ l. TellsRows reply_to after foreign table start.place start.spot (whole start) start.rest l q t) (told_so told errors us) (rows_before so (blind.reflexive (whole r)) one)
  rows_before {start = start} {us = us} {n = n} {q = q} {t = t} (again {r} {told} {errors = errors} text state so met) like rows =
      let before = subst (λ l. TellsRows reply_to after foreign table (in_state state r.place) (spot_again r.spot) n l us q t) met.front rows in
      let one = meets_row reply_to after foreign table (whole r) (Reconsumed text state) met (rows_alike (alike_emitting r text n like) before) in
      subst (λ l. TellsRows reply_to after foreign table start.place start.spot (whole start) start.rest l q t) (told_so told errors us) (rows_before so (blind.reflexive (whole r)) one)
  rows_before (hands_text {r} {x = x} {text = text} so on e) like rows = rows_before so (alike_so (whole_some r x text e) like) rows
  rows_before (hands_nothing {r} so on e) like rows = rows_before so (alike_so (whole_none r e) like) rows
  rows_before {start = start} {us = us} {q = q} {t = t} (hands_token {r} {told} {errors = errors} token state so e met) like rows =
      let one = meets_row reply_to after foreign table r.meaning (Emitted token state) met (rows_alike like rows) in
      subst (λ l. TellsRows reply_to after foreign table start.place start.spot (whole start) start.rest l q t) (told_so told errors us)
      (rows_before so (alike_so (whole_none r e) (blind.reflexive r.meaning)) one)
  rows_before {start = start} {us = us} {q = q} {t = t} (asks {r} {told} {errors = errors} there error elsewhere so e met) like rows =
      let one = meets_row reply_to after foreign table r.meaning (Asks there error elsewhere) met (rows_alike like rows) in
      subst (λ l. TellsRows reply_to after foreign table start.place start.spot (whole start) start.rest l q t)
      (asked_so (foreign r.meaning) told errors (told_at (here r) (error ∷ [])) us)
      (rows_before so (alike_so (whole_none r e) (blind.reflexive r.meaning)) one)

  rows_of_all : {p q r : ReaderPlace} {s t u : Spot} {m n k : M} {xs ys : List ℕ} {told us : List LocatedError} → Tellings table reply_to after foreign p s m xs told q t n ys → alike n k
      → TellsRows reply_to after foreign table q t k ys us r u → TellsRows reply_to after foreign table p s m xs (told ++ us) r u
  rows_of_all no_telling like rows = rows_alike like rows
  rows_of_all {p} {r = r} {s = s} {u = u} {m = m} {xs = xs} {us = us} (more_telling {n = n} {told = told} {errors = errors} {r = reached} tellings reaches taken none) like rows =
      subst (λ l. TellsRows reply_to after foreign table p s m xs l r u) (sym (append_assoc told errors us))
      (rows_of_all tellings (blind.reflexive n) (rows_before reaches (alike_so (whole_none reached none) like) rows))

  -- how an input is split doesn't matter
  pub told_agree : (p : ReaderPlace) (s : Spot) (m n : M) (xs : List ℕ) (told others : List LocatedError) → alike m n
      → TellsToEnd table reply_to after foreign p s m xs told → TellsToEnd table reply_to after foreign p s n xs others → told ≡ others
  told_agree p s m n xs told others like a b =
      let same = rows_agree like (rows_of_all a.tellings (blind.reflexive a.meaning) ends) (rows_of_all b.tellings (blind.reflexive b.meaning) ends) in
      let errors : a.errors ≡ b.errors = sym (append-nil a.errors) ∙ same.0 ∙ append-nil b.errors in
      a.told_are ∙ ap (λ l. l ++ told_at_end table a.place (position a.place.line a.spot)) errors
      ∙ ap (λ (q : ReaderPlace). b.errors ++ told_at_end table q (position q.line a.spot)) same.1.0
      ∙ ap (λ (t : Spot). b.errors ++ told_at_end table b.place (position b.place.line t)) same.1.1
      ∙ sym b.told_are

-- ---- chunks

module _ (table : List Reference) {M : Type 0} (reply_to : M → TokenText → Reply) (after : M → TokenText → ℕ → M) (foreign : M → Bool) where
  -- with more input after it
  pub tellings_go_on : {p q : ReaderPlace} {s t : Spot} {m n : M} {xs ys : List ℕ} {told : List LocatedError} (more : List ℕ)
      → Tellings table reply_to after foreign p s m xs told q t n ys → Tellings table reply_to after foreign p s m (xs ++ more) told q t n (ys ++ more)
  tellings_go_on more no_telling = no_telling
  tellings_go_on more (more_telling tellings reaches taken none) = more_telling (tellings_go_on more tellings) (reaches_goes_on table reply_to after foreign more reaches) taken none

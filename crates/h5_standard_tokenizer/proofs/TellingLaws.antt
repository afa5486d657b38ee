-- What the steps of the tokenizer that reports errors did, as a reading with its errors.
use Rattle.std.proofs.Common.{◌≡◌, ◌⊎◌, inl, inr, ℕ, ◌<◌, ◌≤◌, ◌==◌, Bool, true, false, true≢false, List, [], ◌∷◌, ◌++◌, refl, sym, ap, ◌∙◌, subst, arith, eq-eqb, ne_eqb, append-nil, append_assoc, drop, length, slice_index, Result, Ok, Err, Option, Some, None, if◌then◌else◌}
use Rattle.std.proofs.lemmas.Bool.{and_from, and_parts, eqb-true, le-leb, leb-true}
use Rattle.std.specs.Char.{IsScalar}
use Rattle.std.specs.Prelude.{OnOk, encode_utf8, nat_le}
use Rattle.std.specs.Borrow.{Bor}
use Rattle.std.specs.List.{list_all}
use Rattle.h5_token.specs.TokenText.{TokenText, Characters}
use Rattle.h5_token.specs.Reply.{Reply, Continues, Refuses}
use Rattle.h5_token.specs.declared.fault.BuildFault.{BuildFault}
use Rattle.h5_token.specs.declared.fault.BuildFault.TheVariants as fault
use Rattle.h5_tokenizer_input.specs.declared.stop.Stop.{Stop}
use Rattle.h5_tokenizer_spec.specs.declared.errors.ParseError.{ParseError}
use Rattle.h5_tokenizer_spec.specs.declared.errors.ParseError.TheVariants.{CdataInHtmlContent}
use Rattle.h5_tokenizer_spec.specs.declared.kinds.TextKind.TheVariants.{CdataSection}
use Rattle.h5_tokenizer_spec.specs.declared.position.Position.{Position}
use Rattle.h5_tokenizer_spec.specs.declared.position.Spot.{Spot}
use Rattle.h5_tokenizer_spec.specs.declared.position.LocatedError.{LocatedError}
use Rattle.h5_tokenizer_spec.specs.InputErrors.{InputErrors, character_errors, inside, not_new, of_character}
use Rattle.h5_tokenizer_spec.specs.Lines.{normal}
use Rattle.h5_tokenizer_spec.specs.Machine.{turn}
use Rattle.h5_tokenizer_spec.specs.ReferenceTable.{references}
use Rattle.h5_tokenizer_spec.specs.Reading as reading
use Rattle.h5_tokenizer_spec.specs.Reading.{ReaderPlace, Passes, passed, outcome, is_dropped, behind, behind_newline, in_state, after_token}
use Rattle.h5_tokenizer_spec.specs.Spots.{is_inside, position, spot_again, spot_behind, spot_behind_all, spot_past}
use Rattle.h5_tokenizer_spec.specs.States.{State, Text}
use Rattle.h5_tokenizer_spec.specs.SeenAhead.{seen_ahead, told_of_row}
use Rattle.h5_tokenizer_spec.specs.Telling.{Reached, begins, drops, goes, again, hands_text, hands_nothing, hands_token, asks, at_first, row_errors, told_at_byte}
use Rattle.h5_tokenizer_spec.specs.Told.{Tells, told_at}
use Rattle.h5_tokenizer_spec.specs.Turn.{Consumed, Reconsumed, Emitted, Asks}
use Rattle.h5_tokenizer_spec.proofs.ToldLaws.{input_first, none_at_byte, row_alone, row_first, tells_none, tells_twice}
use Rattle.h5_tokenizer_states.specs.MachineText.{MachineText, place_of, Completes, Consumes, Drops, IsQuiet, PassesRun, Reconsumes, Takes, Wonders}
use Rattle.h5_tokenizer_states.specs.declared.machine.Step.{Step}
use Rattle.h5_tokenizer_states.specs.declared.machine.Step.TheVariants as step
use Rattle.h5_tokenizer_states.specs.OutcomeOf.{made_of}
use Rattle.h5_tokenizer_states.specs.declared.transition.CurrentToken.{CurrentToken}
use Rattle.h5_tokenizer_states.specs.Wide.{takes_wide}
use Rattle.h5_standard_tokenizer.specs.Steps.{HandsOn, progress_of}
use Rattle.h5_standard_tokenizer.specs.Telling.{CameBefore, CameOn, CameRefused, CameSomewhere, up_to, with_byte, CameTo, FailsTelling, LeadsTelling, MakesTelling, TellsRow}
use Rattle.h5_standard_tokenizer.proofs.EncodingLaws.{first_same}
use Rattle.h5_standard_tokenizer.proofs.TakeLaws.{normal_wide}
use Rattle.h5_standard_tokenizer.proofs.WideRows.{WideRow, is_wide, wide_row, wide_so}

inside_is_wide : (x : ℕ) → is_inside x ≡ true → 128 ≤ x
inside_is_wide x h = leb-true 128 x (and_parts (nat_le 128 x) (nat_le x 191) h).0

-- the effect of the check of the adjusted current node
asked_place : (b : Bool) (n p : ReaderPlace) (x : ℕ) (elsewhere : State) → n ≡ behind x elsewhere p
    → (if b then in_state (Text CdataSection) n else n) ≡ behind x (if b then Text CdataSection else elsewhere) p
asked_place true n p x elsewhere e = ap (in_state (Text CdataSection)) e
asked_place false n p x elsewhere e = e

-- no such byte is dropped
drops_none : (p : ReaderPlace) (x : ℕ) → is_dropped p x ≡ true → 128 ≤ x → ⊥
drops_none p x d low = omega (arith, eqb-true x 10 (and_parts p.after_return (x == 10) d).1)

-- it is consumed, and the state after it takes such bytes as well
wide_at : (p : ReaderPlace) (x : ℕ) → is_wide p.state ≡ true → 128 ≤ x → WideRow (turn references p.last p.state (normal x))
wide_at p x wide low = wide_row p.last p.state (normal x) wide (subst (λ y. 128 ≤ y) (sym (normal_wide x low)) low)

wide_behind : (p : ReaderPlace) (x : ℕ) (text : List ℕ) (state : State) → is_wide p.state ≡ true → 128 ≤ x → outcome references p x ≡ Consumed text state → is_wide state ≡ true
wide_behind p x text state wide low e =
    let row = wide_at p x wide low in
    let both : Consumed row.text row.state ≡ Consumed text state = sym row.outcome ∙ e in
    let same : row.state ≡ state = cc in
    subst (λ t. is_wide t ≡ true) same row.wide

wide_stays : (p : ReaderPlace) (x : ℕ) (text : List ℕ) (state : State) → is_wide p.state ≡ true → 128 ≤ x → outcome references p x ≡ Reconsumed text state → ⊥
wide_stays p x text state wide low e =
    let row = wide_at p x wide low in
    let clash : Consumed row.text row.state ≡ Reconsumed text state = sym row.outcome ∙ e in
    cc

rest_same : {x y : ℕ} {xs ys : List ℕ} → x ∷ xs ≡ y ∷ ys → xs ≡ ys
rest_same e = cc

cons_is_some : (x : ℕ) (xs : List ℕ) → x ∷ xs ≡ [] → ⊥
cons_is_some x xs e = cc

-- Bytes outside ASCII: a state that takes one of them takes all.
abbrev are_wide : List ℕ → Bool
are_wide = list_all (λ x. nat_le 128 x)

wide_passes : {p q : ReaderPlace} {xs text ys : List ℕ} → Passes references p xs text q ys → are_wide xs ≡ true → is_wide p.state ≡ true → (is_wide q.state ≡ true) × (are_wide ys ≡ true)
wide_passes passed h wide = (wide, h)
wide_passes (reading.drops {p} {x = x} {xs = xs} d passes) h wide = absurd (drops_none p x d (leb-true 128 x (and_parts (nat_le 128 x) (are_wide xs) h).0))
wide_passes (reading.goes {p} {x = x} {xs = xs} t state d e passes) h wide =
    let w = and_parts (nat_le 128 x) (are_wide xs) h in
    wide_passes passes w.1 (wide_behind p x t state wide (leb-true 128 x w.0) e)
wide_passes (reading.again {p} {x = x} {xs = xs} t state d e passes) h wide = absurd (wide_stays p x t state wide (leb-true 128 x (and_parts (nat_le 128 x) (are_wide xs) h).0) e)

none_left : (ys : List ℕ) → are_wide ys ≡ true → (0 < length ys → slice_index ys 0 < 128) → ys ≡ []
none_left [] h small = refl
none_left (y ∷ ys) h small = absurd (omega (arith, small (omega arith), leb-true 128 y (and_parts (nat_le 128 y) (are_wide ys) h).0))

inside_all_wide : (xs : List ℕ) → list_all is_inside xs ≡ true → are_wide xs ≡ true
inside_all_wide [] h = refl
inside_all_wide (x ∷ xs) h =
    let w = and_parts (is_inside x) (list_all is_inside xs) h in
    and_from (nat_le 128 x) (are_wide xs) (and_parts (nat_le 128 x) (nat_le x 191) w.0).0 (inside_all_wide xs w.1)

-- a character is taken as a whole
pub taken_whole : (m n : MachineText) (x : ℕ) (xs front old new ys : List ℕ) → front ≡ x ∷ xs → 128 ≤ x → list_all is_inside xs ≡ true → takes_wide m.at ≡ true
    → (takes_wide n.at ≡ true → 0 < length ys → slice_index ys 0 < 128) → PassesRun m front old new n ys → PassesRun m front old new n []
taken_whole m n x xs front old new ys split low within wide narrow run =
    let all : are_wide front ≡ true = subst (λ l. are_wide l ≡ true) (sym split) (and_from (nat_le 128 x) (are_wide xs) (le-leb 128 x low) (inside_all_wide xs within)) in
    let there = wide_passes run.passes all (sym (wide_so m.at m.parts) ∙ wide) in
    let none = none_left ys there.1 (narrow (wide_so n.at n.parts ∙ there.0)) in
    subst (λ l. PassesRun m front old new n l) none run

-- what is reported at a byte, after these errors of the input
abbrev row_told : ReaderPlace → Spot → ℕ → List ParseError → List LocatedError
row_told p s x input = told_at_byte references p (position p.line s) x input

module _ {M : Type 0} (reply_to : M → TokenText → Reply) (after : M → TokenText → ℕ → M) (foreign : M → Bool) {E : Type 0} (told : E → List LocatedError → Type 0) (start : Reached M) (first : E) where
  -- a row is done whose errors were reported
  pub goes_before : {text : List ℕ} {line : ℕ} {p : ReaderPlace} {s : Spot} {m : M} {x : ℕ} {xs : List ℕ} {now : E} (more : List ℕ) (state : State)
      → CameBefore reply_to after foreign told start first text line p s m (x ∷ xs) x now → is_dropped p x ≡ false → outcome references p x ≡ Consumed more state
      → CameOn reply_to after foreign told start first (text ++ more) line (behind x state p) (spot_behind x s) m xs now
  goes_before {p = p} {s = s} {x = x} {now = now} more state h d e = record {
    reply = Continues;
    goes_on = refl;
    came = record {
      errors = h.on.came.errors ++ row_told p s x h.row.input;
      reaches = goes {errors = row_told p s x h.row.input} more state h.on.came.reaches (record { goes_on = h.on.goes_on; front = refl; not_dropped = d; outcome = e; input = h.row.input; input_errors = h.row.input_errors; errors_are = refl });
      tells = tells_twice told first h.old now h.on.came.errors (row_told p s x h.row.input) h.on.came.tells h.row.tells;
    };
  }

  pub again_before : {text : List ℕ} {line : ℕ} {p : ReaderPlace} {s : Spot} {m : M} {x : ℕ} {xs : List ℕ} {now : E} (more : List ℕ) (state : State)
      → CameBefore reply_to after foreign told start first text line p s m (x ∷ xs) x now → is_dropped p x ≡ false → outcome references p x ≡ Reconsumed more state
      → CameOn reply_to after foreign told start first (text ++ more) line (in_state state p) (spot_again s) m (x ∷ xs) now
  again_before {p = p} {s = s} {x = x} {now = now} more state h d e = record {
    reply = Continues;
    goes_on = refl;
    came = record {
      errors = h.on.came.errors ++ row_told p s x h.row.input;
      reaches = again {errors = row_told p s x h.row.input} more state h.on.came.reaches (record { goes_on = h.on.goes_on; front = refl; not_dropped = d; outcome = e; input = h.row.input; input_errors = h.row.input_errors; errors_are = refl });
      tells = tells_twice told first h.old now h.on.came.errors (row_told p s x h.row.input) h.on.came.tells h.row.tells;
    };
  }

  -- a LINE FEED is dropped
  pub drops_on : {text : List ℕ} {line : ℕ} {p : ReaderPlace} {s : Spot} {m : M} {x : ℕ} {xs : List ℕ} {now : E}
      → CameOn reply_to after foreign told start first text line p s m (x ∷ xs) now → is_dropped p x ≡ true
      → CameOn reply_to after foreign told start first text line (behind_newline p) (spot_past s) m xs now
  drops_on h d = record { reply = Continues; goes_on = refl; came = record { errors = h.came.errors; reaches = drops h.came.reaches h.goes_on refl d; tells = h.came.tells } }

  -- the held text is passed to the sink
  pub text_on : {line : ℕ} {p : ReaderPlace} {s : Spot} {m : M} {xs : List ℕ} {now : E} (x : ℕ) (text : List ℕ)
      → CameOn reply_to after foreign told start first (x ∷ text) line p s m xs now
      → CameTo reply_to after foreign told start first (reply_to m (Characters (x ∷ text))) p s (after m (Characters (x ∷ text)) line) xs now
  text_on x text h = record { errors = h.came.errors; reaches = hands_text h.came.reaches h.goes_on refl; tells = h.came.tells }

  -- no text is held
  pub nothing_on : {line : ℕ} {p : ReaderPlace} {s : Spot} {m : M} {xs : List ℕ} {now : E}
      → CameOn reply_to after foreign told start first [] line p s m xs now → CameOn reply_to after foreign told start first [] p.began p s m xs now
  nothing_on h = record { reply = Continues; goes_on = refl; came = record { errors = h.came.errors; reaches = hands_nothing h.came.reaches h.goes_on refl; tells = h.came.tells } }

  -- a token is passed to the sink
  pub token_before : {line : ℕ} {p : ReaderPlace} {s : Spot} {m : M} {x : ℕ} {xs : List ℕ} {now : E} (token : TokenText) (state : State)
      → CameBefore reply_to after foreign told start first [] line p s m (x ∷ xs) x now → is_dropped p x ≡ false → outcome references p x ≡ Emitted token state
      → CameTo reply_to after foreign told start first (reply_to m token) (after_token token (reply_to m token) (behind x state p)) (spot_behind x s) (after m token p.began) xs now
  token_before {p = p} {s = s} {x = x} {now = now} token state h d e = record {
    errors = h.on.came.errors ++ row_told p s x h.row.input;
    reaches = hands_token {errors = row_told p s x h.row.input} token state h.on.came.reaches refl (record { goes_on = h.on.goes_on; front = refl; not_dropped = d; outcome = e; input = h.row.input; input_errors = h.row.input_errors; errors_are = refl });
    tells = tells_twice told first h.old now h.on.came.errors (row_told p s x h.row.input) h.on.came.tells h.row.tells;
  }

  -- a byte inside a character has no errors, in a state that takes it as it is
  inside_before : {text : List ℕ} {line : ℕ} {p : ReaderPlace} {s : Spot} {m : M} {x : ℕ} {xs : List ℕ} {now : E} → is_wide p.state ≡ true → is_inside x ≡ true → s.is_new ≡ true
      → CameOn reply_to after foreign told start first text line p s m (x ∷ xs) now → CameBefore reply_to after foreign told start first text line p s m (x ∷ xs) x now
  inside_before {p = p} {s = s} {x = x} {xs = xs} {now = now} wide within new h =
      let low = inside_is_wide x within in
      let none : row_errors references p x ≡ [] = ap (λ y. (turn references p.last p.state y).errors) (normal_wide x low) ∙ (wide_row p.last p.state x wide low).none in
      record {
        old = now;
        on = h;
        row = record {
          input = [];
          input_errors = subst (λ b. InputErrors b (x ∷ xs) []) (sym new) (inside within);
          tells = subst (Tells told now now) (sym (none_at_byte references p (position p.line s) x none)) (tells_none told now);
        };
      }

  -- nothing is passed
  none_passes : {p : ReaderPlace} {text : List ℕ} {line : ℕ} {s : Spot} {m : M} {now : E} (xs rest : List ℕ) → xs ≡ []
      → CameOn reply_to after foreign told start first text line p s m (xs ++ rest) now
      → CameOn reply_to after foreign told start first (text ++ []) line p (spot_behind_all xs s) m rest now
  none_passes {p} {text} {line} {s} {m} {now} xs rest e h =
      subst (λ t. CameOn reply_to after foreign told start first t line p (spot_behind_all xs s) m rest now) (sym (append-nil text))
      (subst (λ l. CameOn reply_to after foreign told start first text line p (spot_behind_all l s) m rest now) (sym e)
      (subst (λ l. CameOn reply_to after foreign told start first text line p s m (l ++ rest) now) e h))

  -- the rest of a character is passed
  inside_passes : {p q : ReaderPlace} {xs more ys : List ℕ} {text : List ℕ} {line : ℕ} {s : Spot} {m : M} {now : E} (rest : List ℕ) → Passes references p xs more q ys → ys ≡ []
      → list_all is_inside xs ≡ true → is_wide p.state ≡ true → s.is_new ≡ true
      → CameOn reply_to after foreign told start first text line p s m (xs ++ rest) now
      → CameOn reply_to after foreign told start first (text ++ more) line q (spot_behind_all xs s) m rest now
  inside_passes {xs = xs} rest passed none within wide new h = none_passes xs rest none h
  inside_passes rest (reading.drops {p} {x} {xs} d passes) none within wide new h = absurd (drops_none p x d (inside_is_wide x (and_parts (is_inside x) (list_all is_inside xs) within).0))
  inside_passes rest (reading.goes {p} {x = x} {xs = xs} t state d e passes) none within wide new h =
      let w = and_parts (is_inside x) (list_all is_inside xs) within in
      let low = inside_is_wide x w.0 in
      rw (← append_assoc) (inside_passes rest passes none w.1 (wide_behind p x t state wide low e) refl (goes_before t state (inside_before wide w.0 new h) d e))
  inside_passes rest (reading.again {p} {x = x} {xs = xs} t state d e passes) none within wide new h =
      absurd (wide_stays p x t state wide (inside_is_wide x (and_parts (is_inside x) (list_all is_inside xs) within).0) e)

  -- a character is passed whose errors were reported
  character_passes : {p q : ReaderPlace} {front more ys : List ℕ} {text : List ℕ} {line : ℕ} {s : Spot} {m : M} {now : E} (x : ℕ) (xs rest : List ℕ) → Passes references p front more q ys → ys ≡ [] → front ≡ x ∷ xs
      → 128 ≤ x → list_all is_inside xs ≡ true → is_wide p.state ≡ true
      → CameBefore reply_to after foreign told start first text line p s m (x ∷ (xs ++ rest)) x now
      → CameOn reply_to after foreign told start first (text ++ more) line q (spot_behind_all (x ∷ xs) s) m rest now
  character_passes x xs rest passed none split low within wide h = absurd (cons_is_some x xs (sym split ∙ none))
  character_passes x xs rest (reading.drops {p} {x = y} d passes) none split low within wide h = absurd (drops_none p y d (subst (λ z. 128 ≤ z) (sym (first_same split)) low))
  character_passes {s = s} x xs rest (reading.goes {p} {q} {x = y} {xs = zs} {ys = ys} {more = more} t state d e passes) none split low within wide h =
      let same = first_same split in
      let d_so = subst (λ z. is_dropped p z ≡ false) same d in
      let e_so = subst (λ z. outcome references p z ≡ Consumed t state) same e in
      let passes_so = subst (λ z. Passes references (behind z state p) xs more q ys) same (subst (λ l. Passes references (behind y state p) l more q ys) (rest_same split) passes) in
      rw (← append_assoc) (inside_passes rest passes_so none within (wide_behind p x t state wide low e_so) refl (goes_before t state h d_so e_so))
  character_passes x xs rest (reading.again {p} {x = y} t state d e passes) none split low within wide h =
      absurd (wide_stays p y t state wide (subst (λ z. 128 ≤ z) (sym (first_same split)) low) e)

  -- as above, for a machine
  pub wide_on : (m n : MachineText) (x : ℕ) (xs rest front old new : List ℕ) (line : ℕ) (s : Spot) (l : M) (now : E) → front ≡ x ∷ xs → 128 ≤ x → list_all is_inside xs ≡ true → takes_wide m.at ≡ true
      → PassesRun m front old new n [] → CameBefore reply_to after foreign told start first old line (place_of m) s l (x ∷ (xs ++ rest)) x now
      → CameOn reply_to after foreign told start first new line (place_of n) (spot_behind_all front s) l rest now
  wide_on m n x xs rest front old new line s l now split low within wide run h =
      subst (λ f. CameOn reply_to after foreign told start first new line (place_of n) (spot_behind_all f s) l rest now) (sym split)
      (subst (λ t. CameOn reply_to after foreign told start first t line (place_of n) (spot_behind_all (x ∷ xs) s) l rest now) (sym run.put)
      (character_passes x xs rest run.passes refl split low within (sym (wide_so m.at m.parts) ∙ wide) h))

  -- in other words
  pub came_so : {text other : List ℕ} {line : ℕ} {p q : ReaderPlace} {s : Spot} {m : M} {xs ys : List ℕ} {now : E} → other ≡ text → q ≡ p → ys ≡ xs
      → CameOn reply_to after foreign told start first text line p s m xs now → CameOn reply_to after foreign told start first other line q s m ys now
  came_so {text} {other} {line} {p} {q} {s} {m} {xs} {ys} {now} e f g h =
      subst (λ t. CameOn reply_to after foreign told start first t line q s m ys now) (sym e)
      (subst (λ r. CameOn reply_to after foreign told start first text line r s m ys now) (sym f)
      (subst (λ l. CameOn reply_to after foreign told start first text line p s m l now) (sym g) h))

  pub answered_so : {p q : ReaderPlace} {s : Spot} {k l : M} {xs : List ℕ} {reply other : Reply} {now : E} → reply ≡ other → q ≡ p → k ≡ l
      → CameTo reply_to after foreign told start first reply p s l xs now → CameTo reply_to after foreign told start first other q s k xs now
  answered_so {p} {q} {s} {k} {l} {xs} {reply} {other} {now} e f g h =
      subst (λ n. CameTo reply_to after foreign told start first other q s n xs now) (sym g)
      (subst (λ r. CameTo reply_to after foreign told start first other r s l xs now) (sym f)
      (subst (λ a. CameTo reply_to after foreign told start first a p s l xs now) e h))

  refused_so : {p : ReaderPlace} {s : Spot} {k l : M} {xs : List ℕ} {reply : Reply} {now : E} (f : BuildFault) → (reply ≡ Refuses f) × (k ≡ l)
      → CameTo reply_to after foreign told start first reply p s l xs now → CameRefused reply_to after foreign told start first k now f
  refused_so {p = p} {s = s} {xs = xs} f e h = record { place = p; spot = s; rest = xs; came = answered_so e.0 refl e.1 h }

  -- the effect of the reply to a token, from a place
  pub leads_telling : {H : Type 0} (node : H → ℕ) (s : Spot) (l : M) (xs : List ℕ) (now : E) (token : TokenText) (line : ℕ) (r q : ReaderPlace) (k : M) (result : Result (Option (Stop H)) BuildFault)
      → CameTo reply_to after foreign told start first (reply_to l token) (after_token token (reply_to l token) r) s (after l token line) xs now
      → HandsOn reply_to after node r l token line q k result → LeadsTelling reply_to after foreign told start first node [] q.began q s k xs now result
  leads_telling node s l xs now token line r q k (Ok None) h e = record { reply = reply_to l token; goes_on = e.answer; came = answered_so refl e.place e.meaning h }
  leads_telling node s l xs now token line r q k (Ok (Some stop)) h e = answered_so e.answer e.place e.meaning h
  leads_telling node s l xs now token line r q k (Err fault.Memory) h e = up_to h
  leads_telling node s l xs now token line r q k (Err fault.AfterEnd) h e = refused_so fault.AfterEnd e h
  leads_telling node s l xs now token line r q k (Err fault.NotInText) h e = refused_so fault.NotInText e h
  leads_telling node s l xs now token line r q k (Err fault.Failed) h e = refused_so fault.Failed e h

  -- the held text is passed to the sink, if there is any
  pub text_leads_telling : {H : Type 0} (node : H → ℕ) {p : ReaderPlace} {s : Spot} {m : M} {xs : List ℕ} {now : E} {line : ℕ} (text : List ℕ) (k : M) (result : Result (Option (Stop H)) BuildFault)
      → (text ≡ [] → ⊥) → CameOn reply_to after foreign told start first text line p s m xs now → HandsOn reply_to after node p m (Characters text) line p k result
      → LeadsTelling reply_to after foreign told start first node [] p.began p s k xs now result
  text_leads_telling node [] k result some h e = absurd (some refl)
  text_leads_telling node {p} {s} {m} {xs} {now} {line} (x ∷ text) k result some h e = leads_telling node s m xs now (Characters (x ∷ text)) line p p k result (text_on x text h) e

  pub none_leads_telling : {p : ReaderPlace} {s : Spot} {m : M} {xs : List ℕ} {now : E} {line : ℕ} (text : List ℕ) → text ≡ [] → CameOn reply_to after foreign told start first text line p s m xs now
      → CameOn reply_to after foreign told start first [] p.began p s m xs now
  none_leads_telling {p} {s} {m} {xs} {now} {line} text e h = nothing_on (subst (λ t. CameOn reply_to after foreign told start first t line p s m xs now) e h)

  asked_errors : (b : Bool) (at : Position) (es : List LocatedError) (e : ParseError) → es ++ told_at at (if b then [] else e ∷ []) ≡ (if b then es else es ++ told_at at (e ∷ []))
  asked_errors true at es e = append-nil es
  asked_errors false at es e = refl

  -- the adjusted current node is checked
  pub asks_before : {line : ℕ} {p : ReaderPlace} {s : Spot} {m : M} {x : ℕ} {xs : List ℕ} {now : E} (later : E) (there : State) (error : ParseError) (elsewhere : State)
      → CameBefore reply_to after foreign told start first [] line p s m (x ∷ xs) x now → is_dropped p x ≡ false → outcome references p x ≡ Asks there error elsewhere
      → Tells told now later (told_at (position p.line s) (if foreign m then [] else error ∷ []))
      → CameOn reply_to after foreign told start first [] (behind x (if foreign m then there else elsewhere) p).began (behind x (if foreign m then there else elsewhere) p) (spot_behind x s) m xs later
  asks_before {p = p} {s = s} {m = m} {x = x} {now = now} later there error elsewhere h d e asked =
      let at = position p.line s in
      let es = row_told p s x h.row.input in
      let more = told_at at (if foreign m then [] else error ∷ []) in
      let before = tells_twice told first h.old now h.on.came.errors es h.on.came.tells h.row.tells in
      let all = tells_twice told first now later (h.on.came.errors ++ es) more before asked in
      record {
        reply = Continues;
        goes_on = refl;
        came = record {
          errors = h.on.came.errors ++ (if foreign m then es else es ++ told_at at (error ∷ []));
          reaches = asks {errors = es} there error elsewhere h.on.came.reaches refl (record { goes_on = h.on.goes_on; front = refl; not_dropped = d; outcome = e; input = h.row.input; input_errors = h.row.input_errors; errors_are = refl });
          tells = subst (Tells told first later) (append_assoc h.on.came.errors es more ∙ ap (λ l. h.on.came.errors ++ l) (asked_errors (foreign m) at es error)) all;
        };
      }

  -- A machine takes the first byte of a suffix, whose errors were reported.
  at_front : {text : List ℕ} {line : ℕ} {p : ReaderPlace} {s : Spot} {l : M} {x : ℕ} {now : E} (rest : List ℕ) → rest ≡ x ∷ drop 1 rest
      → CameBefore reply_to after foreign told start first text line p s l rest x now → CameBefore reply_to after foreign told start first text line p s l (x ∷ drop 1 rest) x now
  at_front {text} {line} {p} {s} {l} {x} {now} rest front h = subst (λ r. CameBefore reply_to after foreign told start first text line p s l r x now) front h

  -- and an allocation fails
  pub fails_at_byte : {text : List ℕ} {line : ℕ} {p : ReaderPlace} {s : Spot} {l : M} {x : ℕ} {now : E} (rest : List ℕ) → rest ≡ x ∷ drop 1 rest → is_dropped p x ≡ false
      → CameBefore reply_to after foreign told start first text line p s l rest x now → CameSomewhere reply_to after foreign told start first now
  fails_at_byte rest front kept h = with_byte (at_front rest front h) kept

  with_spot : {text : List ℕ} {line : ℕ} {p : ReaderPlace} {s t : Spot} {m : M} {xs : List ℕ} {now : E} → t ≡ s → CameOn reply_to after foreign told start first text line p s m xs now
      → CameOn reply_to after foreign told start first text line p t m xs now
  with_spot {text} {line} {p} {s} {t} {m} {xs} {now} e h = subst (λ r. CameOn reply_to after foreign told start first text line p r m xs now) (sym e) h

  pub tells_reconsumed : (m n : MachineText) (x : ℕ) (old new rest : List ℕ) (line : ℕ) (s t : Spot) (l : M) (now : E) → rest ≡ x ∷ drop 1 rest → t ≡ spot_again s → Reconsumes m x old new n
      → CameBefore reply_to after foreign told start first old line (place_of m) s l rest x now → CameOn reply_to after foreign told start first new line (place_of n) t l rest now
  tells_reconsumed m n x old new rest line s t l now front e c h =
      with_spot e (came_so c.put c.place front (again_before c.text c.state (at_front rest front h) c.not_dropped c.outcome))

  pub tells_consumed : (m n : MachineText) (x : ℕ) (old new rest behind_it : List ℕ) (line : ℕ) (s t : Spot) (l : M) (now : E) → rest ≡ x ∷ drop 1 rest → behind_it ≡ drop 1 rest → t ≡ spot_behind x s
      → is_dropped (place_of m) x ≡ false → Consumes m x old new n ⊎ Drops m x old new n
      → CameBefore reply_to after foreign told start first old line (place_of m) s l rest x now → CameOn reply_to after foreign told start first new line (place_of n) t l behind_it now
  tells_consumed m n x old new rest behind_it line s t l now front e f kept (inl c) h =
      with_spot f (came_so c.put c.place e (goes_before c.text c.state (at_front rest front h) c.not_dropped c.outcome))
  tells_consumed m n x old new rest behind_it line s t l now front e f kept (inr c) h = absurd (true≢false (sym c.dropped ∙ kept))

  pub tells_dropped : (m n : MachineText) (x : ℕ) (old new rest behind_it : List ℕ) (line : ℕ) (s t : Spot) (l : M) (now : E) → rest ≡ x ∷ drop 1 rest → behind_it ≡ drop 1 rest → t ≡ spot_past s → Drops m x old new n
      → CameOn reply_to after foreign told start first old line (place_of m) s l rest now → CameOn reply_to after foreign told start first new line (place_of n) t l behind_it now
  tells_dropped m n x old new rest behind_it line s t l now front e f c h =
      with_spot f (came_so c.put c.place e (drops_on (subst (λ r. CameOn reply_to after foreign told start first old line (place_of m) s l r now) front h) c.dropped))

  with_none : {text : List ℕ} {line : ℕ} {p : ReaderPlace} {s : Spot} {l : M} {xs : List ℕ} {x : ℕ} {now : E} → text ≡ []
      → CameBefore reply_to after foreign told start first text line p s l xs x now → CameBefore reply_to after foreign told start first [] line p s l xs x now
  with_none {line = line} {p} {s} {l} {xs} {x} {now} e h = subst (λ t. CameBefore reply_to after foreign told start first t line p s l xs x now) e h

  none_is_held : (m : MachineText) (x : ℕ) (old : List ℕ) → (IsQuiet (outcome references (place_of m) x) → ⊥) → IsQuiet (outcome references (place_of m) x) ⊎ (old ≡ []) → old ≡ []
  none_is_held m x old loud (inl quiet) = absurd (loud quiet)
  none_is_held m x old loud (inr none) = none

  pub tells_token : {H : Type 0} (node : H → ℕ) (m n : MachineText) (x line : ℕ) (old new rest behind_it : List ℕ) (held : ℕ) (s t : Spot) (l o : M) (q : ReaderPlace) (now : E) (construct : CurrentToken) (result : Result (Option (Stop H)) BuildFault)
      → rest ≡ x ∷ drop 1 rest → behind_it ≡ drop 1 rest → t ≡ spot_behind x s → (c : Completes m x old new n construct line) → IsQuiet (outcome references (place_of m) x) ⊎ (old ≡ [])
      → CameBefore reply_to after foreign told start first old held (place_of m) s l rest x now
      → HandsOn reply_to after node (place_of n) l (made_of construct n.parts) line q o result
      → LeadsTelling reply_to after foreign told start first node [] q.began q t o behind_it now result
  tells_token node m n x line old new rest behind_it held s t l o q now construct result front e f c quiet h handed =
      let none = none_is_held m x old (λ loud. subst IsQuiet c.outcome loud) quiet in
      let token = made_of construct n.parts in
      let came = token_before token (Text c.kind) (with_none none (at_front rest front h)) c.not_dropped c.outcome in
      let so = subst (λ r. HandsOn reply_to after node r l token (place_of m).began q o result) c.place (subst (λ i. HandsOn reply_to after node (place_of n) l token i q o result) c.line handed) in
      subst (λ z. LeadsTelling reply_to after foreign told start first node [] q.began q z o behind_it now result) (sym f)
      (subst (λ z. LeadsTelling reply_to after foreign told start first node [] q.began q (spot_behind x s) o z now result) (sym e)
      (leads_telling node (spot_behind x s) l (drop 1 rest) now token (place_of m).began (behind x (Text c.kind) (place_of m)) q o result came so))

  pub tells_question : (m n : MachineText) (x : ℕ) (old new rest behind_it : List ℕ) (held began : ℕ) (s t : Spot) (l : M) (q : ReaderPlace) (now later : E) (at : Position)
      → rest ≡ x ∷ drop 1 rest → behind_it ≡ drop 1 rest → t ≡ spot_behind x s → at ≡ position (place_of m).line s → began ≡ q.began
      → (c : Wonders m x old new n) → IsQuiet (outcome references (place_of m) x) ⊎ (old ≡ [])
      → q ≡ (if foreign l then in_state (Text CdataSection) (place_of n) else place_of n)
      → Tells told now later (told_at at (if foreign l then [] else CdataInHtmlContent ∷ []))
      → CameBefore reply_to after foreign told start first old held (place_of m) s l rest x now
      → CameOn reply_to after foreign told start first new began q t l behind_it later
  tells_question m n x old new rest behind_it held began s t l q now later at front e f a i c quiet g asked h =
      let none = none_is_held m x old (λ loud. subst IsQuiet c.outcome loud) quiet in
      let so = subst (λ z. Tells told now later (told_at z (if foreign l then [] else CdataInHtmlContent ∷ []))) a asked in
      let came = asks_before later (Text CdataSection) CdataInHtmlContent c.elsewhere (with_none none (at_front rest front h)) c.not_dropped c.outcome so in
      let same = g ∙ asked_place (foreign l) (place_of n) (place_of m) x c.elsewhere c.place in
      with_spot f
      (subst (λ j. CameOn reply_to after foreign told start first new j q (spot_behind x s) l behind_it later) (sym (i ∙ ap (λ (r : ReaderPlace). r.began) same))
      (came_so (c.put ∙ none) same e came))

  -- and then a step stops, fails or goes on
  pub fails_telling : {H : Type 0} (node : H → ℕ) (m n : MachineText) (x line : ℕ) (old new rest : List ℕ) (held : ℕ) (s t : Spot) (l o : M) (q : ReaderPlace) (now : E) (construct : CurrentToken) (f : BuildFault)
      → rest ≡ x ∷ drop 1 rest → t ≡ spot_behind x s → (c : Completes m x old new n construct line) → IsQuiet (outcome references (place_of m) x) ⊎ (old ≡ [])
      → CameBefore reply_to after foreign told start first old held (place_of m) s l rest x now
      → HandsOn reply_to after node (place_of n) l (made_of construct n.parts) line q o (Err f) → FailsTelling reply_to after foreign told start first o now f
  fails_telling node m n x line old new rest held s t l o q now construct f front e c quiet h handed =
      tells_token node m n x line old new rest (drop 1 rest) held s t l o q now construct (Err f) front refl e c quiet h handed

  turned : {H : Type 0} (node : H → ℕ) (q : ReaderPlace) (t : Spot) (o : M) (now : E) (text : List ℕ) (began : ℕ) (stopped : Option (Stop H)) (behind_it : Bor (List ℕ)) → text ≡ [] → began ≡ q.began
      → LeadsTelling reply_to after foreign told start first node [] q.began q t o behind_it.now now (Ok stopped)
      → MakesTelling reply_to after foreign told start first node text began q t o now (Ok (progress_of stopped behind_it))
  turned node q t o now text began None behind_it e f h =
      subst (λ i. CameOn reply_to after foreign told start first text i q t o behind_it.now now) (sym f) (came_so e refl refl h)
  turned node q t o now text began (Some stop) behind_it e f h = h

  pub turns_telling : {H : Type 0} (node : H → ℕ) (m n : MachineText) (x line began : ℕ) (old new rest : List ℕ) (held : ℕ) (s t : Spot) (l o : M) (q : ReaderPlace) (now : E) (construct : CurrentToken) (stopped : Option (Stop H)) (behind_it : Bor (List ℕ))
      → rest ≡ x ∷ drop 1 rest → behind_it.now ≡ drop 1 rest → t ≡ spot_behind x s → began ≡ q.began → (c : Completes m x old new n construct line) → IsQuiet (outcome references (place_of m) x) ⊎ (old ≡ [])
      → CameBefore reply_to after foreign told start first old held (place_of m) s l rest x now
      → HandsOn reply_to after node (place_of n) l (made_of construct n.parts) line q o (Ok stopped)
      → MakesTelling reply_to after foreign told start first node new began q t o now (Ok (progress_of stopped behind_it))
  turns_telling node m n x line began old new rest held s t l o q now construct stopped behind_it front e f i c quiet h handed =
      turned node q t o now new began stopped behind_it (c.put ∙ none_is_held m x old (λ loud. subst IsQuiet c.outcome loud) quiet) i
      (tells_token node m n x line old new rest behind_it.now held s t l o q now construct (Ok stopped) front e f c quiet h handed)

  pub in_other_words : {H : Type 0} (node : H → ℕ) (p : ReaderPlace) (s : Spot) (m : M) (xs : List ℕ) (now : E) (text : List ℕ) (line : ℕ) (result : Result (Option (Stop H)) BuildFault) → OnOk result (text ≡ []) → line ≡ p.began
      → LeadsTelling reply_to after foreign told start first node [] p.began p s m xs now result → LeadsTelling reply_to after foreign told start first node text line p s m xs now result
  in_other_words node p s m xs now text line (Ok None) e f h = subst (λ i. CameOn reply_to after foreign told start first text i p s m xs now) (sym f) (came_so e refl refl h)
  in_other_words node p s m xs now text line (Ok (Some stop)) e f h = h
  in_other_words node p s m xs now text line (Err f) e g h = h

  -- a character outside ASCII is taken, whose errors were reported
  pub wide_tells : (m n : MachineText) (x : ℕ) (others front rest behind_it old new : List ℕ) (line : ℕ) (s t : Spot) (l : M) (old_errors now : E) → rest ≡ front ++ behind_it → front ≡ x ∷ others → 128 ≤ x → list_all is_inside others ≡ true
      → takes_wide m.at ≡ true → PassesRun m front old new n [] → t ≡ spot_behind_all front s
      → CameOn reply_to after foreign told start first old line (place_of m) s l rest old_errors → TellsRow told old_errors now (place_of m) s rest x
      → CameOn reply_to after foreign told start first new line (place_of n) t l behind_it now
  wide_tells m n x others front rest behind_it old new line s t l old_errors now whole split low within wide run e h row =
      let same : rest ≡ x ∷ (others ++ behind_it) = whole ∙ ap (λ r. r ++ behind_it) split in
      with_spot e
      (wide_on m n x others behind_it front old new line s l now split low within wide run
      (record {
        old = old_errors;
        on = subst (λ r. CameOn reply_to after foreign told start first old line (place_of m) s l r old_errors) same h;
        row = subst (λ r. TellsRow told old_errors now (place_of m) s r x) same row;
      }))

-- the errors at a character whose first byte is new, and at another byte
new_so : {E : Type 0} (told : E → List LocatedError → Type 0) (old new : E) (p : ReaderPlace) (s : Spot) (x c : ℕ) (at : Position) (xs behind_it : List ℕ) → at ≡ position p.line s → s.is_new ≡ true → IsScalar c → xs ≡ encode_utf8 c ++ behind_it
    → Tells told old new (told_at_byte references p at x (character_errors c)) → TellsRow told old new p s xs x
new_so told old new p s x c at xs behind_it place is_new scalar split tells = record {
  input = character_errors c;
  input_errors = subst (λ b. InputErrors b xs (character_errors c)) (sym is_new) (of_character c behind_it scalar split);
  tells = subst (λ a. Tells told old new (told_at_byte references p a x (character_errors c))) place tells;
}

pub tells_new : {E : Type 0} (told : E → List LocatedError → Type 0) (old mid new : E) (p : ReaderPlace) (s : Spot) (x c : ℕ) (at : Position) (xs behind_it : List ℕ) → at ≡ position p.line s → s.is_new ≡ true → IsScalar c → xs ≡ encode_utf8 c ++ behind_it
    → seen_ahead references p.state ≡ 0
    → Tells told old mid (told_at at (character_errors c)) → Tells told mid new (told_of_row (seen_ahead references p.state) at (row_errors references p x)) → TellsRow told old new p s xs x
tells_new told old mid new p s x c at xs behind_it place is_new scalar split none one two =
    let input = told_at at (character_errors c) in
    let row = told_of_row (seen_ahead references p.state) at (row_errors references p x) in
    new_so told old new p s x c at xs behind_it place is_new scalar split
    (subst (Tells told old new) (sym (input_first (seen_ahead references p.state) input row (eq-eqb (seen_ahead references p.state) 0 none))) (tells_twice told old mid new input row one two))

pub tells_ahead : {E : Type 0} (told : E → List LocatedError → Type 0) (old mid new : E) (p : ReaderPlace) (s : Spot) (x c : ℕ) (at : Position) (xs behind_it : List ℕ) → at ≡ position p.line s → s.is_new ≡ true → IsScalar c → xs ≡ encode_utf8 c ++ behind_it
    → (seen_ahead references p.state ≡ 0 → ⊥)
    → Tells told old mid (told_of_row (seen_ahead references p.state) at (row_errors references p x)) → Tells told mid new (told_at at (character_errors c)) → TellsRow told old new p s xs x
tells_ahead told old mid new p s x c at xs behind_it place is_new scalar split some one two =
    let input = told_at at (character_errors c) in
    let row = told_of_row (seen_ahead references p.state) at (row_errors references p x) in
    new_so told old new p s x c at xs behind_it place is_new scalar split
    (subst (Tells told old new) (sym (row_first (seen_ahead references p.state) input row (ne_eqb (seen_ahead references p.state) 0 some))) (tells_twice told old mid new row input one two))

pub tells_again : {E : Type 0} (told : E → List LocatedError → Type 0) (old new : E) (p : ReaderPlace) (s : Spot) (x : ℕ) (at : Position) (xs : List ℕ) → at ≡ position p.line s → s.is_new ≡ false
    → Tells told old new (told_of_row (seen_ahead references p.state) at (row_errors references p x)) → TellsRow told old new p s xs x
tells_again told old new p s x at xs place is_new tells = record {
  input = [];
  input_errors = subst (λ b. InputErrors b xs []) (sym is_new) not_new;
  tells = subst (λ a. Tells told old new (told_at_byte references p a x [])) place (subst (Tells told old new) (sym (row_alone references p at x)) tells);
}

-- what is taken at a LINE FEED that is dropped
pub drops_only : (m n : MachineText) (x : ℕ) (old new : List ℕ) (taken : Step) → is_dropped (place_of m) x ≡ true → Takes m x old new n taken → Drops m x old new n
drops_only m n x old new step.Consumed d (inl c) = absurd (true≢false (sym d ∙ c.not_dropped))
drops_only m n x old new step.Consumed d (inr c) = c
drops_only m n x old new step.Reconsumed d c = absurd (true≢false (sym d ∙ c.not_dropped))
drops_only m n x old new (step.Emitted construct line) d c = absurd (true≢false (sym d ∙ c.not_dropped))
drops_only m n x old new step.Asks d c = absurd (true≢false (sym d ∙ c.not_dropped))

pub dropped_is_ascii : (m : MachineText) (x : ℕ) → is_dropped (place_of m) x ≡ true → x < 128
dropped_is_ascii m x d = omega (arith, eqb-true x 10 (and_parts m.after_return (x == 10) d).1)

-- nothing was read
pub begins_here : {M : Type 0} (reply_to : M → TokenText → Reply) (after : M → TokenText → ℕ → M) (foreign : M → Bool) {E : Type 0} (told : E → List LocatedError → Type 0) (p : ReaderPlace) (s : Spot) (m : M) (xs : List ℕ) (now : E) (text : List ℕ) (line : ℕ)
    → text ≡ [] → line ≡ p.began → CameOn reply_to after foreign told (at_first p s m xs) now text line p s m xs now
begins_here reply_to after foreign told p s m xs now text line e f =
    subst (λ t. CameOn reply_to after foreign told (at_first p s m xs) now t line p s m xs now) (sym e)
    (subst (λ i. CameOn reply_to after foreign told (at_first p s m xs) now [] i p s m xs now) (sym f)
    (record { reply = Continues; goes_on = refl; came = record { errors = []; reaches = begins; tells = tells_none told now } }))

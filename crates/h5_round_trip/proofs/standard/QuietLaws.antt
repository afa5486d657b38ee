-- Rows without errors report none for a text without errors of the input stream.
use Rattle.std.proofs.Common.{◌≡◌, ◌≤◌, ℕ, Bool, true, false, List, [], ◌∷◌, ◌++◌, refl, sym, ap, subst, ◌∙◌, append-nil, append_assoc, arith, ⊎_elim, ◌&&◌}
use Rattle.std.proofs.lemmas.Bool.{cases_lt}
use Rattle.std.proofs.lemmas.Str.{encode_ascii}
use Rattle.std.specs.Char.{encode_utf8}
use Rattle.std.specs.List.{list_all}
use Rattle.h5_token.specs.TokenText.{TokenText, Characters}
use Rattle.h5_token.specs.Reply.{Reply, Continues}
use Rattle.h5_tokenizer_input.specs.Answers.{goes_on}
use Rattle.h5_serialize.proofs.EscapeLaws.{AreAbove, above_encode}
use Rattle.h5_round_trip.proofs.CharLaws.{byte_some}
use Rattle.h5_tokenizer_spec.specs.declared.position.Spot.{Spot}
use Rattle.h5_tokenizer_spec.specs.InputErrors.{InputErrors, inside, not_new, of_character}
use Rattle.h5_tokenizer_spec.specs.Lines.{normal}
use Rattle.h5_tokenizer_spec.specs.Machine.{turn}
use Rattle.h5_tokenizer_spec.specs.Reading as reading
use Rattle.h5_tokenizer_spec.specs.Reading.{Passes, ReaderPlace, after_token, behind, in_state, is_dropped, passed}
use Rattle.h5_tokenizer_spec.specs.ReferenceTable.{references}
use Rattle.h5_tokenizer_spec.specs.Spots.{is_inside, position, spot_again, spot_behind}
use Rattle.h5_tokenizer_spec.specs.States.{State}
use Rattle.h5_tokenizer_spec.specs.Telling.{Reached, Reaches, again, at_first, begins, goes, hands_nothing, hands_text, hands_token, row_errors, told_at_byte}
use Rattle.h5_tokenizer_spec.specs.Turn.{Consumed, Emitted, Outcome, Reconsumed, Turn}
use Rattle.h5_tokenizer_spec.specs.WithoutErrors.{HasNoInputErrors, a_character, no_character}
use Rattle.h5_tokenizer_spec.proofs.ToldLaws.{none_at_byte}
use Rattle.h5_standard_tokenizer.proofs.EncodingLaws.{WideCharacter, encoded_wide, first_same}

-- a row without errors
abbrev pub quiet : Outcome → Turn
quiet deed = record { errors = []; outcome = deed }

-- the row at a place
abbrev pub row_at : ReaderPlace → ℕ → Turn
row_at p x = turn references p.last p.state (normal x)

-- Bytes are passed by rows without errors. None is a LINE FEED that is dropped.
pub data PassesQuietly : ReaderPlace → List ℕ → List ℕ → ReaderPlace → List ℕ → Type 0 where
  quietly_passed : {p : ReaderPlace} {xs : List ℕ} → PassesQuietly p xs [] p xs
  quietly_goes : {p q : ReaderPlace} {x : ℕ} {xs ys more : List ℕ} (text : List ℕ) (state : State) → is_dropped p x ≡ false → row_at p x ≡ quiet (Consumed text state)
      → PassesQuietly (behind x state p) xs more q ys → PassesQuietly p (x ∷ xs) (text ++ more) q ys
  quietly_again : {p q : ReaderPlace} {x : ℕ} {xs ys more : List ℕ} (text : List ℕ) (state : State) → is_dropped p x ≡ false → row_at p x ≡ quiet (Reconsumed text state)
      → PassesQuietly (in_state state p) (x ∷ xs) more q ys → PassesQuietly p (x ∷ xs) (text ++ more) q ys

pub outcome_of : {t : Turn} {deed : Outcome} → t ≡ quiet deed → t.outcome ≡ deed
outcome_of e = ap (λ (t : Turn). t.outcome) e

-- so they are passed
pub passes_of : {p q : ReaderPlace} {xs text ys : List ℕ} → PassesQuietly p xs text q ys → Passes references p xs text q ys
passes_of quietly_passed = passed
passes_of (quietly_goes text state d e h) = reading.goes text state d (outcome_of e) (passes_of h)
passes_of (quietly_again text state d e h) = reading.again text state d (outcome_of e) (passes_of h)

pub quietly_more : {p q r : ReaderPlace} {xs ys zs text more : List ℕ} → PassesQuietly p xs text q ys → PassesQuietly q ys more r zs → PassesQuietly p xs (text ++ more) r zs
quietly_more quietly_passed h = h
quietly_more (quietly_goes text state d e g) h = rw append_assoc (quietly_goes text state d e (quietly_more g h))
quietly_more (quietly_again text state d e g) h = rw append_assoc (quietly_again text state d e (quietly_more g h))

-- ---- a text without errors of the input stream, byte by byte

-- from the first byte of a character on, or from one inside
pub data IsLeft : List ℕ → Type 0 where
  from_first : {xs : List ℕ} → HasNoInputErrors xs → IsLeft xs
  from_inside : {x : ℕ} {xs : List ℕ} → is_inside x ≡ true → IsLeft xs → IsLeft (x ∷ xs)

both : (a b : Bool) → a && b ≡ true → (a ≡ true) × (b ≡ true)
both true b e = (refl, e)
both false b e = cc

others_left : (xs rest : List ℕ) → list_all is_inside xs ≡ true → HasNoInputErrors rest → IsLeft (xs ++ rest)
others_left [] rest e h = from_first h
others_left (x ∷ xs) rest e h = let w = both (is_inside x) (list_all is_inside xs) e in from_inside w.0 (others_left xs rest w.1 h)

-- the first byte of a character, and the others
first_high : (c b : ℕ) (behind tail bytes : List ℕ) → encode_utf8 c ≡ bytes → bytes ++ behind ≡ b ∷ tail → AreAbove 127 bytes → 128 ≤ b
first_high c b behind tail [] f e above = absurd (byte_some c f)
first_high c b behind tail (x ∷ bytes) f e above = let same : x ≡ b = first_same e in omega (arith, above.0, same)

first_byte : (c b : ℕ) (behind tail : List ℕ) → encode_utf8 c ++ behind ≡ b ∷ tail → WideCharacter (encode_utf8 c) b
first_byte c b behind tail e =
    ⊎_elim (λ low.
    let one = encode_ascii c low in
    let same : c ≡ b = first_same (ap (λ l. l ++ behind) (sym one) ∙ e) in
    record { others = []; split = one ∙ ap (λ x. x ∷ []) same; within = refl })
    (λ high. encoded_wide c b behind tail e (first_high c b behind tail (encode_utf8 c) refl e (above_encode 127 c (omega arith) high)))
    (cases_lt c 128)

others_same : {x y : ℕ} {xs ys : List ℕ} → x ∷ xs ≡ y ∷ ys → xs ≡ ys
others_same e = cc

-- a new byte has no errors, and after it such a text goes on
new_byte : (x : ℕ) (xs ys : List ℕ) → ys ≡ x ∷ xs → IsLeft ys → InputErrors true (x ∷ xs) [] × IsLeft xs
new_byte x xs ys front (from_inside {x = y} {xs = zs} e left) =
    (inside (subst (λ b. is_inside b ≡ true) (first_same front) e), subst IsLeft (others_same front) left)
new_byte x xs ys front (from_first h) = of_text ys front h
  where
    of_text : (ys : List ℕ) → ys ≡ x ∷ xs → HasNoInputErrors ys → InputErrors true (x ∷ xs) [] × IsLeft xs
    of_text ys front no_character = cc
    of_text ys front (a_character c rest scalar none split h) =
        let whole : x ∷ xs ≡ encode_utf8 c ++ rest = sym front ∙ split in
        let w = first_byte c x rest xs (sym whole) in
        let behind : xs ≡ w.others ++ rest = others_same (whole ∙ ap (λ l. l ++ rest) w.split) in
        (subst (λ es. InputErrors true (x ∷ xs) es) none (of_character c rest scalar whole), subst IsLeft (sym behind) (others_left w.others rest w.within h))

met_byte : (b : Bool) (x : ℕ) (xs : List ℕ) → IsLeft (x ∷ xs) → InputErrors b (x ∷ xs) [] × IsLeft xs
met_byte true x xs left = new_byte x xs (x ∷ xs) refl left
met_byte false x xs left = (not_new, (new_byte x xs (x ∷ xs) refl left).1)

-- ---- errors that are reported

module _ {M : Type 0} (reply_to : M → TokenText → Reply) (after : M → TokenText → ℕ → M) (foreign : M → Bool) (start : Reached M) where
  -- Reading came here and reported no error, with this text held, which began in this line. The remainder has none.
  pub record ComesQuietly (text : List ℕ) (line : ℕ) (place : ReaderPlace) (meaning : M) (rest : List ℕ) : Type 0 where
    pub spot : Spot
    pub left : IsLeft rest
    pub reaches : Reaches references reply_to after foreign start (record { text = text; line = line; reply = Continues; place = place; spot = spot; meaning = meaning; rest = rest }) []

  errors_of : {t : Turn} {deed : Outcome} → t ≡ quiet deed → [] ≡ t.errors
  errors_of e = sym (ap (λ (t : Turn). t.errors) e)

  told_none : (p : ReaderPlace) (x : ℕ) (s : Spot) → [] ≡ row_errors references p x → [] ≡ told_at_byte references p (position p.line s) x []
  told_none p x s e = sym (none_at_byte references p (position p.line s) x (sym e))

  -- rows without errors report none
  pub quietly_on : {p q : ReaderPlace} {xs text ys : List ℕ} (held : List ℕ) (line : ℕ) (m : M) → PassesQuietly p xs text q ys → ComesQuietly held line p m xs → ComesQuietly (held ++ text) line q m ys
  quietly_on {q = q} {ys = ys} held line m quietly_passed c = subst (λ t. ComesQuietly t line q m ys) (sym (append-nil held)) c
  quietly_on {q = q} {ys = ys} held line m (quietly_goes {p} {x} {xs} {more} text state d e h) c =
      let b = met_byte c.spot.is_new x xs c.left in
      subst (λ t. ComesQuietly t line q m ys) (append_assoc held text more)
      (quietly_on (held ++ text) line m h (record {
        spot = spot_behind x c.spot;
        left = b.1;
        reaches = goes text state c.reaches (record { goes_on = refl; front = refl; not_dropped = d; outcome = outcome_of e; input = []; input_errors = b.0; errors_are = told_none p x c.spot (errors_of e) });
      }))
  quietly_on {q = q} {ys = ys} held line m (quietly_again {p} {x} {xs} {more} text state d e h) c =
      let b = met_byte c.spot.is_new x xs c.left in
      subst (λ t. ComesQuietly t line q m ys) (append_assoc held text more)
      (quietly_on (held ++ text) line m h (record {
        spot = spot_again c.spot;
        left = c.left;
        reaches = again text state c.reaches (record { goes_on = refl; front = refl; not_dropped = d; outcome = outcome_of e; input = []; input_errors = b.0; errors_are = told_none p x c.spot (errors_of e) });
      }))

  -- nor does a text that is emitted
  pub text_quietly : (x line : ℕ) (text : List ℕ) (p : ReaderPlace) (m : M) (xs : List ℕ) → goes_on (reply_to m (Characters (x ∷ text))) ≡ true → ComesQuietly (x ∷ text) line p m xs
      → ComesQuietly [] p.began p (after m (Characters (x ∷ text)) line) xs
  text_quietly x line text p m xs on c = record { spot = c.spot; left = c.left; reaches = hands_nothing (hands_text c.reaches refl refl) on refl }

  -- nor a token
  pub token_quietly : (line x : ℕ) (p : ReaderPlace) (m : M) (xs : List ℕ) (token : TokenText) (state : State) → is_dropped p x ≡ false → row_at p x ≡ quiet (Emitted token state) → goes_on (reply_to m token) ≡ true
      → ComesQuietly [] line p m (x ∷ xs)
      → ComesQuietly [] (after_token token (reply_to m token) (behind x state p)).began (after_token token (reply_to m token) (behind x state p)) (after m token p.began) xs
  token_quietly line x p m xs token state d e on c =
      let b = met_byte c.spot.is_new x xs c.left in
      record {
        spot = spot_behind x c.spot;
        left = b.1;
        reaches = hands_nothing (hands_token token state c.reaches refl (record { goes_on = refl; front = refl; not_dropped = d; outcome = outcome_of e; input = []; input_errors = b.0; errors_are = told_none p x c.spot (errors_of e) })) on refl;
      }

-- before all of such a text nothing is reported
pub begins_quietly : {M : Type 0} (reply_to : M → TokenText → Reply) (after : M → TokenText → ℕ → M) (foreign : M → Bool) (p : ReaderPlace) (s : Spot) (m : M) (xs : List ℕ) → HasNoInputErrors xs
    → ComesQuietly reply_to after foreign (at_first p s m xs) [] p.began p m xs
begins_quietly reply_to after foreign p s m xs none = record { spot = s; left = from_first none; reaches = begins }

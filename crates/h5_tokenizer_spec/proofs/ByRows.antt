-- The one way to read an input to its end in which the text of each row is a separate token.
use Rattle.std.proofs.Common.{◌≡◌, ℕ, Bool, true, false, true≢false, List, [], ◌∷◌, ◌++◌, refl, sym, ap, ◌∙◌, subst, if◌then◌else◌}
use Rattle.h5_token.specs.TokenText.{TokenText, EndOfFile}
use Rattle.h5_token.specs.Reply.{Reply}
use Rattle.h5_tokenizer_input.specs.Told.{after_text, told}
use Rattle.h5_tokenizer_input.proofs.BlindLaws.{text_alike}
use Rattle.h5_tokenizer_input.specs.Blindness.{IsBlindToCuts}
use Rattle.h5_tokenizer_spec.specs.Turn.{Outcome, Consumed, Reconsumed, Emitted, Asks}
use Rattle.h5_tokenizer_spec.specs.References.{Reference}
use Rattle.h5_tokenizer_spec.specs.Reading.{ReaderPlace, behind, behind_newline, in_state, is_dropped, outcome, after_token}
use Rattle.h5_tokenizer_spec.specs.End.{last_tokens}

-- what was done at a byte
pub record Move (M : Type 0) : Type 0 where
  pub tokens : List TokenText
  pub place : ReaderPlace
  pub meaning : M
  pub is_consumed : Bool

module _ {M : Type 0} (reply_to : M → TokenText → Reply) (after : M → TokenText → ℕ → M) (foreign : M → Bool) where
  abbrev pub dropped : ReaderPlace → M → Move M
  dropped p m = record { tokens = []; place = behind_newline p; meaning = m; is_consumed = true }

  abbrev pub moved_by : ReaderPlace → M → ℕ → Outcome → Move M
  moved_by p m x (Consumed text state) = record {
    tokens = told text;
    place = behind x state p;
    meaning = after_text after m text p.began;
    is_consumed = true;
  }
  moved_by p m x (Reconsumed text state) = record {
    tokens = told text;
    place = in_state state p;
    meaning = after_text after m text p.began;
    is_consumed = false;
  }
  moved_by p m x (Emitted token state) = record {
    tokens = token ∷ [];
    place = after_token token (reply_to m token) (behind x state p);
    meaning = after m token p.began;
    is_consumed = true;
  }
  moved_by p m x (Asks there error elsewhere) = record {
    tokens = [];
    place = behind x (if foreign m then there else elsewhere) p;
    meaning = m;
    is_consumed = true;
  }

  abbrev pub move : List Reference → ReaderPlace → M → ℕ → Move M
  move table p m x = if is_dropped p x then dropped p m else moved_by p m x (outcome table p x)

  pub move_dropped : (table : List Reference) (p : ReaderPlace) (m : M) (x : ℕ) → is_dropped p x ≡ true → move table p m x ≡ dropped p m
  move_dropped table p m x e = ap (λ b. if b then dropped p m else moved_by p m x (outcome table p x)) e

  pub move_row : (table : List Reference) (p : ReaderPlace) (m : M) (x : ℕ) (d : Outcome) → is_dropped p x ≡ false → outcome table p x ≡ d → move table p m x ≡ moved_by p m x d
  move_row table p m x d e f = ap (λ b. if b then dropped p m else moved_by p m x (outcome table p x)) e ∙ ap (moved_by p m x) f

  -- an input is read in this way: the tokens, including those of its end, and the state before the end
  pub data ByRows (table : List Reference) : ReaderPlace → M → List ℕ → List TokenText → ReaderPlace → M → Type 0 where
    ends : {p : ReaderPlace} {m : M} → ByRows table p m [] (last_tokens table p ++ EndOfFile ∷ []) p m
    consumes : {p q : ReaderPlace} {m n : M} {x : ℕ} {xs : List ℕ} {ts : List TokenText} → (move table p m x).is_consumed ≡ true
        → ByRows table (move table p m x).place (move table p m x).meaning xs ts q n
        → ByRows table p m (x ∷ xs) ((move table p m x).tokens ++ ts) q n
    reconsumes : {p q : ReaderPlace} {m n : M} {x : ℕ} {xs : List ℕ} {ts : List TokenText} → (move table p m x).is_consumed ≡ false
        → ByRows table (move table p m x).place (move table p m x).meaning (x ∷ xs) ts q n
        → ByRows table p m (x ∷ xs) ((move table p m x).tokens ++ ts) q n

  -- as above, by the kind of the move
  pub consumes_as : (table : List Reference) {p q : ReaderPlace} {m n : M} {x : ℕ} {xs : List ℕ} {ts : List TokenText} (w : Move M) → move table p m x ≡ w → w.is_consumed ≡ true
      → ByRows table w.place w.meaning xs ts q n → ByRows table p m (x ∷ xs) (w.tokens ++ ts) q n
  consumes_as table {p} {q} {m} {n} {x} {xs} {ts} w e =
      subst (λ v. v.is_consumed ≡ true → ByRows table v.place v.meaning xs ts q n → ByRows table p m (x ∷ xs) (v.tokens ++ ts) q n) e consumes

  pub reconsumes_as : (table : List Reference) {p q : ReaderPlace} {m n : M} {x : ℕ} {xs : List ℕ} {ts : List TokenText} (w : Move M) → move table p m x ≡ w → w.is_consumed ≡ false
      → ByRows table w.place w.meaning (x ∷ xs) ts q n → ByRows table p m (x ∷ xs) (w.tokens ++ ts) q n
  reconsumes_as table {p} {q} {m} {n} {x} {xs} {ts} w e =
      subst (λ v. v.is_consumed ≡ false → ByRows table v.place v.meaning (x ∷ xs) ts q n → ByRows table p m (x ∷ xs) (v.tokens ++ ts) q n) e reconsumes

  pub from_place : (table : List Reference) {v w r : ReaderPlace} {n l : M} {xs : List ℕ} {ts : List TokenText} → v ≡ w → ByRows table w n xs ts r l → ByRows table v n xs ts r l
  from_place table {r = r} {n = n} {l = l} {xs = xs} {ts = ts} e c = subst (λ u. ByRows table u n xs ts r l) (sym e) c

  pub of_tokens : (table : List Reference) {p q : ReaderPlace} {m n : M} {xs : List ℕ} {ts us : List TokenText} → ts ≡ us → ByRows table p m xs us q n → ByRows table p m xs ts q n
  of_tokens table {p} {q} {m} {n} {xs} e c = subst (λ w. ByRows table p m xs w q n) (sym e) c

module _ {M : Type 0} (reply_to : M → TokenText → Reply) (after : M → TokenText → ℕ → M) (foreign : M → Bool) (ended : M → M) (alike : M → M → Type 0)
    (blind : IsBlindToCuts reply_to after foreign ended alike) where
  -- from equivalent meanings the same is done
  pub record IsSameMove (a b : Move M) : Type 0 where
    pub tokens : a.tokens ≡ b.tokens
    pub place : a.place ≡ b.place
    pub is_consumed : a.is_consumed ≡ b.is_consumed
    pub like : alike a.meaning b.meaning

  same_by : (p : ReaderPlace) (m n : M) (x : ℕ) (d : Outcome) → alike m n → IsSameMove (moved_by reply_to after foreign p m x d) (moved_by reply_to after foreign p n x d)
  same_by p m n x (Consumed text state) h = record { tokens = refl; place = refl; is_consumed = refl; like = text_alike reply_to after foreign ended alike blind m n text p.began p.began h }
  same_by p m n x (Reconsumed text state) h = record { tokens = refl; place = refl; is_consumed = refl; like = text_alike reply_to after foreign ended alike blind m n text p.began p.began h }
  same_by p m n x (Emitted token state) h = record {
    tokens = refl;
    place = ap (λ r. after_token token r (behind x state p)) (blind.replies m n token h);
    is_consumed = refl;
    like = blind.kept m n token p.began p.began h;
  }
  same_by p m n x (Asks there error elsewhere) h = record {
    tokens = refl;
    place = ap (λ f. behind x (if f then there else elsewhere) p) (blind.spaces m n h);
    is_consumed = refl;
    like = h;
  }

  same_if : (p : ReaderPlace) (m n : M) (x : ℕ) (b : Bool) (d : Outcome) → alike m n
      → IsSameMove (if b then dropped reply_to after foreign p m else moved_by reply_to after foreign p m x d)
      (if b then dropped reply_to after foreign p n else moved_by reply_to after foreign p n x d)
  same_if p m n x true d h = record { tokens = refl; place = refl; is_consumed = refl; like = h }
  same_if p m n x false d h = same_by p m n x d h

  pub same_move : (table : List Reference) (p : ReaderPlace) (m n : M) (x : ℕ) → alike m n → IsSameMove (move reply_to after foreign table p m x) (move reply_to after foreign table p n x)
  same_move table p m n x h = same_if p m n x (is_dropped p x) (outcome table p x) h

  -- the results of two such readings
  pub record Agree (ts us : List TokenText) (q r : ReaderPlace) (k l : M) : Type 0 where
    pub tokens : ts ≡ us
    pub place : q ≡ r
    pub like : alike k l

  behind_one : {a b : Move M} {ts us : List TokenText} {q r : ReaderPlace} {k l : M} → IsSameMove a b → Agree ts us q r k l → Agree (a.tokens ++ ts) (b.tokens ++ us) q r k l
  behind_one {a} {b} {ts} {us} same rest = record { tokens = ap (λ c. c ++ ts) same.tokens ∙ ap (λ c. b.tokens ++ c) rest.tokens; place = rest.place; like = rest.like }

  -- there is one such reading
  pub agree : (table : List Reference) {p q r : ReaderPlace} {m n k l : M} {xs : List ℕ} {ts us : List TokenText} → alike m n
      → ByRows reply_to after foreign table p m xs ts q k → ByRows reply_to after foreign table p n xs us r l → Agree ts us q r k l
  agree table h ends ends = record { tokens = refl; place = refl; like = h }
  agree table {p} {m = m} {n = n} h (consumes {x = x} a c) (consumes b d) =
      let same = same_move table p m n x h in
      behind_one same (agree table same.like c (from_place reply_to after foreign table same.place d))
  agree table {p} {m = m} {n = n} h (reconsumes {x = x} a c) (reconsumes b d) =
      let same = same_move table p m n x h in
      behind_one same (agree table same.like c (from_place reply_to after foreign table same.place d))
  agree table {p} {m = m} {n = n} h (consumes {x = x} a c) (reconsumes b d) = absurd (true≢false (sym a ∙ (same_move table p m n x h).is_consumed ∙ b))
  agree table {p} {m = m} {n = n} h (reconsumes {x = x} a c) (consumes b d) = absurd (true≢false (sym b ∙ sym (same_move table p m n x h).is_consumed ∙ a))

  -- such a reading, with an equivalent meaning at its end
  pub record ReadsAlike (table : List Reference) (p : ReaderPlace) (m : M) (xs : List ℕ) (us : List TokenText) (q : ReaderPlace) (l : M) : Type 0 where
    pub meaning : M
    pub rows : ByRows reply_to after foreign table p m xs us q meaning
    pub like : alike meaning l

  -- from an equivalent meaning the same is read
  pub from_alike : (table : List Reference) {p q : ReaderPlace} {m n l : M} {xs : List ℕ} {us : List TokenText} → alike m n
      → ByRows reply_to after foreign table p n xs us q l → ReadsAlike table p m xs us q l
  from_alike table {m = m} h ends = record { meaning = m; rows = ends; like = h }
  from_alike table {p} {m = m} {n = n} h (consumes {x = x} {ts = ts} a c) =
      let same = same_move table p m n x h in
      let rest = from_alike table same.like c in
      record {
        meaning = rest.meaning;
        rows = of_tokens reply_to after foreign table (ap (λ w. w ++ ts) (sym same.tokens)) (consumes (same.is_consumed ∙ a) (from_place reply_to after foreign table same.place rest.rows));
        like = rest.like;
      }
  from_alike table {p} {m = m} {n = n} h (reconsumes {x = x} {ts = ts} a c) =
      let same = same_move table p m n x h in
      let rest = from_alike table same.like c in
      record {
        meaning = rest.meaning;
        rows = of_tokens reply_to after foreign table (ap (λ w. w ++ ts) (sym same.tokens)) (reconsumes (same.is_consumed ∙ a) (from_place reply_to after foreign table same.place rest.rows));
        like = rest.like;
      }

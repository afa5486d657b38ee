-- Input that is read to its end.
use Rattle.std.specs.Prelude.{◌≡◌, ℕ, Bool, false, List, [], ◌∷◌, ◌++◌, Option, Some, None}
use Rattle.h5_token.specs.TokenText.{TokenText, EndOfFile}
use Rattle.h5_token.specs.Reply.{Reply}
use Rattle.h5_tokenizer_input.specs.Answers.{refuses}
use Rattle.h5_tokenizer_input.specs.Lines.{line_behind}
use Rattle.h5_plain_tokenizer.specs.End.{settle}
use Rattle.h5_plain_tokenizer.specs.Front.{ReaderPlace}
use Rattle.h5_plain_tokenizer.specs.Read.{Read, IsUndecided}

-- the tokens of the end: that of the undecided suffix, and the end-of-file token
abbrev pub closing : Option TokenText → List TokenText
closing None = EndOfFile ∷ []
closing (Some t) = t ∷ EndOfFile ∷ []

module _ {M : Type 0} (after : M → TokenText → ℕ → M) where
  -- the sink's meaning after these: the token of the suffix has its line, and the end-of-file token the last line
  abbrev pub after_closing : M → Option TokenText → ℕ → ℕ → M
  after_closing m None line last = after m EndOfFile last
  after_closing m (Some t) line last = after (after m t line) EndOfFile last

module _ {M : Type 0} (reply_to : M → TokenText → Reply) (after : M → TokenText → ℕ → M) (foreign : M → Bool) where
  -- readings, one after another, without a refused token
  pub data Readings : ReaderPlace → M → List ℕ → List TokenText → ReaderPlace → M → List ℕ → Type 0 where
    no_reading : {p : ReaderPlace} {m : M} {xs : List ℕ} → Readings p m xs [] p m xs
    more_reading : {p q r : ReaderPlace} {m n o : M} {xs ys zs : List ℕ} {ts us : List TokenText} {reply : Reply}
        → Readings p m xs ts q n ys → Read reply_to after foreign q n ys us reply r o zs → refuses reply ≡ false
        → Readings p m xs (ts ++ us) r o zs

  -- some tokens were emitted
  pub record HasRead (p : ReaderPlace) (m : M) (xs : List ℕ) (q : ReaderPlace) (n : M) (ys : List ℕ) : Type 0 where
    pub tokens : List TokenText
    pub readings : Readings p m xs tokens q n ys

module _ {M : Type 0} (reply_to : M → TokenText → Reply) (after : M → TokenText → ℕ → M) (foreign : M → Bool) (ended : M → M) where
  -- An input was read to its end: up to an undecided suffix, and then the end. These tokens were emitted, and this is the
  -- sink's meaning afterwards.
  pub record ReadsToEnd (p : ReaderPlace) (m : M) (xs : List ℕ) (ts : List TokenText) (n : M) : Type 0 where
    pub handed : List TokenText
    pub place : ReaderPlace
    pub meaning : M
    pub rest : List ℕ
    pub readings : Readings reply_to after foreign p m xs handed place meaning rest
    pub undecided : IsUndecided place (foreign meaning) rest
    pub tokens : ts ≡ handed ++ closing (settle place.mode place.last (foreign meaning) rest)
    pub closed : n ≡ ended (after_closing after meaning (settle place.mode place.last (foreign meaning) rest) place.line (line_behind place.line rest []))

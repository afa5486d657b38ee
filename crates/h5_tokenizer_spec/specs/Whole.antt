-- Input that is read to its end.
use Rattle.std.specs.Prelude.{◌≡◌, ℕ, Bool, true, false, List, [], ◌∷◌, ◌++◌}
use Rattle.h5_token.specs.TokenText.{TokenText, EndOfFile}
use Rattle.h5_token.specs.Reply.{Reply}
use Rattle.h5_tokenizer_input.specs.Told.{after_all}
use Rattle.h5_tokenizer_input.specs.Lines.{line_past, ends_in_cr}
use Rattle.h5_tokenizer_input.specs.Answers.{goes_on, refuses}
use Rattle.h5_tokenizer_spec.specs.References.{Reference}
use Rattle.h5_tokenizer_spec.specs.Reading.{ReaderPlace, Read}
use Rattle.h5_tokenizer_spec.specs.End.{last_tokens}

-- From a place, these bytes of an input were passed, up to a place and the remaining input. Its line is after their newlines.
pub record IsCounted (p : ReaderPlace) (xs : List ℕ) (q : ReaderPlace) (ys : List ℕ) : Type 0 where
  pub passed : List ℕ
  pub split : xs ≡ passed ++ ys
  pub line : q.line ≡ line_past p.line p.after_return passed
  pub after_return : q.after_return ≡ ends_in_cr p.after_return passed

module _ (table : List Reference) {M : Type 0} (reply_to : M → TokenText → Reply) (after : M → TokenText → ℕ → M) (foreign : M → Bool) where
  -- readings, one after another, without a refused token
  pub data Readings : ReaderPlace → M → List ℕ → List TokenText → ReaderPlace → M → List ℕ → Type 0 where
    no_reading : {p : ReaderPlace} {m : M} {xs : List ℕ} → Readings p m xs [] p m xs
    more_reading : {p q r : ReaderPlace} {m n o : M} {xs ys zs : List ℕ} {ts us : List TokenText} {reply : Reply}
        → Readings p m xs ts q n ys → Read table reply_to after foreign q n ys us reply r o zs → refuses reply ≡ false
        → Readings p m xs (ts ++ us) r o zs

  -- A reading of an input, which leaves something only if a reply stops it.
  pub record ReadsAll (p : ReaderPlace) (m : M) (xs : List ℕ) : Type 0 where
    pub tokens : List TokenText
    pub reply : Reply
    pub place : ReaderPlace
    pub meaning : M
    pub rest : List ℕ
    pub read : Read table reply_to after foreign p m xs tokens reply place meaning rest
    pub all : goes_on reply ≡ true → rest ≡ []

module _ (table : List Reference) {M : Type 0} (reply_to : M → TokenText → Reply) (after : M → TokenText → ℕ → M) (foreign : M → Bool) (ended : M → M) where
  -- An input was read to its end: all of it, and then the end. These tokens were emitted, and this is the sink's meaning
  -- afterwards.
  pub record ReadsToEnd (p : ReaderPlace) (m : M) (xs : List ℕ) (ts : List TokenText) (n : M) : Type 0 where
    pub handed : List TokenText
    pub place : ReaderPlace
    pub meaning : M
    pub readings : Readings table reply_to after foreign p m xs handed place meaning []
    pub tokens : ts ≡ handed ++ (last_tokens table place ++ EndOfFile ∷ [])
    pub closed : n ≡ ended (after (after_all after meaning (last_tokens table place) place.began) EndOfFile place.line)

  -- some tokens were emitted
  pub record IsReadToEnd (p : ReaderPlace) (m : M) (xs : List ℕ) : Type 0 where
    pub tokens : List TokenText
    pub meaning : M
    pub reads : ReadsToEnd p m xs tokens meaning

-- Readings of chunks, one after another, and the end.
use Rattle.std.proofs.Common.{◌≡◌, ℕ, Bool, false, List, [], ◌∷◌, ◌++◌, refl, Ok}
use Rattle.h5_token.specs.TokenText.{TokenText, EndOfFile}
use Rattle.h5_token.specs.Reply.{Reply}
use Rattle.h5_tokenizer_input.specs.Answers.{refuses}
use Rattle.h5_tokenizer_input.specs.Taking.{ClosesWith}
use Rattle.h5_tokenizer_input.specs.Told.{after_all}
use Rattle.h5_tokenizer_spec.specs.References.{Reference}
use Rattle.h5_tokenizer_spec.specs.Reading.{ReaderPlace, Read}
use Rattle.h5_tokenizer_spec.specs.End.{last_tokens, Closes}
use Rattle.h5_tokenizer_spec.specs.Whole.{Readings, no_reading, more_reading, ReadsToEnd}
use Rattle.h5_tokenizer_spec.proofs.ReadLaws.{read_goes_on}

module _ (table : List Reference) {M : Type 0} (reply_to : M → TokenText → Reply) (after : M → TokenText → ℕ → M) (foreign : M → Bool) where
  readings_go_on : {p : ReaderPlace} {m : M} {xs : List ℕ} {ts : List TokenText} {q : ReaderPlace} {n : M} {ys : List ℕ} (more : List ℕ)
      → Readings table reply_to after foreign p m xs ts q n ys → Readings table reply_to after foreign p m (xs ++ more) ts q n (ys ++ more)
  readings_go_on more no_reading = no_reading
  readings_go_on more (more_reading readings read taken) = more_reading (readings_go_on more readings) (read_goes_on table reply_to after foreign more read) taken

  pub pieces_join : {p : ReaderPlace} {m : M} {xs : List ℕ} {ts : List TokenText} {q : ReaderPlace} {n : M} {ys : List ℕ} {us : List TokenText} {reply : Reply} {r : ReaderPlace} {o : M} {zs : List ℕ} (more : List ℕ)
      → Readings table reply_to after foreign p m xs ts q n ys → Read table reply_to after foreign q n (ys ++ more) us reply r o zs → refuses reply ≡ false
      → Readings table reply_to after foreign p m (xs ++ more) (ts ++ us) r o zs
  pieces_join more readings read taken = more_reading (readings_go_on more readings) read taken

module _ {M : Type 0} (reply_to : M → TokenText → Reply) (after : M → TokenText → ℕ → M) (ended : M → M) where
  closed_by : (ts : List TokenText) (m n : M) (began last : ℕ) → ClosesWith reply_to after ended m ts began last n (Ok tt)
      → n ≡ ended (after (after_all after m ts began) EndOfFile last)
  closed_by [] m n began last h = h.1
  closed_by (t ∷ ts) m n began last h = closed_by ts (after m t began) n began last h.1

  pub end_ends : (table : List Reference) (foreign : M → Bool) (p : ReaderPlace) (m : M) (xs : List ℕ) (ts : List TokenText) (q : ReaderPlace) (n o : M)
      → Readings table reply_to after foreign p m xs ts q n [] → Closes reply_to after ended table q n o (Ok tt)
      → ReadsToEnd table reply_to after foreign ended p m xs (ts ++ (last_tokens table q ++ EndOfFile ∷ [])) o
  end_ends table foreign p m xs ts q n o readings closes = record {
    handed = ts;
    place = q;
    meaning = n;
    readings = readings;
    tokens = refl;
    closed = closed_by (last_tokens table q) n o q.began q.line closes;
  }

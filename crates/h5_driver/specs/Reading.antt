-- Readings of any tokenizer, up to some remaining input and to the end.
use Rattle.std.specs.Prelude.{◌≡◌, ℕ, List}
use Rattle.h5_token.specs.TokenText.{TokenText}
use Rattle.h5_interface.specs.Seen.{Seen}
use Rattle.h5_interface.specs.SinkChoices.{SinkChoices}
use Rattle.h5_builder_spec.specs.Run.{View, after_all}
use Rattle.h5_driver.specs.BuilderSink.{ended}

-- WHAT A PARSER BUILT from a text: the forest and the quirks mode of the run of a list of tokens that reads it, and of any such
-- list
pub record Parses {T : Type 0} (Reads : T → View → List ℕ → List TokenText → View → Type 0) (choices : SinkChoices) (r : T) (v : View) (xs : List ℕ) (told : Seen) : Type 0 where
  pub tokens : List TokenText
  pub reads : Reads r v xs tokens (ended choices (after_all choices tokens v))
  pub any : (ts : List TokenText) (n : View) → Reads r v xs ts n → (n ≡ ended choices (after_all choices ts v)) × ((told.forest ≡ n.world.forest) × (told.quirks ≡ n.world.seen_quirks))

-- from a tokenizer, a view and an input, some tokens are read, up to a tokenizer, a view and the remaining input
pub record Advances {T : Type 0} (Readings : T → View → List ℕ → List TokenText → T → View → List ℕ → Type 0) (r : T) (v : View) (xs : List ℕ) (s : T) (w : View) (ys : List ℕ) : Type 0 where
  pub tokens : List TokenText
  pub readings : Readings r v xs tokens s w ys

-- an input is read to its end by some tokens
pub record IsReadToEnd {T : Type 0} (Reads : T → View → List ℕ → List TokenText → View → Type 0) (r : T) (v : View) (xs : List ℕ) (n : View) : Type 0 where
  pub tokens : List TokenText
  pub reads : Reads r v xs tokens n

-- Lists of tokens that differ in how their texts are split.
use Rattle.std.specs.Prelude.{◌≡◌, ℕ, Bool, true, false, List, [], ◌∷◌}
use Rattle.h5_token.specs.Joins.{join}
use Rattle.h5_token.specs.Reply.{Reply}
use Rattle.h5_token.specs.TokenText.{TokenText, Characters}
use Rattle.h5_interface.specs.SinkChoices.{SinkChoices}
use Rattle.h5_builder_spec.specs.Run.{View, after_all, replies}

-- a text and the token that follows it belong to one run
abbrev pub goes_on : List ℕ → List TokenText → Bool
goes_on (b ∷ t) (Characters (d ∷ u) ∷ ts) = true
goes_on t ts = false

-- each text of a run has the run's reply
abbrev pub spread_next : Bool → Reply → List Reply → List Reply
spread_next true r rs = r ∷ rs
spread_next false r rs = rs

abbrev pub spread : List TokenText → List Reply → List Reply
spread ts [] = []
spread [] (r ∷ rs) = []
spread (Characters t ∷ ts) (r ∷ rs) = r ∷ spread ts (spread_next (goes_on t ts) r rs)
spread (t ∷ ts) (r ∷ rs) = r ∷ spread ts rs

-- a list and its join give one view, one reply to each token that isn't a text, and to each text of a run the run's
-- reply
pub record CutsAgree (choices : SinkChoices) (ts : List TokenText) (v : View) : Type 0 where
  pub views : after_all choices ts v ≡ after_all choices (join ts) v
  pub replies : replies choices ts v ≡ spread ts (replies choices (join ts) v)

-- Foreign content is left one element after the other, in the form of the code.
use Rattle.std.specs.Prelude.{ℕ, Bool, false, List, [], ◌∷◌}
use Rattle.h5_interface.specs.Forest.{Forest}
use Rattle.h5_interface.specs.SinkChoices.{SinkChoices}
use Rattle.h5_builder_spec.specs.insertion.Foreign.{is_left}
use Rattle.h5_builder_spec.specs.World.{World}

-- the first of these nodes is popped when foreign content is left
abbrev pub is_first_left : SinkChoices → Forest → List ℕ → Bool
is_first_left choices f [] = false
is_first_left choices f (n ∷ s) = is_left choices f n

abbrev pub is_current_left : SinkChoices → World → Bool
is_current_left choices w = is_first_left choices w.forest w.stack

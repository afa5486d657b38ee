-- Buffered text that is taken.
use Rattle.std.proofs.Common.{◌≡◌, ℕ, List, [], ◌∷◌, refl}
use Rattle.h5_builder_spec.specs.Changes.{take_pending_text}
use Rattle.h5_builder_spec.specs.modes.InTableText.{pending_text}
use Rattle.h5_builder_spec.specs.inner.Kept.{HasHtmlRoot}
use Rattle.h5_builder_spec.specs.World.{World, names_of}

-- the body doesn't need it
pub ready_taken : (w : World) → HasHtmlRoot w → HasHtmlRoot (take_pending_text w)
unfolding names_of
ready_taken w k = record { sound = k.sound; lists = k.lists; root = k.root }

-- nor of what decides where it goes
pub same_pending : (text : List ℕ) (w : World) → pending_text text (take_pending_text w) ≡ pending_text text w
unfolding pending_text
same_pending [] w = refl
same_pending (b ∷ t) w = refl

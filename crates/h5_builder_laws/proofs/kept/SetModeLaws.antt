-- What a mode says about open elements stays true, row by row.
use Rattle.std.proofs.Common.{◌<◌, ◌≡◌, false, length, subst, sym}
use Rattle.h5_tables.specs.declared.modes.InsertionMode.{InsertionMode}
use Rattle.h5_builder_spec.specs.Changes.{set_mode}
use Rattle.h5_builder_spec.specs.Rows.{Ending, next_mode}
use Rattle.h5_builder_spec.specs.inner.Kept.{Fits, HasLists}
use Rattle.h5_builder_spec.specs.Sound.{situation_of}
use Rattle.h5_builder_spec.specs.World.{World, names_of}
use Rattle.h5_builder_spec.specs.inner.Fits.{is_before_root}
use Rattle.h5_builder_spec.proofs.changes.PopLaws.{names_length}
use Rattle.h5_builder_spec.proofs.fitting.NamesFitLaws.{names_open}
use Rattle.h5_builder_spec.proofs.rows.KeptLaws.{FitsAs, mode_with}

-- open elements that fit a mode, and a list that agrees with them, fit where the mode is set
pub fits_set : (m : InsertionMode) (w : World) → FitsAs m w → HasLists w → Fits (set_mode m w)
unfolding names_of
fits_set m w h lists = record { mode = h; lists = lists }

-- what an ending leaves fits: the world, in the mode of another turn where one is taken
abbrev pub FitsAfter : Ending → World → Type 0
FitsAfter e w = Fits (set_mode (mode_with w.mode (next_mode e w)) w)

-- once the root has been made an element is open
pub enough_open : (w : World) (m : InsertionMode) → w.mode ≡ m → is_before_root m ≡ false → Fits w → 0 < length w.stack
enough_open w m e after h = subst (λ n. 0 < n) (sym (names_length w)) (names_open (situation_of w) m (names_of w) after (subst (λ k. FitsAs k w) e h.mode))

-- What a builder keeps at every turn and between tokens, in addition to being sound.
use Rattle.std.specs.Prelude.{◌≡◌, false}
use Rattle.h5_builder_spec.specs.inner.Lists.{Lists}
use Rattle.h5_builder_spec.specs.inner.NamesFit.{NamesFit}
use Rattle.h5_builder_spec.specs.stack.Root.{IsRootOpen}
use Rattle.h5_builder_spec.specs.Run.{View}
use Rattle.h5_builder_spec.specs.Sound.{Sound, situation_of}
use Rattle.h5_builder_spec.specs.World.{World, names_of}

-- the list of active formatting elements agrees with the stack of open elements
abbrev pub HasLists : World → Type 0
HasLists w = Lists w.stack w.formatting

-- what holds at every turn and between tokens: the open elements fit the mode, and the list agrees with them
pub record Fits (w : World) : Type 0 where
  pub mode : NamesFit (situation_of w) w.mode (names_of w)
  pub lists : HasLists w

-- WHAT A BUILDER KEEPS at every turn and between tokens
pub record Fitting (w : World) : Type 0 where
  pub sound : Sound w
  pub fits : Fits w

-- what holds in the body when formatting elements are closed: the world is sound, the list agrees with the stack, and
-- the root is an `html`
pub record HasHtmlRoot (w : World) : Type 0 where
  pub sound : Sound w
  pub lists : HasLists w
  pub root : IsRootOpen (names_of w)

-- what a builder keeps until it has ended or failed
pub record IsFitting (v : View) : Type 0 where
  pub fitting : v.failed ≡ false → v.ended ≡ false → Fitting v.world

-- What holds for a tokenizer over a builder while it reads.
use Rattle.std.specs.Prelude.{◌≡◌, ◌≢◌, false}
use Rattle.h5_tables.specs.declared.modes.InsertionMode.TheVariants.{Text}
use Rattle.h5_builder_spec.specs.inner.Fits.{AllKinds}
use Rattle.h5_builder_spec.specs.inner.Kept.{Fitting}
use Rattle.h5_builder_spec.specs.modes.InTableText.{saved_mode}
use Rattle.h5_builder_spec.specs.Run.{View}

-- the invariant between tokens. No mode that it stores to return to is "text": neither the original insertion mode, nor one of
-- a template
pub record IsReady (v : View) : Type 0 where
  pub unfailed : v.failed ≡ false
  pub unended : v.ended ≡ false
  pub fitting : Fitting v.world
  pub saved : saved_mode v.world ≢ Text
  pub kinds : AllKinds v.world.template_modes

-- a new builder is ready, and its mode isn't "text"
pub record Begins (v : View) : Type 0 where
  pub ready : IsReady v
  pub no_text : v.world.mode ≢ Text

-- it takes the tokens of a tokenizer: its mode is "text", which refuses start tags, comments and nulls, only while the
-- tokenizer emits none of them
pub record IsWorking {T : Type 0} (IsRaw : T → Type 0) (r : T) (v : View) : Type 0 where
  pub ready : IsReady v
  pub text : v.world.mode ≡ Text → IsRaw r

-- x-user-defined (Encoding Standard, section 14.5).
use Rattle.std.specs.Prelude.{ℕ, ◌+◌, ◌-◌, nat_lt, if◌then◌else◌}
use Rattle.h5_encodings.specs.declared.steps.Kept.TheVariants as k
use Rattle.h5_encodings.specs.declared.steps.Shown.TheVariants.{Character}
use Rattle.h5_encodings.specs.declared.steps.Step.{Step}
use Rattle.h5_encodings.specs.Steps.{shows}

-- bytes below 128 are ASCII, and the others are the private-use characters from U+F780 on
abbrev pub user_defined_step : ℕ → Step
user_defined_step b = shows (Character (if nat_lt b 128 then b else 0xF780 + (b - 128))) k.Nothing

-- The single-byte encodings (Encoding Standard, section 9).
use Rattle.std.specs.Prelude.{ℕ, ◌-◌, ◌==◌, nat_lt, slice_index, if◌then◌else◌}
use Rattle.h5_encodings.specs.declared.encoding.SingleByte.{SingleByte}
use Rattle.h5_encodings.specs.declared.steps.Kept.TheVariants as k
use Rattle.h5_encodings.specs.declared.steps.Shown.{Shown}
use Rattle.h5_encodings.specs.declared.steps.Shown.TheVariants.{Character, Error}
use Rattle.h5_encodings.specs.declared.steps.Step.{Step}
use Rattle.h5_encodings.specs.Steps.{replacement_character, shows}
use Rattle.h5_encodings.specs.UpperHalf.{upper_half}

-- U+FFFD in a table means that the byte has no character
abbrev pub shown_of : ℕ → Shown
shown_of c = if c == replacement_character then Error else Character c

-- bytes below 128 are ASCII, and the others have their characters in the upper half
abbrev pub single_byte_step : SingleByte → ℕ → Step
single_byte_step encoding b = shows (if nat_lt b 128 then Character b else shown_of (slice_index (upper_half encoding) (b - 128))) k.Nothing

-- The encoding "replacement" (Encoding Standard, section 14.1).
use Rattle.h5_encodings.specs.declared.steps.Kept.{Kept}
use Rattle.h5_encodings.specs.declared.steps.Kept.TheVariants as k
use Rattle.h5_encodings.specs.declared.steps.Shown.TheVariants.{Nothing, Error}
use Rattle.h5_encodings.specs.declared.steps.Step.{Step}
use Rattle.h5_encodings.specs.Steps.{shows}

-- the output of the first byte is an error, that of any other is empty
abbrev pub replacement_step : Kept → Step
replacement_step k.Told = shows Nothing k.Told
replacement_step k.Nothing = shows Error k.Told
replacement_step (k.Lead lead) = shows Error k.Told
replacement_step (k.Jis0212 lead) = shows Error k.Told
replacement_step (k.Half a) = shows Error k.Told
replacement_step (k.Leading u) = shows Error k.Told
replacement_step (k.LeadingHalf u a) = shows Error k.Told
replacement_step (k.TwoOfFour first second) = shows Error k.Told
replacement_step (k.ThreeOfFour first second third) = shows Error k.Told
replacement_step (k.Jp state) = shows Error k.Told

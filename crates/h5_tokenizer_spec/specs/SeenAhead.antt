-- The positions of a row's errors. In three states the standard looks ahead and consumes nothing, while here what was seen is
-- stored in the state (`Ahead`). So an error that is reported there has its position before what was seen: before all of it, or
-- right after the name of a reference that was found.
use Rattle.std.specs.Prelude.{ℕ, Bool, true, false, List, [], ◌∷◌, length, Option, Some, None, if◌then◌else◌}
use Rattle.h5_tokenizer_spec.specs.declared.errors.ParseError.{ParseError}
use Rattle.h5_tokenizer_spec.specs.declared.errors.ParseError.TheVariants.{IncorrectlyOpenedComment, InvalidCharacterSequenceAfterDoctypeName, MissingSemicolonAfterCharacterReference}
use Rattle.h5_tokenizer_spec.specs.declared.position.Position.{Position}
use Rattle.h5_tokenizer_spec.specs.declared.position.LocatedError.{LocatedError}
use Rattle.h5_tokenizer_spec.specs.References.{Reference, Longest, longest}
use Rattle.h5_tokenizer_spec.specs.Spots.{position_before}
use Rattle.h5_tokenizer_spec.specs.States.{State, MarkupDeclarationOpen, AfterDoctypeName, NamedCharacterReference}

-- an error that the standard reports while it looks ahead
abbrev pub is_told_ahead : ParseError → Bool
is_told_ahead IncorrectlyOpenedComment = true
is_told_ahead InvalidCharacterSequenceAfterDoctypeName = true
is_told_ahead MissingSemicolonAfterCharacterReference = true
is_told_ahead error = false

-- how much was seen after a name that was found
abbrev pub behind_found : Option Longest → ℕ
behind_found None = 0
behind_found (Some found) = length found.rest

-- how much of what was seen the standard hasn't consumed
abbrev pub seen_ahead : List Reference → State → ℕ
seen_ahead table (MarkupDeclarationOpen seen) = length seen
seen_ahead table (AfterDoctypeName doctype seen) = length seen
seen_ahead table (NamedCharacterReference return seen) = behind_found (longest table seen)
seen_ahead table state = 0

-- the position of an error, if this much was seen ahead
abbrev pub error_position : ℕ → Position → ParseError → Position
error_position ahead at e = if is_told_ahead e then position_before ahead at else at

-- the errors of a row, in their order
abbrev pub told_of_row : ℕ → Position → List ParseError → List LocatedError
told_of_row ahead at [] = []
told_of_row ahead at (e ∷ es) = record { error = e; at = error_position ahead at e } ∷ told_of_row ahead at es

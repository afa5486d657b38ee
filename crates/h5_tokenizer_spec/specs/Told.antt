-- Reported parse errors, each with its position.
use Rattle.std.specs.Prelude.{List, [], ◌∷◌, ◌++◌, Option, Some, None}
use Rattle.h5_tokenizer_spec.specs.declared.errors.ParseError.{ParseError}
use Rattle.h5_tokenizer_spec.specs.declared.position.Position.{Position}
use Rattle.h5_tokenizer_spec.specs.declared.position.LocatedError.{LocatedError}

-- these errors are at this position, in their order
abbrev pub told_at : Position → List ParseError → List LocatedError
told_at at [] = []
told_at at (e ∷ es) = record { error = e; at = at } ∷ told_at at es

-- an error, if there is one
abbrev pub if_any : Option ParseError → List ParseError
if_any None = []
if_any (Some e) = e ∷ []

-- Whatever was reported before, these errors were reported after it, and no others.
abbrev pub Tells : {S : Type 0} → (S → List LocatedError → Type 0) → S → S → List LocatedError → Type 0
Tells told old new errors = (before : List LocatedError) → told old before → told new (before ++ errors)

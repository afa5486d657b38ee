-- What a text emits, and its errors, in a form that can be computed: by rows, over a sink whose reply is to go on.
use Rattle.std.proofs.Common.{ℕ, zero, suc, ◌+◌, ◌*◌, Bool, true, false, List, [], ◌∷◌, ◌++◌, length, if◌then◌else◌}
use Rattle.h5_names.specs.AttributeText.{AttributeText}
use Rattle.h5_token.specs.TokenText.{TokenText, TagIs, EndOfFile}
use Rattle.h5_token.specs.Joins.{join}
use Rattle.h5_token.specs.Reply.{Continues}
use Rattle.h5_token.specs.declared.tag.TagKind.TheVariants.{StartTag, EndTag}
use Rattle.h5_tokenizer_spec.specs.declared.errors.ParseError.{ParseError}
use Rattle.h5_tokenizer_spec.specs.ReferenceTable.{references}
use Rattle.h5_tokenizer_spec.specs.States.{State}
use Rattle.h5_tokenizer_spec.specs.Lines.{normal}
use Rattle.h5_tokenizer_spec.specs.Turn.{Outcome, Consumed, Reconsumed, Emitted, Asks}
use Rattle.h5_tokenizer_spec.specs.Machine.{turn}
use Rattle.h5_tokenizer_spec.specs.AtEnd.{at_end}
use Rattle.h5_tokenizer_spec.specs.Reading.{ReaderPlace, is_dropped}
use Rattle.h5_tokenizer_spec.specs.End.{last_tokens}
use Rattle.h5_tokenizer_spec.proofs.ByRows.{Move, move}

-- what is done at a byte over a sink whose reply is to go on
abbrev pub silent : Bool → ReaderPlace → ℕ → Move (Unit {0})
silent foreign p x = move (λ m t. Continues) (λ m t line. m) (λ m. foreign) references p (tt {0}) x

-- in a state, after a start tag with this name
abbrev pub at_first : State → List ℕ → ReaderPlace
at_first state last = record { state = state; last = last; after_return = false; line = 1; began = 1 }

-- each byte gets at most three rows
abbrev pub rows_for : List ℕ → ℕ
rows_for xs = 3 * length xs + 1

-- what is emitted, in at most n rows
abbrev pub tokens_up_to : ℕ → Bool → ReaderPlace → List ℕ → List TokenText
tokens_up_to zero foreign p xs = []
tokens_up_to (suc n) foreign p [] = last_tokens references p ++ EndOfFile ∷ []
tokens_up_to (suc n) foreign p (x ∷ xs) =
    let moved = silent foreign p x in
    moved.tokens ++ tokens_up_to n foreign moved.place (if moved.is_consumed then xs else x ∷ xs)

abbrev pub tokens_from : Bool → State → List ℕ → List ℕ → List TokenText
tokens_from foreign state last xs = join (tokens_up_to (rows_for xs) foreign (at_first state last) xs)

-- the errors of all rows, in order
abbrev pub asked : Bool → Outcome → List ParseError
asked true outcome = []
asked false (Consumed text state) = []
asked false (Reconsumed text state) = []
asked false (Emitted token state) = []
asked false (Asks there error elsewhere) = error ∷ []

abbrev pub errors_at : Bool → ReaderPlace → ℕ → List ParseError
errors_at foreign p x =
    let row = turn references p.last p.state (normal x) in
    if is_dropped p x then [] else row.errors ++ asked foreign row.outcome

abbrev pub errors_up_to : ℕ → Bool → ReaderPlace → List ℕ → List ParseError
errors_up_to zero foreign p xs = []
errors_up_to (suc n) foreign p [] = (at_end references p.state).errors
errors_up_to (suc n) foreign p (x ∷ xs) =
    let moved = silent foreign p x in
    errors_at foreign p x ++ errors_up_to n foreign moved.place (if moved.is_consumed then xs else x ∷ xs)

abbrev pub errors_from : Bool → State → List ℕ → List ℕ → List ParseError
errors_from foreign state last xs = errors_up_to (rows_for xs) foreign (at_first state last) xs

abbrev pub start : List ℕ → Bool → List AttributeText → Bool → TokenText
start name self_closing attrs duplicates = TagIs (record {
  kind = StartTag;
  name = name;
  self_closing = self_closing;
  attrs = attrs;
  had_duplicate_attributes = duplicates;
})

abbrev pub end : List ℕ → Bool → List AttributeText → Bool → TokenText
end name self_closing attrs duplicates = TagIs (record {
  kind = EndTag;
  name = name;
  self_closing = self_closing;
  attrs = attrs;
  had_duplicate_attributes = duplicates;
})

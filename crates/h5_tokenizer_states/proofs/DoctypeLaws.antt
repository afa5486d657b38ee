-- Rows of doctypes.
use Rattle.std.proofs.Common.{ℕ, List, Result, IfOk}
use Rattle.std.proofs.lemmas.Result.{IfOk-weaker}
use Rattle.std.specs.declared.alloc.AllocError.{AllocError}
use Rattle.h5_token.specs.TokenText.{DoctypeText}
use Rattle.h5_tokenizer_spec.specs.References.{Reference}
use Rattle.h5_tokenizer_spec.specs.Turn.{Turn}
use Rattle.h5_tokenizer_states.specs.OutcomeOf.{DoesDoctype, DoesDoctypeSeen}
use Rattle.h5_tokenizer_states.specs.declared.transition.Transition.{Transition}

-- a row that doesn't use the buffer does the same for any
pub doctype_turned : (r : Result Transition AllocError) (doctype : DoctypeText) (seen : List ℕ) (row : Turn) → IfOk r (λ transition. DoesDoctype transition doctype row)
    → IfOk r (λ transition. (table : List Reference) (last : List ℕ) → DoesDoctypeSeen transition doctype seen row)
doctype_turned r doctype seen row =
    IfOk-weaker r (λ transition. DoesDoctype transition doctype row) (λ transition. (table : List Reference) (last : List ℕ) → DoesDoctypeSeen transition doctype seen row)
    (λ transition does table last parts. does (record parts { buffer = seen }))

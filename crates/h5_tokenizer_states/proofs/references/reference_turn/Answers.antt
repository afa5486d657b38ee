use Rattle.std.proofs.lemmas.Result.{IfOk-weaker}
use Rattle.std.specs.Prelude.{string_bytes}
use Rattle.h5_tokenizer_states.proofs.references.reference_turn.Goals as goal

pub returns-in-CharacterReference : goal.returns-in-CharacterReference
returns-in-CharacterReference c = λ last. rw c.in-CharacterReference.is c.character_reference.ensures

pub returns-in-NamedCharacterReference : goal.returns-in-NamedCharacterReference
returns-in-NamedCharacterReference c = λ last. rw c.in-NamedCharacterReference.is (IfOk-weaker c.named_character_reference.result _ _ (λ transition h parts. h (record parts { code = c.args.reference.now.code })) c.named_character_reference.ensures)

pub returns-in-AmbiguousAmpersand : goal.returns-in-AmbiguousAmpersand
returns-in-AmbiguousAmpersand c = λ last. rw c.in-AmbiguousAmpersand.is (IfOk-weaker c.ambiguous_ampersand.result _ _ (λ transition h parts. h (record parts { seen = string_bytes c.args.reference.now.seen; code = c.args.reference.now.code })) c.ambiguous_ampersand.ensures)

pub returns-in-NumericCharacterReference : goal.returns-in-NumericCharacterReference
returns-in-NumericCharacterReference c = λ last. rw c.in-NumericCharacterReference.is (IfOk-weaker c.numeric_character_reference.result _ _ (λ transition h parts. h c.args.tag.now (string_bytes c.args.out.now) (record parts { code = c.args.reference.now.code })) c.numeric_character_reference.ensures)

pub returns-in-HexadecimalStart : goal.returns-in-HexadecimalStart
returns-in-HexadecimalStart c = λ last. rw c.in-HexadecimalStart.is c.hexadecimal_start.ensures

pub returns-in-DecimalStart : goal.returns-in-DecimalStart
returns-in-DecimalStart c = λ last. rw c.in-DecimalStart.is (IfOk-weaker c.decimal_start.result _ _ (λ transition h parts. h (record parts { seen = string_bytes c.args.reference.now.seen })) c.decimal_start.ensures)

pub returns-in-Hexadecimal : goal.returns-in-Hexadecimal
returns-in-Hexadecimal c = λ last. rw c.in-Hexadecimal.is (IfOk-weaker c.hexadecimal.result _ _ (λ transition h parts. h (record parts { seen = string_bytes c.args.reference.now.seen })) c.hexadecimal.ensures)

pub returns-in-Decimal : goal.returns-in-Decimal
returns-in-Decimal c = λ last. rw c.in-Decimal.is (IfOk-weaker c.decimal.result _ _ (λ transition h parts. h (record parts { seen = string_bytes c.args.reference.now.seen })) c.decimal.ensures)

pub returns-in-NumericCharacterReferenceEnd : goal.returns-in-NumericCharacterReferenceEnd
returns-in-NumericCharacterReferenceEnd c = λ last. rw c.in-NumericCharacterReferenceEnd.is (IfOk-weaker c.numeric_character_reference_end.result _ _ (λ transition h parts. h (record parts { seen = string_bytes c.args.reference.now.seen; code = c.args.reference.now.code })) c.numeric_character_reference_end.ensures)

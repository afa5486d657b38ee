use Rattle.std.proofs.Common.{sym, subst}
use Rattle.std.proofs.lemmas.Bool.{cond-false}
use Rattle.std.specs.Prelude.{IfOk, string_bytes}
use Rattle.h5_tokenizer_spec.specs.Signs.{is_hex_digit}
use Rattle.h5_tokenizer_spec.specs.Turn.{Turn}
use Rattle.h5_tokenizer_states.specs.Flushing.{DoesCode}
use Rattle.h5_tokenizer_states.proofs.references.hexadecimal.Goals as goal

pub returns : goal.returns
returns c =
    subst (λ (t : Turn). IfOk c.behind_digits.result (λ transition. DoesCode transition (string_bytes c.args.out.now) (string_bytes c.behind_digits.new.out) c.behind_digits.new.tag c.args.code.now t))
    (sym (cond-false (is_hex_digit c.args.b) _ _ (sym c.if-is_hex_digit.ensures))) c.behind_digits.ensures

use Rattle.std.proofs.Common.{◌++◌, string_bytes, sym, ◌∙◌, ap, append_assoc}
use Rattle.h5_print.specs.Escapes.{escape}
use Rattle.h5_print.proofs.EscapeLaws.{escape_plain}
use Rattle.h5_print.proofs.escapes.write_escapes.Goals as goal

pub loop-c-preserved : goal.loop-c-preserved
loop-c-preserved c =
    let one = escape_plain c.loop-c.c-iterator.rest.now c.next.new.self.rest.now c.in-Some.c c.in-Some.ensures.steps.0 (sym c.in-None-letter_of.ensures) in
    ap (λ l. l ++ escape c.next.new.self.rest.now) c.in_ok-push-in-None-letter_of.ensures.bytes
    ∙ append_assoc (string_bytes c.loop-c.out) _ (escape c.next.new.self.rest.now)
    ∙ ap (λ l. string_bytes c.loop-c.out ++ l) (sym one)
    ∙ c.loop-c.invariant

use Rattle.std.proofs.Common.{◌≡◌, ◌++◌, sym, ◌∙◌, ap}
use Rattle.std.specs.Char.{encode_utf8}
use Rattle.h5_print.proofs.EscapeLaws.{behind_some, behind_none, low_byte, shorter}
use Rattle.h5_print.proofs.escapes.cut_letter.Goals as goal

pub returns-in-Some : goal.returns-in-Some
returns-in-Some c =
    let text = c.args.text.now in
    let letter = c.in_ok-letter.letter in
    let parts : text ≡ encode_utf8 letter ++ c.as_str.result.now =
    sym c.chars-chars.ensures.rest ∙ c.in_ok-letter.ensures.steps.0 ∙ ap (λ l. encode_utf8 letter ++ l) (sym c.as_str.ensures) in
    (behind_some text c.as_str.result.now letter c.in-Some.c parts (sym c.in-Some.ensures), low_byte letter c.in-Some.c (sym c.in-Some.ensures), shorter text c.as_str.result.now letter parts)

pub returns-in-None : goal.returns-in-None
returns-in-None c = behind_none c.args.text.now c.next.new.self.rest.now c.in_ok-letter.letter (sym c.chars-chars.ensures.rest ∙ c.in_ok-letter.ensures.steps.0) (sym c.in-None.ensures)

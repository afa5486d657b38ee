use Rattle.std.proofs.Common.{sym, ap, ◌∙◌, encode_utf8}
use Rattle.h5_page.specs.Layout.{with_text}
use Rattle.h5_page.proofs.LayoutLaws.{text_join}
use Rattle.h5_page.proofs.layout.Layout.write_text.Goals as goal

pub loop-c-preserved : goal.loop-c-preserved
loop-c-preserved c =
    ap (with_text c.args.keeps_blanks c.args.indent c.next.new.self.rest.now) c.in_ok-write_char.ensures
    ∙ sym (text_join c.args.keeps_blanks c.args.indent (encode_utf8 c.in-Some.c) c.next.new.self.rest.now c.loop-c.self)
    ∙ ap (λ t. with_text c.args.keeps_blanks c.args.indent t c.loop-c.self) (sym c.in-Some.ensures.steps.0)
    ∙ c.loop-c.invariant

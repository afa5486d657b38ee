use Rattle.std.proofs.Common.{false, sym, ◌∙◌}
use Rattle.h5_page.proofs.LayoutLaws.{ink_char}
use Rattle.h5_page.proofs.layout.Layout.write_folded.Goals as goal

pub returns : goal.returns
returns c = c.in_ok-ink.ensures ∙ sym (ink_char false c.args.indent c.args.c c.args.self.now (sym c.is_blank.ensures ∙ c.if-is_blank.false))

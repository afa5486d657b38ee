use Rattle.std.proofs.Common.{true, ap, sym, ◌∙◌}
use Rattle.h5_page.specs.Layout.{Laid}
use Rattle.h5_page.proofs.LayoutLaws.{ink_char}
use Rattle.h5_page.proofs.layout.Layout.write_kept.Goals as goal

pub returns : goal.returns
returns c =
    c.keep_line.ensures
    ∙ ap (λ (p : Laid). record p { is_whole = true }) c.in_ok-ink.ensures
    ∙ sym (ink_char true c.args.indent c.args.c c.args.self.now c.if-c-eq10.false)

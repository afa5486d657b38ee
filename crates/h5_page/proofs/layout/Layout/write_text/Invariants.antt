use Rattle.std.proofs.Common.{◌≡◌}
use Rattle.std.specs.Str.Iter.{chars_rest}
use Rattle.h5_page.specs.Layout as l
use Rattle.h5_page.proofs.layout.Layout.write_text.Given as goal

abbrev pub invariant-loop-c : goal.invariant-loop-c
invariant-loop-c w = l.with_text w.keeps_blanks w.indent (chars_rest w.c-iterator) w.self ≡ l.with_text w.keeps_blanks w.indent w.text w.initial.self

use Rattle.std.proofs.Common.{◌≡◌, ◌++◌, length, string_bytes}
use denote.Text.{Utf8}
use denote.Shadow.{shadow}
use Rattle.h5_page.specs.Wrapped.{filled, words}
use Rattle.h5_page.proofs.wrap.write_words.Given as goal

abbrev pub invariant-loop-word : goal.invariant-loop-word
invariant-loop-word l = record {
  utf8 : shadow (Utf8 l.rest);
  same : string_bytes l.lines ++ filled l.width l.hang l.left (words l.rest) ≡ string_bytes l.initial.lines ++ filled l.width l.hang l.room (words l.text);
}

abbrev pub decreases-loop-word : goal.decreases-loop-word
decreases-loop-word l = length l.rest

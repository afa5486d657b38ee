use Rattle.std.proofs.Common.{◌≡◌, ◌++◌, ℕ, List, length}
use Rattle.h5_driver.specs.Parsing.{text_of, view_of}
use Rattle.h5_driver.specs.Reading.{Advances}
use denote.Shadow.{shadow}
use denote.Text.{Utf8}
use Rattle.h5_driver.proofs.parser.Parser.process_parts.Given as goal

abbrev pub invariant-parts : goal.invariant-parts
invariant-parts g l =
    let reader = g.R.Reader in
    let first = l.fn.self in
    let now = l.self in
    record {
      utf8 : shadow (Utf8 l.left);
      flag : now.failed ≡ first.failed;
      advances : (text : List ℕ) × (Advances reader.Readings (text_of reader first) (view_of reader first) text (text_of reader now) (view_of reader now) now.waiting × (text ++ l.left ≡ first.waiting ++ l.fn.text));
    }

abbrev pub decreases-parts : goal.decreases-parts
decreases-parts g l = length l.left

use Rattle.std.proofs.Common.{◌≡◌, ◌++◌, ℕ, List, length, map, string_bytes}
use Rattle.h5_driver.specs.Parsing.{joined, text_of, view_of}
use Rattle.h5_driver.specs.Reading.{Advances}
use Rattle.h5_driver.proofs.parser.Parser.process_each.Given as goal

abbrev pub invariant-pieces : goal.invariant-pieces
invariant-pieces g l =
    let reader = g.R.Reader in
    let first = l.fn.self in
    let now = l.self in
    record {
      flag : now.failed ≡ first.failed;
      advances : (text : List ℕ) × (Advances reader.Readings (text_of reader first) (view_of reader first) text (text_of reader now) (view_of reader now) now.waiting
          × (text ++ joined (map string_bytes l.left) ≡ first.waiting ++ joined (map string_bytes l.fn.pieces)));
    }

abbrev pub decreases-pieces : goal.decreases-pieces
decreases-pieces g l = length l.left

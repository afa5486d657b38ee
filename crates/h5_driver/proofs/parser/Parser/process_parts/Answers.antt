use Rattle.std.proofs.Common.{◌≡◌, ◌++◌, take, refl, ap, ◌∙◌, append_assoc, rules}
use Rattle.std.proofs.lemmas.List.{take-append-drop}
use Rattle.h5_driver.specs.Parsing.{text_of, view_of}
use Rattle.h5_driver.proofs.ReadingLaws.{nothing_read, piece_taken}
use Rattle.h5_driver.proofs.parser.Parser.process_parts.Goals as goal

pub parts-init : goal.parts-init
parts-init g c =
    let first = c.args.self.now in
    record { utf8 = search rules; flag = refl; advances = (first.waiting, (nothing_read g.met.R.Reader.lawful (text_of g.R.Reader first) (view_of g.R.Reader first) first.waiting, refl)) }

pub parts-preserved : goal.parts-preserved
parts-preserved g c =
    let left = c.parts.left.now in
    let n = c.ceil_char_boundary.result in
    let part = c.split_at.result.0.now in
    let rest = c.split_at.result.1.now in
    let before = c.parts.invariant.advances.0 in
    let took = c.in_ok-process.ensures.takes in
    let whole : part ++ rest ≡ left = ap (λ z. z ++ rest) c.split_at.ensures.front ∙ ap (λ z. take n left ++ z) c.split_at.ensures.back ∙ take-append-drop n left in
    record {
      utf8 = search rules;
      flag = search rules;
      advances = (
        before ++ part,
        (
          piece_taken g.met.R.Reader.lawful part c.parts.invariant.advances.1.0 took.advances took.none_waits,
          append_assoc before part rest ∙ ap (λ z. before ++ z) whole ∙ c.parts.invariant.advances.1.1,
        ),
      );
    }

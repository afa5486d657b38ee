use Rattle.std.proofs.Common.{◌≡◌, ◌++◌, ◌∷◌, map, string_bytes, refl, ap, sym, ◌∙◌, append_assoc, rules}
use Rattle.h5_driver.specs.Parsing.{joined, text_of, view_of}
use Rattle.h5_driver.proofs.ReadingLaws.{nothing_read, piece_taken}
use Rattle.h5_driver.proofs.parser.Parser.process_each.Goals as goal

pub pieces-init : goal.pieces-init
pieces-init g c =
    let first = c.args.self.now in
    record { flag = refl; advances = (first.waiting, (nothing_read g.met.R.Reader.lawful (text_of g.R.Reader first) (view_of g.R.Reader first) first.waiting, refl)) }

pub pieces-preserved : goal.pieces-preserved
pieces-preserved g c =
    let text = c.as_str.result.now in
    let rest = joined (map string_bytes c.in-Some.rest.now) in
    let before = c.pieces.invariant.advances.0 in
    let took = c.in_ok-process.ensures.takes in
    let cut : c.pieces.left.now ≡ c.in-Some.piece.now ∷ c.in-Some.rest.now = search rules in
    record {
      flag = search rules;
      advances = (
        before ++ text,
        (
          piece_taken g.met.R.Reader.lawful text c.pieces.invariant.advances.1.0 took.advances took.none_waits,
          append_assoc before text rest ∙ ap (λ z. before ++ (z ++ rest)) c.as_str.ensures.value ∙ ap (λ z. before ++ joined (map string_bytes z)) (sym cut) ∙ c.pieces.invariant.advances.1.1,
        ),
      );
    }

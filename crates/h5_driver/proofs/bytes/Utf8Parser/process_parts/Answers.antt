use Rattle.std.proofs.Common.{◌++◌, [], refl, ap, sym, ◌∙◌, append_assoc, rules}
use Rattle.h5_driver.proofs.ByteLaws.{chunk_taken, nothing_taken}
use Rattle.h5_driver.proofs.bytes.Utf8Parser.process_parts.Goals as goal

pub parts-init : goal.parts-init
parts-init g c = record { flag = refl; advances = ([], (nothing_taken g.R.Reader g.met.R.Reader.lawful c.args.self.now, refl)) }

pub parts-preserved : goal.parts-preserved
parts-preserved g c =
    let part = c.split_at.result.0.now in
    let rest = c.split_at.result.1.now in
    let taken = c.parts.invariant.advances.0 in
    record {
      flag = search rules;
      advances = (
        taken ++ part,
        (
          chunk_taken g.R.Reader g.met.R.Reader.lawful taken part c.args.self.now c.parts.self c.process.new.self c.parts.invariant.advances.1.0 c.in_ok-process.ensures.takes,
          append_assoc taken part rest ∙ ap (λ z. taken ++ z) (sym c.split_at.ensures.by_index.0) ∙ c.parts.invariant.advances.1.1,
        ),
      );
    }

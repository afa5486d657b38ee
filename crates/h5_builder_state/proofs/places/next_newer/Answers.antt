use Rattle.std.proofs.Common.{◌+◌, arith, sym, ◌∙◌}
use Rattle.h5_builder_state.proofs.ItemLaws.{length-numbers_of, number_at}
use Rattle.h5_builder_state.proofs.PlaceLaws.{newest_same}
use Rattle.h5_builder_state.proofs.ReplaceLaws.{newest_below_le}
use Rattle.h5_builder_state.specs.Items.{numbers_of}
use Rattle.h5_builder_state.proofs.places.next_newer.Goals as goal

pub up-init : goal.up-init
up-init g c = record {
  count = omega (arith, c.len-count.ensures, c.args.items.now.ok.0);
  high = omega (arith, c.requires.place, c.len-count.ensures, c.args.items.now.ok.0);
  above = omega arith;
  first = newest_below_le (numbers_of c.args.items.now.items) c.args.number (c.args.place + 1) (omega (arith, c.requires.place, length-numbers_of c.args.items.now.items));
}

pub returns-then-index-number : goal.returns-then-index-number
returns-then-index-number g c =
    let items = c.args.items.now.items in
    record {
      above = c.up.invariant.above;
      inside = omega (arith, c.up-test.true, c.up.invariant.count, length-numbers_of items);
      here = sym (number_at items c.up.next c.index-in-up.result.now (omega (arith, c.up-test.true, c.up.invariant.count)) c.index-in-up.ensures) ∙ c.if-index-number.true;
      first = c.up.invariant.first;
    }

pub up-preserved : goal.up-preserved
up-preserved g c =
    let items = c.args.items.now.items in
    let number = number_at items c.up.next c.index-in-up.result.now (omega (arith, c.up-test.true, c.up.invariant.count)) c.index-in-up.ensures in
    record {
      count = c.up.invariant.count;
      high = omega (arith, c.up-test.true);
      above = omega (arith, c.up.invariant.above);
      first =
          omega (
            arith,
            newest_same (numbers_of items) c.up.next c.args.number (omega (arith, c.up-test.true, c.up.invariant.count, length-numbers_of items)) (λ e. c.if-index-number.false (number ∙ sym e)),
            c.up.invariant.first,
          );
    }

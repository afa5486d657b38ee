use Rattle.std.proofs.Common.{◌-◌, arith}
use Rattle.h5_token.specs.TokenText.{tag_text}
use Rattle.h5_builder_state.proofs.SurplusLaws.{all_end, all_go_on}
use Rattle.h5_builder_state.proofs.surplus.find_among_all.Goals as goal

pub down-preserved : goal.down-preserved
down-preserved g c =
    all_go_on c.args.entries.now.items (tag_text c.args.tag.now) c.args.end c.requires c.down.next (c.down.next - 1) c.down.found c.with_entry-found.result c.index.result.now c.down.invariant c.down-test.true
    (omega (arith, c.down-test.true)) c.index.ensures c.with_entry-found.ensures.found c.with_entry-found.ensures.few

pub returns : goal.returns
returns g c = λ node. all_end c.args.entries.now.items (tag_text c.args.tag.now) c.args.end c.requires c.down.next c.down.found c.down.invariant c.down-test.false node

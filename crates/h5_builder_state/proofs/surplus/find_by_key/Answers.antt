use Rattle.std.proofs.Common.{◌-◌, arith}
use Rattle.std.proofs.lemmas.List.{length-map}
use Rattle.h5_token.specs.TokenText.{tag_text}
use Rattle.h5_builder_state.specs.Numbered.{Numbered, numbers}
use Rattle.h5_builder_state.proofs.SurplusLaws.{keys_begin, keys_end, keys_go_on}
use Rattle.h5_builder_state.proofs.surplus.find_by_key.Goals as goal

pub down-init : goal.down-init
down-init g c =
    let many = length-map c.args.keys.now (λ (one : Numbered _). one.number) in
    keys_begin c.args.entries.now.items (numbers c.args.keys.now) (tag_text c.args.tag.now) c.args.number c.args.end c.requires.after c.requires.others c.newest-keyed.result c.newest-unkeyed.result c.newest-keyed.ensures.newest c.newest-unkeyed.ensures.newest
    (omega (arith, c.newest-keyed.ensures.within, many)) (omega (arith, c.newest-unkeyed.ensures.within, many))

pub down-preserved-then-keyed-unkeyed : goal.down-preserved-then-keyed-unkeyed
down-preserved-then-keyed-unkeyed g c =
    (keys_go_on c.args.entries.now.items (numbers c.args.keys.now) (tag_text c.args.tag.now) c.args.number c.args.end c.requires.after c.requires.others c.down.keyed c.down.unkeyed (c.max-place.result - 1) c.older-older.result c.down.found c.with_entry-found.result c.index.result.now c.down.invariant
    (omega (arith, c.down-test.true, c.max.ensures)) (omega (arith, c.down-test.true, c.max.ensures, c.max-place.ensures))
    c.older-older.ensures.older c.older-older.ensures.within c.index.ensures c.with_entry-found.ensures.found c.with_entry-found.ensures.few).0 c.if-keyed-unkeyed.true

pub down-preserved : goal.down-preserved
down-preserved g c =
    (keys_go_on c.args.entries.now.items (numbers c.args.keys.now) (tag_text c.args.tag.now) c.args.number c.args.end c.requires.after c.requires.others c.down.keyed c.down.unkeyed (c.max-place.result - 1) c.older-older.result c.down.found c.with_entry-found.result c.index.result.now c.down.invariant
    (omega (arith, c.down-test.true, c.max.ensures)) (omega (arith, c.down-test.true, c.max.ensures, c.max-place.ensures))
    c.older-older.ensures.older c.older-older.ensures.within c.index.ensures c.with_entry-found.ensures.found c.with_entry-found.ensures.few).1 c.if-keyed-unkeyed.false

pub returns : goal.returns
returns g c = λ node. keys_end c.args.entries.now.items (numbers c.args.keys.now) (tag_text c.args.tag.now) c.args.number c.args.end c.requires.after c.requires.others c.down.keyed c.down.unkeyed c.down.found c.down.invariant (omega (arith, c.down-test.false, c.max.ensures)) node

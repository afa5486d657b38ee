use Rattle.std.proofs.Common.{ap, string_bytes, ◌+◌}
use Rattle.std.proofs.lemmas.Result.{on_ok_weaker}
use Rattle.h5_builder_state.proofs.NumberingLaws.{after_insert, one_more, set_of, set_other, set_stays}
use Rattle.h5_builder_state.proofs.numbering.Numbering.add.Goals as goal

pub invariant_of-self-clause-sound : goal.invariant_of-self-clause-sound
invariant_of-self-clause-sound c =
    after_insert c.insert.result c.args.self.now.numbers c.insert.new.self c.args.self.now.base c.args.text.now (string_bytes c.in_ok-key.key) (c.args.self.now.base + c.len-count.result) c.in_ok-key.ensures.ok c.requires
    (ap (λ z. c.args.self.now.base + z) c.len-count.ensures.len)
    (on_ok_weaker c.insert.result (set_of c.args.self.now.numbers c.insert.new.self c.args.text.now (c.args.self.now.base + c.len-count.result) c.in_ok-key.key c.in_ok-key.ensures.ok) c.insert.ensures.updates)
    c.insert.ensures.old c.insert.ensures.len c.insert.ensures.err c.args.self.now.sound

pub returns-clause-stay : goal.returns-clause-stay
returns-clause-stay c =
    set_stays c.args.self.now.numbers c.insert.new.self c.args.text.now (c.args.self.now.base + c.len-count.result) c.requires
    (set_of c.args.self.now.numbers c.insert.new.self c.args.text.now (c.args.self.now.base + c.len-count.result) c.in_ok-key.key c.in_ok-key.ensures.ok c.in_ok-insert.ensures.updates)

pub returns-clause-others : goal.returns-clause-others
returns-clause-others c =
    set_other c.args.self.now.numbers c.insert.new.self c.args.text.now (c.args.self.now.base + c.len-count.result)
    (set_of c.args.self.now.numbers c.insert.new.self c.args.text.now (c.args.self.now.base + c.len-count.result) c.in_ok-key.key c.in_ok-key.ensures.ok c.in_ok-insert.ensures.updates)

pub returns-clause-grows : goal.returns-clause-grows
returns-clause-grows c =
    one_more c.in_ok-insert.field-0 c.args.self.now.numbers c.insert.new.self c.args.self.now.base c.args.text.now (string_bytes c.in_ok-key.key) c.in_ok-key.ensures.ok c.requires c.in_ok-insert.ensures.old c.in_ok-insert.ensures.len

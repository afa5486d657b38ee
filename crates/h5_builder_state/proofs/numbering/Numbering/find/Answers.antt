use Rattle.std.proofs.Common.{◌∙◌}
use Rattle.h5_builder_state.proofs.NumberingLaws.{found_above, found_below}
use Rattle.h5_builder_state.proofs.numbering.Numbering.find.Goals as goal

pub returns-clause-above : goal.returns-clause-above
returns-clause-above c = found_above c.copied.result c.args.self.now.numbers c.args.self.now.base c.args.text.now (c.copied.ensures ∙ c.get.ensures.value) c.args.self.now.sound

pub returns-clause-below : goal.returns-clause-below
returns-clause-below c = found_below c.copied.result c.args.self.now.numbers c.args.self.now.base c.args.text.now (c.copied.ensures ∙ c.get.ensures.value) c.args.self.now.sound

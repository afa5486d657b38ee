use Rattle.std.proofs.Common.{ap, sym, ◌∙◌}
use Rattle.h5_builder_spec.specs.World.{names_of}
use Rattle.h5_builder_state.specs.Numbers.{name_number}
use Rattle.h5_builder_state.specs.View.{world}
use Rattle.h5_builder_state.proofs.ChainLaws.{none_open}
use Rattle.h5_builder_state.proofs.StackLaws.{named}
use Rattle.h5_builder_state.proofs.find.find_since.Goals as goal

pub find_numbered-requires-clause-number : goal.find_numbered-requires-clause-number
find_numbered-requires-clause-number g c =
    let f = (g.S.TreeSink.sees c.args.sink.now).forest in
    ap (name_number c.args.state.now.open_elems.numbers) (named f (g.S.TreeSink.node c.args.handle.now) c.elem_name.result.now c.elem_name.ensures) ∙ sym c.in-Ok-Some.ensures ∙ c.in-Ok-Some.field-0-is

pub returns-in-Ok-None-clause-found : goal.returns-in-Ok-None-clause-found
unfolding world names_of
returns-in-Ok-None-clause-found g c =
    let node = g.S.TreeSink.node in
    let f = (g.S.TreeSink.sees c.args.sink.now).forest in
    let numbers = c.args.state.now.open_elems.numbers in
    let none = ap (name_number numbers) (named f (node c.args.handle.now) c.elem_name.result.now c.elem_name.ensures) ∙ sym c.in-Ok-None.ensures ∙ c.in-Ok-None.field-0-is in
    sym (none_open node f c.args.state.now.open_elems c.requires.sound.kept (node c.args.handle.now) none)

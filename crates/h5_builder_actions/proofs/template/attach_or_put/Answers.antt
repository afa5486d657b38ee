use Rattle.std.proofs.Common.{◌<◌, length, codes, ap, sym, subst, ◌∙◌}
use Rattle.h5_names.specs.AttributeText.{attribute_texts}
use Rattle.h5_interface.specs.Seen.{attach}
use Rattle.h5_builder_spec.specs.Changes.{insert_element, pop, with_forest}
use Rattle.h5_builder_spec.specs.World.{World}
use Rattle.h5_builder_state.specs.Steps.{world_of}
use Rattle.h5_builder_actions.proofs.PutLaws.{onok_then}
use Rattle.h5_builder_actions.proofs.ShadowLaws.{not_attached_is}
use Rattle.h5_builder_actions.proofs.template.attach_or_put.Goals as goal

pub pop-requires : goal.pop-requires
pop-requires g c = record {
  sound = c.attach.ensures.sound;
  some = subst (λ (v : World). 0 < length v.stack) (sym c.in_ok-attach.ensures.done) c.requires.open.some;
}

pub returns-clause-done : goal.returns-clause-done
returns-clause-done g c =
    let choices = g.S.TreeSink.choices in
    let node = g.S.TreeSink.node in
    let w = world_of g.S.TreeSink c.args.sink.now c.args.state.now in
    let attrs = attribute_texts c.args.attrs.items in
    let flag = c.args.had_duplicate_attributes in
    let host = node c.args.host.now in
    let template = node c.args.template.now in
    let same = ap attribute_texts c.as_slice.ensures.value in
    onok_then c.insert_element.result _ _ _ c.insert_element.ensures.world
    (ap (λ local. insert_element choices local attrs flag (world_of g.S.TreeSink c.pop.new.sink c.pop.new.state)) c.from_known-name.ensures
    ∙ ap (insert_element choices (codes "template") attrs flag) (c.pop.ensures.world ∙ ap (pop choices) (c.in_ok-attach.ensures.done ∙ ap (λ a. with_forest (attach choices host template a w.forest) w) same))
    ∙ not_attached_is choices host template attrs flag w (ap (λ a. choices.attaches w.forest host template a) (sym same) ∙ sym c.in_ok-attach.ensures.answer ∙ c.if-branch.false))

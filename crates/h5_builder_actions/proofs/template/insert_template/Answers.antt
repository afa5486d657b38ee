use Rattle.std.proofs.Common.{◌<◌, length, sym, subst}
use Rattle.h5_names.specs.AttributeText.{attribute_texts}
use Rattle.h5_interface.specs.Forest.{IsNode}
use Rattle.h5_builder_spec.specs.insertion.Templates.{push_loose_template}
use Rattle.h5_builder_spec.specs.World.{World}
use Rattle.h5_builder_spec.proofs.changes.TemplateLaws.{host_is_node, template_is_node}
use Rattle.h5_builder_state.specs.Steps.{world_of}
use Rattle.h5_builder_actions.proofs.ShadowLaws.{loose_is_open}
use Rattle.h5_builder_actions.proofs.template.insert_template.Goals as goal

pub attach_or_put-requires-clause-open : goal.attach_or_put-requires-clause-open
attach_or_put-requires-clause-open g c =
    let w = world_of g.S.TreeSink c.args.sink.now c.args.state.now in
    record {
      sound = c.push_loose_template.ensures.sound;
      some = subst (λ (v : World). 0 < length v.stack) (sym c.in_ok-template.ensures.done)
          (loose_is_open g.S.TreeSink.choices (attribute_texts c.in_ok-copy.copy.attrs.items) c.args.tag.had_duplicate_attributes w);
    }

pub attach_or_put-requires-clause-host : goal.attach_or_put-requires-clause-host
attach_or_put-requires-clause-host g c =
    let w = world_of g.S.TreeSink c.args.sink.now c.args.state.now in
    let attrs = attribute_texts c.in_ok-copy.copy.attrs.items in
    let flag = c.args.tag.had_duplicate_attributes in
    subst (λ (v : World). IsNode v.forest (g.S.TreeSink.node c.current_node-host.result)) (sym c.in_ok-template.ensures.done)
    (subst (IsNode (push_loose_template g.S.TreeSink.choices attrs flag w).forest) (sym c.current_node-host.ensures.current) (host_is_node g.S.TreeSink.choices attrs flag w c.requires.sound))

pub attach_or_put-requires-clause-template : goal.attach_or_put-requires-clause-template
attach_or_put-requires-clause-template g c =
    let w = world_of g.S.TreeSink c.args.sink.now c.args.state.now in
    let attrs = attribute_texts c.in_ok-copy.copy.attrs.items in
    let flag = c.args.tag.had_duplicate_attributes in
    subst (λ (v : World). IsNode v.forest (g.S.TreeSink.node c.in_ok-template.template)) (sym c.in_ok-template.ensures.done)
    (subst (IsNode (push_loose_template g.S.TreeSink.choices attrs flag w).forest) (sym c.in_ok-template.ensures.handle) (template_is_node g.S.TreeSink.choices attrs flag w c.requires.sound))

use Rattle.std.proofs.Common.{ap, codes, ◌∙◌}
use Rattle.h5_names.specs.AttributeText.{is_same_text}
use Rattle.h5_builder_state.specs.Steps.{world_of}
use Rattle.h5_builder_state.specs.View.{world}
use Rattle.h5_builder_actions.proofs.AgencyLaws.{never_root_after, still_element}
use Rattle.h5_builder_actions.proofs.GoneLaws.{agency_leaves_listed, agency_leaves_open}
use Rattle.h5_builder_actions.proofs.NodeLaws.{listed_nodes}
use Rattle.h5_builder_actions.proofs.agency.handle_misnested_a_tags.Goals as goal

pub clone_handle-element-requires : goal.clone_handle-element-requires
unfolding world
clone_handle-element-requires g c = listed_nodes (world_of g.S.TreeSink c.args.sink.now c.args.state.now) c.requires.sound.sound (g.S.TreeSink.node c.element_at.result.now) c.element_at.ensures.listed

pub remove_listed-requires-clause-element : goal.remove_listed-requires-clause-element
unfolding world
remove_listed-requires-clause-element g c =
    let l = c.in-Some.ensures.place in
    still_element g.S.TreeSink.choices _ l.element (g.S.TreeSink.node c.clone_handle-element.result) (world_of g.S.TreeSink c.args.sink.now c.args.state.now)
    (world_of g.S.TreeSink c.adoption_agency.new.sink c.adoption_agency.new.state) l.newest (ap (λ t. is_same_text t (codes "html")) c.from_known-name.ensures) c.requires.ready
    c.in_ok-adoption_agency-in-Some.ensures.world (c.clone_handle-element.ensures ∙ c.element_at.ensures.node l.newer l.older l.element.node l.element.tag l.cut l.here)

pub remove_listed-requires-clause-root : goal.remove_listed-requires-clause-root
remove_listed-requires-clause-root g c =
    let l = c.in-Some.ensures.place in
    never_root_after g.S.TreeSink.choices _ l.element (g.S.TreeSink.node c.clone_handle-element.result) (world_of g.S.TreeSink c.args.sink.now c.args.state.now)
    (world_of g.S.TreeSink c.adoption_agency.new.sink c.adoption_agency.new.state) l.newest (ap (λ t. is_same_text t (codes "html")) c.from_known-name.ensures) c.requires.ready
    c.in_ok-adoption_agency-in-Some.ensures.world (c.clone_handle-element.ensures ∙ c.element_at.ensures.node l.newer l.older l.element.node l.element.tag l.cut l.here)

pub remove_listed-requires-clause-listed : goal.remove_listed-requires-clause-listed
remove_listed-requires-clause-listed g c =
    let l = c.in-Some.ensures.place in
    agency_leaves_listed g.S.TreeSink.choices _ c.in-Some.at (g.S.TreeSink.node c.clone_handle-element.result) (world_of g.S.TreeSink c.args.sink.now c.args.state.now)
    (world_of g.S.TreeSink c.adoption_agency.new.sink c.adoption_agency.new.state) c.requires.ready l
    c.in_ok-adoption_agency-in-Some.ensures.world (c.clone_handle-element.ensures ∙ c.element_at.ensures.node l.newer l.older l.element.node l.element.tag l.cut l.here)

pub remove_listed-requires-clause-open : goal.remove_listed-requires-clause-open
remove_listed-requires-clause-open g c =
    let l = c.in-Some.ensures.place in
    agency_leaves_open g.S.TreeSink.choices _ c.in-Some.at (g.S.TreeSink.node c.clone_handle-element.result) (world_of g.S.TreeSink c.args.sink.now c.args.state.now)
    (world_of g.S.TreeSink c.adoption_agency.new.sink c.adoption_agency.new.state) c.requires.ready l
    c.in_ok-adoption_agency-in-Some.ensures.world (c.clone_handle-element.ensures ∙ c.element_at.ensures.node l.newer l.older l.element.node l.element.tag l.cut l.here)

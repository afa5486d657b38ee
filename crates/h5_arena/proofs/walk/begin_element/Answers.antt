use Rattle.std.proofs.Common.{◌∙◌, [], ◌∷◌, ◌++◌, ap, subst, sym}
use Rattle.std.specs.Prelude.{Err, Ok, Some}
use Rattle.h5_interface.specs.Forest.{IsForest}
use Rattle.h5_names.specs.AttributeText.{attribute_texts}
use Rattle.h5_arena.specs.ArenaModel.{ArenaView, forest_seen}
use Rattle.h5_arena.specs.NodeCalls.{calls_of_children}
use Rattle.h5_serialize.specs.Call.{EndOf, StartOf}
use Rattle.h5_serialize.proofs.WalkSteps.{slice_attributes, start_walked}
use Rattle.h5_arena.proofs.NodeCallLaws.{calls_of_element}
use Rattle.h5_arena.proofs.WalkLaws.{begins_not, begins_open}
use Rattle.h5_arena.proofs.walk.begin_element.Goals as goal

pub returns-in_err-start_elem_ref-clause-calls : goal.returns-in_err-start_elem_ref-clause-calls
returns-in_err-start_elem_ref-clause-calls g c =
    let f = forest_seen c.args.arena.now in
    let forest = subst (λ (a : ArenaView). IsForest (forest_seen a)) c.arena.view_is c.arena.invariant.is_forest in
    let calls = calls_of_element f c.args.id.index c.args.name.now (attribute_texts c.attrs.result.now) forest c.requires.element c.attrs.ensures in
    let walked = start_walked g.S.Serializer.answer g.S.Serializer.after g.S.Serializer.writes g.S.Serializer.breaks _ _ c.args.name.now (attribute_texts c.attrs.result.now) (g.S.Serializer.meaning c.args.serializer.now) (g.S.Serializer.contents c.args.serializer.now) (Err c.in_err-start_elem_ref.field-0.0) (g.S.Serializer.meaning c.start_elem_ref.new.self) (g.S.Serializer.contents c.start_elem_ref.new.self) (λ all h. slice_attributes all c.iter.result _ c.iter.ensures.rest h) c.in_err-start_elem_ref.ensures in
    begins_not g.S.Serializer.answer g.S.Serializer.after g.S.Serializer.writes g.S.Serializer.breaks f _ _ _ calls c.from_residual.ensures.1 walked

pub returns-clause-calls : goal.returns-clause-calls
returns-clause-calls g c =
    let f = forest_seen c.args.arena.now in
    let forest = subst (λ (a : ArenaView). IsForest (forest_seen a)) c.arena.view_is c.arena.invariant.is_forest in
    let calls = calls_of_element f c.args.id.index c.args.name.now (attribute_texts c.attrs.result.now) forest c.requires.element c.attrs.ensures in
    let walked = start_walked g.S.Serializer.answer g.S.Serializer.after g.S.Serializer.writes g.S.Serializer.breaks _ _ c.args.name.now (attribute_texts c.attrs.result.now) (g.S.Serializer.meaning c.args.serializer.now) (g.S.Serializer.contents c.args.serializer.now) (Ok tt) (g.S.Serializer.meaning c.start_elem_ref.new.self) (g.S.Serializer.contents c.start_elem_ref.new.self) (λ all h. slice_attributes all c.iter.result _ c.iter.ensures.rest h) c.in_ok-start_elem_ref.ensures in
    let opened = calls ∙ ap (λ cs. StartOf c.args.name.now (attribute_texts c.attrs.result.now) ∷ (calls_of_children f cs ++ EndOf c.args.name.now ∷ [])) (sym c.shown_children.ensures) in
    begins_open g.S.Serializer.answer g.S.Serializer.after g.S.Serializer.writes g.S.Serializer.breaks f _ (record { rest = c.shown_children.result; name = Some c.args.name }) opened walked

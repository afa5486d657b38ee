use Rattle.std.proofs.Common.{◌≡◌, ◌∙◌, [], ap, append-nil, inl, inr, subst, sym}
use Rattle.std.specs.Prelude.{None, Some}
use Rattle.h5_interface.specs.Forest.{DocumentNode, FragmentNode, IsForest}
use Rattle.h5_arena.specs.ArenaModel.{ArenaView, child_views, forest_seen, kind_view}
use Rattle.h5_arena.specs.NodeCalls.{calls_of, calls_of_children, shown_children}
use Rattle.h5_arena.proofs.NodeCallLaws.{calls_of_kind}
use Rattle.h5_arena.proofs.WalkLaws.{begins_one, begins_refused, begins_silent}
use Rattle.h5_arena.proofs.walk.begin.Goals as goal

pub returns-in_err-write_comment-in-Comment-clause-calls : goal.returns-in_err-write_comment-in-Comment-clause-calls
returns-in_err-write_comment-in-Comment-clause-calls g c =
    let f = forest_seen c.args.arena.now in
    let forest = subst (λ (a : ArenaView). IsForest (forest_seen a)) c.arena.view_is c.arena.invariant.is_forest in
    let told = calls_of_kind f c.args.id.index _ forest (c.kind.ensures ∙ ap (λ k. Some (kind_view k)) c.in-Comment.is) in
    begins_refused g.S.Serializer.answer g.S.Serializer.after g.S.Serializer.writes g.S.Serializer.breaks f _ [] _ told.1 c.from_residual.ensures.1 (rw c.as_str.ensures.value at c.in_err-write_comment-in-Comment.ensures)

pub returns-in_ok-write_comment-in-Comment-clause-calls : goal.returns-in_ok-write_comment-in-Comment-clause-calls
returns-in_ok-write_comment-in-Comment-clause-calls g c =
    let f = forest_seen c.args.arena.now in
    let forest = subst (λ (a : ArenaView). IsForest (forest_seen a)) c.arena.view_is c.arena.invariant.is_forest in
    let told = calls_of_kind f c.args.id.index _ forest (c.kind.ensures ∙ ap (λ k. Some (kind_view k)) c.in-Comment.is) in
    begins_one g.S.Serializer.answer g.S.Serializer.after g.S.Serializer.writes g.S.Serializer.breaks f _ told.1 (rw c.as_str.ensures.value at c.in_ok-write_comment-in-Comment.ensures)

pub returns-in_err-write_doctype-in-Doctype-clause-calls : goal.returns-in_err-write_doctype-in-Doctype-clause-calls
returns-in_err-write_doctype-in-Doctype-clause-calls g c =
    let f = forest_seen c.args.arena.now in
    let forest = subst (λ (a : ArenaView). IsForest (forest_seen a)) c.arena.view_is c.arena.invariant.is_forest in
    let told = calls_of_kind f c.args.id.index _ forest (c.kind.ensures ∙ ap (λ k. Some (kind_view k)) c.in-Doctype.is) in
    begins_refused g.S.Serializer.answer g.S.Serializer.after g.S.Serializer.writes g.S.Serializer.breaks f _ [] _ told.1 c.from_residual-in_err-write_doctype-in-Doctype.ensures.1 (rw c.as_str-in-Doctype.ensures.value at c.in_err-write_doctype-in-Doctype.ensures)

pub returns-in_ok-write_doctype-in-Doctype-clause-calls : goal.returns-in_ok-write_doctype-in-Doctype-clause-calls
returns-in_ok-write_doctype-in-Doctype-clause-calls g c =
    let f = forest_seen c.args.arena.now in
    let forest = subst (λ (a : ArenaView). IsForest (forest_seen a)) c.arena.view_is c.arena.invariant.is_forest in
    let told = calls_of_kind f c.args.id.index _ forest (c.kind.ensures ∙ ap (λ k. Some (kind_view k)) c.in-Doctype.is) in
    begins_one g.S.Serializer.answer g.S.Serializer.after g.S.Serializer.writes g.S.Serializer.breaks f _ told.1 (rw c.as_str-in-Doctype.ensures.value at c.in_ok-write_doctype-in-Doctype.ensures)

pub returns-in_err-write_processing_instruction-in-Instruction-clause-calls : goal.returns-in_err-write_processing_instruction-in-Instruction-clause-calls
returns-in_err-write_processing_instruction-in-Instruction-clause-calls g c =
    let f = forest_seen c.args.arena.now in
    let forest = subst (λ (a : ArenaView). IsForest (forest_seen a)) c.arena.view_is c.arena.invariant.is_forest in
    let told = calls_of_kind f c.args.id.index _ forest (c.kind.ensures ∙ ap (λ k. Some (kind_view k)) c.in-Instruction.is) in
    begins_refused g.S.Serializer.answer g.S.Serializer.after g.S.Serializer.writes g.S.Serializer.breaks f _ [] _ told.1 c.from_residual-in_err-write_processing_instruction-in-Instruction.ensures.1 (rw (c.as_str-in-Instruction.ensures.value, c.as_str-in-Instruction-2.ensures.value) at c.in_err-write_processing_instruction-in-Instruction.ensures)

pub returns-in_ok-write_processing_instruction-in-Instruction-clause-calls : goal.returns-in_ok-write_processing_instruction-in-Instruction-clause-calls
returns-in_ok-write_processing_instruction-in-Instruction-clause-calls g c =
    let f = forest_seen c.args.arena.now in
    let forest = subst (λ (a : ArenaView). IsForest (forest_seen a)) c.arena.view_is c.arena.invariant.is_forest in
    let told = calls_of_kind f c.args.id.index _ forest (c.kind.ensures ∙ ap (λ k. Some (kind_view k)) c.in-Instruction.is) in
    begins_one g.S.Serializer.answer g.S.Serializer.after g.S.Serializer.writes g.S.Serializer.breaks f _ told.1 (rw (c.as_str-in-Instruction.ensures.value, c.as_str-in-Instruction-2.ensures.value) at c.in_ok-write_processing_instruction-in-Instruction.ensures)

pub returns-in-Document-clause-calls : goal.returns-in-Document-clause-calls
returns-in-Document-clause-calls g c =
    let f = forest_seen c.args.arena.now in
    let id = c.args.id.index in
    let forest = subst (λ (a : ArenaView). IsForest (forest_seen a)) c.arena.view_is c.arena.invariant.is_forest in
    let calls : calls_of f id ≡ calls_of_children f (shown_children f id) = elim c.in-Document.is [
      | inl is ↦ (calls_of_kind f id DocumentNode forest (c.kind.ensures ∙ ap (λ k. Some (kind_view k)) is)).1
      | inr is ↦ (calls_of_kind f id FragmentNode forest (c.kind.ensures ∙ ap (λ k. Some (kind_view k)) is)).1
    ] in
    begins_silent g.S.Serializer.answer g.S.Serializer.after g.S.Serializer.writes g.S.Serializer.breaks f (record { rest = c.shown_children.result; name = None })
    (calls ∙ ap (calls_of_children f) (sym c.shown_children.ensures) ∙ sym (append-nil (calls_of_children f (child_views c.shown_children.result.now))))

use Rattle.std.proofs.Common.{◌∙◌, [], ◌∷◌, ◌++◌, append-nil, ap, arith, subst, sym}
use Rattle.std.specs.Prelude.{option_copied}
use Rattle.std.proofs.lemmas.List.{nil_from_length}
use Rattle.h5_interface.specs.Forest.{IsForest}
use Rattle.h5_serialize.specs.Walk.{NoCall}
use Rattle.h5_serialize.proofs.WalkSteps.{walk_stopped}
use Rattle.h5_arena.specs.ArenaModel.{ArenaView, forest_seen}
use Rattle.h5_arena.specs.OpenNodes.{calls_left, end_calls}
use Rattle.h5_arena.proofs.WalkLaws.{AreWaiting, behind, calls_waiting, child_done, child_opened, first_child, first_held, less_opened, no_child, opened_held, under_way_done, under_way_further, under_way_starved, under_way_stopped, waiting_fewer, waiting_more, weight_waiting_more, calls_waiting_more}
use Rattle.h5_arena.proofs.walk.walk_open.Goals as goal

pub loop-child-init : goal.loop-child-init
loop-child-init g c =
    let f = forest_seen c.args.arena.now in
    rw c.new-around.ensures.items (record {
      made = [];
      split = sym (append-nil (calls_left f c.args.first));
      are_made = NoCall;
      held = c.requires;
      waiting = tt;
    })

pub returns-in_err-opened-in-Some : goal.returns-in_err-opened-in-Some
returns-in_err-opened-in-Some g c =
    let f = forest_seen c.args.arena.now in
    let next = first_child f c.loop-child.current c.loop-child.around.items c.in-Some.child.now c.in-Some.rest c.in-Some.ensures.cases.0 in
    walk_stopped g.S.Serializer.answer g.S.Serializer.after g.S.Serializer.writes g.S.Serializer.breaks _ c.from_residual.ensures.1
    (under_way_stopped g.S.Serializer.answer g.S.Serializer.after g.S.Serializer.writes g.S.Serializer.breaks {calls = calls_left f c.args.first} _ _ c.loop-child.invariant next c.in_err-opened-in-Some.ensures.calls)

pub returns-in_err-push-in-Some : goal.returns-in_err-push-in-Some
returns-in_err-push-in-Some g c =
    let f = forest_seen c.args.arena.now in
    let begun = rw c.in-Some-2.is at c.in_ok-opened-in-Some.ensures.calls in
    let next = child_opened f c.loop-child.current c.in-Some-2.opened c.loop-child.around.items c.in-Some.child.now c.in-Some.rest begun.0 c.in-Some.ensures.cases.0 begun.1 in
    walk_stopped g.S.Serializer.answer g.S.Serializer.after g.S.Serializer.writes g.S.Serializer.breaks _ c.from_residual-in_err-push-in-Some.ensures.1
    (under_way_starved g.S.Serializer.answer g.S.Serializer.after g.S.Serializer.writes g.S.Serializer.breaks {calls = calls_left f c.args.first} _ _ c.loop-child.invariant next begun.2)

pub loop-child-smaller-in-Some-2 : goal.loop-child-smaller-in-Some-2
loop-child-smaller-in-Some-2 g c =
    let f = forest_seen c.args.arena.now in
    let forest = subst (λ (a : ArenaView). IsForest (forest_seen a)) c.arena.view_is c.arena.invariant.is_forest in
    let opened = rw c.in-Some-2.is at c.in_ok-opened-in-Some.ensures.opened in
    rw c.in_ok-push-in-Some.ensures.items (less_opened f c.loop-child.current c.in-Some-2.opened c.loop-child.around.items c.in-Some.child.now c.in-Some.rest forest c.in-Some.ensures.cases.0 opened)

pub loop-child-preserved-in-Some-2 : goal.loop-child-preserved-in-Some-2
loop-child-preserved-in-Some-2 g c =
    let f = forest_seen c.args.arena.now in
    let forest = subst (λ (a : ArenaView). IsForest (forest_seen a)) c.arena.view_is c.arena.invariant.is_forest in
    let opened = rw c.in-Some-2.is at c.in_ok-opened-in-Some.ensures.opened in
    let begun = rw c.in-Some-2.is at c.in_ok-opened-in-Some.ensures.calls in
    let next = child_opened f c.loop-child.current c.in-Some-2.opened c.loop-child.around.items c.in-Some.child.now c.in-Some.rest begun.0 c.in-Some.ensures.cases.0 begun.1 in
    let held = first_held f c.loop-child.current c.in-Some.child.now c.in-Some.rest c.in-Some.ensures.cases.0 c.loop-child.invariant.held in
    rw c.in_ok-push-in-Some.ensures.items
    (under_way_further g.S.Serializer.answer g.S.Serializer.after g.S.Serializer.writes g.S.Serializer.breaks {calls = calls_left f c.args.first} begun.0 c.in-Some-2.opened (c.loop-child.around.items ++ behind c.loop-child.current c.in-Some.rest ∷ []) c.loop-child.invariant next begun.2 (opened_held f c.in-Some.child.now c.in-Some-2.opened forest opened) (waiting_more f c.loop-child.around.items (behind c.loop-child.current c.in-Some.rest) c.loop-child.invariant.waiting held.1))

pub loop-child-preserved-in_default : goal.loop-child-preserved-in_default
loop-child-preserved-in_default g c =
    let f = forest_seen c.args.arena.now in
    let begun = rw c.in_default.is at c.in_ok-opened-in-Some.ensures.calls in
    let next = child_done f c.loop-child.current c.loop-child.around.items c.in-Some.child.now c.in-Some.rest begun.0 c.in-Some.ensures.cases.0 begun.1 in
    let held = first_held f c.loop-child.current c.in-Some.child.now c.in-Some.rest c.in-Some.ensures.cases.0 c.loop-child.invariant.held in
    under_way_further g.S.Serializer.answer g.S.Serializer.after g.S.Serializer.writes g.S.Serializer.breaks {calls = calls_left f c.args.first} begun.0 (behind c.loop-child.current c.in-Some.rest) c.loop-child.around.items c.loop-child.invariant next begun.2 held.1 c.loop-child.invariant.waiting

pub returns-in_err-end-in-None : goal.returns-in_err-end-in-None
returns-in_err-end-in-None g c =
    let f = forest_seen c.args.arena.now in
    let next = no_child f c.loop-child.current c.loop-child.around.items c.in-None.ensures.cases in
    walk_stopped g.S.Serializer.answer g.S.Serializer.after g.S.Serializer.writes g.S.Serializer.breaks _ c.from_residual-in_err-end-in-None.ensures.1
    (under_way_stopped g.S.Serializer.answer g.S.Serializer.after g.S.Serializer.writes g.S.Serializer.breaks {calls = calls_left f c.args.first} _ _ c.loop-child.invariant next c.in_err-end-in-None.ensures)

pub loop-child-smaller : goal.loop-child-smaller
loop-child-smaller g c =
    let f = forest_seen c.args.arena.now in
    let fewer = c.in-Some-pop.ensures.items in
    let more = weight_waiting_more f c.pop.new.self.items c.in-Some-pop.outer in
    rw fewer (omega (arith, more))

pub loop-child-preserved : goal.loop-child-preserved
loop-child-preserved g c =
    let f = forest_seen c.args.arena.now in
    let fewer = c.in-Some-pop.ensures.items in
    let next = no_child f c.loop-child.current c.loop-child.around.items c.in-None.ensures.cases
    ∙ ap (λ calls. end_calls (option_copied c.loop-child.current.name) ++ calls) (ap (calls_waiting f) fewer ∙ calls_waiting_more f c.pop.new.self.items c.in-Some-pop.outer) in
    let held = waiting_fewer f c.pop.new.self.items c.in-Some-pop.outer (subst (AreWaiting f) fewer c.loop-child.invariant.waiting) in
    under_way_further g.S.Serializer.answer g.S.Serializer.after g.S.Serializer.writes g.S.Serializer.breaks {calls = calls_left f c.args.first} _ c.in-Some-pop.outer c.pop.new.self.items c.loop-child.invariant next c.in_ok-end-in-None.ensures held.1 held.0

pub returns-in-None-pop : goal.returns-in-None-pop
returns-in-None-pop g c =
    let f = forest_seen c.args.arena.now in
    let ends = end_calls (option_copied c.loop-child.current.name) in
    let none = nil_from_length c.loop-child.around.items (omega (arith, c.loop-child.around.ok.0, c.in-None-pop.ensures.cases.0)) in
    let next = no_child f c.loop-child.current c.loop-child.around.items c.in-None.ensures.cases ∙ ap (λ nodes. ends ++ calls_waiting f nodes) none ∙ append-nil ends in
    under_way_done g.S.Serializer.answer g.S.Serializer.after g.S.Serializer.writes g.S.Serializer.breaks {calls = calls_left f c.args.first} ends c.loop-child.invariant next c.in_ok-end-in-None.ensures

use Rattle.std.proofs.Common.{◌≡◌, ◌-◌, suc, ◌∙◌, arith}
use Rattle.h5_builder_state.specs.Steps.{world_of}
use Rattle.h5_builder_actions.proofs.AgencyLaws.{round_leaves_ready, within_last, within_more}
use Rattle.h5_builder_actions.proofs.agency.rounds.Goals as goal

pub returns-then-not-branch : goal.returns-then-not-branch
returns-then-not-branch g c =
    let w = world_of g.S.TreeSink c.rounds.sink c.rounds.state in
    let v = world_of g.S.TreeSink c.round.new.sink c.round.new.state in
    let fewer : suc (c.rounds.left - 1) ≡ c.rounds.left = omega (arith, c.rounds-test.true) in
    record {
      world = within_last g.S.TreeSink.choices c.args.name.now c.rounds.left (c.rounds.left - 1) w v c.in_ok-round.field-0 fewer c.if-not-branch.true c.in_ok-round.ensures.done ∙ c.rounds.invariant.left;
      quiet = c.in_ok-round.ensures.quiet ∙ c.rounds.invariant.quiet;
      sound = c.in_ok-round.ensures.sound;
    }

pub rounds-preserved : goal.rounds-preserved
rounds-preserved g c =
    let w = world_of g.S.TreeSink c.rounds.sink c.rounds.state in
    let v = world_of g.S.TreeSink c.round.new.sink c.round.new.state in
    let fewer : suc (c.rounds.left - 1) ≡ c.rounds.left = omega (arith, c.rounds-test.true) in
    record {
      sound = c.in_ok-round.ensures.sound;
      ready = round_leaves_ready g.S.TreeSink.choices c.args.name.now w v c.in_ok-round.field-0 c.requires.name c.rounds.invariant.ready c.in_ok-round.ensures.done;
      quiet = c.in_ok-round.ensures.quiet ∙ c.rounds.invariant.quiet;
      left = within_more g.S.TreeSink.choices c.args.name.now c.rounds.left (c.rounds.left - 1) w v c.in_ok-round.field-0 fewer c.if-not-branch.false c.in_ok-round.ensures.done ∙ c.rounds.invariant.left;
    }

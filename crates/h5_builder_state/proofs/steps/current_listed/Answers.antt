use Rattle.std.proofs.Common.{subst, sym}
use Rattle.h5_builder_state.specs.Stamps.{IsAbove, stamps_of}
use Rattle.h5_builder_state.proofs.steps.current_listed.Goals as goal

pub returns-clause-above : goal.returns-clause-above
returns-clause-above g c =
    subst (λ n. IsAbove n c.current_stamp.result (stamps_of g.S.TreeSink.node c.args.state.now.open_elems)) (sym c.current_node.ensures.current) c.current_stamp.ensures.above

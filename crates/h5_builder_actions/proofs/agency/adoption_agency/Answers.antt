use Rattle.h5_builder_state.specs.Steps.{world_of}
use Rattle.h5_builder_actions.proofs.AgencyLaws.{some_open}
use Rattle.h5_builder_actions.proofs.agency.adoption_agency.Goals as goal

pub pop-requires : goal.pop-requires
pop-requires g c = record { sound = c.requires.sound; some = some_open (world_of g.S.TreeSink c.args.sink.now c.args.state.now) c.requires.ready.root }

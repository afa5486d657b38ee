use Rattle.h5_serialize.specs.Standing.{IsBrokenBy, answer_to, standing_after, text_written}
use Rattle.h5_serialize.proofs.WalkSteps.{walk_start}
use Rattle.h5_serialize.proofs.html.HtmlSerializerSerializer.start_elem_ref.Goals as goal

pub returns-clause-walks : goal.returns-clause-walks
returns-clause-walks g c = walk_start answer_to standing_after text_written IsBrokenBy _ _ _ _ c.start.ensures

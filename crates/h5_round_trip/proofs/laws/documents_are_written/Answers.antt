use Rattle.std.proofs.Common.{[], ◌++◌, codes, ap, sym, ◌∙◌}
use Rattle.h5_builder_laws.specs.Plain.{root_of}
use Rattle.h5_round_trip.specs.Written.{written_before}
use Rattle.h5_round_trip.proofs.KeptNewlineLaws.{kept_as_written}
use Rattle.h5_round_trip.proofs.WrittenLaws.{document_written}
use Rattle.h5_round_trip.proofs.laws.documents_are_written.Goals as goal

pub returns-clause-as_they_stand : goal.returns-clause-as_they_stand
returns-clause-as_they_stand c = λ f d opts forest stands scope create. document_written f (c.calls_stand_around_those_of_children.ensures f forest) opts d scope create stands

pub returns-clause-as_their_text : goal.returns-clause-as_their_text
returns-clause-as_their_text c = λ f d opts forest stands keeps scope create.
    document_written f (c.calls_stand_around_those_of_children.ensures f forest) opts d scope create stands
    ∙ ap (λ nodes. codes "<!DOCTYPE html>" ++ written_before nodes []) (sym (kept_as_written (root_of d) keeps))

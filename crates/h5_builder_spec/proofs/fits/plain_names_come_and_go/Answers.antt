use Rattle.h5_builder_spec.proofs.roles.EndTagLaws.{frame_other_end}
use Rattle.h5_builder_spec.proofs.roles.RoleNameLaws.{frame_on, frame_pushed, frame_while, frame_without}
use Rattle.h5_builder_spec.proofs.roles.TestLaws.{frame_found}
use Rattle.h5_builder_spec.proofs.fits.plain_names_come_and_go.Goals as goal

pub returns-clause-pushed : goal.returns-clause-pushed
returns-clause-pushed c = frame_pushed

pub returns-clause-popped : goal.returns-clause-popped
returns-clause-popped c = frame_while

pub returns-clause-taken_out : goal.returns-clause-taken_out
returns-clause-taken_out c = frame_without

pub returns-clause-put_on : goal.returns-clause-put_on
returns-clause-put_on c = frame_on

pub returns-clause-closed : goal.returns-clause-closed
returns-clause-closed c = frame_found

pub returns-clause-ended : goal.returns-clause-ended
returns-clause-ended c = frame_other_end

use Rattle.std.proofs.Common.{◌∙◌, ap}
use Rattle.std.proofs.lemmas.Result.{on_ok_weaker}
use Rattle.h5_edit.specs.Editing.{moved_into}
use Rattle.h5_edit.specs.Moving.{passed}
use Rattle.h5_edit.proofs.moves.set_children.Goals as goal

pub returns-clause-ok : goal.returns-clause-ok
returns-clause-ok c =
    on_ok_weaker c.move_into.result (λ e. e ∙ ap (moved_into c.args.parent.index (passed c.args.children.items)) c.in_ok-set_text.ensures.ok) c.move_into.ensures.ok

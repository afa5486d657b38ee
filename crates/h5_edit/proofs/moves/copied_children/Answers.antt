use Rattle.std.proofs.Common.{All, length, subst, sym}
use Rattle.std.proofs.lemmas.Result.{IfOk-weaker}
use Rattle.h5_edit.specs.Moving.{IsWithin}
use Rattle.h5_edit.proofs.MoveLaws.{all_within}
use Rattle.h5_edit.proofs.moves.copied_children.Goals as goal

pub returns-clause-within : goal.returns-clause-within
returns-clause-within c =
    IfOk-weaker c.copied.result _ _
    (λ copied e. subst (λ xs. All (IsWithin (length c.args.arena.now.nodes)) xs) (sym e) (all_within c.args.arena.now c.children.result.now c.children.ensures.held))
    c.copied.ensures

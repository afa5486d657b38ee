use Rattle.std.proofs.Common.{◌≡◌, ap, sym, subst, Result, Ok, Err}
use Rattle.std.specs.Result.{IsErrAnd, IsErrOf}
use Rattle.h5_serialize.specs.Standing.{HtmlState, IsBrokenBy, answer_to, standing_after, text_written}
use Rattle.h5_serialize.specs.declared.fault.SerializeFault.{SerializeFault}
use Rattle.h5_serialize.proofs.EachLaws.{made_writes}
use Rattle.h5_serialize.proofs.WalkLemmas.{IsWorking, made_parents, stopped_orphan, never_stopped}
use Rattle.h5_serialize.proofs.write.serialize.Goals as goal

-- the error that is returned is the walk's
same_fault : {A : Type 0} (r : Result A SerializeFault) (walked fault : SerializeFault) → IsErrAnd r (λ answered. answered ≡ walked) → IsErrOf r fault → walked ≡ fault
same_fault (Ok x) walked fault h e = absurd h
same_fault (Err answered) walked fault h e = cc

pub returns-clause-parents : goal.returns-clause-parents
returns-clause-parents g c =
    let parents = made_parents c.in_ok-serialize.ensures in
    rw (c.in_ok-traversal_scope.ensures, c.in_ok-serializer.ensures.standing) at parents

pub returns-clause-text : goal.returns-clause-text
returns-clause-text g c =
    let text = made_writes answer_to standing_after text_written IsBrokenBy c.in_ok-serialize.ensures in
    let held = ap (λ (s : HtmlState). s.contents) c.serializer.view_is in
    rw (held, ← c.in_ok-serializer.ensures.contents, ← c.in_ok-serializer.ensures.standing, ← c.in_ok-traversal_scope.ensures) text

pub returns-in_err-serialize-clause-no_parent : goal.returns-in_err-serialize-clause-no_parent
returns-in_err-serialize-clause-no_parent g c = λ e.
    let orphan = stopped_orphan c.in_err-serialize.ensures (same_fault _ _ _ c.from_residual-in_err-serialize.ensures.1 e) in
    rw (c.in_ok-traversal_scope.ensures, c.in_ok-serializer.ensures.standing) at orphan

pub returns-in_err-serialize-clause-not_failed : goal.returns-in_err-serialize-clause-not_failed
returns-in_err-serialize-clause-not_failed g c = λ e.
    let working = subst IsWorking (sym c.in_ok-serializer.ensures.standing) tt in
    never_stopped c.in_err-serialize.ensures working (same_fault _ _ _ c.from_residual-in_err-serialize.ensures.1 e)

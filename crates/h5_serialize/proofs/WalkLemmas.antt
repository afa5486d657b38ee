-- The state of the HTML serializer after a walk of calls.
use Rattle.std.proofs.Common.{◌≡◌, ℕ, Bool, true, false, ◌||◌, cond, List, [], ◌∷◌, ◌++◌, Option, Result, Ok, Err, refl, sym, ap, ◌∙◌, subst}
use Rattle.h5_serialize.specs.Call.{Call}
use Rattle.h5_serialize.specs.Openers.{lacks_parent}
use Rattle.h5_serialize.specs.Standing.{Standing, Broken, Working, answer_to, standing_after, text_written, IsBrokenBy, is_orphan, has_orphan, walk_text}
use Rattle.h5_serialize.specs.Walk.{Makes, AreMade, NoCall, OneMore, IsStopped, Starved, Refused, after_each}
use Rattle.h5_serialize.specs.declared.fault.SerializeFault.{SerializeFault}
use Rattle.h5_serialize.specs.declared.fault.SerializeFault.TheVariants.{NoParent, Memory, Write, Failed}
use Rattle.h5_serialize.specs.Fronts.{AppendsFront}
use Rattle.h5_serialize.proofs.EachLaws.{made_means, made_writes, text_split}
use Rattle.h5_serialize.proofs.FrontLaws.{front_first, front_later, front_none, front_whole}

-- the state after these calls
abbrev pub after_all : Standing → List Call → Standing
after_all = after_each standing_after

or_assoc : (a b c : Bool) → a || (b || c) ≡ (a || b) || c
or_assoc true b c = refl
or_assoc false b c = refl

pub orphan_split : (m : Standing) (calls rest : List Call) → has_orphan m (calls ++ rest) ≡ has_orphan m calls || has_orphan (after_all m calls) rest
orphan_split m [] rest = refl
orphan_split m (call ∷ calls) rest = ap (λ b. is_orphan m call || b) (orphan_split (standing_after m call) calls rest) ∙ or_assoc (is_orphan m call) _ _

or_true : (a b : Bool) → b ≡ true → a || b ≡ true
or_true true b h = refl
or_true false b h = h

or_false : (a b : Bool) → a ≡ false → b ≡ false → a || b ≡ false
or_false a b h g = ap (λ x. x || b) h ∙ g

-- what follows from the results
abbrev answer_where : Bool → Result (Unit {0}) SerializeFault
answer_where lacks = cond lacks (Err NoParent) (Ok tt)

lacks_none : (r : Result (Unit {0}) SerializeFault) (b : Bool) → r ≡ Ok tt → r ≡ answer_where b → b ≡ false
lacks_none r true e h = cc
lacks_none r false e h = refl

lacks_one : (r : Result (Unit {0}) SerializeFault) (b : Bool) → r ≡ Err NoParent → r ≡ answer_where b → b ≡ true
lacks_one r true e h = refl
lacks_one r false e h = cc

never_failed : (r : Result (Unit {0}) SerializeFault) (b : Bool) → r ≡ Err Failed → r ≡ answer_where b → ⊥
never_failed r true e h = cc
never_failed r false e h = cc

no_orphan : (m : Standing) (call : Call) → Ok tt ≡ answer_to m call → is_orphan m call ≡ false
no_orphan Broken call h = refl
no_orphan (Working s c os) call h = lacks_none _ (lacks_parent c call os) refl h

an_orphan : (m : Standing) (call : Call) → Err NoParent ≡ answer_to m call → is_orphan m call ≡ true
an_orphan Broken call h = cc
an_orphan (Working s c os) call h = lacks_one _ (lacks_parent c call os) refl h

abbrev pub IsWorking : Standing → Type 0
IsWorking Broken = ⊥
IsWorking (Working s c os) = Unit {0}

working_after : (m : Standing) (calls : List Call) → IsWorking m → IsWorking (after_all m calls)
working_after m [] h = h
working_after Broken (call ∷ calls) h = absurd h
working_after (Working s c os) (call ∷ calls) h = working_after (standing_after (Working s c os) call) calls tt

works : (m : Standing) (call : Call) → IsWorking m → Err Failed ≡ answer_to m call → ⊥
works Broken call h g = h
works (Working s c os) call h g = never_failed _ (lacks_parent c call os) refl g

-- calls that succeeded have parents
pub made_parents : {m : Standing} {t : Option (List ℕ)} {calls : List Call} {n : Standing} {u : Option (List ℕ)} → AreMade answer_to standing_after text_written IsBrokenBy m t calls n u → has_orphan m calls ≡ false
made_parents NoCall = refl
made_parents {m} (OneMore {calls} {k} {v} call n u before made) =
    let standing = made_means answer_to standing_after text_written IsBrokenBy before in
    orphan_split m calls (call ∷ []) ∙ or_false _ _ (made_parents before) (or_false _ _ (ap (λ s. is_orphan s call) (sym standing) ∙ no_orphan k call made.answered) refl)

pub stopped_orphan : {m : Standing} {t : Option (List ℕ)} {calls : List Call} {fault : SerializeFault} {n : Standing} {u : Option (List ℕ)} → IsStopped answer_to standing_after text_written IsBrokenBy calls m t fault n u → fault ≡ NoParent → has_orphan m calls ≡ true
stopped_orphan (Starved made left e h) is = cc
stopped_orphan {m} {t} (Refused made call left {k} {n} {v} {u} {fault} e h makes) is =
    let standing = made_means answer_to standing_after text_written IsBrokenBy h in
    let P : SerializeFault → Type 0 = λ f. Makes answer_to standing_after text_written IsBrokenBy call k v (Err f) n u in
    let answered = (subst P is makes).answered in
    let here = ap (λ s. is_orphan s call) (sym standing) ∙ an_orphan k call answered in
    ap (has_orphan m) e ∙ orphan_split m made (call ∷ left) ∙ or_true _ _ (ap (λ b. b || has_orphan (standing_after (after_all m made) call) left) here)

pub never_stopped : {m : Standing} {t : Option (List ℕ)} {calls : List Call} {fault : SerializeFault} {n : Standing} {u : Option (List ℕ)} → IsStopped answer_to standing_after text_written IsBrokenBy calls m t fault n u → IsWorking m → fault ≡ Failed → ⊥
never_stopped (Starved made left e h) works is = cc
never_stopped {m} {t} (Refused made call left {k} {n} {v} {u} {fault} e h makes) working is =
    let standing = made_means answer_to standing_after text_written IsBrokenBy h in
    let P : SerializeFault → Type 0 = λ f. Makes answer_to standing_after text_written IsBrokenBy call k v (Err f) n u in
    let answered = (subst P is makes).answered in
    works k call (subst IsWorking (sym standing) (working_after m made working)) answered

-- a call that fails has written a prefix of its text
refused_front : {call : Call} {k n : Standing} {v u : Option (List ℕ)} (fault : SerializeFault) → Makes answer_to standing_after text_written IsBrokenBy call k v (Err fault) n u → AppendsFront v u (text_written k call)
refused_front {call} {k} {n} {v} {u} NoParent makes = front_whole v u (text_written k call) makes.written
refused_front {call} {k} {n} {v} {u} Memory makes = front_none v u (text_written k call) makes.broken.3
refused_front {call} {k} {n} {v} {u} Write makes = makes.broken.2
refused_front {call} {k} {n} {v} {u} Failed makes = front_whole v u (text_written k call) makes.written

-- so has a walk that is stopped
pub stopped_front : {m : Standing} {t : Option (List ℕ)} {calls : List Call} {fault : SerializeFault} {n : Standing} {u : Option (List ℕ)} → IsStopped answer_to standing_after text_written IsBrokenBy calls m t fault n u → AppendsFront t u (walk_text m calls)
stopped_front {m} {t} {calls} {fault} {n} {u} (Starved made left e h) =
    let parts = ap (walk_text m) e ∙ text_split standing_after text_written m made left in
    front_first (walk_text m made) (walk_text (after_all m made) left) (walk_text m calls) parts (front_whole t u (walk_text m made) (made_writes answer_to standing_after text_written IsBrokenBy h))
stopped_front {m} {t} {calls} (Refused made call left {k} {n} {v} {u} {fault} e h makes) =
    let Behind : Standing → List ℕ = λ s. text_written s call ++ walk_text (standing_after s call) left in
    let standing = made_means answer_to standing_after text_written IsBrokenBy h in
    let parts = ap (walk_text m) e ∙ text_split standing_after text_written m made (call ∷ left) ∙ ap (λ s. walk_text m made ++ Behind s) (sym standing) in
    let one = front_first (text_written k call) (walk_text (standing_after k call) left) (Behind k) refl (refused_front fault makes) in
    front_later (walk_text m made) (Behind k) (walk_text m calls) parts (made_writes answer_to standing_after text_written IsBrokenBy h) one

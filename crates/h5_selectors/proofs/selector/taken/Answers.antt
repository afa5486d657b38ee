use Rattle.std.proofs.Common.{◌≡◌, ◌∙◌, ◌+◌, ◌<◌, [], ◌∷◌, ◌++◌, ap, append-nil, arith, drop, length, map, sym}
use Rattle.std.specs.List.{filter}
use Rattle.std.proofs.Math.ListN.{drop_of_length-le}
use Rattle.h5_selectors.proofs.Selection.{none_taken, one_taken}
use Rattle.h5_selectors.proofs.selector.taken.Goals as goal
use Rattle.h5_selectors.proofs.selector.taken.Goals.{then-not-left-at+in_ok-push, else-not-left-at}

pub loop-at-preserved : goal.loop-at-preserved
loop-at-preserved g c =
    let ids = c.args.ids.now in
    let at = c.loop-at.at in
    let found = c.loop-at.found.items in
    let within : at < length ids = omega (arith, c.loop-at-test.true) in
    elim c.if-not-left-at.branch [
      | then-not-left-at+in_ok-push w ↦
          rw (w.found-is, w.in_ok-push.ensures.items) (λ place test told.
          ap (λ x. map place (found ++ x ∷ []) ++ filter test (map place (drop (at + 1) ids))) w.index-ids-at.is
          ∙ one_taken place test ids at w.index-ids-at.result within found _ (sym w.if-not-left-at.true ∙ told at within) (c.loop-at.invariant place test told))
      | else-not-left-at w ↦
          rw w.found-is (λ place test told. none_taken place test ids at within found _ (sym w.if-not-left-at.false ∙ told at within) (c.loop-at.invariant place test told))
    ]

pub returns : goal.returns
returns g c = λ place test told.
    let none : drop c.loop-at.at c.args.ids.now ≡ [] = drop_of_length-le c.args.ids.now (omega (arith, c.loop-at-test.false)) in
    sym (append-nil (map place c.loop-at.found.items))
    ∙ sym (ap (λ l. map place c.loop-at.found.items ++ filter test (map place l)) none)
    ∙ c.loop-at.invariant place test told

use Rattle.std.proofs.Common.{◌≡◌, ◌∙◌, ◌-◌, ℕ, List, length, drop, sym, ap, arith}
use Rattle.h5_encodings.specs.Prescan.{Names, Over, Passes, found_here, here_of, scan}
use Rattle.h5_encodings.proofs.PrescanLaws.{scan_found, scan_passes, scan_skips}
use Rattle.h5_encodings.proofs.prescan.scan.Goals as goal
use Rattle.h5_encodings.proofs.prescan.scan.Goals.{then-skipped-gt0, else-skipped-gt0+in_ok-found_here+in-Passes}

pub returns-in-Over : goal.returns-in-Over
returns-in-Over c =
    let bytes = c.args.bytes.now in
    let at = c.loop-at.at in
    let none : c.loop-at.skipped ≡ 0 = omega arith in
    let found : found_here (drop at bytes) ≡ Over = sym (ap found_here c.split_at.ensures.back) ∙ sym c.in_ok-found_here.ensures ∙ ap here_of c.in-Over.is in
    sym (scan_found bytes at Over c.loop-at-test.true found) ∙ ap (λ k. scan k (drop at bytes)) (sym none) ∙ c.loop-at.invariant

pub returns-in-Names : goal.returns-in-Names
returns-in-Names c =
    let bytes = c.args.bytes.now in
    let at = c.loop-at.at in
    let named = Names c.in-Names.encoding in
    let none : c.loop-at.skipped ≡ 0 = omega arith in
    let found : found_here (drop at bytes) ≡ named = sym (ap found_here c.split_at.ensures.back) ∙ sym c.in_ok-found_here.ensures ∙ ap here_of c.in-Names.is in
    sym (scan_found bytes at named c.loop-at-test.true found) ∙ ap (λ k. scan k (drop at bytes)) (sym none) ∙ c.loop-at.invariant

pub loop-at-preserved : goal.loop-at-preserved
loop-at-preserved c =
    let bytes = c.args.bytes.now in
    let at = c.loop-at.at in
    let lt = c.loop-at-test.true in
    elim c.if-skipped-gt0.branch [
      | then-skipped-gt0 w ↦ scan_skips bytes c.loop-at.skipped c.if-skipped-gt0.skipped at lt w.if-skipped-gt0.true w.skipped-is ∙ c.loop-at.invariant
      | else-skipped-gt0+in_ok-found_here+in-Passes w ↦
          let rest = w.in-Passes.rest.now in
          let found : found_here (drop at bytes) ≡ Passes rest = sym (ap found_here w.split_at.ensures.back) ∙ sym w.in_ok-found_here.ensures ∙ ap here_of w.in-Passes.is in
          let count : c.if-skipped-gt0.skipped ≡ length (drop at bytes) - 1 - length rest =
          w.skipped-is ∙ w.saturating_sub-skipped.ensures ∙ ap (λ (t : List ℕ). length t - 1 - length rest) w.split_at.ensures.back in
          let none : c.loop-at.skipped ≡ 0 = omega (arith, w.if-skipped-gt0.false) in
          scan_passes bytes rest at c.if-skipped-gt0.skipped lt found count ∙ ap (λ k. scan k (drop at bytes)) (sym none) ∙ c.loop-at.invariant
    ]

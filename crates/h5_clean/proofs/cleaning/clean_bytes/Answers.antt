use Rattle.std.proofs.Common.{Some, subst, sym, refl, ap}
use Rattle.h5_clean.specs.Cleaned.{IsCleaned}
use Rattle.h5_clean.proofs.CleanedLaws.{all_written}
use Rattle.h5_clean.proofs.cleaning.clean_bytes.Goals as goal

pub returns : goal.returns
returns g c =
    let made = c.in_ok-left.ensures.cleaned in
    let same = all_written _ _ made.0 c.in_ok-left.left.items (ap Some c.new.ensures.items) refl made.2 in
    subst (IsCleaned (g.P.Policy.rules c.args.policy.now) c.args.html.now) (sym same) made.1

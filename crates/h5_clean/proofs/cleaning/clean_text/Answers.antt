use Rattle.std.proofs.Common.{rules, subst, sym}
use Rattle.h5_clean.specs.Cleaned.{IsCleaned}
use Rattle.h5_clean.proofs.cleaning.clean_text.Goals as goal

pub returns : goal.returns
returns g c =
    let cleaned : IsCleaned (g.P.Policy.rules c.args.policy.now) c.args.html.now c.in_ok-left.left.items = search rules in
    subst (IsCleaned (g.P.Policy.rules c.args.policy.now) c.args.html.now) (sym c.in_ok-out.ensures) cleaned

use Rattle.h5_clean.proofs.CleanedLaws.{is_cleaned}
use Rattle.h5_clean.proofs.cleaning.clean_into.Goals as goal

pub returns-clause-cleaned : goal.returns-clause-cleaned
returns-clause-cleaned g c =
    let made = is_cleaned (g.P.Policy.rules c.args.policy.now) c.args.html.now c.in_ok-arena.arena (g.Wr.Write.contents c.args.writer) (g.Wr.Write.contents c.in_ok-given.given) c.in_ok-arena.ensures c.in_ok-given.ensures.cleaned in
    (made.0, made.1.0, made.1.1)

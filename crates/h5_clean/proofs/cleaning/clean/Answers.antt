use Rattle.std.proofs.Common.{string_bytes}
use Rattle.h5_clean.proofs.cleaning.clean.Goals as goal

pub returns-clause-again : goal.returns-clause-again
returns-clause-again g c = λ before h.
    c.a_cleaned_text_stays.ensures (g.P.Policy.rules c.args.policy.now) before c.args.html.now (string_bytes c.in_ok-out.out) h c.in_ok-out.ensures

pub returns-clause-whole : goal.returns-clause-whole
returns-clause-whole g c = λ nodes clean builds.
    c.a_clean_text_stays.ensures (g.P.Policy.rules c.args.policy.now) c.args.html.now (string_bytes c.in_ok-out.out) nodes clean builds c.in_ok-out.ensures

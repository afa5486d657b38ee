use Rattle.std.proofs.Common.{◌≡◌, ◌∙◌, rules, sym}
use Rattle.h5_names.specs.declared.known_name.KnownName.TheVariants.{Other}
use Rattle.h5_names.proofs.KnownNameLemmas.{equal_names, unequal_names, same_known, not_same_known}
use Rattle.h5_names.proofs.local_name.LocalNamePartialEq.eq.Goals as goal

pub returns-then-ne : goal.returns-then-ne
returns-then-ne c =
    let d = unequal_names c.known-known.result c.known-other_known.result (sym c.ne.ensures ∙ c.if-ne.true) in
    sym (not_same_known c.args.self.now c.args.other.now
    (λ e. d (c.known-known.ensures ∙ (e ∙ sym c.known-other_known.ensures))))

pub returns-then-ne-2 : goal.returns-then-ne-2
returns-then-ne-2 c =
    let e : c.known-known.result ≡ c.known-other_known.result =
    equal_names c.known-known.result c.known-other_known.result (sym c.ne.ensures ∙ c.if-ne.false) in
    let d = unequal_names c.known-known.result Other (sym c.ne-2.ensures ∙ c.if-ne-2.true) in
    c.if-ne-2.true
    ∙ sym (same_known c.args.self.now c.args.other.now
    (sym c.known-known.ensures ∙ (e ∙ c.known-other_known.ensures)) (λ k. d (c.known-known.ensures ∙ k)))

pub returns-else-ne-2 : goal.returns-else-ne-2
returns-else-ne-2 c = search rules

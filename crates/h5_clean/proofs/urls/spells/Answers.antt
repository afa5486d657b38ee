use Rattle.std.proofs.Common.{◌∙◌, rules, sym}
use Rattle.h5_clean.proofs.SchemeLaws.{no_spelling, spelled}
use Rattle.h5_clean.proofs.urls.spells.Goals as goal

pub returns-then-first-eq58 : goal.returns-then-first-eq58
returns-then-first-eq58 c = λ read. search rules ∙ sym (spelled read c.args.name.now c.args.url.now)

pub returns-in_default-name : goal.returns-in_default-name
returns-in_default-name c = λ read. search rules ∙ sym (spelled read c.args.name.now c.args.url.now)

pub returns-then-not-is_scheme_byte : goal.returns-then-not-is_scheme_byte
returns-then-not-is_scheme_byte c = λ read. search rules ∙ sym (spelled read c.args.name.now c.args.url.now)

pub returns : goal.returns
returns c = λ read. (sym (no_spelling c.loop-url.name.now c.loop-url.url.now c.in_default.len_below) ∙ c.loop-url.invariant) ∙ sym (spelled read c.args.name.now c.args.url.now)

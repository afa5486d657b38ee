use Rattle.std.proofs.Common.{rules, sym, ◌∙◌}
use Rattle.std.proofs.lemmas.Bool.{eqb-true}
use Rattle.h5_markup.proofs.TextLaws.{text_all_plain, text_done}
use Rattle.h5_markup.proofs.text.text_of.Goals as goal

pub returns : goal.returns
returns c = text_done c.args.references _ c.loop-rest.rest.now _ (eqb-true _ _ (sym c.is_empty.ensures ∙ c.loop-rest-test.false)) c.loop-rest.invariant.same

pub returns-then-plain_len-text : goal.returns-then-plain_len-text
returns-then-plain_len-text c =
    rw (text_all_plain c.args.references c.args.text.now c.plain_len.result c.if-plain_len-text.true c.plain_len.ensures.plain) c.from_str.ensures.ok

pub loop-rest-preserved : goal.loop-rest-preserved
loop-rest-preserved c = search rules

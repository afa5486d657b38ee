use Rattle.h5_tokenizer_spec.specs.declared.kinds.RawTextKind.TheVariants as raw
use Rattle.h5_tokenizer_spec.specs.Texts as t
use Rattle.h5_tokenizer_states.specs.OutcomeOf.{plain_less_than_sign_state}
use Rattle.h5_tokenizer_states.proofs.TextLaws.{text_kept}
use Rattle.h5_tokenizer_states.proofs.texts.raw_less_than_sign.Goals as goal

pub returns-in-ScriptData : goal.returns-in-ScriptData
returns-in-ScriptData c = rw c.in-ScriptData.is (text_kept _ _ _ _ (t.raw_less_than_sign_state raw.ScriptData c.args.b) c.script_data_less_than_sign.ensures)

pub returns-in-EscapedScriptData : goal.returns-in-EscapedScriptData
returns-in-EscapedScriptData c = rw c.in-EscapedScriptData.is c.escaped_less_than_sign.ensures

pub returns-in-Rcdata : goal.returns-in-Rcdata
returns-in-Rcdata c = rw c.in-Rcdata.is (text_kept _ _ _ _ (plain_less_than_sign_state raw.Rcdata c.args.b) (rw c.in-Rcdata.is at c.plain_less_than_sign.ensures))

pub returns-in-Rawtext : goal.returns-in-Rawtext
returns-in-Rawtext c = rw c.in-Rawtext.is (text_kept _ _ _ _ (plain_less_than_sign_state raw.Rawtext c.args.b) (rw c.in-Rawtext.is at c.plain_less_than_sign-in-Rawtext.ensures))

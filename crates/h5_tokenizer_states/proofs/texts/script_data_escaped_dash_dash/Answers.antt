use Rattle.h5_tokenizer_states.proofs.texts.script_data_escaped_dash_dash.Goals as goal

pub returns-in-60 : goal.returns-in-60
returns-in-60 c = rw c.in-60.is c.less_than_sign.ensures

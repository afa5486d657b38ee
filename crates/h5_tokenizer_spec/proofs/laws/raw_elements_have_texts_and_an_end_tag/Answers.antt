use Rattle.h5_tokenizer_spec.proofs.RawLaws.{chosen_raw, step_raw}
use Rattle.h5_tokenizer_spec.proofs.laws.raw_elements_have_texts_and_an_end_tag.Goals as goal

pub returns-clause-chosen : goal.returns-clause-chosen
returns-clause-chosen g c = chosen_raw

pub returns-clause-step : goal.returns-clause-step
returns-clause-step g c = λ table p m xs ts reply q n ys h step. step_raw table g.S.TokenSink.reply_to g.S.TokenSink.after g.S.TokenSink.is_foreign h step

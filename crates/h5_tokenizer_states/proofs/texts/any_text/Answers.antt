use Rattle.h5_tokenizer_states.proofs.texts.any_text.Goals as goal

pub returns-in-Data : goal.returns-in-Data
returns-in-Data c = rw c.in-Data.is c.data.ensures

pub returns-in-Rcdata : goal.returns-in-Rcdata
returns-in-Rcdata c = rw c.in-Rcdata.is c.rcdata.ensures

pub returns-in-Rawtext : goal.returns-in-Rawtext
returns-in-Rawtext c = rw c.in-Rawtext.is c.rawtext.ensures

pub returns-in-ScriptData : goal.returns-in-ScriptData
returns-in-ScriptData c = rw c.in-ScriptData.is c.script_data.ensures

pub returns-in-Plaintext : goal.returns-in-Plaintext
returns-in-Plaintext c = rw c.in-Plaintext.is c.plaintext.ensures

pub returns-in-CdataSection : goal.returns-in-CdataSection
returns-in-CdataSection c = rw c.in-CdataSection.is c.cdata_section.ensures

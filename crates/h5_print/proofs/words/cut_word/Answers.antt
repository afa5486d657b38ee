use Rattle.std.proofs.Common.{Some, None, sym, ap, ◌∙◌, lit<}
use Rattle.std.proofs.lemmas.Str.Pattern.{split_parts}
use Rattle.h5_print.specs.Words.{Cut, cut}
use Rattle.h5_print.proofs.WordLaws.{cut_at, cut_none}
use Rattle.h5_print.proofs.words.cut_word.Goals as goal

pub returns-in-Some-clause-word : goal.returns-in-Some-clause-word
returns-in-Some-clause-word c =
    let parts = split_parts 32 c.args.text.now (Some (c.in-Some.word, c.in-Some.operand)) c.in-Some.ensures.cases (lit< tt) in
    sym (ap (λ (k : Cut). k.word) (ap cut parts.0 ∙ cut_at c.in-Some.word.now c.in-Some.operand.now parts.1))

pub returns-in-Some-clause-operand : goal.returns-in-Some-clause-operand
returns-in-Some-clause-operand c =
    let parts = split_parts 32 c.args.text.now (Some (c.in-Some.word, c.in-Some.operand)) c.in-Some.ensures.cases (lit< tt) in
    sym (ap (λ (k : Cut). k.operand) (ap cut parts.0 ∙ cut_at c.in-Some.word.now c.in-Some.operand.now parts.1))

pub returns-in-None-clause-word : goal.returns-in-None-clause-word
returns-in-None-clause-word c =
    let none = split_parts 32 c.args.text.now None c.in-None.ensures.cases (lit< tt) in
    sym (ap (λ (k : Cut). k.word) (cut_none c.args.text.now none))

pub returns-in-None-clause-operand : goal.returns-in-None-clause-operand
returns-in-None-clause-operand c =
    let none = split_parts 32 c.args.text.now None c.in-None.ensures.cases (lit< tt) in
    sym (ap (λ (k : Cut). k.operand) (cut_none c.args.text.now none))

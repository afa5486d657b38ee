use Rattle.std.proofs.Common.{◌+◌, drop, ap, ◌∙◌, arith}
use Rattle.h5_tokenizer_states.specs.declared.runs.Run.TheVariants as run
use Rattle.h5_tokenizer_states.proofs.CountLaws.{AreCounted, counted_few, counted_on, plain_are_in}
use Rattle.h5_tokenizer_states.proofs.runs.count_references.Goals as goal
use Rattle.h5_tokenizer_states.proofs.runs.count_references.Goals.{After-count_in-m}

front : (c : After-count_in-m) → AreCounted run.References c.args.text.now c.count_plain-n.result.0 c.count_plain-n.result.1
front c = record {
  within = c.count_plain-n.ensures.within;
  taken = plain_are_in c.args.text.now c.count_plain-n.result.0 c.count_plain-n.ensures.within c.count_plain-n.ensures.plain;
  counted = c.count_plain-n.ensures.lines;
}

back : (c : After-count_in-m) → AreCounted run.References c.split_at.result.1.now c.count_in-m.result.0 c.count_in-m.result.1
back c = record { within = c.count_in-m.ensures.within; taken = c.count_in-m.ensures.taken; counted = c.count_in-m.ensures.lines }

both : (c : After-count_in-m) → AreCounted run.References c.args.text.now (c.count_plain-n.result.0 + c.count_in-m.result.0) (c.count_plain-n.result.1 + c.count_in-m.result.1)
both c =
    counted_on run.References c.args.text.now c.split_at.result.1.now c.count_plain-n.result.0 c.count_in-m.result.0 c.count_plain-n.result.1 c.count_in-m.result.1
    (c.split_at.ensures.back ∙ ap (drop c.count_plain-n.result.0) c.as_bytes.ensures.value) (front c) (back c)

pub overflow_add-result-2 : goal.overflow_add-result-2
overflow_add-result-2 c =
    let b = (goal.at.overflow_add-result-2 c).After-count_in-m in
    omega (arith, counted_few _ _ _ _ (both b), (both b).within)

pub returns-clause-taken : goal.returns-clause-taken
returns-clause-taken c = (both (goal.at.returns-clause-taken c).After-count_in-m).taken

pub returns-clause-lines : goal.returns-clause-lines
returns-clause-lines c = (both (goal.at.returns-clause-lines c).After-count_in-m).counted

use Rattle.std.proofs.Common.{rules, inl, inr}
use Rattle.h5_serialize.proofs.html.HtmlSerializer.start.Goals as goal

pub returns-in_err-parent_answer : goal.returns-in_err-parent_answer
returns-in_err-parent_answer g c = inr (λ attrs. search rules)

pub returns-in_err-find_parent : goal.returns-in_err-find_parent
returns-in_err-find_parent g c = inr (λ attrs. search rules)

pub returns-in_err-push : goal.returns-in_err-push
returns-in_err-push g c = inr (λ attrs. search rules)

pub returns-in_err-write_start_tag : goal.returns-in_err-write_start_tag
returns-in_err-write_start_tag g c = let written = c.in_err-write_start_tag.ensures.text in inl (written.0, written.1, search rules)

pub returns : goal.returns
returns g c = let written = c.in_ok-write_start_tag.ensures.text in inl (written.0, written.1, search rules)

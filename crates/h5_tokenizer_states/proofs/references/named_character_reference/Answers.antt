use Rattle.std.proofs.Common.{◌≡◌, List, ℕ, false, subst, sym, true, ◌∙◌}
use Rattle.std.proofs.lemmas.Bool.{cond-false, cond-true}
use Rattle.std.specs.Prelude.{is_some, string_bytes}
use Rattle.h5_tokenizer_spec.specs.References.{longest}
use Rattle.h5_tokenizer_spec.specs.ReferenceTable.{references}
use Rattle.h5_tokenizer_states.specs.Flushing.{Flushes, text_named}
use Rattle.h5_tokenizer_states.specs.StateOf.{return_of}
use Rattle.h5_tokenizer_states.proofs.FlushLaws.{flushes_named, flushes_seen, goes_further}
use Rattle.h5_tokenizer_states.proofs.references.named_character_reference.Goals as goal

pub returns-then-branch : goal.returns-then-branch
returns-then-branch c =
    goes_further c.args.return_to (string_bytes c.args.seen.now) (string_bytes c.goes_on.new.seen) c.args.b c.args.tag.now (string_bytes c.args.out.now) c.goes.result
    c.goes.ensures (sym c.in_ok-goes_on.ensures.0 ∙ c.if-branch.true) (c.in_ok-goes_on.ensures.1 ∙ cond-true _ _ _ c.if-branch.true)

pub returns-then-branch-2 : goal.returns-then-branch-2
returns-then-branch-2 c =
    let found = subst (λ (seen : List ℕ). true ≡ is_some (longest references seen)) c.as_str.ensures.value (sym c.if-branch-2.true ∙ c.in_ok-flush_named.ensures.found) in
    let flushes = subst (λ (seen : List ℕ). Flushes c.args.return_to (text_named (return_of c.args.return_to c.args.tag.now) seen c.args.b (longest references seen))
    c.args.tag.now (string_bytes c.args.out.now) c.flush_named.new.tag (string_bytes c.flush_named.new.out)) c.as_str.ensures.value c.in_ok-flush_named.ensures.flushed in
    flushes_named c.args.return_to (string_bytes c.args.seen.now) (string_bytes c.goes_on.new.seen) c.args.b c.args.tag.now (string_bytes c.args.out.now)
    c.flush_named.new.tag (string_bytes c.flush_named.new.out) c.returned.result c.returned.ensures
    (sym c.in_ok-goes_on.ensures.0 ∙ c.if-branch.false) (c.in_ok-goes_on.ensures.1 ∙ cond-false _ _ _ c.if-branch.false) found flushes

pub returns : goal.returns
returns c =
    let none = subst (λ (seen : List ℕ). false ≡ is_some (longest references seen)) c.as_str.ensures.value (sym c.if-branch-2.false ∙ c.in_ok-flush_named.ensures.found) in
    let flushes = subst (λ (seen : List ℕ). Flushes c.args.return_to (text_named (return_of c.args.return_to c.args.tag.now) seen c.args.b (longest references seen))
    c.args.tag.now (string_bytes c.args.out.now) c.flush_named.new.tag (string_bytes c.flush_named.new.out)) c.as_str.ensures.value c.in_ok-flush_named.ensures.flushed in
    flushes_seen c.args.return_to (string_bytes c.args.seen.now) (string_bytes c.goes_on.new.seen) c.args.b c.args.tag.now (string_bytes c.args.out.now)
    c.flush_named.new.tag (string_bytes c.flush_named.new.out) c.again.result c.again.ensures
    (sym c.in_ok-goes_on.ensures.0 ∙ c.if-branch.false) (c.in_ok-goes_on.ensures.1 ∙ cond-false _ _ _ c.if-branch.false) none flushes

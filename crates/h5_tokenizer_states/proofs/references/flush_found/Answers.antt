use Rattle.std.proofs.Common.{List, ℕ, subst, drop, take}
use Rattle.std.specs.Prelude.{OnOk, string_bytes}
use Rattle.h5_tokenizer_states.specs.Flushing.{Flushes}
use Rattle.h5_tokenizer_states.specs.StateOf.{return_of}
use Rattle.h5_tokenizer_states.proofs.FlushLaws.{text_of_found, text_of_seen}
use Rattle.h5_tokenizer_states.proofs.references.flush_found.Goals as goal

pub returns-then-is_historical : goal.returns-then-is_historical
returns-then-is_historical c =
    let seen = c.args.seen.now in
    let found = c.args.found.now in
    subst (λ (t : List ℕ). OnOk c.flush_both.result (Flushes c.args.return_to t c.args.tag.now (string_bytes c.args.out.now) c.flush_both.new.tag (string_bytes c.flush_both.new.out)))
    (text_of_seen (return_of c.args.return_to c.args.tag.now) seen c.args.b found.text.now (take found.len seen) (drop found.len seen) _ _ c.split_found.ensures.name c.split_found.ensures.rest (c.if-is_historical.ensures c.args.tag.now found.text.now))
    c.flush_both.ensures

pub returns : goal.returns
returns c =
    let seen = c.args.seen.now in
    let found = c.args.found.now in
    subst (λ (t : List ℕ). OnOk c.flush_both-2.result (Flushes c.args.return_to t c.args.tag.now (string_bytes c.args.out.now) c.flush_both-2.new.tag (string_bytes c.flush_both-2.new.out)))
    (text_of_found (return_of c.args.return_to c.args.tag.now) seen c.args.b found.text.now (take found.len seen) (drop found.len seen) _ _ c.split_found.ensures.name c.split_found.ensures.rest (c.if-is_historical.ensures c.args.tag.now found.text.now))
    c.flush_both-2.ensures

use Rattle.std.proofs.Common.{ℕ, List, None, Option, subst}
use Rattle.std.specs.Io.KnownBytes.{Appends}
use Rattle.h5_serialize.specs.Walk.{text_of_each}
use Rattle.h5_serialize.specs.declared.options.TraversalScope.TheVariants.{ChildrenOnly}
use Rattle.h5_arena.specs.ArenaModel.{forest_seen}
use Rattle.h5_arena.specs.NodeCalls.{walk_of}
use Rattle.h5_clean.specs.Calls.{State, after_call, first_state, text_of}
use Rattle.h5_clean.proofs.CleanedLaws.{writes_walk}
use Rattle.h5_clean.proofs.ParentLaws.{returned_fault, stopped_by_memory_or_writer}
use Rattle.h5_clean.proofs.cleaning.clean_tree.Goals as goal

pub returns-in_err-serialize-clause-fault : goal.returns-in_err-serialize-clause-fault
returns-in_err-serialize-clause-fault g c =
    returned_fault _ _ c.from_residual-in_err-serialize.ensures.1 (stopped_by_memory_or_writer c.in_ok-cleaner.ensures.state c.in_err-serialize.ensures)

pub returns-clause-cleaned : goal.returns-clause-cleaned
returns-clause-cleaned g c =
    let rules = g.P.Policy.rules c.args.policy.now in
    let f = forest_seen c.args.node.now.arena.now in
    let n = c.args.node.now.id.index in
    let calls = walk_of f n (ChildrenOnly None) in
    let made = c.texts_are_written_in_turn.ensures calls _ _ _ _ c.in_ok-serialize.ensures in
    let P : State → Option (List ℕ) → Option (List ℕ) → Type 0 = λ s t u. Appends t u (text_of_each after_call text_of s calls) in
    writes_walk rules f n (g.Wr.Write.contents c.args.writer) (g.Wr.Write.contents c.into_writer.result)
    (subst (λ u. P (first_state rules) (g.Wr.Write.contents c.args.writer) u) c.into_writer.ensures
    (subst (λ t. P (first_state rules) t c.serialize.new.serializer.html.contents) c.in_ok-cleaner.ensures.contents
    (subst (λ s. P s c.in_ok-cleaner.cleaner.html.contents c.serialize.new.serializer.html.contents) c.in_ok-cleaner.ensures.state made)))

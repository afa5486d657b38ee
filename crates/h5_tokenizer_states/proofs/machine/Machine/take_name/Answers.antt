use Rattle.std.proofs.Common.{◌≡◌, ◌++◌, true, false, take, sym, ap, ◌∙◌, arith, string_bytes}
use Rattle.h5_tokenizer_spec.specs.References.{is_beginning}
use Rattle.h5_tokenizer_spec.specs.ReferenceTable.{references}
use Rattle.h5_tokenizer_states.specs.MachineText.{MachineText}
use Rattle.h5_tokenizer_states.specs.contracts.machine.Machine.{the_view}
use Rattle.h5_tokenizer_states.proofs.NameRunLaws.{cut_name, took_name}
use Rattle.h5_tokenizer_states.proofs.PassLaws.{took_nothing}
use Rattle.h5_tokenizer_states.proofs.machine.Machine.take_name.Goals as goal
use Rattle.h5_tokenizer_states.proofs.machine.Machine.take_name.Goals.{Else-n-eq0}

begins : (c : Else-n-eq0) → is_beginning references (string_bytes c.self.inside.reference.seen ++ take c.further_len-n.result c.args.rest.now) ≡ true
begins c = rw (c.as_bytes.ensures.value, c.as_bytes-2.ensures.value) at c.further_len-n.ensures.some (omega (arith, c.if-n-eq0.false))

pub returns-then-n-eq0-clause-passes : goal.returns-then-n-eq0-clause-passes
returns-then-n-eq0-clause-passes c = λ out. took_nothing _ _ _

pub split_at-requires : goal.split_at-requires
split_at-requires c =
    cut_name (string_bytes c.self.inside.reference.seen) c.args.rest.now c.further_len-n.result c.utf8.rest (omega (arith, c.further_len-n.ensures.within, c.as_bytes-2.ensures.len)) (omega (arith, c.if-n-eq0.false)) (begins c)

pub returns-clause-passes : goal.returns-clause-passes
returns-clause-passes c = λ out.
    let b = (goal.at.returns-clause-passes c).Else-n-eq0 in
    let seen : c.args.self.now.parts.seen ≡ string_bytes c.self.inside.reference.seen = sym (ap (λ (m : MachineText). m.parts.seen) c.self.view_is) in
    took_name c.args.self.now _ c.requires.named.0 c.args.rest.now c.split_at.result.1.now c.split_at.result.0.now out c.further_len-n.result c.requires.named.1 c.split_at.ensures.front c.split_at.ensures.back
    (omega (arith, c.split_at.ensures.front_len, c.if-n-eq0.false)) c.requires.kept
    (ap (λ l. is_beginning references (l ++ take c.further_len-n.result c.args.rest.now)) seen ∙ begins b)
    (ap (λ l. record (the_view c.self.inside) { parts = record (the_view c.self.inside).parts { seen = l }; after_return = false }) c.in_ok-push_str.ensures.bytes
    ∙ ap (λ (m : MachineText). record m { parts = record m.parts { seen = m.parts.seen ++ c.split_at.result.0.now }; after_return = false }) c.self.view_is)

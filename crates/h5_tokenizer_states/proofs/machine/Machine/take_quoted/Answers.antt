use Rattle.std.proofs.Common.{◌≡◌, ◌+◌, false, ap, ◌∙◌, arith}
use Rattle.std.specs.Io.Iter.{u64_saturate}
use Rattle.h5_tokenizer_states.specs.MachineText.{MachineText}
use Rattle.h5_tokenizer_states.specs.contracts.machine.Machine.{the_view}
use Rattle.h5_tokenizer_states.specs.declared.machine_state.MachineState.TheVariants as at
use Rattle.h5_tokenizer_states.specs.declared.machine_state.TagState.TheVariants as g
use Rattle.h5_tokenizer_states.proofs.NameLaws.{attribute_name_is_name}
use Rattle.h5_tokenizer_states.proofs.PassLaws.{took_nothing}
use Rattle.h5_tokenizer_states.proofs.QuotedLaws.{took_quoted, with_quoted}
use Rattle.h5_tokenizer_states.proofs.machine.Machine.take_quoted.Goals as goal

pub returns-in_default-clause-passes : goal.returns-in_default-clause-passes
returns-in_default-clause-passes c = λ out. took_nothing _ _ _

pub push_quoted-requires : goal.push_quoted-requires
push_quoted-requires c = attribute_name_is_name c.in-Some.found.name.now c.in-Some.ensures.named

pub returns-clause-passes : goal.returns-clause-passes
returns-clause-passes c = λ out.
    let found = c.in-Some.found in
    let behind = at.Tag g.AfterAttributeValueQuoted in
    let same : c.line.result ≡ c.args.self.now.line = c.line.ensures ∙ ap (λ (m : MachineText). m.line) c.self.view_is in
    let line : c.saturating_add-self-inside.result ≡ u64_saturate (c.args.self.now.line + found.lines) = c.saturating_add-self-inside.ensures ∙ ap (λ l. u64_saturate (l + found.lines)) same in
    took_quoted c.args.self.now _ c.args.rest.now found.name.now found.value.now found.rest.now out found.lines c.requires (omega (arith, same, c.line.type_inv)) c.in-Some.ensures
    (ap (λ tag. record (the_view c.self.inside) { at = behind; parts = record (the_view c.self.inside).parts { tag = tag }; after_return = false; line = c.saturating_add-self-inside.result }) c.in_ok-push_quoted.ensures
    ∙ (λ i. let m : MachineText = c.self.view_is i in record m { at = behind; parts = record m.parts { tag = with_quoted found.name.now found.value.now m.parts.tag }; after_return = false; line = line i }))

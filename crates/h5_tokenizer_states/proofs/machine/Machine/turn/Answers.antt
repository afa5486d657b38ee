use Rattle.std.proofs.Common.{subst}
use Rattle.std.proofs.lemmas.Result.{IfOk-weaker}
use Rattle.std.specs.Prelude.{IfOk, string_bytes}
use Rattle.h5_token.specs.TokenText.{doctype_text}
use Rattle.h5_tokenizer_spec.specs.ReferenceTable.{references}
use Rattle.h5_tokenizer_spec.specs.Turn.{Turn}
use Rattle.h5_tokenizer_states.specs.declared.machine_state.MachineState.TheVariants as at
use Rattle.h5_tokenizer_states.specs.OutcomeOf.{Does}
use Rattle.h5_tokenizer_states.specs.Parts.{Parts}
use Rattle.h5_tokenizer_states.proofs.OutcomeLaws.{does_silently, turn_at}
use Rattle.h5_tokenizer_states.proofs.machine.Machine.turn.Goals as goal

pub returns-in-Text-clause-row : goal.returns-in-Text-clause-row
returns-in-Text-clause-row c =
    let m = c.self.inside in
    let parts : Parts = record { tag = c.text_turn.new.tag; comment = string_bytes m.comment; doctype = doctype_text m.doctype; buffer = string_bytes c.text_turn.new.buffer; seen = string_bytes m.reference.seen; code = m.reference.code } in
    subst (λ (t : Turn). IfOk c.text_turn.result (λ transition. Does transition (string_bytes c.args.out.now) (string_bytes c.text_turn.new.out) parts t))
    (turn_at _ _ (at.Text c.in-Text.state) c.args.b c.self.view_is c.in-Text.is) (IfOk-weaker c.text_turn.result _ _ (λ transition h. h references parts) c.text_turn.ensures)

pub returns-in-Tag-clause-row : goal.returns-in-Tag-clause-row
returns-in-Tag-clause-row c =
    let m = c.self.inside in
    let parts : Parts = record { tag = c.tag_turn.new.tag; comment = string_bytes c.tag_turn.new.comment; doctype = doctype_text m.doctype; buffer = string_bytes m.buffer; seen = string_bytes m.reference.seen; code = m.reference.code } in
    subst (λ (t : Turn). IfOk c.tag_turn.result (λ transition. Does transition (string_bytes c.args.out.now) (string_bytes c.tag_turn.new.out) parts t))
    (turn_at _ _ (at.Tag c.in-Tag.state) c.args.b c.self.view_is c.in-Tag.is) (IfOk-weaker c.tag_turn.result _ _ (λ transition h. h parts) (c.tag_turn.ensures references m.last))

pub returns-in-Comment-clause-row : goal.returns-in-Comment-clause-row
returns-in-Comment-clause-row c =
    let m = c.self.inside in
    let parts : Parts = record { tag = m.tag; comment = string_bytes c.comment_turn.new.text; doctype = doctype_text m.doctype; buffer = string_bytes m.buffer; seen = string_bytes m.reference.seen; code = m.reference.code } in
    subst (λ (t : Turn). IfOk c.comment_turn.result (λ transition. Does transition (string_bytes c.args.out.now) (string_bytes c.args.out.now) parts t))
    (turn_at _ _ (at.Comment c.in-Comment.state) c.args.b c.self.view_is c.in-Comment.is) (IfOk-weaker c.comment_turn.result _ _ (λ transition h. does_silently transition (string_bytes c.args.out.now) parts _ (h references m.last parts)) c.comment_turn.ensures)

pub returns-in-Doctype-clause-row : goal.returns-in-Doctype-clause-row
returns-in-Doctype-clause-row c =
    let m = c.self.inside in
    let parts : Parts = record { tag = m.tag; comment = string_bytes m.comment; doctype = doctype_text c.doctype_turn.new.doctype; buffer = string_bytes c.doctype_turn.new.seen; seen = string_bytes m.reference.seen; code = m.reference.code } in
    subst (λ (t : Turn). IfOk c.doctype_turn.result (λ transition. Does transition (string_bytes c.args.out.now) (string_bytes c.args.out.now) parts t))
    (turn_at _ _ (at.Doctype c.in-Doctype.state) c.args.b c.self.view_is c.in-Doctype.is) (IfOk-weaker c.doctype_turn.result _ _ (λ transition h. does_silently transition (string_bytes c.args.out.now) parts _ (h references m.last parts)) c.doctype_turn.ensures)

pub returns-in-Reference-clause-row : goal.returns-in-Reference-clause-row
returns-in-Reference-clause-row c =
    let m = c.self.inside in
    let parts : Parts = record { tag = c.reference_turn.new.tag; comment = string_bytes m.comment; doctype = doctype_text m.doctype; buffer = string_bytes m.buffer; seen = string_bytes c.reference_turn.new.reference.seen; code = c.reference_turn.new.reference.code } in
    subst (λ (t : Turn). IfOk c.reference_turn.result (λ transition. Does transition (string_bytes c.args.out.now) (string_bytes c.reference_turn.new.out) parts t))
    (turn_at _ _ (at.Reference c.in-Reference.state c.in-Reference.return_to) c.args.b c.self.view_is c.in-Reference.is) (IfOk-weaker c.reference_turn.result _ _ (λ transition h. h parts) (c.reference_turn.ensures m.last))

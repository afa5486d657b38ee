use Rattle.std.specs.Prelude.{[], string_bytes}
use Rattle.h5_token.specs.TokenText.{doctype_text}
use Rattle.h5_tokenizer_spec.specs.Construction.{nameless}
use Rattle.h5_tokenizer_states.proofs.ending.end_of.Goals as goal

pub returns-in_ok-end_text-in-Text-clause-ending : goal.returns-in_ok-end_text-in-Text-clause-ending
returns-in_ok-end_text-in-Text-clause-ending c =
    rw (← c.machine.view_is, c.in-Text.is, ← c.as_str.ensures.value) (c.in_ok-end_text-in-Text.ensures _)

pub returns-in-Comment-clause-ending : goal.returns-in-Comment-clause-ending
returns-in-Comment-clause-ending c =
    let m = c.machine.inside in
    rw (← c.machine.view_is, c.in-Comment.is)
    (c.end_comment.ensures (record { tag = m.tag; comment = []; doctype = doctype_text m.doctype; buffer = string_bytes m.buffer; seen = string_bytes m.reference.seen; code = m.reference.code }) (string_bytes c.args.out.now))

pub returns-in-Doctype-clause-ending : goal.returns-in-Doctype-clause-ending
returns-in-Doctype-clause-ending c =
    let m = c.machine.inside in
    rw (← c.machine.view_is, c.in-Doctype.is)
    (c.end_doctype.ensures (record { tag = m.tag; comment = string_bytes m.comment; doctype = nameless; buffer = string_bytes m.buffer; seen = string_bytes m.reference.seen; code = m.reference.code }) (string_bytes c.args.out.now))

pub returns-in_ok-end_reference-in-Reference-clause-ending : goal.returns-in_ok-end_reference-in-Reference-clause-ending
returns-in_ok-end_reference-in-Reference-clause-ending c =
    rw (← c.machine.view_is, c.in-Reference.is) (c.in_ok-end_reference-in-Reference.ensures _)

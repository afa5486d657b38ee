use Rattle.std.specs.String.{string_bytes}
use Rattle.h5_token.specs.TokenText.{doctype_text}
use Rattle.h5_tokenizer_spec.specs.Doctypes as d
use Rattle.h5_tokenizer_states.proofs.DoctypeLaws.{doctype_turned}
use Rattle.h5_tokenizer_states.proofs.doctypes.doctype_turn.Goals as goal

pub returns-in-BeginDoctype : goal.returns-in-BeginDoctype
returns-in-BeginDoctype c = rw c.in-BeginDoctype.is (λ table last parts. c.begin_doctype.ensures (doctype_text c.args.doctype.now) (record parts { buffer = string_bytes c.args.seen.now }))

pub returns-in-AfterDoctypeKeyword : goal.returns-in-AfterDoctypeKeyword
returns-in-AfterDoctypeKeyword c = rw c.in-AfterDoctypeKeyword.is (λ table last parts. c.after_doctype_keyword.ensures (record parts { buffer = string_bytes c.args.seen.now }))

pub returns-in-BeforeDoctypeIdentifier : goal.returns-in-BeforeDoctypeIdentifier
returns-in-BeforeDoctypeIdentifier c = rw c.in-BeforeDoctypeIdentifier.is (λ table last parts. c.before_doctype_identifier.ensures (record parts { buffer = string_bytes c.args.seen.now }))

pub returns-in-AfterDoctypePublicIdentifier : goal.returns-in-AfterDoctypePublicIdentifier
returns-in-AfterDoctypePublicIdentifier c = rw c.in-AfterDoctypePublicIdentifier.is (λ table last parts. c.after_doctype_public_identifier.ensures (record parts { buffer = string_bytes c.args.seen.now }))

pub returns-in-BetweenDoctypeIdentifiers : goal.returns-in-BetweenDoctypeIdentifiers
returns-in-BetweenDoctypeIdentifiers c = rw c.in-BetweenDoctypeIdentifiers.is (λ table last parts. c.between_doctype_identifiers.ensures (record parts { buffer = string_bytes c.args.seen.now }))

pub returns-in-AfterDoctypeSystemIdentifier : goal.returns-in-AfterDoctypeSystemIdentifier
returns-in-AfterDoctypeSystemIdentifier c = rw c.in-AfterDoctypeSystemIdentifier.is (λ table last parts. c.after_doctype_system_identifier.ensures (doctype_text c.args.doctype.now) (record parts { buffer = string_bytes c.args.seen.now }))

pub returns-in-BogusDoctype : goal.returns-in-BogusDoctype
returns-in-BogusDoctype c = rw c.in-BogusDoctype.is (λ table last parts. c.bogus_doctype.ensures (doctype_text c.args.doctype.now) (record parts { buffer = string_bytes c.args.seen.now }))

pub returns-in-BeforeDoctypeName : goal.returns-in-BeforeDoctypeName
returns-in-BeforeDoctypeName c = rw c.in-BeforeDoctypeName.is (doctype_turned _ _ _ (d.before_doctype_name_state c.args.b) c.before_doctype_name.ensures)

pub returns-in-DoctypeIdentifier : goal.returns-in-DoctypeIdentifier
returns-in-DoctypeIdentifier c = rw c.in-DoctypeIdentifier.is (doctype_turned _ _ _ (d.doctype_identifier_state c.in-DoctypeIdentifier.id c.in-DoctypeIdentifier.quote (doctype_text c.args.doctype.now) c.args.b) c.doctype_identifier.ensures)

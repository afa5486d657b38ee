-- Doctypes (HTML standard, sections 13.2.5.53 to 13.2.5.68).
use Rattle.std.specs.Prelude.{ℕ, Bool, List, [], ◌∷◌, ◌++◌, ◌==◌, ◌&&◌, ◌||◌, if◌then◌else◌, codes, length}
use Rattle.std.specs.Char.{to_ascii_lowercase}
use Rattle.h5_token.specs.TokenText.{DoctypeText}
use Rattle.h5_tokenizer_spec.specs.declared.errors.ParseError.{ParseError}
use Rattle.h5_tokenizer_spec.specs.declared.errors.ParseError.TheVariants.{UnexpectedNullCharacter, MissingWhitespaceBeforeDoctypeName, MissingDoctypeName, InvalidCharacterSequenceAfterDoctypeName, MissingWhitespaceAfterDoctypePublicKeyword, MissingWhitespaceAfterDoctypeSystemKeyword, MissingDoctypePublicIdentifier, MissingDoctypeSystemIdentifier, MissingQuoteBeforeDoctypePublicIdentifier, MissingQuoteBeforeDoctypeSystemIdentifier, AbruptDoctypePublicIdentifier, AbruptDoctypeSystemIdentifier, MissingWhitespaceBetweenDoctypePublicAndSystemIdentifiers, UnexpectedCharacterAfterDoctypeSystemIdentifier}
use Rattle.h5_tokenizer_spec.specs.declared.kinds.Quote.{Quote}
use Rattle.h5_tokenizer_spec.specs.declared.kinds.Quote.TheVariants.{Double, Single}
use Rattle.h5_tokenizer_spec.specs.declared.kinds.Identifier.{Identifier}
use Rattle.h5_tokenizer_spec.specs.declared.kinds.Identifier.TheVariants.{Public, System}
use Rattle.h5_tokenizer_spec.specs.Signs.{null, greater_than_sign, quotation_mark, apostrophe, is_blank, sign_of, replacement}
use Rattle.h5_tokenizer_spec.specs.Words.{begins, is_all}
use Rattle.h5_tokenizer_spec.specs.Construction.{nameless, new_doctype, doctype_named_further, quirky, with_identifier, identifier_further}
use Rattle.h5_tokenizer_spec.specs.States.{State, BeforeDoctypeName, DoctypeName, AfterDoctypeName, AfterDoctypeKeyword, BeforeDoctypeIdentifier, DoctypeIdentifier, AfterDoctypePublicIdentifier, BetweenDoctypeIdentifiers, AfterDoctypeSystemIdentifier, BogusDoctype}
use Rattle.h5_tokenizer_spec.specs.Turn.{Turn, wrong, to, again, hand_doctype}

-- the error of the one identifier, or of the other
abbrev pub chosen : Identifier → ParseError → ParseError → ParseError
chosen Public public system = public
chosen System public system = system

-- 13.2.5.53 DOCTYPE state
abbrev pub doctype_state : ℕ → Turn
doctype_state x =
    if is_blank x then to BeforeDoctypeName
    else if x == greater_than_sign then again BeforeDoctypeName
    else wrong MissingWhitespaceBeforeDoctypeName (again BeforeDoctypeName)

-- 13.2.5.54 Before DOCTYPE name state
abbrev pub before_doctype_name_state : ℕ → Turn
before_doctype_name_state x =
    if is_blank x then to BeforeDoctypeName
    else if x == null then wrong UnexpectedNullCharacter (to (DoctypeName (new_doctype replacement)))
    else if x == greater_than_sign then wrong MissingDoctypeName (hand_doctype nameless)
    else to (DoctypeName (new_doctype (to_ascii_lowercase x ∷ [])))

-- 13.2.5.55 DOCTYPE name state
abbrev pub doctype_name_state : DoctypeText → ℕ → Turn
doctype_name_state d x =
    if is_blank x then to (AfterDoctypeName d [])
    else if x == greater_than_sign then hand_doctype d
    else if x == null then wrong UnexpectedNullCharacter (to (DoctypeName (doctype_named_further replacement d)))
    else to (DoctypeName (doctype_named_further (to_ascii_lowercase x ∷ []) d))

-- one of the keywords begins with this
abbrev pub begins_keyword : List ℕ → Bool
begins_keyword seen = begins to_ascii_lowercase seen (codes "public") || begins to_ascii_lowercase seen (codes "system")

-- 13.2.5.56 After DOCTYPE name state. The standard looks ahead, at six characters. Here the seen ones are stored while they
-- begin "PUBLIC" or "SYSTEM" in any case. The result is equal: if they become neither, the standard reads them in the bogus
-- DOCTYPE state, which ignores letters. Whitespace and '>' count only before the first of them.
abbrev pub after_doctype_name_state : DoctypeText → List ℕ → ℕ → Turn
after_doctype_name_state d seen x =
    let now = seen ++ (x ∷ []) in
    if (length seen == 0) && is_blank x then to (AfterDoctypeName d [])
    else if (length seen == 0) && (x == greater_than_sign) then hand_doctype d
    else if is_all to_ascii_lowercase now (codes "public") then to (AfterDoctypeKeyword Public d)
    else if is_all to_ascii_lowercase now (codes "system") then to (AfterDoctypeKeyword System d)
    else if begins_keyword now then to (AfterDoctypeName d now)
    else wrong InvalidCharacterSequenceAfterDoctypeName (again (BogusDoctype (quirky d)))

-- 13.2.5.57, 63: After DOCTYPE public keyword state, After DOCTYPE system keyword state
abbrev pub after_doctype_keyword_state : Identifier → DoctypeText → ℕ → Turn
after_doctype_keyword_state id d x =
    let blank_missing = chosen id MissingWhitespaceAfterDoctypePublicKeyword MissingWhitespaceAfterDoctypeSystemKeyword in
    if is_blank x then to (BeforeDoctypeIdentifier id d)
    else if x == quotation_mark then wrong blank_missing (to (DoctypeIdentifier id Double (with_identifier id d)))
    else if x == apostrophe then wrong blank_missing (to (DoctypeIdentifier id Single (with_identifier id d)))
    else if x == greater_than_sign then wrong (chosen id MissingDoctypePublicIdentifier MissingDoctypeSystemIdentifier) (hand_doctype (quirky d))
    else wrong (chosen id MissingQuoteBeforeDoctypePublicIdentifier MissingQuoteBeforeDoctypeSystemIdentifier) (again (BogusDoctype (quirky d)))

-- 13.2.5.58, 64: Before DOCTYPE public identifier state, Before DOCTYPE system identifier state
abbrev pub before_doctype_identifier_state : Identifier → DoctypeText → ℕ → Turn
before_doctype_identifier_state id d x =
    if is_blank x then to (BeforeDoctypeIdentifier id d)
    else if x == quotation_mark then to (DoctypeIdentifier id Double (with_identifier id d))
    else if x == apostrophe then to (DoctypeIdentifier id Single (with_identifier id d))
    else if x == greater_than_sign then wrong (chosen id MissingDoctypePublicIdentifier MissingDoctypeSystemIdentifier) (hand_doctype (quirky d))
    else wrong (chosen id MissingQuoteBeforeDoctypePublicIdentifier MissingQuoteBeforeDoctypeSystemIdentifier) (again (BogusDoctype (quirky d)))

abbrev pub after_identifier : Identifier → DoctypeText → State
after_identifier Public d = AfterDoctypePublicIdentifier d
after_identifier System d = AfterDoctypeSystemIdentifier d

-- 13.2.5.59, 60, 65, 66: DOCTYPE public and system identifier (double-quoted) and (single-quoted) state
abbrev pub doctype_identifier_state : Identifier → Quote → DoctypeText → ℕ → Turn
doctype_identifier_state id quote d x =
    if x == sign_of quote then to (after_identifier id d)
    else if x == null then wrong UnexpectedNullCharacter (to (DoctypeIdentifier id quote (identifier_further id replacement d)))
    else if x == greater_than_sign then wrong (chosen id AbruptDoctypePublicIdentifier AbruptDoctypeSystemIdentifier) (hand_doctype (quirky d))
    else to (DoctypeIdentifier id quote (identifier_further id (x ∷ []) d))

-- 13.2.5.61 After DOCTYPE public identifier state
abbrev pub after_doctype_public_identifier_state : DoctypeText → ℕ → Turn
after_doctype_public_identifier_state d x =
    if is_blank x then to (BetweenDoctypeIdentifiers d)
    else if x == greater_than_sign then hand_doctype d
    else if x == quotation_mark then wrong MissingWhitespaceBetweenDoctypePublicAndSystemIdentifiers (to (DoctypeIdentifier System Double (with_identifier System d)))
    else if x == apostrophe then wrong MissingWhitespaceBetweenDoctypePublicAndSystemIdentifiers (to (DoctypeIdentifier System Single (with_identifier System d)))
    else wrong MissingQuoteBeforeDoctypeSystemIdentifier (again (BogusDoctype (quirky d)))

-- 13.2.5.62 Between DOCTYPE public and system identifiers state
abbrev pub between_doctype_identifiers_state : DoctypeText → ℕ → Turn
between_doctype_identifiers_state d x =
    if is_blank x then to (BetweenDoctypeIdentifiers d)
    else if x == greater_than_sign then hand_doctype d
    else if x == quotation_mark then to (DoctypeIdentifier System Double (with_identifier System d))
    else if x == apostrophe then to (DoctypeIdentifier System Single (with_identifier System d))
    else wrong MissingQuoteBeforeDoctypeSystemIdentifier (again (BogusDoctype (quirky d)))

-- 13.2.5.67 After DOCTYPE system identifier state
abbrev pub after_doctype_system_identifier_state : DoctypeText → ℕ → Turn
after_doctype_system_identifier_state d x =
    if is_blank x then to (AfterDoctypeSystemIdentifier d)
    else if x == greater_than_sign then hand_doctype d
    else wrong UnexpectedCharacterAfterDoctypeSystemIdentifier (again (BogusDoctype d))

-- 13.2.5.68 Bogus DOCTYPE state
abbrev pub bogus_doctype_state : DoctypeText → ℕ → Turn
bogus_doctype_state d x =
    if x == greater_than_sign then hand_doctype d
    else if x == null then wrong UnexpectedNullCharacter (to (BogusDoctype d))
    else to (BogusDoctype d)

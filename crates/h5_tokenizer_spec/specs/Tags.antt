-- Tags (HTML standard, sections 13.2.5.6 to 13.2.5.8 and 13.2.5.32 to 13.2.5.40).
use Rattle.std.specs.Prelude.{ℕ, Bool, [], ◌∷◌, ◌==◌, ◌||◌, if◌then◌else◌, codes}
use Rattle.std.specs.Char.{is_ascii_alphabetic, to_ascii_lowercase}
use Rattle.h5_token.specs.declared.tag.TagKind.TheVariants.{StartTag, EndTag}
use Rattle.h5_tokenizer_spec.specs.declared.errors.ParseError.TheVariants.{UnexpectedNullCharacter, UnexpectedQuestionMarkInsteadOfTagName, InvalidFirstCharacterOfTagName, MissingEndTagName, UnexpectedEqualsSignBeforeAttributeName, DuplicateAttribute, UnexpectedCharacterInAttributeName, MissingAttributeValue, UnexpectedCharacterInUnquotedAttributeValue, MissingWhitespaceBetweenAttributes, UnexpectedSolidusInTag}
use Rattle.h5_tokenizer_spec.specs.declared.kinds.TextKind.TheVariants.{Data}
use Rattle.h5_tokenizer_spec.specs.declared.kinds.Quote.{Quote}
use Rattle.h5_tokenizer_spec.specs.declared.kinds.Quote.TheVariants.{Double, Single}
use Rattle.h5_tokenizer_spec.specs.Signs.{null, ampersand, less_than_sign, greater_than_sign, equals_sign, solidus, exclamation_mark, question_mark, quotation_mark, apostrophe, grave_accent, is_blank, is_name_end, is_quote, sign_of, replacement}
use Rattle.h5_tokenizer_spec.specs.Construction.{Tag, new_tag, named_further, with_attribute, attribute_named_further, value_further, self_closed, is_repeated}
use Rattle.h5_tokenizer_spec.specs.States.{Text, EndTagOpen, TagName, BeforeAttributeName, AttributeName, AfterAttributeName, BeforeAttributeValue, AttributeValue, AfterAttributeValueQuoted, SelfClosingStartTag, BogusComment, MarkupDeclarationOpen, CharacterReference, ToValue, Value, Quoted, Unquoted}
use Rattle.h5_tokenizer_spec.specs.Turn.{Turn, wrong, wrong_if, to, again, emit_again, hand_tag}

-- 13.2.5.6 Tag open state
abbrev pub tag_open_state : ℕ → Turn
tag_open_state x =
    if x == exclamation_mark then to (MarkupDeclarationOpen [])
    else if x == solidus then to EndTagOpen
    else if is_ascii_alphabetic x then again (TagName (new_tag StartTag []))
    else if x == question_mark then wrong UnexpectedQuestionMarkInsteadOfTagName (again (BogusComment []))
    else wrong InvalidFirstCharacterOfTagName (emit_again (codes "<") (Text Data))

-- 13.2.5.7 End tag open state
abbrev pub end_tag_open_state : ℕ → Turn
end_tag_open_state x =
    if is_ascii_alphabetic x then again (TagName (new_tag EndTag []))
    else if x == greater_than_sign then wrong MissingEndTagName (to (Text Data))
    else wrong InvalidFirstCharacterOfTagName (again (BogusComment []))

-- 13.2.5.8 Tag name state
abbrev pub tag_name_state : Tag → ℕ → Turn
tag_name_state t x =
    if is_blank x then to (BeforeAttributeName t)
    else if x == solidus then to (SelfClosingStartTag t)
    else if x == greater_than_sign then hand_tag t
    else if x == null then wrong UnexpectedNullCharacter (to (TagName (named_further replacement t)))
    else to (TagName (named_further (to_ascii_lowercase x ∷ []) t))

-- 13.2.5.32 Before attribute name state
abbrev pub before_attribute_name_state : Tag → ℕ → Turn
before_attribute_name_state t x =
    if is_blank x then to (BeforeAttributeName t)
    else if x == solidus || x == greater_than_sign then again (AfterAttributeName t)
    else if x == equals_sign then wrong UnexpectedEqualsSignBeforeAttributeName (to (AttributeName (with_attribute (x ∷ []) t)))
    else again (AttributeName (with_attribute [] t))

abbrev pub is_odd_in_name : ℕ → Bool
is_odd_in_name x = is_quote x || x == less_than_sign

-- 13.2.5.33 Attribute name state: on leaving it, a name that the tag already has is an error
abbrev pub attribute_name_state : Tag → ℕ → Turn
attribute_name_state t x =
    let repeated = is_repeated t in
    if is_name_end x then wrong_if repeated DuplicateAttribute (again (AfterAttributeName t))
    else if x == equals_sign then wrong_if repeated DuplicateAttribute (to (BeforeAttributeValue t))
    else if x == null then wrong UnexpectedNullCharacter (to (AttributeName (attribute_named_further replacement t)))
    else wrong_if (is_odd_in_name x) UnexpectedCharacterInAttributeName (to (AttributeName (attribute_named_further (to_ascii_lowercase x ∷ []) t)))

-- 13.2.5.34 After attribute name state
abbrev pub after_attribute_name_state : Tag → ℕ → Turn
after_attribute_name_state t x =
    if is_blank x then to (AfterAttributeName t)
    else if x == solidus then to (SelfClosingStartTag t)
    else if x == equals_sign then to (BeforeAttributeValue t)
    else if x == greater_than_sign then hand_tag t
    else again (AttributeName (with_attribute [] t))

-- 13.2.5.35 Before attribute value state
abbrev pub before_attribute_value_state : Tag → ℕ → Turn
before_attribute_value_state t x =
    if is_blank x then to (BeforeAttributeValue t)
    else if x == quotation_mark then to (AttributeValue (Quoted Double) t)
    else if x == apostrophe then to (AttributeValue (Quoted Single) t)
    else if x == greater_than_sign then wrong MissingAttributeValue (hand_tag t)
    else again (AttributeValue Unquoted t)

-- 13.2.5.36, 37: Attribute value (double-quoted) and (single-quoted) state
abbrev pub attribute_value_quoted_state : Quote → Tag → ℕ → Turn
attribute_value_quoted_state quote t x =
    if x == sign_of quote then to (AfterAttributeValueQuoted t)
    else if x == ampersand then to (CharacterReference (ToValue (Quoted quote) t))
    else if x == null then wrong UnexpectedNullCharacter (to (AttributeValue (Quoted quote) (value_further replacement t)))
    else to (AttributeValue (Quoted quote) (value_further (x ∷ []) t))

abbrev pub is_odd_in_value : ℕ → Bool
is_odd_in_value x = is_quote x || (x == less_than_sign || (x == equals_sign || x == grave_accent))

-- 13.2.5.38 Attribute value (unquoted) state
abbrev pub attribute_value_unquoted_state : Tag → ℕ → Turn
attribute_value_unquoted_state t x =
    if is_blank x then to (BeforeAttributeName t)
    else if x == ampersand then to (CharacterReference (ToValue Unquoted t))
    else if x == greater_than_sign then hand_tag t
    else if x == null then wrong UnexpectedNullCharacter (to (AttributeValue Unquoted (value_further replacement t)))
    else wrong_if (is_odd_in_value x) UnexpectedCharacterInUnquotedAttributeValue (to (AttributeValue Unquoted (value_further (x ∷ []) t)))

abbrev pub attribute_value_state : Value → Tag → ℕ → Turn
attribute_value_state (Quoted quote) t x = attribute_value_quoted_state quote t x
attribute_value_state Unquoted t x = attribute_value_unquoted_state t x

-- 13.2.5.39 After attribute value (quoted) state
abbrev pub after_attribute_value_quoted_state : Tag → ℕ → Turn
after_attribute_value_quoted_state t x =
    if is_blank x then to (BeforeAttributeName t)
    else if x == solidus then to (SelfClosingStartTag t)
    else if x == greater_than_sign then hand_tag t
    else wrong MissingWhitespaceBetweenAttributes (again (BeforeAttributeName t))

-- 13.2.5.40 Self-closing start tag state
abbrev pub self_closing_start_tag_state : Tag → ℕ → Turn
self_closing_start_tag_state t x =
    if x == greater_than_sign then hand_tag (self_closed t)
    else wrong UnexpectedSolidusInTag (again (BeforeAttributeName t))

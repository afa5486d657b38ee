-- Texts, and what they emit, by computing.
use Rattle.std.proofs.Common.{◌≡◌, true, false, [], ◌∷◌, ◌++◌, refl, codes}
use Rattle.std.specs.Prelude.{Some, None}
use Rattle.h5_token.specs.TokenText.{DoctypeIs, CommentIs, Characters, NullCharacter, EndOfFile}
use Rattle.h5_markup.specs.Attributes.{attribute_named}
use Rattle.h5_tokenizer_spec.specs.declared.errors.ParseError.TheVariants as error
use Rattle.h5_tokenizer_spec.specs.declared.kinds.TextKind.TheVariants.{Data, Rcdata, Rawtext, ScriptData, Plaintext, CdataSection}
use Rattle.h5_tokenizer_spec.specs.ReferenceTable.{references}
use Rattle.h5_tokenizer_spec.specs.States.{Text}
use Rattle.h5_tokenizer_spec.proofs.Outcomes.{tokens_from, errors_from, start, end}

-- tags, texts between them, names in lower case
tags : tokens_from false (Text Data) [] (codes "<P>a</p >b")
    ≡ start (codes "p") false [] false ∷ Characters (codes "a") ∷ end (codes "p") false [] false ∷ Characters (codes "b") ∷ EndOfFile ∷ []
unfolding references lib.Utf8.encode
tags = refl

-- attributes in each form; a name that the tag already has
attributes : tokens_from false (Text Data) [] (codes "<A B=C d='e' f=" ++ (34 ∷ []) ++ codes "g" ++ (34 ∷ []) ++ codes " h b>")
    ≡ start (codes "a") false (attribute_named (codes "b") (codes "C") ∷ attribute_named (codes "d") (codes "e") ∷ attribute_named (codes "f") (codes "g") ∷ attribute_named (codes "h") [] ∷ []) true
    ∷ EndOfFile ∷ []
unfolding references lib.Utf8.encode
attributes = refl

-- signs that are errors in attributes, and a '/' between them
odd_attributes : tokens_from false (Text Data) [] (codes "<a =b / c<d=>")
    ≡ start (codes "a") false (attribute_named (codes "=b") [] ∷ attribute_named (codes "c<d") [] ∷ []) false ∷ EndOfFile ∷ []
unfolding references lib.Utf8.encode
odd_attributes = refl

-- a value without quotes
unquoted : tokens_from false (Text Data) [] (codes "<a b=c/d'e&amp;f>")
    ≡ start (codes "a") false (attribute_named (codes "b") (codes "c/d'e&f") ∷ []) false ∷ EndOfFile ∷ []
unfolding references lib.Utf8.encode
unquoted = refl

-- the flag of a tag; an end tag keeps its attributes and the flag
self_closing : tokens_from false (Text Data) [] (codes "<br/></a b='c'/>")
    ≡ start (codes "br") true [] false ∷ end (codes "a") true (attribute_named (codes "b") (codes "c") ∷ []) false ∷ EndOfFile ∷ []
unfolding references lib.Utf8.encode
self_closing = refl

-- references in values: a name without a semicolon may be text
values_with_references : tokens_from false (Text Data) [] (codes "<a b=" ++ (34 ∷ []) ++ codes "&notit;&not;&not=&not" ++ (34 ∷ []) ++ codes " c='&lt'>")
    ≡ start (codes "a") false (attribute_named (codes "b") (codes "&notit;" ++ (194 ∷ 172 ∷ []) ++ codes "&not=" ++ (194 ∷ 172 ∷ [])) ∷ attribute_named (codes "c") (codes "<") ∷ []) false
    ∷ EndOfFile ∷ []
unfolding references lib.Utf8.encode
values_with_references = refl

-- what begins like a tag and isn't one
no_tags : tokens_from false (Text Data) [] (codes "<3 </ ></><?php><!x>")
    ≡ Characters (codes "<3 ") ∷ CommentIs (codes " ") ∷ CommentIs (codes "?php") ∷ CommentIs (codes "x") ∷ EndOfFile ∷ []
unfolding references lib.Utf8.encode
no_tags = refl

-- an unfinished tag at the end is dropped
unfinished_tag : tokens_from false (Text Data) [] (codes "a<b c=" ++ (34 ∷ []) ++ codes "d")
    ≡ Characters (codes "a") ∷ EndOfFile ∷ []
unfolding references lib.Utf8.encode
unfinished_tag = refl

-- these aren't openings either
unfinished_openings : tokens_from false (Text Data) [] (codes "</b></")
    ≡ end (codes "b") false [] false ∷ Characters (codes "</") ∷ EndOfFile ∷ []
unfolding references lib.Utf8.encode
unfinished_openings = refl

-- comments and their ends
comments : tokens_from false (Text Data) [] (codes "<!----><!--a--b---><!--><!--->")
    ≡ CommentIs [] ∷ CommentIs (codes "a--b-") ∷ CommentIs [] ∷ CommentIs [] ∷ EndOfFile ∷ []
unfolding references lib.Utf8.encode
comments = refl

-- comments that end in a '!'
comment_end_bang : tokens_from false (Text Data) [] (codes "<!--a--!b--!-c--!>")
    ≡ CommentIs (codes "a--!b--!-c") ∷ EndOfFile ∷ []
unfolding references lib.Utf8.encode
comment_end_bang = refl

-- comments that look nested
nested_comments : tokens_from false (Text Data) [] (codes "<!--<!--a<!-b<<!->-->")
    ≡ CommentIs (codes "<!--a<!-b<<!->") ∷ EndOfFile ∷ []
unfolding references lib.Utf8.encode
nested_comments = refl

-- an unfinished comment at the end, with a NUL
unfinished_comment : tokens_from false (Text Data) [] (codes "<!--a" ++ (0 ∷ []) ++ codes "-")
    ≡ CommentIs (codes "a" ++ (239 ∷ 191 ∷ 189 ∷ [])) ∷ EndOfFile ∷ []
unfolding references lib.Utf8.encode
unfinished_comment = refl

-- doctypes, and both identifiers
doctypes : tokens_from false (Text Data) [] (codes "<!DOCTYPE html><!doctype HtMl PUBLIC " ++ (34 ∷ []) ++ codes "p" ++ (34 ∷ []) ++ codes " 's'>")
    ≡ DoctypeIs (record { name = Some (codes "html"); public_id = None; system_id = None; force_quirks = false })
    ∷ DoctypeIs (record { name = Some (codes "html"); public_id = Some (codes "p"); system_id = Some (codes "s"); force_quirks = false }) ∷ EndOfFile ∷ []
unfolding references lib.Utf8.encode
doctypes = refl

-- doctypes that force quirks
quirky_doctypes : tokens_from false (Text Data) [] (codes "<!DOCTYPE><!DOCTYPEa b><!DOCTYPE c SYSTEM>")
    ≡ DoctypeIs (record { name = None; public_id = None; system_id = None; force_quirks = true })
    ∷ DoctypeIs (record { name = Some (codes "a"); public_id = None; system_id = None; force_quirks = true })
    ∷ DoctypeIs (record { name = Some (codes "c"); public_id = None; system_id = None; force_quirks = true }) ∷ EndOfFile ∷ []
unfolding references lib.Utf8.encode
quirky_doctypes = refl

-- identifiers without whitespace between them, something after them, and one that '>' ends
odd_identifiers : tokens_from false (Text Data) [] (codes "<!DOCTYPE a PUBLIC'b''c'x><!DOCTYPE d SYSTEM 'e>")
    ≡ DoctypeIs (record { name = Some (codes "a"); public_id = Some (codes "b"); system_id = Some (codes "c"); force_quirks = false })
    ∷ DoctypeIs (record { name = Some (codes "d"); public_id = None; system_id = Some (codes "e"); force_quirks = true }) ∷ EndOfFile ∷ []
unfolding references lib.Utf8.encode
odd_identifiers = refl

-- an unfinished doctype at the end, in a keyword
unfinished_doctype : tokens_from false (Text Data) [] (codes "<!DOCTYPE a PUB")
    ≡ DoctypeIs (record { name = Some (codes "a"); public_id = None; system_id = None; force_quirks = true }) ∷ EndOfFile ∷ []
unfolding references lib.Utf8.encode
unfinished_doctype = refl

-- openings that aren't any, or aren't allowed here
markup_declarations : tokens_from false (Text Data) [] (codes "<!DOC><![CDATA[x]]><!-")
    ≡ CommentIs (codes "DOC") ∷ CommentIs (codes "[CDATA[x]]") ∷ CommentIs (codes "-") ∷ EndOfFile ∷ []
unfolding references lib.Utf8.encode
markup_declarations = refl

-- a CDATA section when the adjusted current node isn't in the HTML namespace
cdata : tokens_from true (Text Data) [] (codes "<![CDATA[a]b]]c]]]><p>")
    ≡ Characters (codes "a]b]]c]") ∷ start (codes "p") false [] false ∷ EndOfFile ∷ []
unfolding references lib.Utf8.encode
cdata = refl

-- its end, and a NUL in it
unfinished_cdata : tokens_from false (Text CdataSection) [] (codes "a" ++ (0 ∷ []) ++ codes "]")
    ≡ Characters (codes "a") ∷ NullCharacter ∷ Characters (codes "]") ∷ EndOfFile ∷ []
unfolding references lib.Utf8.encode
unfinished_cdata = refl

-- names: the longest one, one with two characters, and what isn't a name
named_references : tokens_from false (Text Data) [] (codes "&amp;&ampx&notit;&notin;&ngE;&x;&;&")
    ≡ Characters (codes "&&x" ++ (194 ∷ 172 ∷ []) ++ codes "it;" ++ (226 ∷ 136 ∷ 137 ∷ 226 ∷ 137 ∷ 167 ∷ 204 ∷ 184 ∷ []) ++ codes "&x;&;&") ∷ EndOfFile ∷ []
unfolding references lib.Utf8.encode
named_references = refl

-- numbers, those that are replaced, and what isn't a number
numbers : tokens_from false (Text Data) [] (codes "&#65;&#x42;&#X43 &#128;&#0;&#xD800;&#x110000;&#;&#x;&#13;&#xFDD0;")
    ≡ Characters (codes "ABC " ++ (226 ∷ 130 ∷ 172 ∷ 239 ∷ 191 ∷ 189 ∷ 239 ∷ 191 ∷ 189 ∷ 239 ∷ 191 ∷ 189 ∷ []) ++ codes "&#;&#x;" ++ (13 ∷ 239 ∷ 183 ∷ 144 ∷ []))
    ∷ EndOfFile ∷ []
unfolding references lib.Utf8.encode
numbers = refl

-- a number above the last code point, unfinished at the end
unfinished_number : tokens_from false (Text Data) [] (codes "&#99999999999999999999")
    ≡ Characters (239 ∷ 191 ∷ 189 ∷ []) ∷ EndOfFile ∷ []
unfolding references lib.Utf8.encode
unfinished_number = refl

-- RCDATA up to the end tag of its element
rcdata : tokens_from false (Text Rcdata) (codes "title") (codes "a&lt;<b></titl></TITLE >x")
    ≡ Characters (codes "a<<b></titl>") ∷ end (codes "title") false [] false ∷ Characters (codes "x") ∷ EndOfFile ∷ []
unfolding references lib.Utf8.encode
rcdata = refl

-- RAWTEXT, with a NUL; an unfinished end tag at the end is text
rawtext : tokens_from false (Text Rawtext) (codes "style") (codes "&amp;" ++ (0 ∷ []) ++ codes "</style")
    ≡ Characters (codes "&amp;" ++ (239 ∷ 191 ∷ 189 ∷ []) ++ codes "</style") ∷ EndOfFile ∷ []
unfolding references lib.Utf8.encode
rawtext = refl

-- a script after `<!--` in a script
script_data : tokens_from false (Text ScriptData) (codes "script") (codes "a<!--<script></script>--></script>")
    ≡ Characters (codes "a<!--<script></script>-->") ∷ end (codes "script") false [] false ∷ EndOfFile ∷ []
unfolding references lib.Utf8.encode
script_data = refl

-- an end tag after `<!--`
escaped_script_data : tokens_from false (Text ScriptData) (codes "script") (codes "<!--a-b</script>")
    ≡ Characters (codes "<!--a-b") ∷ end (codes "script") false [] false ∷ EndOfFile ∷ []
unfolding references lib.Utf8.encode
escaped_script_data = refl

-- PLAINTEXT
plaintext : tokens_from false (Text Plaintext) [] (codes "<a>&amp;" ++ (0 ∷ []))
    ≡ Characters (codes "<a>&amp;" ++ (239 ∷ 191 ∷ 189 ∷ [])) ∷ EndOfFile ∷ []
unfolding references lib.Utf8.encode
plaintext = refl

-- newlines, and a NUL that is a token
newlines : tokens_from false (Text Data) [] (codes "a" ++ (0 ∷ []) ++ codes "b" ++ (13 ∷ 10 ∷ 13 ∷ []) ++ codes "c" ++ (10 ∷ []))
    ≡ Characters (codes "a") ∷ NullCharacter ∷ Characters (codes "b" ++ (10 ∷ 10 ∷ []) ++ codes "c" ++ (10 ∷ [])) ∷ EndOfFile ∷ []
unfolding references lib.Utf8.encode
newlines = refl

-- letters that aren't ASCII
letters : tokens_from false (Text Data) [] ((195 ∷ 169 ∷ []) ++ codes "<" ++ (195 ∷ 169 ∷ []) ++ codes "><a" ++ (195 ∷ 137 ∷ []) ++ codes " " ++ (195 ∷ 137 ∷ []) ++ codes "=" ++ (195 ∷ 188 ∷ []) ++ codes ">")
    ≡ Characters ((195 ∷ 169 ∷ []) ++ codes "<" ++ (195 ∷ 169 ∷ []) ++ codes ">")
    ∷ start (codes "a" ++ (195 ∷ 137 ∷ [])) false (attribute_named (195 ∷ 137 ∷ []) (195 ∷ 188 ∷ []) ∷ []) false ∷ EndOfFile ∷ []
unfolding references lib.Utf8.encode
letters = refl

-- errors of comments
errors_in_comments : errors_from false (Text Data) [] (codes "<!--><!---><!--<!--x--!><!x><!--")
    ≡ error.AbruptClosingOfEmptyComment ∷ error.AbruptClosingOfEmptyComment ∷ error.NestedComment ∷ error.IncorrectlyClosedComment
    ∷ error.IncorrectlyOpenedComment ∷ error.EofInComment ∷ []
unfolding references lib.Utf8.encode
errors_in_comments = refl

-- errors of doctypes
errors_in_doctypes : errors_from false (Text Data) [] (codes "<!DOCTYPEa PUBLIC'b''c'x><!DOCTYPE a SYSTEM'b'><!DOCTYPE><!DOCTYPE a b><!DOCTYPE a")
    ≡ error.MissingWhitespaceBeforeDoctypeName ∷ error.MissingWhitespaceAfterDoctypePublicKeyword
    ∷ error.MissingWhitespaceBetweenDoctypePublicAndSystemIdentifiers ∷ error.UnexpectedCharacterAfterDoctypeSystemIdentifier
    ∷ error.MissingWhitespaceAfterDoctypeSystemKeyword ∷ error.MissingDoctypeName ∷ error.InvalidCharacterSequenceAfterDoctypeName ∷ error.EofInDoctype
    ∷ []
unfolding references lib.Utf8.encode
errors_in_doctypes = refl

-- errors of identifiers
errors_in_identifiers : errors_from false (Text Data) [] (codes "<!DOCTYPE a PUBLIC><!DOCTYPE a SYSTEM><!DOCTYPE a PUBLIC b><!DOCTYPE a SYSTEM b><!DOCTYPE a PUBLIC 'b><!DOCTYPE a SYSTEM 'b>")
    ≡ error.MissingDoctypePublicIdentifier ∷ error.MissingDoctypeSystemIdentifier ∷ error.MissingQuoteBeforeDoctypePublicIdentifier
    ∷ error.MissingQuoteBeforeDoctypeSystemIdentifier ∷ error.AbruptDoctypePublicIdentifier ∷ error.AbruptDoctypeSystemIdentifier ∷ []
unfolding references lib.Utf8.encode
errors_in_identifiers = refl

-- errors of tags
errors_in_tags : errors_from false (Text Data) [] ((0 ∷ []) ++ codes "<?><3</></3></a b/><")
    ≡ error.UnexpectedNullCharacter ∷ error.UnexpectedQuestionMarkInsteadOfTagName ∷ error.InvalidFirstCharacterOfTagName ∷ error.MissingEndTagName
    ∷ error.InvalidFirstCharacterOfTagName ∷ error.EndTagWithAttributes ∷ error.EndTagWithTrailingSolidus ∷ error.EofBeforeTagName ∷ []
unfolding references lib.Utf8.encode
errors_in_tags = refl

-- errors of attributes
errors_in_attributes : errors_from false (Text Data) [] (codes "<a =b c c d'=e f='g'h/i j=k' l=><a m m")
    ≡ error.UnexpectedEqualsSignBeforeAttributeName ∷ error.DuplicateAttribute ∷ error.UnexpectedCharacterInAttributeName
    ∷ error.MissingWhitespaceBetweenAttributes ∷ error.UnexpectedSolidusInTag ∷ error.UnexpectedCharacterInUnquotedAttributeValue
    ∷ error.MissingAttributeValue ∷ error.DuplicateAttribute ∷ error.EofInTag ∷ []
unfolding references lib.Utf8.encode
errors_in_attributes = refl

-- errors of references, and none if a name in a value is text
errors_in_references : errors_from false (Text Data) [] (codes "&#;&#0;&#x110000;&#xD800;&#xFFFE;&#1;&x;&amp<a b=&noti")
    ≡ error.AbsenceOfDigitsInNumericCharacterReference ∷ error.NullCharacterReference ∷ error.CharacterReferenceOutsideUnicodeRange
    ∷ error.SurrogateCharacterReference ∷ error.NoncharacterCharacterReference ∷ error.ControlCharacterReference ∷ error.UnknownNamedCharacterReference
    ∷ error.MissingSemicolonAfterCharacterReference ∷ error.EofInTag ∷ []
unfolding references lib.Utf8.encode
errors_in_references = refl

-- a CDATA section in HTML
error_of_cdata : errors_from false (Text Data) [] (codes "<![CDATA[")
    ≡ error.CdataInHtmlContent ∷ []
unfolding references lib.Utf8.encode
error_of_cdata = refl

-- an unfinished CDATA section at the end
error_in_cdata : errors_from false (Text CdataSection) [] (codes "]")
    ≡ error.EofInCdata ∷ []
unfolding references lib.Utf8.encode
error_in_cdata = refl

-- an unfinished script at the end, after `<!--`
error_in_script : errors_from false (Text ScriptData) [] (codes "<!--<")
    ≡ error.EofInScriptHtmlCommentLikeText ∷ []
unfolding references lib.Utf8.encode
error_in_script = refl

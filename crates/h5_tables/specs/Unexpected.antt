-- The parse errors of tokens that an insertion mode doesn't expect (HTML standard, section 13.2.6.4, "The rules for parsing tokens in HTML
-- content"). The standard has no names for them; html5lib has, by mode and kind of token.
use Rattle.h5_token.specs.declared.tag.TagKind.{TagKind}
use Rattle.h5_token.specs.declared.tag.TagKind.TheVariants.{StartTag, EndTag}
use Rattle.h5_tables.specs.TurnText.{TurnText, TagTurn, CommentTurn, TextTurn, NullTurn, EofTurn}
use Rattle.h5_tables.specs.declared.modes.InsertionMode.{InsertionMode}
use Rattle.h5_tables.specs.declared.modes.InsertionMode.TheVariants.{Initial, BeforeHtml, BeforeHead, InHead, InHeadNoscript, AfterHead, InTableBody, InRow, AfterBody, InFrameset, AfterFrameset, AfterAfterBody, AfterAfterFrameset}
use Rattle.h5_tables.specs.declared.tree_errors.TreeError.{TreeError}
use Rattle.h5_tables.specs.declared.tree_errors.TreeError.TheVariants.{EndTagAfterBody, EndTagAfterFrameset, EndTagAfterHtml, EndTagBeforeDoctype, EndTagBeforeHead, EndTagBeforeHtml, EndTagInFrameset, EndTagInTable, EndTagInTableBody, EndTagInTableRow, EofBeforeDoctype, EofInHeadNoscript, SecondHead, StartTagAfterBody, StartTagAfterFrameset, StartTagAfterHead, StartTagAfterHtml, StartTagBeforeDoctype, StartTagInFrameset, StartTagInTable, TagInHeadNoscript, TextAfterBody, TextAfterFrameset, TextAfterHtml, TextBeforeDoctype, TextInFrameset, TextInHeadNoscript, TextInTable, UnexpectedComment, UnexpectedEndTag, UnexpectedEof, UnexpectedNull, UnexpectedStartTag, UnexpectedText}

abbrev pub unexpected_start_tag : InsertionMode → TreeError
unexpected_start_tag Initial = StartTagBeforeDoctype
unexpected_start_tag InHead = SecondHead
unexpected_start_tag InHeadNoscript = TagInHeadNoscript
unexpected_start_tag AfterHead = StartTagAfterHead
unexpected_start_tag AfterBody = StartTagAfterBody
unexpected_start_tag InFrameset = StartTagInFrameset
unexpected_start_tag AfterFrameset = StartTagAfterFrameset
unexpected_start_tag AfterAfterBody = StartTagAfterHtml
unexpected_start_tag AfterAfterFrameset = StartTagAfterHtml
unexpected_start_tag mode = UnexpectedStartTag

abbrev pub unexpected_end_tag : InsertionMode → TreeError
unexpected_end_tag Initial = EndTagBeforeDoctype
unexpected_end_tag BeforeHtml = EndTagBeforeHtml
unexpected_end_tag BeforeHead = EndTagBeforeHead
unexpected_end_tag InHeadNoscript = TagInHeadNoscript
unexpected_end_tag InTableBody = EndTagInTableBody
unexpected_end_tag InRow = EndTagInTableRow
unexpected_end_tag AfterBody = EndTagAfterBody
unexpected_end_tag InFrameset = EndTagInFrameset
unexpected_end_tag AfterFrameset = EndTagAfterFrameset
unexpected_end_tag AfterAfterBody = EndTagAfterHtml
unexpected_end_tag AfterAfterFrameset = EndTagAfterHtml
unexpected_end_tag mode = UnexpectedEndTag

abbrev pub unexpected_tag : TagKind → InsertionMode → TreeError
unexpected_tag StartTag mode = unexpected_start_tag mode
unexpected_tag EndTag mode = unexpected_end_tag mode

abbrev pub unexpected_text : InsertionMode → TreeError
unexpected_text Initial = TextBeforeDoctype
unexpected_text InHeadNoscript = TextInHeadNoscript
unexpected_text AfterBody = TextAfterBody
unexpected_text InFrameset = TextInFrameset
unexpected_text AfterFrameset = TextAfterFrameset
unexpected_text AfterAfterBody = TextAfterHtml
unexpected_text AfterAfterFrameset = TextAfterHtml
unexpected_text mode = UnexpectedText

abbrev pub unexpected_eof : InsertionMode → TreeError
unexpected_eof Initial = EofBeforeDoctype
unexpected_eof InHeadNoscript = EofInHeadNoscript
unexpected_eof mode = UnexpectedEof

-- a token that a mode doesn't expect
abbrev pub unexpected : TurnText → InsertionMode → TreeError
unexpected (TagTurn tag) mode = unexpected_tag tag.kind mode
unexpected (CommentTurn text) mode = UnexpectedComment
unexpected (TextTurn status text) mode = unexpected_text mode
unexpected NullTurn mode = UnexpectedNull
unexpected EofTurn mode = unexpected_eof mode

abbrev pub tag_in_table : TagKind → TreeError
tag_in_table StartTag = StartTagInTable
tag_in_table EndTag = EndTagInTable

-- a token of what goes before a table (section 13.2.6.4.9, "anything else")
abbrev pub in_table : TurnText → TreeError
in_table (TagTurn tag) = tag_in_table tag.kind
in_table (CommentTurn text) = UnexpectedComment
in_table (TextTurn status text) = TextInTable
in_table NullTurn = UnexpectedNull
in_table EofTurn = UnexpectedEof

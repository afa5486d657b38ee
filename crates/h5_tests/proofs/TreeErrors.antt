-- Parse errors of tree construction, their messages and names. The names of unexpected tokens are html5lib's.
use Rattle.std.proofs.Common.{◌≡◌, List, [], ◌∷◌, map, refl, codes}
use Rattle.h5_token.specs.declared.tag.TagKind.TheVariants.{StartTag, EndTag}
use Rattle.h5_tables.specs.TreeErrors.{tree_error_message, tree_error_name}
use Rattle.h5_tables.specs.TurnText.{TextTurn, NullTurn, EofTurn}
use Rattle.h5_tables.specs.Unexpected.{in_table, unexpected, unexpected_tag}
use Rattle.h5_tables.specs.declared.modes.InsertionMode.TheVariants.{Initial, BeforeHtml, BeforeHead, InHead, InHeadNoscript, AfterHead, InBody, InTable, InTableBody, InRow, InTemplate, AfterBody, InFrameset, AfterFrameset, AfterAfterBody, AfterAfterFrameset}
use Rattle.h5_tables.specs.declared.modes.SplitStatus.TheVariants.{NotSplit}
use Rattle.h5_tables.specs.declared.tree_errors.TreeError.TheVariants.{BadDoctype, EofInFrameset, LateDoctype, NestedForms, NestedLinks, NestedOptions, SecondHtml, UnexpectedEndTag}

messages : map tree_error_message (UnexpectedEndTag ∷ BadDoctype ∷ LateDoctype ∷ NestedForms ∷ NestedOptions ∷ EofInFrameset ∷ [])
    ≡ codes "Unexpected token" ∷ codes "Bad DOCTYPE" ∷ codes "DOCTYPE in body" ∷ codes "nested forms" ∷ codes "nested options" ∷ codes "end of file in a frameset" ∷ []
messages = refl

names : map tree_error_name (UnexpectedEndTag ∷ NestedForms ∷ SecondHtml ∷ NestedLinks ∷ [])
    ≡ codes "unexpected-end-tag" ∷ codes "nested-forms" ∷ codes "non-html-root" ∷ codes "unexpected-start-tag-implies-end-tag" ∷ []
names = refl

start_tags : map (λ mode. tree_error_name (unexpected_tag StartTag mode)) (Initial ∷ InHead ∷ InHeadNoscript ∷ AfterHead ∷ InBody ∷ InTable ∷ AfterBody ∷ InFrameset ∷ AfterFrameset ∷ AfterAfterBody ∷ [])
    ≡ codes "expected-doctype-but-got-start-tag" ∷ codes "two-heads-are-not-better-than-one" ∷ codes "unexpected-inhead-noscript-tag" ∷ codes "unexpected-start-tag-out-of-my-head"
    ∷ codes "unexpected-start-tag" ∷ codes "unexpected-start-tag" ∷ codes "unexpected-start-tag-after-body" ∷ codes "unexpected-start-tag-in-frameset"
    ∷ codes "unexpected-start-tag-after-frameset" ∷ codes "expected-eof-but-got-start-tag" ∷ []
start_tags = refl

end_tags : map (λ mode. tree_error_name (unexpected_tag EndTag mode)) (Initial ∷ BeforeHtml ∷ BeforeHead ∷ InBody ∷ InTableBody ∷ InRow ∷ InTemplate ∷ AfterBody ∷ InFrameset ∷ AfterFrameset ∷ AfterAfterFrameset ∷ [])
    ≡ codes "expected-doctype-but-got-end-tag" ∷ codes "unexpected-end-tag-before-html" ∷ codes "end-tag-after-implied-root" ∷ codes "unexpected-end-tag"
    ∷ codes "unexpected-end-tag-in-table-body" ∷ codes "unexpected-end-tag-in-table-row" ∷ codes "unexpected-end-tag" ∷ codes "unexpected-end-tag-after-body"
    ∷ codes "unexpected-end-tag-in-frameset" ∷ codes "unexpected-end-tag-after-frameset" ∷ codes "expected-eof-but-got-end-tag" ∷ []
end_tags = refl

texts : map (λ mode. tree_error_name (unexpected (TextTurn NotSplit (codes "x")) mode)) (Initial ∷ InHeadNoscript ∷ AfterBody ∷ InFrameset ∷ AfterFrameset ∷ AfterAfterBody ∷ [])
    ≡ codes "expected-doctype-but-got-chars" ∷ codes "char-in-head-noscript" ∷ codes "unexpected-char-after-body" ∷ codes "unexpected-char-in-frameset"
    ∷ codes "unexpected-char-after-frameset" ∷ codes "expected-eof-but-got-char" ∷ []
texts = refl

others : map (λ mode. tree_error_name (unexpected EofTurn mode)) (Initial ∷ InHeadNoscript ∷ []) ≡ codes "expected-doctype-but-got-eof" ∷ codes "eof-in-head-noscript" ∷ []
others = refl

text_in_a_table : tree_error_name (in_table (TextTurn NotSplit (codes "x"))) ≡ codes "unexpected-char-implies-table-voodoo"
text_in_a_table = refl

null_in_a_body : tree_error_name (unexpected NullTurn InBody) ≡ codes "unexpected-null"
null_in_a_body = refl

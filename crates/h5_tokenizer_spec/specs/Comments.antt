-- Comments and bogus comments (HTML standard, sections 13.2.5.41 to 13.2.5.52).
use Rattle.std.specs.Prelude.{ℕ, Bool, List, [], ◌∷◌, ◌++◌, ◌==◌, ◌||◌, if◌then◌else◌, codes}
use Rattle.std.specs.Char.{to_ascii_lowercase}
use Rattle.h5_tokenizer_spec.specs.declared.errors.ParseError.TheVariants.{UnexpectedNullCharacter, CdataInHtmlContent, IncorrectlyOpenedComment, AbruptClosingOfEmptyComment, NestedComment, IncorrectlyClosedComment}
use Rattle.h5_tokenizer_spec.specs.declared.kinds.TextKind.TheVariants.{CdataSection}
use Rattle.h5_tokenizer_spec.specs.Signs.{null, less_than_sign, greater_than_sign, hyphen, exclamation_mark, replacement}
use Rattle.h5_tokenizer_spec.specs.Words.{begins, is_all, same}
use Rattle.h5_tokenizer_spec.specs.States.{Text, BogusComment, MarkupDeclarationOpen, CommentStart, CommentStartDash, Comment, CommentLessThanSign, CommentLessThanSignBang, CommentLessThanSignBangDash, CommentLessThanSignBangDashDash, CommentEndDash, CommentEnd, CommentEndBang, BeginDoctype}
use Rattle.h5_tokenizer_spec.specs.Turn.{Turn, wrong, to, again, ask, hand_comment}

-- 13.2.5.41 Bogus comment state
abbrev pub bogus_comment_state : List ℕ → ℕ → Turn
bogus_comment_state comment x =
    if x == greater_than_sign then hand_comment comment
    else if x == null then wrong UnexpectedNullCharacter (to (BogusComment (comment ++ replacement)))
    else to (BogusComment (comment ++ (x ∷ [])))

-- one of the openings begins with this
abbrev pub begins_opening : List ℕ → Bool
begins_opening seen = begins same seen (codes "--") || (begins to_ascii_lowercase seen (codes "doctype") || begins same seen (codes "[CDATA["))

-- 13.2.5.42 Markup declaration open state. The standard looks ahead, at up to seven characters. Here the seen ones are stored
-- while they begin "--", "DOCTYPE" in any case or "[CDATA[". The result is equal: if they become none of these, the standard
-- reads them in the bogus comment state, which takes each of them as it is.
abbrev pub markup_declaration_open_state : List ℕ → ℕ → Turn
markup_declaration_open_state seen x =
    let now = seen ++ (x ∷ []) in
    if is_all same now (codes "--") then to CommentStart
    else if is_all to_ascii_lowercase now (codes "doctype") then to BeginDoctype
    else if is_all same now (codes "[CDATA[") then ask (Text CdataSection) CdataInHtmlContent (BogusComment now)
    else if begins_opening now then to (MarkupDeclarationOpen now)
    else wrong IncorrectlyOpenedComment (again (BogusComment seen))

-- 13.2.5.43 Comment start state
abbrev pub comment_start_state : ℕ → Turn
comment_start_state x =
    if x == hyphen then to CommentStartDash
    else if x == greater_than_sign then wrong AbruptClosingOfEmptyComment (hand_comment [])
    else again (Comment [])

-- 13.2.5.44 Comment start dash state
abbrev pub comment_start_dash_state : ℕ → Turn
comment_start_dash_state x =
    if x == hyphen then to (CommentEnd [])
    else if x == greater_than_sign then wrong AbruptClosingOfEmptyComment (hand_comment [])
    else again (Comment (codes "-"))

-- 13.2.5.45 Comment state
abbrev pub comment_state : List ℕ → ℕ → Turn
comment_state comment x =
    if x == less_than_sign then to (CommentLessThanSign (comment ++ (x ∷ [])))
    else if x == hyphen then to (CommentEndDash comment)
    else if x == null then wrong UnexpectedNullCharacter (to (Comment (comment ++ replacement)))
    else to (Comment (comment ++ (x ∷ [])))

-- 13.2.5.46 Comment less-than sign state
abbrev pub comment_less_than_sign_state : List ℕ → ℕ → Turn
comment_less_than_sign_state comment x =
    if x == exclamation_mark then to (CommentLessThanSignBang (comment ++ (x ∷ [])))
    else if x == less_than_sign then to (CommentLessThanSign (comment ++ (x ∷ [])))
    else again (Comment comment)

-- 13.2.5.47 Comment less-than sign bang state
abbrev pub comment_less_than_sign_bang_state : List ℕ → ℕ → Turn
comment_less_than_sign_bang_state comment x =
    if x == hyphen then to (CommentLessThanSignBangDash comment) else again (Comment comment)

-- 13.2.5.48 Comment less-than sign bang dash state
abbrev pub comment_less_than_sign_bang_dash_state : List ℕ → ℕ → Turn
comment_less_than_sign_bang_dash_state comment x =
    if x == hyphen then to (CommentLessThanSignBangDashDash comment) else again (CommentEndDash comment)

-- 13.2.5.49 Comment less-than sign bang dash dash state
abbrev pub comment_less_than_sign_bang_dash_dash_state : List ℕ → ℕ → Turn
comment_less_than_sign_bang_dash_dash_state comment x =
    if x == greater_than_sign then again (CommentEnd comment) else wrong NestedComment (again (CommentEnd comment))

-- 13.2.5.50 Comment end dash state
abbrev pub comment_end_dash_state : List ℕ → ℕ → Turn
comment_end_dash_state comment x = if x == hyphen then to (CommentEnd comment) else again (Comment (comment ++ codes "-"))

-- 13.2.5.51 Comment end state
abbrev pub comment_end_state : List ℕ → ℕ → Turn
comment_end_state comment x =
    if x == greater_than_sign then hand_comment comment
    else if x == exclamation_mark then to (CommentEndBang comment)
    else if x == hyphen then to (CommentEnd (comment ++ codes "-"))
    else again (Comment (comment ++ codes "--"))

-- 13.2.5.52 Comment end bang state
abbrev pub comment_end_bang_state : List ℕ → ℕ → Turn
comment_end_bang_state comment x =
    if x == hyphen then to (CommentEndDash (comment ++ codes "--!"))
    else if x == greater_than_sign then wrong IncorrectlyClosedComment (hand_comment comment)
    else again (Comment (comment ++ codes "--!"))

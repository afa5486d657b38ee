-- HTML standard, section 13.2.6.4.6, the "after head" insertion mode.
use Rattle.std.specs.Prelude.{ℕ, false, List, [], ◌∷◌, ◌++◌, Option, Some, None, codes}
use Rattle.h5_token.specs.TokenText.{TagText}
use Rattle.h5_names.specs.declared.known_name.KnownName.TheVariants.{Body, Frameset, Head, Html, Template}
use Rattle.h5_tables.specs.TurnText.{CommentTurn, EofTurn, NullTurn, TagTurn, TextTurn, TurnText}
use Rattle.h5_tables.specs.declared.modes.InsertionMode.TheVariants.{InBody, InFrameset}
use Rattle.h5_tables.specs.declared.modes.SplitStatus.TheVariants.{NotSplit, NotWhitespace, Whitespace}
use Rattle.h5_builder_spec.specs.ByName.{AnyOf, Only, Rules, by_kind, by_name, ignored_tag, of_tag, outer_names}
use Rattle.h5_builder_spec.specs.Rows.{Again, AppendComment, AppendText, Change, InsertElement, IsDone, PushHead, RemoveFromStack, Row, SetFramesetNotOk, SetMode, errs, row}
use Rattle.h5_builder_spec.specs.modes.Shared.{head_start_names, in_body_start_html, inserts}
use Rattle.h5_builder_spec.specs.World.{World}
use Rattle.h5_builder_spec.specs.Changes.{push_head}
use Rattle.h5_builder_spec.specs.modes.InHead.{in_head_end_template, in_head_start_tag}

-- a start tag "body"
abbrev pub after_head_start_body : TagText → World → Row
after_head_start_body tag w = row (InsertElement tag.name tag.attrs tag.had_duplicate_attributes ∷ SetFramesetNotOk ∷ SetMode InBody ∷ []) IsDone

-- a start tag "frameset"
abbrev pub after_head_start_frameset : TagText → World → Row
after_head_start_frameset tag w = row (inserts tag ∷ SetMode InFrameset ∷ []) IsDone

-- the head element is removed from the stack
abbrev pub removes_known : Option ℕ → List Change
removes_known None = []
removes_known (Some n) = RemoveFromStack n ∷ []

-- a start tag of an element that belongs in the head: the head element is pushed, the rule of "in head" is applied, and
-- the head element is removed from the stack, wherever it is
unfoldable pub with_head : (TagText → World → Row) → TagText → World → Row
with_head rule tag w =
    let r = rule tag (push_head w) in errs (PushHead ∷ (r.changes ++ removes_known w.head)) r.ending

-- anything else
abbrev pub after_head_else : TurnText → World → Row
after_head_else t w = row (InsertElement (codes "body") [] false ∷ []) (Again InBody)

-- start tags, and end tags
unfoldable pub after_head_start : Rules
after_head_start = (Only Html, in_body_start_html) ∷ (Only Body, after_head_start_body) ∷ (Only Frameset, after_head_start_frameset) ∷ (AnyOf head_start_names, with_head in_head_start_tag) ∷ (Only Head, ignored_tag) ∷ []

unfoldable pub after_head_end : Rules
after_head_end = (Only Head, ignored_tag) ∷ (Only Template, in_head_end_template) ∷ (AnyOf outer_names, of_tag after_head_else) ∷ []

unfoldable pub after_head_tag : TagText → World → Row
after_head_tag tag w = by_kind tag.kind (by_name after_head_start (of_tag after_head_else) tag w) (by_name after_head_end ignored_tag tag w)

abbrev pub after_head : TurnText → World → Row
after_head (TagTurn tag) w = after_head_tag tag w
after_head (CommentTurn text) w = row (AppendComment text ∷ []) IsDone
after_head (TextTurn Whitespace text) w = row (AppendText text ∷ []) IsDone
after_head (TextTurn NotWhitespace text) w = after_head_else (TextTurn NotWhitespace text) w
after_head (TextTurn NotSplit text) w = after_head_else (TextTurn NotSplit text) w
after_head NullTurn w = after_head_else NullTurn w
after_head EofTurn w = after_head_else EofTurn w

-- The rules that the tags of a plain document follow, each in its mode.
use Rattle.std.proofs.Common.{◌≡◌, ℕ, false, List, [], ◌∷◌, Option, None, is_some, codes, refl, ap}
use Rattle.h5_names.specs.AttributeText.{AttributeText}
use Rattle.h5_token.specs.Reply.{TurnsRaw}
use Rattle.h5_token.specs.TokenText.{TagText}
use Rattle.h5_token.specs.declared.states.RawKind.TheVariants.{Rcdata}
use Rattle.h5_token.specs.declared.tag.TagKind.TheVariants.{EndTag, StartTag}
use Rattle.h5_tables.specs.TurnText.{TagTurn}
use Rattle.h5_tables.specs.declared.modes.InsertionMode.TheVariants.{AfterAfterBody, AfterBody, AfterHead, BeforeHead, BeforeHtml, InBody, InHead, Text}
use Rattle.h5_builder_spec.specs.modes.AfterBody.{after_body_end, after_body_tag}
use Rattle.h5_builder_spec.specs.modes.AfterHead.{after_head_start, after_head_tag}
use Rattle.h5_builder_spec.specs.modes.BeforeHead.{before_head_start, before_head_tag}
use Rattle.h5_builder_spec.specs.modes.BeforeHtml.{before_html_start, before_html_tag}
use Rattle.h5_builder_spec.specs.modes.InBody.{body_ends, if_body_in_scope, in_body_end, in_body_end_blocks, in_body_end_inline, in_body_tag}
use Rattle.h5_builder_spec.specs.modes.InHead.{in_head_end, in_head_links, in_head_start, in_head_start_tag, in_head_tag}
use Rattle.h5_builder_spec.specs.modes.InTableText.{saved_mode}
use Rattle.h5_builder_spec.specs.modes.Modes.{rule}
use Rattle.h5_builder_spec.specs.Rows.{Answers, CreateRoot, InsertElement, InsertHead, IsDone, Pop, SaveMode, SetFramesetNotOk, SetMode, choose, ignored, row}
use Rattle.h5_builder_spec.specs.World.{World}

-- the tags of `start_tag` and `end_tag`
abbrev pub start : List ℕ → List AttributeText → TagText
start name attrs = record { kind = StartTag; name = name; self_closing = false; attrs = attrs; had_duplicate_attributes = false }

abbrev pub end : List ℕ → TagText
end name = record { kind = EndTag; name = name; self_closing = false; attrs = []; had_duplicate_attributes = false }

pub html_rule : (a : List AttributeText) (w : World) → rule BeforeHtml (TagTurn (start (codes "html") a)) w ≡ row (CreateRoot a ∷ SetMode BeforeHead ∷ []) IsDone
unfolding before_html_tag before_html_start
html_rule a w = refl

pub head_rule : (a : List AttributeText) (w : World) → rule BeforeHead (TagTurn (start (codes "head") a)) w ≡ row (InsertHead a false ∷ SetMode InHead ∷ []) IsDone
unfolding before_head_tag before_head_start
head_rule a w = refl

pub title_rule : (a : List AttributeText) (w : World) → rule InHead (TagTurn (start (codes "title") a)) w ≡ row (InsertElement (codes "title") a false ∷ SaveMode ∷ SetMode Text ∷ []) (Answers (TurnsRaw Rcdata))
unfolding in_head_tag in_head_start_tag in_head_start in_head_links
title_rule a w = refl

pub title_end_rule : (w : World) → rule Text (TagTurn (end (codes "title"))) w ≡ row (Pop ∷ SetMode (saved_mode w) ∷ []) IsDone
title_end_rule w = refl

pub head_end_rule : (w : World) → rule InHead (TagTurn (end (codes "head"))) w ≡ row (Pop ∷ SetMode AfterHead ∷ []) IsDone
unfolding in_head_tag in_head_end
head_end_rule w = refl

pub body_rule : (a : List AttributeText) (w : World) → rule AfterHead (TagTurn (start (codes "body") a)) w ≡ row (InsertElement (codes "body") a false ∷ SetFramesetNotOk ∷ SetMode InBody ∷ []) IsDone
unfolding after_head_tag after_head_start
body_rule a w = refl

pub body_end_rule : (w : World) → rule InBody (TagTurn (end (codes "body"))) w ≡ if_body_in_scope (body_ends (SetMode AfterBody ∷ []) IsDone w) w
unfolding in_body_tag in_body_end in_body_end_blocks in_body_end_inline
body_end_rule w = refl

pub html_end_rule : (w : World) → w.context ≡ None → rule AfterBody (TagTurn (end (codes "html"))) w ≡ row (SetMode AfterAfterBody ∷ []) IsDone
unfolding after_body_tag after_body_end
html_end_rule w none = ap (λ (o : Option ℕ). choose (is_some o) ignored (row (SetMode AfterAfterBody ∷ []) IsDone)) none

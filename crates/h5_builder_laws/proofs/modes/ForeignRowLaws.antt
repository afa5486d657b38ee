-- What holds for each step of foreign content, and so for the rule that handles a token.
use Rattle.std.proofs.Common.{◌≡◌, ◌≢◌, ℕ, Bool, true, false, if◌then◌else◌, List, [], ◌∷◌, refl, ap}
use Rattle.h5_token.specs.TokenText.{TagText}
use Rattle.h5_token.specs.declared.tag.TagKind.{TagKind}
use Rattle.h5_token.specs.declared.tag.TagKind.TheVariants.{EndTag, StartTag}
use Rattle.h5_interface.specs.SinkChoices.{SinkChoices}
use Rattle.h5_tables.specs.TagSets.{is_one_of}
use Rattle.h5_tables.specs.TurnText.{CommentTurn, EofTurn, HasText, NullTurn, TagTurn, TextTurn, TurnText}
use Rattle.h5_builder_spec.specs.insertion.Foreign.{is_foreign}
use Rattle.h5_builder_spec.specs.modes.ForeignContent.{ByMode, EndSearch, Finds, ForeignStep, HasRow, ReachesHtml, ReachesRoot, breaks_out, dispatch, foreign_breakout_end_names, foreign_end, foreign_end_by, foreign_start, foreign_start_other, foreign_step, foreign_tag, foreign_text_row, is_expected_end, replacement_text, row_of, search_end, unexpected_in_foreign_content}
use Rattle.h5_builder_spec.specs.modes.Modes.{rule}
use Rattle.h5_builder_spec.specs.Rows.{AppendComment, AppendText, IsDone, PopUntilNamedInAnyCase, Row, choose, errs, row, row_if}
use Rattle.h5_builder_spec.specs.World.{World, names_of}

-- the row of an end tag that finds its element
abbrev pub foreign_end_found : TagText → World → Row
foreign_end_found tag w = row_if (is_expected_end tag.name (names_of w)) (PopUntilNamedInAnyCase tag.name ∷ []) IsDone

-- what is known of a text
abbrev pub Has : (List ℕ → Type 0) → TurnText → Type 0
Has Q (TextTurn status x) = Q x
Has Q _ = Unit {0}

pub some_has : (t : TurnText) → HasText t → Has (λ x. x ≢ []) t
some_has (TextTurn status x) h = h
some_has _ h = tt

pub any_has : (t : TurnText) → Has (λ x. Unit {0}) t
any_has (TagTurn tag) = tt
any_has (CommentTurn x) = tt
any_has (TextTurn status x) = tt
any_has NullTurn = tt
any_has EofTurn = tt

-- what is to be shown of the steps of foreign content
pub record Steps (w : World) (Q : List ℕ → Type 0) (P : ForeignStep → Type 0) : Type 0 where
  pub leaves : P unexpected_in_foreign_content
  pub stays : (quiet : Bool) → P (ByMode quiet [])
  pub ignores : (quiet : Bool) → P (HasRow (row_if quiet [] IsDone))
  pub starts : (tag : TagText) → P (HasRow (foreign_start_other tag w))
  pub ends : (tag : TagText) → search_end tag.name (names_of w) ≡ Finds → P (HasRow (foreign_end_found tag w))
  pub comments : (x : List ℕ) → P (HasRow (row (AppendComment x ∷ []) IsDone))
  pub texts : (x : List ℕ) → Q x → P (HasRow (foreign_text_row x))
  pub nulls : P (HasRow (errs (AppendText replacement_text ∷ []) IsDone))

module _ (w : World) (Q : List ℕ → Type 0) (P : ForeignStep → Type 0) (s : Steps w Q P) where
  start_step : (tag : TagText) → P (foreign_start tag w)
  unfolding foreign_start
  start_step tag = at (breaks_out tag)
    where
      at : (b : Bool) → P (if b then unexpected_in_foreign_content else HasRow (foreign_start_other tag w))
      at true = s.leaves
      at false = s.starts tag

  end_found : (tag : TagText) (x : EndSearch) → search_end tag.name (names_of w) ≡ x → P (foreign_end_by x tag w)
  end_found tag ReachesRoot e = s.ignores (is_expected_end tag.name (names_of w))
  end_found tag ReachesHtml e = s.stays (is_expected_end tag.name (names_of w))
  end_found tag Finds e = s.ends tag e

  end_step : (tag : TagText) → P (foreign_end tag w)
  unfolding foreign_end
  end_step tag = at (is_one_of foreign_breakout_end_names tag.name)
    where
      at : (b : Bool) → P (if b then unexpected_in_foreign_content else foreign_end_by (search_end tag.name (names_of w)) tag w)
      at true = s.leaves
      at false = end_found tag (search_end tag.name (names_of w)) refl

  tag_step : (k : TagKind) (tag : TagText) → P (foreign_tag k tag w)
  tag_step StartTag tag = start_step tag
  tag_step EndTag tag = end_step tag

  pub each_step : (t : TurnText) → Has Q t → P (foreign_step t w)
  each_step (TagTurn tag) h = tag_step tag.kind tag
  each_step (CommentTurn x) h = s.comments x
  each_step (TextTurn status x) h = s.texts x h
  each_step NullTurn h = s.nulls
  each_step EofTurn h = s.ignores true

-- THE RULE of a token: of foreign content, or of the mode
pub dispatch_holds : (P : Row → Type 0) (choices : SinkChoices) (t : TurnText) (w : World) → (is_foreign choices t w ≡ true → P (row_of choices (foreign_step t w) t w)) → (is_foreign choices t w ≡ false → P (rule w.mode t w)) → P (dispatch choices t w)
unfolding dispatch
dispatch_holds P choices t w f g = at (is_foreign choices t w) f g
  where
    at : (b : Bool) → (b ≡ true → P (row_of choices (foreign_step t w) t w)) → (b ≡ false → P (rule w.mode t w)) → P (choose b (row_of choices (foreign_step t w) t w) (rule w.mode t w))
    at true f g = f refl
    at false f g = g refl

pub dispatch_html : (choices : SinkChoices) (t : TurnText) (w : World) → is_foreign choices t w ≡ false → dispatch choices t w ≡ rule w.mode t w
unfolding dispatch
dispatch_html choices t w h = ap (λ b. choose b (row_of choices (foreign_step t w) t w) (rule w.mode t w)) h

pub dispatch_foreign : (choices : SinkChoices) (t : TurnText) (w : World) → is_foreign choices t w ≡ true → dispatch choices t w ≡ row_of choices (foreign_step t w) t w
unfolding dispatch
dispatch_foreign choices t w h = ap (λ b. choose b (row_of choices (foreign_step t w) t w) (rule w.mode t w)) h

pub eof_html : (choices : SinkChoices) (w : World) → is_foreign choices EofTurn w ≡ false
unfolding is_foreign
eof_html choices w = refl

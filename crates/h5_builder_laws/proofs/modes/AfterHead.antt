-- HTML standard, section 13.2.6.4.6, the "after head" insertion mode: each of its rows is lawful.
use Rattle.std.proofs.Common.{Bool, List, None, Option, Some, [], codes, false, refl, subst, sym, true, ℕ, ◌++◌, ◌∙◌, ◌∷◌, ◌≡◌}
use Rattle.h5_names.specs.AttributeText.{AttributeText}
use Rattle.h5_names.specs.declared.known_name.KnownName.TheVariants.{Body}
use Rattle.h5_token.specs.Reply.{Indicates, RunsScript, TurnsPlain, TurnsRaw}
use Rattle.h5_token.specs.TokenText.{TagText}
use Rattle.h5_token.specs.declared.tag.TagKind.TheVariants.{EndTag, StartTag}
use Rattle.h5_token.specs.declared.tag.TagKind.{TagKind}
use Rattle.h5_interface.specs.SinkChoices.{SinkChoices}
use Rattle.h5_tables.specs.TagSets.{is_one_of}
use Rattle.h5_tables.specs.TurnText.{CommentTurn, TagTurn, TextTurn, TurnText}
use Rattle.h5_tables.specs.declared.modes.InsertionMode.TheVariants.{AfterHead, InBody}
use Rattle.h5_tables.specs.declared.modes.SplitStatus.TheVariants.{Whitespace}
use Rattle.h5_builder_spec.specs.ByName.{by_kind, by_name, ignored_tag, named, of_tag}
use Rattle.h5_builder_spec.specs.Changes.{insert_element, push_head}
use Rattle.h5_builder_spec.specs.Rows.{Again, AgainBy, Answers, Change, Ending, InsertElement, IsAcknowledged, IsDone, PushHead, apply_all, row}
use Rattle.h5_builder_spec.specs.inner.Kept.{Fits, HasLists}
use Rattle.h5_builder_spec.specs.Sound.{Sound, situation_of}
use Rattle.h5_builder_spec.specs.World.{World, names_of}
use Rattle.h5_builder_spec.specs.inner.NamesFit.{NamesFit}
use Rattle.h5_builder_spec.specs.reset.Roles.{BodyRole, role_of_local}
use Rattle.h5_builder_spec.specs.formatting.FormattingNames.{html_name}
use Rattle.h5_builder_spec.specs.modes.AfterHead.{after_head, after_head_else, after_head_end, after_head_start, after_head_start_body, after_head_start_frameset, after_head_tag, removes_known, with_head}
use Rattle.h5_builder_spec.specs.modes.InHead.{in_head_start_tag}
use Rattle.h5_builder_spec.specs.modes.Shared.{head_start_names}
use Rattle.h5_builder_spec.proofs.changes.ListsLaws.{IsSteady}
use Rattle.h5_builder_spec.proofs.changes.NameLaws.{names-insert}
use Rattle.h5_builder_spec.proofs.changes.SituationLaws.{situation_insert}
use Rattle.h5_builder_spec.proofs.fitting.NamesBodyLaws.{role_known}
use Rattle.h5_builder_spec.proofs.fitting.NamesFitLaws.{names_body_pushed}
use Rattle.h5_builder_spec.proofs.modes.AfterHead.{by_head, kept_with_head, lists_with_head, sound_with_head}
use Rattle.h5_builder_spec.proofs.modes.FramesetRowLaws.{kept_after_head_frameset}
use Rattle.h5_builder_spec.proofs.modes.TemplateRowLaws.{none_after_head}
use Rattle.h5_builder_spec.proofs.roles.RoleLaws.{role_made}
use Rattle.h5_builder_spec.proofs.rows.ByNameLaws.{◌&◌, holds_by_name}
use Rattle.h5_builder_spec.proofs.rows.EndingLaws.{RowStops}
use Rattle.h5_builder_spec.proofs.rows.KeptLaws.{FitsAs, fits_at, fits_frameset_off}
use Rattle.h5_builder_spec.proofs.rows.ListedLaws.{AllListable}
use Rattle.h5_builder_spec.proofs.rows.RowTexts.{IsTold, NoMode, Tells, told_append}
use Rattle.h5_builder_laws.proofs.LawfulRow.{IsLawfulFor, IsLawfulRow, IsLawfulTag, lawful_ignored, lawful_row}
use Rattle.h5_builder_laws.proofs.modes.SharedRows.{comment_lawful, no_template_lawful, start_html_lawful, text_row_lawful}
use Rattle.h5_builder_laws.proofs.turns.AgainLaws.{kind_of_start}
use Rattle.h5_builder_laws.proofs.turns.Ranks.{TurnKind}
use Rattle.h5_builder_laws.proofs.turns.RowEdges.{stops}
use Rattle.h5_builder_laws.proofs.turns.Ranks as edges

module _ (choices : SinkChoices) (w : World) (sound : Sound w) where
  -- the body is pushed
  body_pushed : (local : List ℕ) (attrs : List AttributeText) (duplicates : Bool) → role_of_local local ≡ BodyRole → FitsAs AfterHead w → FitsAs InBody (insert_element choices local attrs duplicates w)
  body_pushed local attrs duplicates e h =
      fits_at InBody w (insert_element choices local attrs duplicates w) sound (situation_insert choices w local attrs duplicates sound)
      (subst (NamesFit (situation_of w) InBody) (sym (names-insert choices local attrs duplicates w sound)) (names_body_pushed (situation_of w) (html_name local) (names_of w) (role_made local ∙ e) h))

  is_body : role_of_local (codes "body") ≡ BodyRole
  unfolding role_of_local
  is_body = refl

  named_body : (name : List ℕ) → named Body name ≡ true → role_of_local name ≡ BodyRole
  named_body name h = role_known Body name h ∙ is_body

  stays_with_head : (lists : HasLists w) → w.mode ≡ AfterHead → (tag : TagText) → is_one_of head_start_names tag.name ≡ true → FitsAs AfterHead w → IsSteady (apply_all choices (with_head in_head_start_tag tag w).changes w)
  stays_with_head lists is tag p h =
      let f : Fits w = record { mode = subst (λ m. FitsAs m w) (sym is) h; lists = lists } in
      record { sound = sound_with_head choices tag w sound f is p; lists = lists_with_head choices tag w sound f is p }

removes_told : (o : Option ℕ) → AllListable (removes_known o) × NoMode (removes_known o)
removes_told None = (tt, tt)
removes_told (Some n) = (tt, tt)

pushed : (x : Ending) (xs : List Change) → AllListable xs × Tells x xs → AllListable (PushHead ∷ xs) × Tells x (PushHead ∷ xs)
pushed IsDone xs h = h
pushed IsAcknowledged xs h = h
pushed (Again m) xs h = h
pushed (AgainBy mode) xs h = h
pushed (Answers (RunsScript node)) xs h = h
pushed (Answers TurnsPlain) xs h = h
pushed (Answers (Indicates encoding)) xs h = h
pushed (Answers (TurnsRaw kind)) xs h = h
pushed (Answers _) xs h = h

with_head_row : (tag : TagText) (w : World) → is_one_of head_start_names tag.name ≡ true → IsTold (with_head in_head_start_tag tag w)
unfolding with_head
with_head_row tag w p =
    let r = in_head_start_tag tag (push_head w) in
    let gone = removes_told w.head in
    pushed r.ending (r.changes ++ removes_known w.head) (told_append r.ending r.changes (removes_known w.head) (by_head tag w p).ends.told gone.0 gone.1)

-- a start tag by the rules of the head, with the head as the current node
with_head_stops : (tag : TagText) (w : World) → is_one_of head_start_names tag.name ≡ true → RowStops (with_head in_head_start_tag tag w)
unfolding with_head
with_head_stops tag w p = (by_head tag w p).ends.stops

-- THE ROWS

else_lawful : {c : TurnKind} {starts : Bool} {given : Type 0} (w : World) → IsLawfulRow AfterHead c starts given w (row (InsertElement (codes "body") [] false ∷ []) (Again InBody))
else_lawful {c = c} w = lawful_row _ (tt, tt) (λ choices s. body_pushed choices w s.sound (codes "body") [] false (is_body choices w s.sound)) (tt, (refl, tt)) tt (edges.after_head c)

with_head_lawful : (tag : TagText) (w : World) → is_one_of head_start_names tag.name ≡ true → IsLawfulTag StartTag tag AfterHead w (with_head in_head_start_tag tag w)
with_head_lawful tag w p = record {
  steady = λ choices s same some. stays_with_head choices w s.sound s.lists same tag p;
  fits = λ choices s same some. kept_with_head choices w s.sound same tag p;
  told = λ n. with_head_row tag w p;
  silent = λ n h. absurd (cc);
  leads = stops (kind_of_start tag.name) AfterHead w (with_head in_head_start_tag tag w) (with_head_stops tag w p);
}

tag_lawful : (k : TagKind) (tag : TagText) (w : World) → IsLawfulTag k tag AfterHead w (by_kind k (by_name after_head_start (of_tag after_head_else) tag w) (by_name after_head_end ignored_tag tag w))
unfolding after_head_start after_head_end names_of
tag_lawful StartTag tag w = holds_by_name (IsLawfulTag StartTag tag AfterHead w) after_head_start (of_tag after_head_else) tag w (
    (λ p. start_html_lawful AfterHead w tag)
    & (λ p. lawful_row (after_head_start_body tag w) (tt, (tt, (tt, tt)))
    (λ choices s h. fits_frameset_off InBody (insert_element choices tag.name tag.attrs tag.had_duplicate_attributes w) (body_pushed choices w s.sound tag.name tag.attrs tag.had_duplicate_attributes (named_body choices w s.sound tag.name p) h)) (tt, (refl, tt)) tt tt)
    & (λ p. lawful_row (after_head_start_frameset tag w) (tt, (tt, tt)) (λ choices s. kept_after_head_frameset choices w s.sound tag p) (tt, (refl, tt)) tt tt)
    & (λ p. with_head_lawful tag w p)
    & (λ p. lawful_ignored)
    & tt
    )
    (λ n. else_lawful w)
tag_lawful EndTag tag w = holds_by_name (IsLawfulTag EndTag tag AfterHead w) after_head_end ignored_tag tag w
    (
    (λ p. lawful_ignored)
    & (λ p. no_template_lawful AfterHead w tag (none_after_head w))
    & (λ p. else_lawful w)
    & tt
    ) (λ n. lawful_ignored)

pub lawful_after_head : (t : TurnText) (w : World) → IsLawfulFor t AfterHead w (after_head t w)
unfolding after_head_tag
lawful_after_head (TagTurn tag) w = tag_lawful tag.kind tag w
lawful_after_head (CommentTurn x) w = comment_lawful AfterHead w x
lawful_after_head (TextTurn Whitespace x) w = text_row_lawful AfterHead w Whitespace x
lawful_after_head t w = else_lawful w

-- HTML standard, section 13.2.6.4.4, the "in head" insertion mode: the effect of the rules of its start tags, in each
-- mode that may be left for a text.
use Rattle.std.proofs.Common.{List, None, Option, Some, [], codes, false, refl, true, ℕ, ◌∷◌, ◌≡◌}
use Rattle.h5_names.specs.KnownNames.{name_text}
use Rattle.h5_names.specs.declared.known_name.KnownName.TheVariants.{Head, Html, Noscript, Template, Title}
use Rattle.h5_names.specs.declared.known_name.KnownName.{KnownName}
use Rattle.h5_token.specs.TokenText.{TagText}
use Rattle.h5_token.specs.declared.states.RawKind.TheVariants.{Rawtext, Rcdata}
use Rattle.h5_token.specs.declared.states.RawKind.{RawKind}
use Rattle.h5_interface.specs.SinkChoices.{SinkChoices}
use Rattle.h5_tables.specs.TagSets.{is_one_of}
use Rattle.h5_tables.specs.TurnText.{TagTurn}
use Rattle.h5_tables.specs.declared.modes.InsertionMode.TheVariants.{AfterHead, InHead}
use Rattle.h5_tables.specs.declared.modes.InsertionMode.{InsertionMode}
use Rattle.h5_builder_spec.specs.ByName.{NonePasses, named, of_tag}
use Rattle.h5_builder_spec.specs.Changes.{add_attrs_to_html, insert_and_pop_element}
use Rattle.h5_builder_spec.specs.NamedEncoding.{indicates, named_encoding}
use Rattle.h5_builder_spec.specs.Rows.{AddAttrsToHtml, InsertAndPopElement, IsDone, Row, errs, ignored, row}
use Rattle.h5_builder_spec.specs.Sound.{Sound, situation_of}
use Rattle.h5_builder_spec.specs.World.{World, names_of}
use Rattle.h5_builder_spec.specs.inner.Fits.{goes_by_body, may_be_left, takes_template}
use Rattle.h5_builder_spec.specs.reset.Roles.{PlainRole, role_of_local}
use Rattle.h5_builder_spec.specs.modes.InHead.{in_head_else, in_head_links, in_head_raw, in_head_start, in_head_start_noscript, in_head_start_script, in_head_start_tag, in_head_start_template}
use Rattle.h5_builder_spec.specs.modes.Shared.{head_start_names, in_body_start_html, inserts, raw_text}
use Rattle.h5_builder_spec.specs.stack.Root.{IsRootOpen}
use Rattle.h5_builder_spec.specs.stack.Scope.{has_template}
use Rattle.h5_builder_spec.proofs.changes.NameLaws.{names-add_to_root, names-insert_and_pop}
use Rattle.h5_builder_spec.proofs.changes.SituationLaws.{situation_add_to_root, situation_leaf}
use Rattle.h5_builder_spec.proofs.fitting.OpenLaws.{left_after_root, names_root_open}
use Rattle.h5_builder_spec.proofs.modes.TemplateRowLaws.{kept_start_template}
use Rattle.h5_builder_spec.proofs.modes.TextBeginsLaws.{script_begins, text_begins}
use Rattle.h5_builder_spec.proofs.roles.PlainNameLaws.{known_plain, set_plain}
use Rattle.h5_builder_spec.proofs.rows.ByNameLaws.{all_ruled, holds_by_name, holds_chosen, of_named, ◌&◌}
use Rattle.h5_builder_spec.proofs.rows.EndingLaws.{EndsTurn}
use Rattle.h5_builder_spec.proofs.rows.KeptLaws.{FitsAs, Kept, as_before}

-- modes that use the rules of the body take a template
pub body_takes : (m : InsertionMode) → goes_by_body m ≡ true → takes_template m ≡ true
body_takes InHead h = refl
body_takes AfterHead h = refl
body_takes _ h = h

-- names
pub noscript_plain : (l : List ℕ) → named Noscript l ≡ true → role_of_local l ≡ PlainRole
unfolding role_of_local
noscript_plain l h = known_plain Noscript l refl h

pub script_plain : role_of_local (codes "script") ≡ PlainRole
unfolding role_of_local
script_plain = refl

-- each start tag that goes so elsewhere has a rule there, and none has a name that these names don't have
head_start_passes : (l : List ℕ) → is_one_of head_start_names l ≡ true → NonePasses in_head_start l → ⊥
unfolding head_start_names in_head_start in_head_links in_head_raw
head_start_passes l h n = all_ruled in_head_start head_start_names l refl h n

apart : (known : KnownName) (l : List ℕ) → is_one_of head_start_names (name_text known) ≡ false → is_one_of head_start_names l ≡ true → named known l ≡ true → ⊥
apart known l out h p = let clash = of_named (λ n. is_one_of head_start_names n ≡ false) known l out p in cc

-- HEAD CONTENT: an element that isn't open is put, or a text begins, or a template is opened
pub data IsContent (tag : TagText) (w : World) : Row → Type 0 where
  puts_leaf : (encoding : Option (List ℕ)) → IsContent tag w (row (InsertAndPopElement tag.name tag.attrs tag.had_duplicate_attributes ∷ []) (indicates encoding))
  begins_text : (kind : RawKind) → role_of_local tag.name ≡ PlainRole → IsContent tag w (raw_text kind (inserts tag ∷ []))
  begins_script : IsContent tag w (in_head_start_script tag w)
  puts_template : named Template tag.name ≡ true → IsContent tag w (in_head_start_template tag w)

-- what holds for each such row, for those of an `html`, a `noscript` and a `head`, and for any other, holds for a start tag's
pub head_start_by : (P : Row → Type 0) (tag : TagText) (w : World) → (named Html tag.name ≡ true → P (in_body_start_html tag w)) → ((r : Row) → IsContent tag w r → P r)
    → (named Noscript tag.name ≡ true → P (in_head_start_noscript tag w)) → (named Head tag.name ≡ true → P ignored) → (NonePasses in_head_start tag.name → P (in_head_else (TagTurn tag) w)) → P (in_head_start_tag tag w)
unfolding in_head_start in_head_start_tag in_head_raw role_of_local
head_start_by P tag w html content noscript head other = holds_by_name P in_head_start (of_tag in_head_else) tag w (
    html
    & (λ p. content _ (puts_leaf None))
    & (λ p. content _ (puts_leaf (named_encoding tag.attrs)))
    & (λ p. content _ (begins_text Rcdata (known_plain Title tag.name refl p)))
    & (λ p. content _ (begins_text Rawtext (set_plain in_head_raw tag.name refl p)))
    & noscript
    & (λ p. content _ begins_script)
    & (λ p. content _ (puts_template p))
    & head
    & tt
    )
    other

-- one that goes so elsewhere
pub is_content : (tag : TagText) (w : World) → is_one_of head_start_names tag.name ≡ true → IsContent tag w (in_head_start_tag tag w)
unfolding head_start_names
is_content tag w p = head_start_by (IsContent tag w) tag w (λ q. absurd (apart Html tag.name refl p q)) (λ r c. c) (λ q. absurd (apart Noscript tag.name refl p q)) (λ q. absurd (apart Head tag.name refl p q))
    (λ n. absurd (head_start_passes tag.name p n))

-- ROWS: each ends the turn, and after it the open elements fit the mode that it leaves
pub record IsHeadRow (m : InsertionMode) (w : World) (r : Row) : Type 0 where
  pub ends : EndsTurn true r
  pub fits : (choices : SinkChoices) → Sound w → w.mode ≡ m → Kept choices w m r

pub html_row : (m : InsertionMode) (tag : TagText) (w : World) → IsHeadRow m w (in_body_start_html tag w)
unfolding in_body_start_html
html_row m tag w = holds_chosen (IsHeadRow m w) (has_template (names_of w)) ignored (errs (AddAttrsToHtml tag.attrs ∷ []) IsDone)
    (λ e. record { ends = record { stops = tt; told = (tt, tt); silent = λ s. tt; needs = tt }; fits = λ choices sound is h. h })
    (λ e. record {
      ends = record { stops = tt; told = (tt, tt); silent = λ s. tt; needs = (tt, tt) };
      fits = λ choices sound is. as_before m w (add_attrs_to_html tag.attrs w) sound (situation_add_to_root w tag.attrs sound) (names-add_to_root tag.attrs w sound);
    })

module _ (m : InsertionMode) (left : may_be_left m ≡ true) (tag : TagText) (w : World) where
  root : FitsAs m w → IsRootOpen (names_of w)
  root h = names_root_open (situation_of w) m (names_of w) (left_after_root m left) h

  leaf_kept : (choices : SinkChoices) → Sound w → FitsAs m w → FitsAs m (insert_and_pop_element choices tag.name tag.attrs tag.had_duplicate_attributes w)
  leaf_kept choices sound =
      as_before m w (insert_and_pop_element choices tag.name tag.attrs tag.had_duplicate_attributes w) sound (situation_leaf choices w tag.name tag.attrs tag.had_duplicate_attributes sound)
      (names-insert_and_pop choices tag.name tag.attrs tag.had_duplicate_attributes w sound)

  -- an element for a tag, and its text
  pub raw_row : (kind : RawKind) → role_of_local tag.name ≡ PlainRole → IsHeadRow m w (raw_text kind (inserts tag ∷ []))
  raw_row kind plain = record {
    ends = record { stops = tt; told = (tt, (refl, tt)); silent = λ s. absurd (cc); needs = (tt, (tt, (tt, tt))) };
    fits = λ choices sound is h. text_begins choices w m is left sound (root h) tag.name tag.attrs tag.had_duplicate_attributes plain h;
  }

  pub content_row : (named Template tag.name ≡ true → takes_template m ≡ true) → (r : Row) → IsContent tag w r → IsHeadRow m w r
  content_row takes _ (puts_leaf None) = record { ends = record { stops = tt; told = (tt, tt); silent = λ s. tt; needs = (tt, tt) }; fits = λ choices sound is. leaf_kept choices sound }
  content_row takes _ (puts_leaf (Some encoding)) = record { ends = record { stops = tt; told = (tt, tt); silent = λ s. absurd (cc); needs = (tt, tt) }; fits = λ choices sound is. leaf_kept choices sound }
  content_row takes _ (begins_text kind plain) = raw_row kind plain
  content_row takes _ begins_script = record {
    ends = record { stops = tt; told = (tt, (refl, tt)); silent = λ s. absurd (cc); needs = (tt, (tt, (tt, tt))) };
    fits = λ choices sound is h. script_begins choices w m is left sound (root h) tag.attrs tag.had_duplicate_attributes script_plain h;
  }
  content_row takes _ (puts_template p) = record {
    ends = record { stops = tt; told = (tt, (refl, (refl, tt))); silent = λ s. tt; needs = (tt, (tt, (tt, (tt, (tt, tt))))) };
    fits = λ choices sound is. kept_start_template choices w sound m tag (takes p);
  }

  pub head_content : is_one_of head_start_names tag.name ≡ true → (named Template tag.name ≡ true → takes_template m ≡ true) → IsHeadRow m w (in_head_start_tag tag w)
  head_content p takes = content_row takes (in_head_start_tag tag w) (is_content tag w p)

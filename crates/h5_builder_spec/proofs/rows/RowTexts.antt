-- What a row says about texts: one that switches the tokenizer to raw text sets the mode to "text" last, and no other
-- does.
use Rattle.std.proofs.Common.{◌≡◌, Bool, true, false, List, [], ◌∷◌, ◌++◌, refl}
use Rattle.h5_token.specs.Reply.{Indicates, RunsScript, TurnsPlain, TurnsRaw}
use Rattle.h5_tables.specs.declared.modes.InsertionMode.{InsertionMode}
use Rattle.h5_tables.specs.declared.modes.InsertionMode.TheVariants.{Text}
use Rattle.h5_builder_spec.specs.inner.Fits.{AllKinds, is_template_mode}
use Rattle.h5_builder_spec.specs.reset.Roles.{roles}
use Rattle.h5_builder_spec.proofs.fitting.NamesFitLaws.{is_silent, reset_silent}
use Rattle.h5_builder_spec.specs.modes.InTableText.{saved_mode}
use Rattle.h5_builder_spec.specs.reset.Reset.{reset_mode}
use Rattle.h5_builder_spec.specs.Rows.{Again, AgainBy, Answers, Change, Ending, IsAcknowledged, IsDone, ResetMode, Row, SaveMode, SetMode, PushTemplateMode, PopTemplateMode, SwitchTemplateMode}
use Rattle.h5_builder_spec.specs.Sound.{situation_of}
use Rattle.h5_builder_spec.specs.World.{World, names_of}
use Rattle.h5_builder_spec.proofs.rows.ListedLaws.{AllListable, listable_append}

-- no change sets the mode, or keeps it to go back to
abbrev pub NoMode : List Change → Type 0
NoMode [] = Unit {0}
NoMode (SetMode m ∷ xs) = ⊥
NoMode (ResetMode ∷ xs) = ⊥
NoMode (SaveMode ∷ xs) = ⊥
NoMode (PushTemplateMode m ∷ xs) = ⊥
NoMode (PopTemplateMode ∷ xs) = ⊥
NoMode (SwitchTemplateMode m ∷ xs) = ⊥
NoMode (x ∷ xs) = NoMode xs

abbrev pub is_text : InsertionMode → Bool
is_text Text = true
is_text _ = false

-- no mode that is kept to go back to is "text": neither the one that was left, nor one of a template
abbrev pub NoTextBehind : World → Type 0
NoTextBehind w = (is_text (saved_mode w) ≡ false) × AllKinds w.template_modes

-- so a reset finds another
silent_no_text : (m : InsertionMode) → is_silent m ≡ true → is_text m ≡ false
silent_no_text Text h = absurd (cc)
silent_no_text _ h = refl

pub reset_no_text : (w : World) → NoTextBehind w → is_text (reset_mode w) ≡ false
unfolding reset_mode
reset_no_text w h = silent_no_text (reset_mode w) (reset_silent (situation_of w) (roles (names_of w)) h.1)

-- the last that is set is "text"
abbrev pub TurnsToText : List Change → Type 0
TurnsToText [] = ⊥
TurnsToText (SetMode m ∷ xs) = (m ≡ Text) × NoMode xs
TurnsToText (PushTemplateMode m ∷ xs) = ⊥
TurnsToText (PopTemplateMode ∷ xs) = ⊥
TurnsToText (SwitchTemplateMode m ∷ xs) = ⊥
TurnsToText (x ∷ xs) = TurnsToText xs

-- none that is set is "text", and those of templates are of their kind
abbrev pub NoText : List Change → Type 0
NoText [] = Unit {0}
NoText (SetMode m ∷ xs) = (is_text m ≡ false) × NoText xs
NoText (PushTemplateMode m ∷ xs) = (is_template_mode m ≡ true) × NoText xs
NoText (SwitchTemplateMode m ∷ xs) = (is_template_mode m ≡ true) × NoText xs
NoText (x ∷ xs) = NoText xs

-- by the ending of a row
abbrev pub Tells : Ending → List Change → Type 0
Tells IsDone xs = NoText xs
Tells IsAcknowledged xs = NoText xs
Tells (Again m) xs = (is_text m ≡ false) × NoText xs
Tells (AgainBy mode) xs = NoText xs × ((v : World) → NoTextBehind v → is_text (mode v) ≡ false)
Tells (Answers (RunsScript node)) xs = NoText xs
Tells (Answers TurnsPlain) xs = NoText xs
Tells (Answers (Indicates encoding)) xs = NoText xs
Tells (Answers (TurnsRaw kind)) xs = TurnsToText xs
Tells (Answers _) xs = ⊥

-- and of a row, besides, that only formatting elements are listed
abbrev pub IsTold : Row → Type 0
IsTold r = AllListable r.changes × Tells r.ending r.changes

no_mode_append : (xs ys : List Change) → NoMode xs → NoMode ys → NoMode (xs ++ ys)
no_mode_append [] ys h k = k
no_mode_append (SetMode m ∷ xs) ys h k = absurd h
no_mode_append (ResetMode ∷ xs) ys h k = absurd h
no_mode_append (SaveMode ∷ xs) ys h k = absurd h
no_mode_append (PushTemplateMode m ∷ xs) ys h k = absurd h
no_mode_append (PopTemplateMode ∷ xs) ys h k = absurd h
no_mode_append (SwitchTemplateMode m ∷ xs) ys h k = absurd h
no_mode_append (_ ∷ xs) ys h k = no_mode_append xs ys h k

text_append : (xs ys : List Change) → TurnsToText xs → NoMode ys → TurnsToText (xs ++ ys)
text_append [] ys h k = absurd h
text_append (SetMode m ∷ xs) ys h k = (h.0, no_mode_append xs ys h.1 k)
text_append (PushTemplateMode m ∷ xs) ys h k = absurd h
text_append (PopTemplateMode ∷ xs) ys h k = absurd h
text_append (SwitchTemplateMode m ∷ xs) ys h k = absurd h
text_append (_ ∷ xs) ys h k = text_append xs ys h k

pub no_mode_no_text : (xs : List Change) → NoMode xs → NoText xs
no_mode_no_text [] h = tt
no_mode_no_text (SetMode m ∷ xs) h = absurd h
no_mode_no_text (ResetMode ∷ xs) h = absurd h
no_mode_no_text (SaveMode ∷ xs) h = absurd h
no_mode_no_text (PushTemplateMode m ∷ xs) h = absurd h
no_mode_no_text (PopTemplateMode ∷ xs) h = absurd h
no_mode_no_text (SwitchTemplateMode m ∷ xs) h = absurd h
no_mode_no_text (_ ∷ xs) h = no_mode_no_text xs h

no_text_append : (xs ys : List Change) → NoText xs → NoText ys → NoText (xs ++ ys)
no_text_append [] ys h k = k
no_text_append (SetMode m ∷ xs) ys h k = (h.0, no_text_append xs ys h.1 k)
no_text_append (PushTemplateMode m ∷ xs) ys h k = (h.0, no_text_append xs ys h.1 k)
no_text_append (SwitchTemplateMode m ∷ xs) ys h k = (h.0, no_text_append xs ys h.1 k)
no_text_append (_ ∷ xs) ys h k = no_text_append xs ys h k

-- with changes after it that set no mode
tells_append : (x : Ending) (xs ys : List Change) → Tells x xs → NoMode ys → Tells x (xs ++ ys)
tells_append IsDone xs ys h k = no_text_append xs ys h (no_mode_no_text ys k)
tells_append IsAcknowledged xs ys h k = no_text_append xs ys h (no_mode_no_text ys k)
tells_append (Again m) xs ys h k = (h.0, no_text_append xs ys h.1 (no_mode_no_text ys k))
tells_append (AgainBy mode) xs ys h k = (no_text_append xs ys h.0 (no_mode_no_text ys k), h.1)
tells_append (Answers (RunsScript node)) xs ys h k = no_text_append xs ys h (no_mode_no_text ys k)
tells_append (Answers TurnsPlain) xs ys h k = no_text_append xs ys h (no_mode_no_text ys k)
tells_append (Answers (Indicates encoding)) xs ys h k = no_text_append xs ys h (no_mode_no_text ys k)
tells_append (Answers (TurnsRaw kind)) xs ys h k = text_append xs ys h k
tells_append (Answers _) xs ys h k = absurd h

pub told_append : (x : Ending) (xs ys : List Change) → AllListable xs × Tells x xs → AllListable ys → NoMode ys → AllListable (xs ++ ys) × Tells x (xs ++ ys)
told_append x xs ys h l k = (listable_append xs ys h.0 l, tells_append x xs ys h.1 k)

-- What a builder keeps between tokens is kept by each token.
use Rattle.std.proofs.Common.{◌≡◌, ℕ, List, [], ◌∷◌, Option, Some, None, refl}
use Rattle.h5_token.specs.TokenText.{CommentIs, Characters, DoctypeIs, DoctypeText, EndOfFile, NullCharacter, ParseErrorIs, TagIs, TokenText}
use Rattle.h5_token.specs.declared.fault.BuildFault.{BuildFault}
use Rattle.h5_interface.specs.SinkChoices.{SinkChoices}
use Rattle.h5_tables.specs.TurnText.{CommentTurn, EofTurn, NullTurn, TagTurn}
use Rattle.h5_tables.specs.declared.modes.InsertionMode.{InsertionMode}
use Rattle.h5_tables.specs.declared.modes.InsertionMode.TheVariants.{Initial}
use Rattle.h5_builder_spec.specs.inner.Kept.{IsFitting, Fitting}
use Rattle.h5_builder_spec.specs.Run.{View, after_token, doctype_in, refusal, step, take_or_refuse, taken, text_step, without_lf}
use Rattle.h5_builder_spec.specs.World.{World, names_of}
use Rattle.h5_builder_laws.proofs.kept.DoctypeLaws.{judged_fitting}
use Rattle.h5_builder_laws.proofs.cuts.ForeignTextLaws.{text_keeps}
use Rattle.h5_builder_laws.proofs.turns.SettleLaws.{settle_fitting}

-- the newline flag is taken
pub taken_fitting : (w : World) → Fitting w → Fitting (taken w)
unfolding names_of
taken_fitting w g = record { sound = g.sound; fits = record { mode = g.fits.mode; lists = g.fits.lists } }

doctype_fitting : (choices : SinkChoices) (m : InsertionMode) (d : DoctypeText) (w : World) → w.mode ≡ m → Fitting w → Fitting (doctype_in m choices d w).world
doctype_fitting choices Initial d w e g = judged_fitting choices d w e g
doctype_fitting choices _ d w e g = g

text_fitting : (choices : SinkChoices) (t : List ℕ) (w : World) → Fitting w → Fitting (text_step choices t w).world
text_fitting choices [] w g = g
text_fitting choices (b ∷ t) w g = text_keeps choices b t w g

-- a token that is taken
pub step_fitting : (choices : SinkChoices) (t : TokenText) (w : World) → Fitting w → Fitting (step choices t w).world
unfolding step
step_fitting choices (DoctypeIs doctype) w g = doctype_fitting choices w.mode doctype (taken w) refl (taken_fitting w g)
step_fitting choices (TagIs tag) w g = settle_fitting choices (TagTurn tag) tt (taken w) (taken_fitting w g)
step_fitting choices (CommentIs text) w g = settle_fitting choices (CommentTurn text) tt (taken w) (taken_fitting w g)
step_fitting choices (Characters text) w g = text_fitting choices (without_lf w.ignore_lf text) (taken w) (taken_fitting w g)
step_fitting choices NullCharacter w g = settle_fitting choices NullTurn tt (taken w) (taken_fitting w g)
step_fitting choices EndOfFile w g = settle_fitting choices EofTurn tt (taken w) (taken_fitting w g)
step_fitting choices (ParseErrorIs message) w g = taken_fitting w g

-- a token, taken or refused
pub token_fitting : (choices : SinkChoices) (t : TokenText) (v : View) → IsFitting v → IsFitting (after_token choices t v)
token_fitting choices t v k = at (refusal v t)
  where
    at : (o : Option BuildFault) → IsFitting (take_or_refuse choices t o v)
    at (Some fault) = k
    at None = record { fitting = λ f e. step_fitting choices t v.world (k.fitting f e) }

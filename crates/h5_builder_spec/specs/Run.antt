-- The run of a list of tokens.
use Rattle.std.specs.Prelude.{◌≡◌, ℕ, ◌==◌, Bool, true, false, ◌&&◌, if◌then◌else◌, List, [], ◌∷◌, Option, Some, None, unwrap_or}
use Rattle.h5_token.specs.Reply.{Reply, Continues, Refuses}
use Rattle.h5_token.specs.TokenText.{DoctypeText, TokenText, DoctypeIs, TagIs, CommentIs, Characters, NullCharacter, EndOfFile, ParseErrorIs}
use Rattle.h5_token.specs.declared.fault.BuildFault.{BuildFault}
use Rattle.h5_token.specs.declared.fault.BuildFault.TheVariants.{AfterEnd, Failed, NotInText}
use Rattle.h5_interface.specs.SinkChoices.{SinkChoices}
use Rattle.h5_tables.specs.Doctypes.{is_good_doctype, quirks_of}
use Rattle.h5_tables.specs.TurnText.{TagTurn, CommentTurn, NullTurn, EofTurn}
use Rattle.h5_tables.specs.declared.modes.InsertionMode.{InsertionMode}
use Rattle.h5_tables.specs.declared.modes.InsertionMode.TheVariants.{Initial, BeforeHtml, Text}
use Rattle.h5_builder_spec.specs.Changes.{set_mode, insert_doctype, set_quirks_mode}
use Rattle.h5_builder_spec.specs.Kinds.{is_start}
use Rattle.h5_builder_spec.specs.Settle.{Settled, settle}
use Rattle.h5_builder_spec.specs.Text.{is_quiet_text, text_rule}
use Rattle.h5_builder_spec.specs.World.{World}

-- the builder, its sink, and whether it has ended or failed
pub record View : Type 0 where
  pub world : World
  pub ended : Bool
  pub failed : Bool

-- the newline flag is reset
abbrev pub taken : World → World
taken w = record w { ignore_lf = false }

-- a text without one leading newline, if the flag was set
abbrev pub without_lf : Bool → List ℕ → List ℕ
without_lf true [] = []
without_lf true (b ∷ t) = if b == 10 then t else b ∷ t
without_lf false t = t

-- a doctype at the start (HTML standard, section 13.2.6.4.1, a DOCTYPE token)
unfoldable pub with_doctype : SinkChoices → DoctypeText → World → World
with_doctype choices d w =
    if w.options.drop_doctype then w
    else insert_doctype choices (unwrap_or d.name []) (unwrap_or d.public_id []) (unwrap_or d.system_id []) w

unfoldable pub judged : SinkChoices → DoctypeText → World → World
judged choices d w = set_mode BeforeHtml (set_quirks_mode (quirks_of w.options.iframe_srcdoc d) (with_doctype choices d w))

-- a result without any turn
abbrev pub at_once : World → Bool → Settled
at_once w quiet = record { world = w; turns = 0; reply = Continues; quiet = quiet }

-- a doctype in any other mode is a parse error, and changes nothing
abbrev pub doctype_in : InsertionMode → SinkChoices → DoctypeText → World → Settled
doctype_in Initial choices d w = at_once (judged choices d w) (is_good_doctype d)
doctype_in _ choices d w = at_once w false

-- a text; the turns of one that isn't empty aren't counted
abbrev pub text_step : SinkChoices → List ℕ → World → Settled
text_step choices [] w = at_once w true
text_step choices (b ∷ t) w = at_once (text_rule choices (b ∷ t) w) (is_quiet_text w.mode)

-- one token, if it isn't refused
unfoldable pub step : SinkChoices → TokenText → World → Settled
step choices (DoctypeIs doctype) w = doctype_in w.mode choices doctype (taken w)
step choices (TagIs tag) w = settle choices (TagTurn tag) (taken w)
step choices (CommentIs text) w = settle choices (CommentTurn text) (taken w)
step choices (Characters text) w = text_step choices (without_lf w.ignore_lf text) (taken w)
step choices NullCharacter w = settle choices NullTurn (taken w)
step choices EndOfFile w = settle choices EofTurn (taken w)
step choices (ParseErrorIs message) w = at_once (taken w) false

-- a start tag, a comment or a null, which no tokenizer emits in the mode "text"
abbrev pub is_refused_in_text : TokenText → Bool
is_refused_in_text (TagIs tag) = is_start tag.kind
is_refused_in_text (CommentIs text) = true
is_refused_in_text NullCharacter = true
is_refused_in_text _ = false

abbrev pub refuses_in : InsertionMode → TokenText → Bool
refuses_in Text t = is_refused_in_text t
refuses_in _ t = false

-- the reason to refuse a token, if there is one; they are checked in this order
abbrev pub refusal : View → TokenText → Option BuildFault
refusal v t =
    if v.failed then Some Failed
    else (if v.ended then Some AfterEnd
    else (if refuses_in v.world.mode t then Some NotInText else None))

-- a refused token changes nothing
abbrev pub take_or_refuse : SinkChoices → TokenText → Option BuildFault → View → View
take_or_refuse choices t (Some fault) v = v
take_or_refuse choices t None v = record v { world = (step choices t v.world).world }

abbrev pub after_token : SinkChoices → TokenText → View → View
after_token choices t v = take_or_refuse choices t (refusal v t) v

-- the turns of a text are counted only if it is empty, since they depend on how the text is split
abbrev pub is_empty_text : List ℕ → Bool
is_empty_text [] = true
is_empty_text (b ∷ t) = false

abbrev pub is_counted : TokenText → World → Bool
is_counted (Characters text) w = is_empty_text (without_lf w.ignore_lf text)
is_counted _ w = true

-- the turns of a token: it was refused, or took this many, or they aren't counted
pub data Turns : Type 0 where
  WasRefused : Turns
  Took : (count : ℕ) → Turns
  Untold : Turns

-- the report for a token: the reply, its turns, and that no parse error was reported (`quiet`)
pub record Told : Type 0 where
  pub reply : Reply
  pub turns : Turns
  pub quiet : Bool

abbrev pub tell : Bool → Settled → Told
tell counted s = record { reply = s.reply; turns = if counted then Took s.turns else Untold; quiet = s.quiet }

abbrev pub tell_or_refuse : SinkChoices → TokenText → Option BuildFault → View → Told
tell_or_refuse choices t (Some fault) v = record { reply = Refuses fault; turns = WasRefused; quiet = true }
tell_or_refuse choices t None v = tell (is_counted t v.world) (step choices t v.world)

abbrev pub told_of : SinkChoices → TokenText → View → Told
told_of choices t v = tell_or_refuse choices t (refusal v t) v

abbrev pub reply_to : SinkChoices → TokenText → View → Reply
reply_to choices t v = (told_of choices t v).reply

abbrev pub is_quiet : SinkChoices → TokenText → View → Bool
is_quiet choices t v = (told_of choices t v).quiet

-- THE RUN of a list of tokens: the view after it, and the report for each
pub record Ran : Type 0 where
  pub view : View
  pub told : List Told

abbrev pub told_first : Told → Ran → Ran
told_first told r = record { view = r.view; told = told ∷ r.told }

unfoldable pub run : SinkChoices → List TokenText → View → Ran
run choices [] v = record { view = v; told = [] }
run choices (t ∷ ts) v = told_first (told_of choices t v) (run choices ts (after_token choices t v))

abbrev pub after_all : SinkChoices → List TokenText → View → View
after_all choices ts v = (run choices ts v).view

abbrev pub told_all : SinkChoices → List TokenText → View → List Told
told_all choices ts v = (run choices ts v).told

-- the replies; and that no parse error is reported at all
abbrev pub replies_in : List Told → List Reply
replies_in [] = []
replies_in (x ∷ xs) = x.reply ∷ replies_in xs

abbrev pub quiet_in : List Told → Bool
quiet_in [] = true
quiet_in (x ∷ xs) = x.quiet && quiet_in xs

abbrev pub replies : SinkChoices → List TokenText → View → List Reply
replies choices ts v = replies_in (told_all choices ts v)

abbrev pub all_quiet : SinkChoices → List TokenText → View → Bool
all_quiet choices ts v = quiet_in (told_all choices ts v)

-- the count of turns after a token, by the count before; a refused token doesn't change it
abbrev pub CountsTurns : Turns → (old new : ℕ) → Type 0
CountsTurns WasRefused old new = new ≡ old
CountsTurns (Took count) old new = new ≡ count
CountsTurns Untold old new = Unit {0}

-- the turns of the last token of a list that wasn't refused
abbrev pub later_turns : Turns → Turns → Turns
later_turns before WasRefused = before
later_turns before (Took count) = Took count
later_turns before Untold = Untold

abbrev pub last_turns : Turns → List Told → Turns
last_turns before [] = before
last_turns before (x ∷ xs) = last_turns (later_turns before x.turns) xs

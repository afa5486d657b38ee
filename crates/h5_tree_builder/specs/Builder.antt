-- What contracts see of a tree builder.
use Rattle.std.specs.Prelude.{◌≡◌, ◌<◌, ◌≤◌, ⊤, ℕ, ◌+◌, Bool, true, false, not, List, [], ◌∷◌, length, map, Option, None, Some, Result, Ok, Err}
use Rattle.h5_names.specs.AttributeText.{is_same_text}
use Rattle.h5_token.specs.Reply.{Reply, reply}
use Rattle.h5_token.specs.TokenText.{TokenText}
use Rattle.h5_token.specs.declared.fault.BuildFault.{BuildFault}
use Rattle.h5_token.specs.declared.fault.BuildFault.TheVariants.{Memory, AfterEnd, NotInText, Failed}
use Rattle.h5_token.specs.declared.sink.TokenSinkResult.{TokenSinkResult}
use Rattle.h5_interface.specs.Forest.{Forest}
use Rattle.h5_interface.specs.Seen.{Seen}
use Rattle.h5_interface.specs.SinkChoices.{SinkChoices}
use Rattle.h5_interface.specs.declared.marks.QuirksMode.TheVariants.{NoQuirks}
use Rattle.h5_tables.specs.TagSets.{html_namespace}
use Rattle.h5_tables.specs.declared.modes.InsertionMode.TheVariants.{Initial}
use Rattle.h5_tables.specs.declared.options.TreeBuilderOpts.{TreeBuilderOpts}
use Rattle.h5_builder_spec.specs.Changes.{pop}
use Rattle.h5_token.specs.Joins.{join}
use Rattle.h5_builder_laws.specs.Cuts.{spread}
use Rattle.h5_builder_spec.specs.Run.{CountsTurns, View, WasRefused, after_all, after_token, all_quiet, is_counted, is_quiet, last_turns, refusal, refuses_in, replies, reply_to, step, told_all, told_of}
use Rattle.h5_builder_spec.specs.insertion.Foreign.{adjusted_current_node}
use Rattle.h5_builder_spec.specs.World.{World, name_in}
use Rattle.h5_builder_laws.specs.Plain.{Flow, IsPlain, PlainDocument, document_tokens, nothing_open, plain_reply}
use Rattle.h5_builder_laws.specs.Rebuilding.{DocumentStands, HoldsDocument, with_scripting}
use Rattle.h5_tree_builder.specs.Chains.{is_free}

-- the view, the turns of the last token, and the sink's mark of errors
pub record Building : Type 0 where
  pub view : View
  pub turns : ℕ
  pub errors : ℕ

-- a new builder
abbrev pub first_world : Seen → TreeBuilderOpts → World
first_world seen opts = record {
  forest = seen.forest;
  seen_quirks = seen.quirks;
  options = opts;
  mode = Initial;
  saved_mode = None;
  template_modes = [];
  pending = [];
  quirks = opts.quirks_mode;
  stack = [];
  formatting = [];
  head = None;
  form = None;
  frameset_ok = true;
  ignore_lf = false;
  foster = false;
  context = None;
}

abbrev pub first_building : Seen → TreeBuilderOpts → Building
first_building seen opts = record {
  view = record { world = first_world seen opts; ended = false; failed = false };
  turns = 0;
  errors = seen.errors;
}

-- at the end each open element is popped, from the current node on, and the sink is notified
abbrev pub pop_each : SinkChoices → List ℕ → World → World
pop_each choices [] w = w
pop_each choices (n ∷ s) w = pop_each choices s (pop choices w)

abbrev pub all_popped : SinkChoices → World → World
all_popped choices w = pop_each choices w.stack w

abbrev pub ended_view : SinkChoices → View → View
ended_view choices v = record v { world = all_popped choices v.world; ended = true }

-- an element is open, and the adjusted current node isn't in the HTML namespace
abbrev pub is_foreign_node : Forest → Option ℕ → Bool
is_foreign_node f None = false
is_foreign_node f (Some n) = not (is_same_text (name_in f n).ns html_namespace)

abbrev pub is_foreign_in : World → Bool
is_foreign_in w = is_foreign_node w.forest (adjusted_current_node w)

-- the token was taken, with this reply
pub record Answered (choices : SinkChoices) (t : TokenText) (old new : Building) (answer : Reply) : Type 0 where
  pub view : new.view ≡ after_token choices t old.view
  pub reply : answer ≡ reply_to choices t old.view
  pub turns : is_counted t old.view.world ≡ true → new.turns ≡ (step choices t old.view.world).turns
  pub few : is_counted t old.view.world ≡ true → new.turns ≤ 16 + length old.view.world.stack
  pub quiet : is_quiet choices t old.view ≡ true → new.errors ≡ old.errors
  pub noted : is_counted t old.view.world ≡ true → is_quiet choices t old.view ≡ false → 0 < new.errors
  pub working : old.view.failed ≡ false
  pub unended : old.view.ended ≡ false
  pub comes : refuses_in old.view.world.mode t ≡ false

-- the token was refused for the right reason, and nothing has changed
pub record Refused (t : TokenText) (old new : Building) (fault : BuildFault) : Type 0 where
  pub due : refusal old.view t ≡ Some fault
  pub same : new ≡ old

-- an allocation failed; every later token is refused
pub record OutOfMemory (t : TokenText) (old new : Building) : Type 0 where
  pub working : old.view.failed ≡ false
  pub unended : old.view.ended ≡ false
  pub comes : refuses_in old.view.world.mode t ≡ false
  pub failed : new.view.failed ≡ true
  pub still_unended : new.view.ended ≡ false
  pub turns : new.turns ≡ old.turns
  pub costs : is_free t old.view.world ≡ false

abbrev pub Takes : {H : Type 0} → SinkChoices → (H → ℕ) → TokenText → Building → Building → Result (TokenSinkResult H) BuildFault → Type 0
Takes choices node t old new (Ok answer) = Answered choices t old new (reply node answer)
Takes choices node t old new (Err Memory) = OutOfMemory t old new
Takes choices node t old new (Err AfterEnd) = Refused t old new AfterEnd
Takes choices node t old new (Err NotInText) = Refused t old new NotInText
Takes choices node t old new (Err Failed) = Refused t old new Failed

-- a refusal changes nothing, neither in the builder nor in the sink
abbrev pub IsKeptWhole : {A B : Type 0} → A → A → Result B BuildFault → Type 0
IsKeptWhole old new (Err AfterEnd) = new ≡ old
IsKeptWhole old new (Err NotInText) = new ≡ old
IsKeptWhole old new (Err Failed) = new ≡ old
IsKeptWhole old new _ = ⊤

-- a token of a list was taken or refused
pub record Replied (choices : SinkChoices) (t : TokenText) (old new : Building) (answer : Reply) : Type 0 where
  pub view : new.view ≡ after_token choices t old.view
  pub told : answer ≡ reply_to choices t old.view
  pub turns : CountsTurns (told_of choices t old.view).turns old.turns new.turns
  pub quiet : is_quiet choices t old.view ≡ true → new.errors ≡ old.errors

-- one call for a list: the run of the whole list, one reply for each token, and the turns of the last token that was
-- taken. It is also the run of the list with its neighbouring texts joined, each text of a run with the run's reply
pub record RanAll (choices : SinkChoices) (ts : List TokenText) (old new : Building) (answers : List Reply) : Type 0 where
  pub view : new.view ≡ after_all choices ts old.view
  pub told : answers ≡ replies choices ts old.view
  pub turns : CountsTurns (last_turns WasRefused (told_all choices ts old.view)) old.turns new.turns
  pub quiet : all_quiet choices ts old.view ≡ true → new.errors ≡ old.errors
  pub joined : new.view ≡ after_all choices (join ts) old.view
  pub spread : answers ≡ spread ts (replies choices (join ts) old.view)

-- a plain document was rebuilt: the forest has it, in no-quirks mode; the replies are those to a plain document's
-- tokens; and no parse error was reported if no whitespace text is in a table
pub record Rebuilt (ts : List TokenText) (d : PlainDocument) (old new : Building) (answers : List Reply) : Type 0 where
  pub stands : DocumentStands new.view.world.forest d
  pub quirks : new.view.world.seen_quirks ≡ NoQuirks
  pub told : answers ≡ map plain_reply ts
  pub quiet : IsPlain false (Flow false nothing_open) d.blocks → new.errors ≡ old.errors

-- a new builder with the default options, with or without scripting, over a sink with its document alone, rebuilds a plain
-- document from its tokens, with their texts split in any way
abbrev pub RebuildsPlain : List TokenText → (old new : Building) → List Reply → Type 0
RebuildsPlain ts old new answers =
    (d : PlainDocument) (scripting : Bool) (seen : Seen) → HoldsDocument seen.forest → old ≡ first_building seen (with_scripting scripting) → join ts ≡ document_tokens d → Rebuilt ts d old new answers

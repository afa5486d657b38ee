-- The plain tokenizer over a builder.
use Rattle.std.specs.Prelude.{◌≡◌, ℕ, List, [], ◌++◌, length}
use Rattle.h5_token.specs.TokenText.{TokenText}
use Rattle.h5_interface.specs.SinkChoices.{SinkChoices}
use Rattle.h5_builder_spec.specs.Run.{View}
use Rattle.h5_tokenizer_input.specs.declared.options.TokenizerOpts.{TokenizerOpts}
use Rattle.h5_tokenizer_input.specs.declared.stage.Stage.TheVariants.{Reading}
use Rattle.h5_plain_tokenizer.specs.Options.{first_place}
use Rattle.h5_plain_tokenizer.specs.Read as reader
use Rattle.h5_plain_tokenizer.specs.ReaderText.{ReaderText}
use Rattle.h5_plain_tokenizer.specs.Whole as whole
use Rattle.h5_plain_tokenizer.specs.declared.front.Mode.{Mode}
use Rattle.h5_plain_tokenizer.specs.declared.front.Mode.TheVariants.{RawData}
use Rattle.h5_round_trip.specs.Inside.{IsInPlainData}
use Rattle.h5_driver.specs.BuilderSink.{after, ended, foreign, replies}

-- before it has read anything
abbrev pub first : TokenizerOpts → ReaderText
first opts = record { place = first_place opts; held = []; stage = Reading }

-- states in which everything is text except the end tag of the current raw element
abbrev pub IsRawMode : Mode → Type 0
IsRawMode (RawData kind) = Unit {0}
IsRawMode mode = ⊥

abbrev pub IsRaw : ReaderText → Type 0
IsRaw r = IsRawMode r.place.mode

-- in the data state, where a byte order mark would be text, and it holds nothing
pub record IsInData (r : ReaderText) : Type 0 where
  pub holds_none : r.held ≡ []
  pub place : IsInPlainData r.place

-- what it holds is undecided
abbrev pub IsUndecided : ReaderText → View → Type 0
IsUndecided r v = reader.IsUndecided r.place (foreign v) r.held

-- it reads what it holds, and then its input
abbrev pub Readings : SinkChoices → ReaderText → View → List ℕ → List TokenText → ReaderText → View → List ℕ → Type 0
Readings choices r v xs ts s w ys = whole.Readings (replies choices) (after choices) foreign r.place v (r.held ++ xs) ts s.place w (s.held ++ ys)

abbrev pub Reads : SinkChoices → ReaderText → View → List ℕ → List TokenText → View → Type 0
Reads choices r v xs ts n = whole.ReadsToEnd (replies choices) (after choices) foreign (ended choices) r.place v (r.held ++ xs) ts n

-- how much is left to read
abbrev pub left : ReaderText → List ℕ → ℕ
left r xs = length (r.held ++ xs)

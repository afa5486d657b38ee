-- The standard tokenizer over a builder.
use Rattle.std.specs.Prelude.{◌≡◌, ℕ, false, List, ◌++◌}
use Rattle.h5_token.specs.TokenText.{TokenText}
use Rattle.h5_interface.specs.SinkChoices.{SinkChoices}
use Rattle.h5_builder_spec.specs.Run.{View}
use Rattle.h5_tokenizer_input.specs.declared.options.TokenizerOpts.{TokenizerOpts}
use Rattle.h5_tokenizer_input.specs.declared.stage.Stage.TheVariants.{Reading}
use Rattle.h5_tokenizer_spec.specs.RawTexts as states
use Rattle.h5_tokenizer_spec.specs.ReferenceTable.{references}
use Rattle.h5_tokenizer_spec.specs.Whole as whole
use Rattle.h5_standard_tokenizer.specs.Mark.{behind_mark}
use Rattle.h5_standard_tokenizer.specs.Options.{first_place}
use Rattle.h5_standard_tokenizer.specs.ReaderText.{ReaderText}
use Rattle.h5_standard_tokenizer.specs.Weight.{weight}
use Rattle.h5_round_trip.specs.Inside as inside
use Rattle.h5_driver.specs.BuilderSink.{after, ended, foreign, replies}

-- before it has read anything
abbrev pub first : TokenizerOpts → ReaderText
first opts = record { at_start = opts.discard_bom; place = first_place opts; stage = Reading }

-- states in which everything is text except the end tag of the current raw element
abbrev pub IsRaw : ReaderText → Type 0
IsRaw r = states.IsRaw r.place.state

-- in the data state, where a byte order mark would be text
pub record IsInData (r : ReaderText) : Type 0 where
  pub started : r.at_start ≡ false
  pub place : inside.IsInData r.place

-- it holds nothing
abbrev pub IsUndecided : ReaderText → View → Type 0
IsUndecided r v = Unit {0}

-- it reads all of its input, except a byte order mark if one is allowed
abbrev pub ahead : ReaderText → List ℕ → List ℕ
ahead r xs = behind_mark r.at_start xs

-- for any input that follows
abbrev pub Readings : SinkChoices → ReaderText → View → List ℕ → List TokenText → ReaderText → View → List ℕ → Type 0
Readings choices r v xs ts s w ys =
    (more : List ℕ) → whole.Readings references (replies choices) (after choices) foreign r.place v (ahead r (xs ++ more)) ts s.place w (ahead s (ys ++ more))

abbrev pub Reads : SinkChoices → ReaderText → View → List ℕ → List TokenText → View → Type 0
Reads choices r v xs ts n = whole.ReadsToEnd references (replies choices) (after choices) foreign (ended choices) r.place v (ahead r xs) ts n

-- how much is left to do
abbrev pub left : ReaderText → List ℕ → ℕ
left r xs = weight r.place (ahead r xs)

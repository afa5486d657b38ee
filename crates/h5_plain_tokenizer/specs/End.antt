-- The end of the input: what it makes of an undecided suffix, and what is emitted then.
use Rattle.std.specs.Prelude.{◌≡◌, ℕ, Bool, false, List, [], ◌∷◌, Result, Ok, Err, Option, Some, None}
use Rattle.h5_token.specs.TokenText.{TokenText, CommentIs, Characters}
use Rattle.h5_token.specs.Reply.{Reply}
use Rattle.h5_token.specs.declared.fault.BuildFault.{BuildFault}
use Rattle.h5_markup.specs.Matching.{Match, Open, No, Found}
use Rattle.h5_markup.specs.Text.{text_of}
use Rattle.h5_tokenizer_input.specs.Lines.{line_behind}
use Rattle.h5_tokenizer_input.specs.Taking.{ClosesWith}
use Rattle.h5_tokenizer_input.specs.Told.{handed}
use Rattle.h5_tokenizer_input.specs.declared.stage.Stage.TheVariants.{Ended, Failed}
use Rattle.h5_plain_tokenizer.specs.Front.{Opening, Begins, Gives, Null, Turns, ReaderPlace, opening}
use Rattle.h5_plain_tokenizer.specs.ReaderText.{ReaderText}
use Rattle.h5_plain_tokenizer.specs.declared.front.Mode.{Mode}
use Rattle.h5_plain_tokenizer.specs.declared.front.Construct.{Construct}
use Rattle.h5_plain_tokenizer.specs.declared.front.Construct.TheVariants.{Comment, Doctype, StartTag, EndTag, RawEndTag}

-- a text is emitted unless it is empty
abbrev pub text_token : List ℕ → Option TokenText
text_token [] = None
text_token (x ∷ xs) = Some (Characters (x ∷ xs))

-- an unfinished comment is emitted, an unfinished tag or doctype is dropped
abbrev pub unfinished : Construct → List ℕ → Option TokenText
unfinished Comment inner = Some (CommentIs (text_of false inner))
unfinished Doctype inner = None
unfinished StartTag inner = None
unfinished EndTag inner = None
unfinished RawEndTag inner = None

-- any other undecided suffix is text
abbrev pub settled : List ℕ → Match Opening → Option TokenText
settled xs Open = text_token (text_of false xs)
settled xs No = text_token (text_of false xs)
settled xs (Found (Begins construct) inner) = unfinished construct inner
settled xs (Found (Gives text) rest) = text_token (text_of false xs)
settled xs (Found Null rest) = text_token (text_of false xs)
settled xs (Found (Turns mode) rest) = text_token (text_of false xs)

abbrev pub settle : Mode → List ℕ → Bool → List ℕ → Option TokenText
settle mode last foreign xs = settled xs (opening mode last foreign xs)

module _ {M : Type 0} (reply_to : M → TokenText → Reply) (after : M → TokenText → ℕ → M) (foreign : M → Bool) (ended : M → M) where
  -- the end, at a place where this suffix is undecided
  abbrev pub Closes : ReaderPlace → M → List ℕ → M → Result (Unit {0}) BuildFault → Type 0
  Closes p m rest n result =
      ClosesWith reply_to after ended m (handed (settle p.mode p.last (foreign m) rest)) p.line (line_behind p.line rest []) n result

-- the tokenizer has ended or failed, by the result of `end`
abbrev pub ClosedAs : ReaderText → Result (Unit {0}) BuildFault → Type 0
ClosedAs new (Ok done) = new.stage ≡ Ended
ClosedAs new (Err f) = new.stage ≡ Failed

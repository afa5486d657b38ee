-- What the plain tokenizer emits, and where it stops (HTML standard, section 13.2.5).
use Rattle.std.specs.Prelude.{◌≡◌, ℕ, Bool, true, false, List, [], ◌∷◌, ◌++◌, length, ◌<◌, ◌≤◌}
use Rattle.h5_token.specs.TokenText.{TokenText, DoctypeIs, TagIs, CommentIs, Characters, NullCharacter, EndOfFile, ParseErrorIs}
use Rattle.h5_token.specs.Reply.{Reply, Continues, RunsScript, TurnsPlain, TurnsRaw, Indicates, Refuses}
use Rattle.h5_token.specs.declared.tag.TagKind.{TagKind}
use Rattle.h5_token.specs.declared.tag.TagKind.TheVariants.{StartTag, EndTag}
use Rattle.h5_markup.specs.Matching.{Open, No, Found}
use Rattle.h5_tokenizer_input.specs.Answers.{goes_on}
use Rattle.h5_tokenizer_input.specs.Lines.{line_behind}
use Rattle.h5_plain_tokenizer.specs.Front.{Bit, Whole, Switch, ReaderPlace, front, mark}
use Rattle.h5_plain_tokenizer.specs.declared.front.Mode.{Mode}
use Rattle.h5_plain_tokenizer.specs.declared.front.Mode.TheVariants.{Data, RawData, Plaintext}

-- the state that a reply to a start tag chooses
abbrev pub chosen_mode : Reply → Mode
chosen_mode Continues = Data
chosen_mode (RunsScript node) = Data
chosen_mode TurnsPlain = Plaintext
chosen_mode (TurnsRaw kind) = RawData kind
chosen_mode (Indicates encoding) = Data
chosen_mode (Refuses fault) = Data

abbrev pub after_tag : ReaderPlace → TagKind → List ℕ → Reply → ReaderPlace
after_tag p StartTag name reply = record { at_start = p.at_start; mode = chosen_mode reply; last = name; line = p.line }
after_tag p EndTag name reply = record { at_start = p.at_start; mode = Data; last = p.last; line = p.line }

-- the place after a token with this reply
abbrev pub next_place : ReaderPlace → TokenText → Reply → ReaderPlace
next_place p (DoctypeIs doctype) reply = p
next_place p (TagIs tag) reply = after_tag p tag.kind tag.name reply
next_place p (CommentIs text) reply = p
next_place p (Characters text) reply = p
next_place p NullCharacter reply = p
next_place p EndOfFile reply = p
next_place p (ParseErrorIs message) reply = p

abbrev pub in_mode : Mode → ReaderPlace → ReaderPlace
in_mode mode p = record { at_start = p.at_start; mode = mode; last = p.last; line = p.line }

abbrev pub started : ReaderPlace → ReaderPlace
started p = record { at_start = false; mode = p.mode; last = p.last; line = p.line }

-- the place, in the line after what was passed of an input whose suffix `rest` is left
abbrev pub behind : ReaderPlace → List ℕ → List ℕ → ReaderPlace
behind p xs rest = record { at_start = p.at_start; mode = p.mode; last = p.last; line = line_behind p.line xs rest }

-- The input begins with this text, bit by bit. After the first bit, no part of the text may begin a CDATA section.
pub data Bits : Mode → List ℕ → Bool → List ℕ → List ℕ → List ℕ → Type 0 where
  no_bit : {mode : Mode} {last : List ℕ} {foreign : Bool} {xs : List ℕ} → Bits mode last foreign xs [] xs
  more_bits : {mode : Mode} {last : List ℕ} {foreign : Bool} {xs rest text ys : List ℕ} (bit : List ℕ)
      → front mode last foreign xs ≡ Found (Bit bit) rest
      → Bits mode last true rest text ys → Bits mode last foreign xs (bit ++ text) ys

-- no step is right for every input that may follow
abbrev pub IsUndecided : ReaderPlace → Bool → List ℕ → Type 0
IsUndecided p foreign xs = (p.at_start ≡ true → mark xs ≡ Open) × (p.at_start ≡ false → front p.mode p.last foreign xs ≡ Open)

module _ {M : Type 0} (reply_to : M → TokenText → Reply) (after : M → TokenText → ℕ → M) (foreign : M → Bool) where
  -- One step: from a place, a meaning and an input, these tokens are emitted, each with the line of the place; the reply is the
  -- last token's; and this input is left.
  pub data Step : ReaderPlace → M → List ℕ → List TokenText → Reply → ReaderPlace → M → List ℕ → Type 0 where
    -- a byte order mark, and the case without one
    marked : {p : ReaderPlace} {m : M} {xs rest : List ℕ}
        → p.at_start ≡ true → mark xs ≡ Found tt rest → Step p m xs [] Continues (started p) m rest
    unmarked : {p : ReaderPlace} {m : M} {xs : List ℕ}
        → p.at_start ≡ true → mark xs ≡ No → Step p m xs [] Continues (started p) m xs
    token_step : {p : ReaderPlace} {m : M} {xs rest : List ℕ} (token : TokenText)
        → p.at_start ≡ false → front p.mode p.last (foreign m) xs ≡ Found (Whole token) rest
        → Step p m xs (token ∷ []) (reply_to m token) (behind (next_place p token (reply_to m token)) xs rest) (after m token p.line) rest
    switch_step : {p : ReaderPlace} {m : M} {xs rest : List ℕ} (mode : Mode)
        → p.at_start ≡ false → front p.mode p.last (foreign m) xs ≡ Found (Switch mode) rest
        → Step p m xs [] Continues (behind (in_mode mode p) xs rest) m rest
    text_step : {p : ReaderPlace} {m : M} {xs ys : List ℕ} (text : List ℕ)
        → p.at_start ≡ false → length ys < length xs → Bits p.mode p.last (foreign m) xs text ys
        → Step p m xs (Characters text ∷ []) (reply_to m (Characters text)) (behind p xs ys) (after m (Characters text) p.line) ys

  -- Steps, one after another, each after a reply after which tokenization goes on.
  pub data Read : ReaderPlace → M → List ℕ → List TokenText → Reply → ReaderPlace → M → List ℕ → Type 0 where
    nothing_read : {p : ReaderPlace} {m : M} {xs : List ℕ} → Read p m xs [] Continues p m xs
    read_on : {p q r : ReaderPlace} {m n o : M} {xs ys zs : List ℕ} {ts us : List TokenText} {reply next : Reply}
        → Read p m xs ts reply q n ys → goes_on reply ≡ true → Step q n ys us next r o zs → Read p m xs (ts ++ us) next r o zs

  -- some tokens were emitted, up to a reply
  pub record Reads (p : ReaderPlace) (m : M) (xs : List ℕ) (reply : Reply) (q : ReaderPlace) (n : M) (ys : List ℕ) : Type 0 where
    pub tokens : List TokenText
    pub read : Read p m xs tokens reply q n ys
    pub no_longer : length ys ≤ length xs

-- A builder that works takes, in the mode "text", what this mode doesn't refuse, and works at the next place.
use Rattle.std.proofs.Common.{◌≡◌, ℕ, true, false, List, sym, subst}
use Rattle.h5_token.specs.Reply.{Continues, Indicates, Reply, RunsScript, TurnsPlain, TurnsRaw}
use Rattle.h5_token.specs.TokenText.{CommentIs, Characters, DoctypeIs, EndOfFile, NullCharacter, ParseErrorIs, TagIs, TokenText}
use Rattle.h5_token.specs.declared.tag.TagKind.{TagKind}
use Rattle.h5_token.specs.declared.tag.TagKind.TheVariants.{EndTag, StartTag}
use Rattle.h5_interface.specs.SinkChoices.{SinkChoices}
use Rattle.h5_tables.specs.declared.modes.InsertionMode.{InsertionMode}
use Rattle.h5_tables.specs.declared.modes.InsertionMode.TheVariants.{Text}
use Rattle.h5_builder_spec.specs.Run.{View, after_token, refuses_in, reply_to}
use Rattle.h5_builder_laws.proofs.replies.TextReadLaws.{Leads, TagLeads, TokenLeads}
use Rattle.h5_builder_spec.proofs.rows.RowTexts.{is_text}
use Rattle.h5_tokenizer_input.specs.Answers.{refuses}
use Rattle.h5_plain_tokenizer.specs.Front.{ReaderPlace}
use Rattle.h5_plain_tokenizer.specs.Read.{after_tag, next_place}
use Rattle.h5_driver.specs.PlainReader.{IsRawMode}
use Rattle.h5_driver.specs.inner.Working.{IsWorking}
use Rattle.h5_driver.proofs.TakenLaws.{text_no_text, token_taken, was_text}

-- it works if the tokenizer is at this place
abbrev pub IsWorkingAt : ReaderPlace → View → Type 0
IsWorkingAt p v = IsWorking (λ (q : ReaderPlace). IsRawMode q.mode) p v

-- only the tokenizer's state matters
pub works_at : (p q : ReaderPlace) (v : View) → q.mode ≡ p.mode → IsWorkingAt p v → IsWorkingAt q v
works_at p q v e w = record { ready = w.ready; text = λ i. subst IsRawMode (sym e) (w.text i) }

-- the tokenizer is in raw text if the builder's mode is "text"
start_raw : (p : ReaderPlace) (name : List ℕ) (r : Reply) (m : InsertionMode) → Leads r m → m ≡ Text → IsRawMode (after_tag p StartTag name r).mode
start_raw p name Continues m h e = absurd (text_no_text m h e)
start_raw p name (RunsScript node) m h e = absurd (text_no_text m h e)
start_raw p name TurnsPlain m h e = absurd (text_no_text m h e)
start_raw p name (Indicates encoding) m h e = absurd (text_no_text m h e)
start_raw p name (TurnsRaw kind) m h e = tt
start_raw p name _ m h e = absurd h

tag_raw : (p : ReaderPlace) (k : TagKind) (name : List ℕ) (r : Reply) (m : InsertionMode) → TagLeads k r m → m ≡ Text → IsRawMode (after_tag p k name r).mode
tag_raw p StartTag name r m h e = start_raw p name r m h e
tag_raw p EndTag name r m h e = absurd (text_no_text m h.1 e)

stays_raw : (p : ReaderPlace) (m n : InsertionMode) → (is_text n ≡ true → is_text m ≡ true) → (m ≡ Text → IsRawMode p.mode) → n ≡ Text → IsRawMode p.mode
stays_raw p m n h raw e = raw (was_text m n h e)

token_raw : (p : ReaderPlace) (t : TokenText) (m n : InsertionMode) (r : Reply) → TokenLeads t m r n → (m ≡ Text → IsRawMode p.mode) → n ≡ Text → IsRawMode (next_place p t r).mode
token_raw p (DoctypeIs doctype) m n r h raw e = stays_raw p m n h.1 raw e
token_raw p (TagIs tag) m n r h raw e = tag_raw p tag.kind tag.name r n h e
token_raw p (CommentIs text) m n r h raw e = stays_raw p m n h.1 raw e
token_raw p (Characters text) m n r h raw e = stays_raw p m n h.1 raw e
token_raw p NullCharacter m n r h raw e = stays_raw p m n h.1 raw e
token_raw p EndOfFile m n r h raw e = absurd (text_no_text n h.1 e)
token_raw p (ParseErrorIs message) m n r h raw e = stays_raw p m n h.1 raw e

-- A TOKEN that isn't refused
pub record IsTakenAt (choices : SinkChoices) (p : ReaderPlace) (t : TokenText) (v : View) : Type 0 where
  pub works : IsWorkingAt (next_place p t (reply_to choices t v)) (after_token choices t v)
  pub takes : refuses (reply_to choices t v) ≡ false

pub token_works : (choices : SinkChoices) (p : ReaderPlace) (t : TokenText) (v : View) → IsWorkingAt p v → refuses_in v.world.mode t ≡ false → IsTakenAt choices p t v
token_works choices p t v w n =
    let k = token_taken choices t v w.ready n in
    record {
      works = record { ready = k.ready; text = token_raw p t v.world.mode (after_token choices t v).world.mode (reply_to choices t v) k.leads w.text };
      takes = k.takes;
    }

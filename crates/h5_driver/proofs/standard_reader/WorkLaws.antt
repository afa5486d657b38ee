-- A builder that works takes what the standard tokenizer emits, and works at the next place.
use Rattle.std.proofs.Common.{◌≡◌, ℕ, true, false, List, [], ◌∷◌, refl}
use Rattle.std.proofs.lemmas.Bool.{false≢true}
use Rattle.h5_token.specs.Reply.{Continues, Indicates, Reply, RunsScript, TurnsPlain, TurnsRaw}
use Rattle.h5_token.specs.TokenText.{CommentIs, Characters, DoctypeIs, EndOfFile, NullCharacter, ParseErrorIs, TagIs, TagText, TokenText}
use Rattle.h5_token.specs.declared.tag.TagKind.{TagKind}
use Rattle.h5_token.specs.declared.tag.TagKind.TheVariants.{EndTag, StartTag}
use Rattle.h5_interface.specs.SinkChoices.{SinkChoices}
use Rattle.h5_tables.specs.declared.modes.InsertionMode.{InsertionMode}
use Rattle.h5_tables.specs.declared.modes.InsertionMode.TheVariants.{Text}
use Rattle.h5_builder_spec.specs.Run.{View, after_token, is_refused_in_text, reply_to}
use Rattle.h5_builder_laws.proofs.replies.TextReadLaws.{Leads, TagLeads, TokenLeads}
use Rattle.h5_tokenizer_input.specs.Answers.{refuses}
use Rattle.h5_tokenizer_spec.specs.RawTexts.{IsRaw, RawBehind}
use Rattle.h5_tokenizer_spec.specs.States.{State}
use Rattle.h5_tokenizer_spec.specs.Turn.{is_end}
use Rattle.h5_tokenizer_spec.specs.ReferenceTable.{references}
use Rattle.h5_tokenizer_spec.specs.Reading.{ReaderPlace, Step, quiet_step, text_step, token_step, ask_step, Read, nothing_read, read_on, after_tag, after_token as place_behind, behind}
use Rattle.h5_tokenizer_spec.proofs.RawLaws.{chosen_raw, step_raw}
use Rattle.h5_driver.specs.inner.Working.{IsWorking}
use Rattle.h5_driver.specs.BuilderSink.{after, foreign, replies}
use Rattle.h5_driver.proofs.TakenLaws.{comes, text_no_text, token_taken, was_text}

-- it works if the tokenizer is at this place
abbrev pub IsWorkingAt : ReaderPlace → View → Type 0
IsWorkingAt p v = IsWorking (λ (q : ReaderPlace). IsRaw q.state) p v

end_comes : (tag : TagText) (k : TagKind) → tag.kind ≡ k → is_end k ≡ true → is_refused_in_text (TagIs tag) ≡ false
end_comes tag StartTag e h = absurd (false≢true h)
end_comes tag EndTag e h = rw e refl

-- the mode "text" doesn't refuse what comes in a raw element
raw_comes : (t : TokenText) (state : State) → RawBehind (t ∷ []) state → is_refused_in_text t ≡ false
raw_comes (DoctypeIs doctype) state h = absurd h
raw_comes (TagIs tag) state h = end_comes tag tag.kind refl h
raw_comes (CommentIs text) state h = absurd h
raw_comes (Characters text) state h = refl
raw_comes NullCharacter state h = absurd h
raw_comes EndOfFile state h = absurd h
raw_comes (ParseErrorIs message) state h = absurd h

-- the tokenizer is in raw text if the builder's mode is "text"
start_raw : (p : ReaderPlace) (name : List ℕ) (r : Reply) (n : InsertionMode) → Leads r n → n ≡ Text → IsRaw (after_tag StartTag name r p).state
start_raw p name Continues n h e = absurd (text_no_text n h e)
start_raw p name (RunsScript node) n h e = absurd (text_no_text n h e)
start_raw p name TurnsPlain n h e = absurd (text_no_text n h e)
start_raw p name (Indicates encoding) n h e = absurd (text_no_text n h e)
start_raw p name (TurnsRaw kind) n h e = chosen_raw kind
start_raw p name _ n h e = absurd h

tag_raw : (p : ReaderPlace) (k : TagKind) (name : List ℕ) (r : Reply) (n : InsertionMode) → TagLeads k r n → n ≡ Text → IsRaw (after_tag k name r p).state
tag_raw p StartTag name r n h e = start_raw p name r n h e
tag_raw p EndTag name r n h e = absurd (text_no_text n h.1 e)

token_raw : (q : ReaderPlace) (t : TokenText) (m n : InsertionMode) (r : Reply) → TokenLeads t m r n → (m ≡ Text → RawBehind (t ∷ []) (place_behind t r q).state) → n ≡ Text → IsRaw (place_behind t r q).state
token_raw q (DoctypeIs doctype) m n r h raw e = absurd (raw (was_text m n h.1 e))
token_raw q (TagIs tag) m n r h raw e = tag_raw q tag.kind tag.name r n h e
token_raw q (CommentIs text) m n r h raw e = absurd (raw (was_text m n h.1 e))
token_raw q (Characters text) m n r h raw e = raw (was_text m n h.1 e)
token_raw q NullCharacter m n r h raw e = absurd (raw (was_text m n h.1 e))
token_raw q EndOfFile m n r h raw e = absurd (text_no_text n h.1 e)
token_raw q (ParseErrorIs message) m n r h raw e = absurd (raw (was_text m n h.1 e))

-- a token at a place is taken
token_works : (choices : SinkChoices) (p q : ReaderPlace) (t : TokenText) (m : View) → IsWorkingAt p m → (IsRaw p.state → RawBehind (t ∷ []) (place_behind t (reply_to choices t m) q).state)
    → IsWorkingAt (place_behind t (reply_to choices t m) q) (after_token choices t m) × (refuses (reply_to choices t m) ≡ false)
token_works choices p q t m w raw =
    let n = after_token choices t m in
    let r = reply_to choices t m in
    let behind_it : m.world.mode ≡ Text → RawBehind (t ∷ []) (place_behind t r q).state = λ i. raw (w.text i) in
    let k = token_taken choices t m w.ready (comes m.world.mode t (λ i. raw_comes t (place_behind t r q).state (behind_it i))) in
    (record { ready = k.ready; text = token_raw q t m.world.mode n.world.mode r k.leads behind_it }, k.takes)

works_by : (choices : SinkChoices) {p : ReaderPlace} {m : View} {xs : List ℕ} {ts : List TokenText} {reply : Reply} {q : ReaderPlace} {n : View} {ys : List ℕ} → Step references (replies choices) (after choices) foreign p m xs ts reply q n ys → IsWorkingAt p m → (IsRaw p.state → RawBehind ts q.state) → IsWorkingAt q n × (refuses reply ≡ false)
works_by choices (quiet_step h) w raw = (record { ready = w.ready; text = λ i. raw (w.text i) }, refl)
works_by choices {p} {m} {q = q} (text_step {x} {text} h) w raw = token_works choices p q (Characters (x ∷ text)) m w raw
works_by choices {p} {m} (token_step {x} token state d e) w raw = token_works choices p (behind x state p) token m w raw
works_by choices (ask_step there error elsewhere d e) w raw = (record { ready = w.ready; text = λ i. raw (w.text i) }, refl)

step_works : (choices : SinkChoices) {p : ReaderPlace} {m : View} {xs : List ℕ} {ts : List TokenText} {reply : Reply} {q : ReaderPlace} {n : View} {ys : List ℕ} → Step references (replies choices) (after choices) foreign p m xs ts reply q n ys → IsWorkingAt p m → IsWorkingAt q n × (refuses reply ≡ false)
step_works choices s w = works_by choices s w (λ raw. step_raw references (replies choices) (after choices) foreign raw s)

pub read_works : (choices : SinkChoices) {p q : ReaderPlace} {m n : View} {xs ys : List ℕ} {ts : List TokenText} {reply : Reply} → Read references (replies choices) (after choices) foreign p m xs ts reply q n ys → IsWorkingAt p m → IsWorkingAt q n × (refuses reply ≡ false)
read_works choices nothing_read w = (w, refl)
read_works choices (read_on r g s) w = step_works choices s (read_works choices r w).0

-- Laws of readings by the plain tokenizer over a builder.
use Rattle.std.specs.Prelude.{◌≡◌, ◌++◌, ℕ, List, [], Option, Some, None}
use Rattle.std.proofs.Common.{refl, ap, sym, subst, ◌∙◌, append_assoc}
use Rattle.std.proofs.lemmas.List.{append-nil}
use Rattle.h5_token.specs.TokenText.{TokenText}
use Rattle.h5_interface.specs.SinkChoices.{SinkChoices}
use Rattle.h5_builder_spec.specs.inner.Kept.{IsFitting}
use Rattle.h5_builder_spec.specs.Run.{View, after_all, run}
use Rattle.h5_builder_laws.proofs.cuts.JoinLaws.{view_joins}
use Rattle.h5_builder_laws.proofs.cuts.RunLaws.{token_cut}
use Rattle.h5_builder_laws.proofs.kept.FittingLaws.{token_fitting}
use Rattle.h5_tokenizer_input.specs.Lines.{line_behind}
use Rattle.h5_plain_tokenizer.specs.End.{settle}
use Rattle.h5_plain_tokenizer.specs.Front.{ReaderPlace}
use Rattle.h5_plain_tokenizer.specs.Whole.{Readings, ReadsToEnd, after_closing, closing, more_reading, no_reading}
use Rattle.h5_plain_tokenizer.proofs.KeptLaws.{readings_agree}
use Rattle.h5_plain_tokenizer.proofs.WholeLaws.{readings_go_on}
use Rattle.h5_plain_tokenizer.specs.ReaderText.{ReaderText}
use Rattle.h5_tokenizer_input.proofs.AnswerLaws.{unrefused}
use Rattle.h5_round_trip.proofs.InsideLaws.{read_runs, texts_stay}
use Rattle.h5_round_trip.proofs.ReadingLaws.{document_read, fragment_read}
use Rattle.h5_round_trip.proofs.ShapeLaws.{shape}
use Rattle.h5_builder_laws.specs.Plain.{fragment_tokens}
use Rattle.h5_builder_laws.specs.Staying.{standing, tokens_of}
use Rattle.h5_round_trip.specs.Inside.{TextsStayRead, text_before}
use Rattle.h5_driver.specs.PlainReader as reader
use Rattle.h5_driver.specs.inner.Readings.{AreReadings}
use Rattle.h5_driver.specs.BuilderSink.{after, ended, foreign, replies}

-- a text is read to its end, from a place
abbrev ReadsAt : SinkChoices → ReaderPlace → View → List ℕ → List TokenText → View → Type 0
ReadsAt choices p v xs ts n = ReadsToEnd (replies choices) (after choices) foreign (ended choices) p v xs ts n

-- the meaning afterwards is what the run of the tokens leaves
readings_run : (choices : SinkChoices) {p q : ReaderPlace} {m n : View} {xs ys : List ℕ} {ts : List TokenText} → Readings (replies choices) (after choices) foreign p m xs ts q n ys → n ≡ after_all choices ts m
unfolding run
readings_run choices no_reading = refl
readings_run choices {m = m} (more_reading {ts = ts} {us = us} r s g) = read_runs choices s ∙ ap (after_all choices us) (readings_run choices r) ∙ sym (view_joins choices ts us m)

same_run : (choices : SinkChoices) (s : Option TokenText) (line last : ℕ) (v : View) → after_closing (after choices) v s line last ≡ after_all choices (closing s) v
unfolding run
same_run choices None line last v = refl
same_run choices (Some t) line last v = refl

-- a reading to the end leaves what the run of its tokens, and then the end, leave
reads_run : (choices : SinkChoices) (p : ReaderPlace) (m : View) (xs : List ℕ) (ts : List TokenText) (n : View) → ReadsAt choices p m xs ts n → n ≡ ended choices (after_all choices ts m)
reads_run choices p m xs ts n r =
    let rest = settle r.place.mode r.place.last (foreign r.meaning) r.rest in
    let last = closing rest in
    r.closed
    ∙ ap (ended choices) (same_run choices rest r.place.line (line_behind r.place.line r.rest []) r.meaning ∙ ap (after_all choices last) (readings_run choices r.readings) ∙ sym (view_joins choices r.handed last m) ∙ ap (λ x. after_all choices x m) (sym r.tokens))

-- one list of readings, and then another
chain : (choices : SinkChoices) {p q r : ReaderPlace} {m n o : View} {xs ys zs : List ℕ} {ts us : List TokenText} → Readings (replies choices) (after choices) foreign p m xs ts q n ys → Readings (replies choices) (after choices) foreign q n ys us r o zs → Readings (replies choices) (after choices) foreign p m xs (ts ++ us) r o zs
chain choices {p = p} {q = q} {m = m} {n = n} {xs = xs} {ys = ys} {ts = ts} a no_reading = subst (λ x. Readings (replies choices) (after choices) foreign p m xs x q n ys) (sym (append-nil ts)) a
chain choices {p = p} {r = r} {m = m} {o = o} {xs = xs} {zs = zs} {ts = ts} a (more_reading {ts = us} {us = vs} b s g) =
    subst (λ x. Readings (replies choices) (after choices) foreign p m xs x r o zs) (append_assoc ts us vs) (more_reading (chain choices a b) s g)

-- what was read before, and then the remaining input
reads_behind : (choices : SinkChoices) {p q : ReaderPlace} {m n o : View} {xs ys : List ℕ} {ts us : List TokenText} → Readings (replies choices) (after choices) foreign p m xs ts q n ys → ReadsAt choices q n ys us o → ReadsAt choices p m xs (ts ++ us) o
reads_behind choices {ts = ts} a r = record {
  handed = ts ++ r.handed;
  place = r.place;
  meaning = r.meaning;
  rest = r.rest;
  readings = chain choices a r.readings;
  undecided = r.undecided;
  tokens = ap (λ x. ts ++ x) r.tokens ∙ sym (append_assoc ts r.handed (closing (settle r.place.mode r.place.last (foreign r.meaning) r.rest)));
  closed = r.closed;
}

pub are_readings : (choices : SinkChoices) → AreReadings choices reader.first (reader.Readings choices) (reader.Reads choices)
are_readings choices = record {
  nothing = λ r v xs. no_reading;
  followed = λ r s v w xs ys ts more h.
      subst (λ zs. Readings (replies choices) (after choices) foreign r.place v zs ts s.place w (s.held ++ (ys ++ more))) (append_assoc r.held xs more)
      (subst (λ zs. Readings (replies choices) (after choices) foreign r.place v ((r.held ++ xs) ++ more) ts s.place w zs) (append_assoc s.held ys more) (readings_go_on (replies choices) (after choices) foreign more h));
  chained = λ r s t v w x xs ys zs ts us a b. chain choices a b;
  to_end = λ r s v w n xs ys ts us a h. reads_behind choices a h;
  runs = λ r v n xs ts h. reads_run choices r.place v (r.held ++ xs) ts n h;
  agree = λ r v n o xs ts us ready a b.
      readings_agree (replies choices) (after choices) foreign IsFitting (λ w t line h. token_fitting choices t w h) (ended choices) (λ w t k l. refl) (λ w x y ys zs j k l h. token_cut choices x ys y zs w h) (record { fitting = λ f e. ready.fitting }) a b;
  documents = λ d v readable answers. document_read (replies choices) (after choices) foreign (ended choices) d v readable answers;
  fragments = λ nodes v plain readable unmarked cuts answers. (fragment_tokens nodes, (refl, fragment_read (replies choices) (after choices) foreign (ended choices) nodes v (shape nodes plain) readable unmarked answers));
}

-- the text of nodes stays in its box
pub texts_stay_here : (choices : SinkChoices) → TextsStayRead reader.IsInData (reader.Readings choices)
texts_stay_here choices r v o b nodes rest h fits unended unfailed plain readable some =
    let s = texts_stay choices foreign r.place v o b nodes rest h.place fits unended unfailed plain readable some in
    let now : ReaderText = record { place = s.place; held = []; stage = r.stage } in
    let text = text_before nodes rest in
    record {
      place = now;
      is_in = record { holds_none = refl; place = s.is_in };
      forest = s.forest;
      ok = s.ok;
      saved = s.saved;
      reads =
          subst (λ held. Readings (replies choices) (after choices) foreign r.place v (held ++ text) (tokens_of nodes) s.place (standing v s.forest s.ok s.saved) rest) (sym h.holds_none)
          (more_reading no_reading s.reads.1.1 (unrefused s.reads.0 s.reads.1.0));
      added = s.added;
      looks = s.looks;
      stands = s.stands;
      changes = s.changes;
    }

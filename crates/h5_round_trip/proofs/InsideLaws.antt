-- The text of nodes in the middle of a page is read by the plain tokenizer as their tokens, and they stay in their box.
use Rattle.std.proofs.Common.{◌≡◌, ◌∙◌, ℕ, Bool, List, [], ◌∷◌, append-nil, map, refl, ap, sym, subst}
use Rattle.h5_token.specs.Reply.{Reply}
use Rattle.h5_token.specs.TokenText.{TokenText}
use Rattle.h5_interface.specs.SinkChoices.{SinkChoices}
use Rattle.h5_plain_tokenizer.specs.Front.{ReaderPlace}
use Rattle.h5_plain_tokenizer.specs.Read.{Read, Step, marked, nothing_read, read_on, switch_step, text_step, token_step, unmarked}
use Rattle.h5_builder_spec.specs.Run.{View, after_all, after_token, replies, reply_to, run}
use Rattle.h5_builder_laws.specs.Plain.{Around, Nodes, as_written, plain_reply}
use Rattle.h5_builder_laws.specs.Staying.{IsBox, Stays, tokens_of}
use Rattle.h5_builder_laws.proofs.StayingLaws.{stay_in_box}
use Rattle.h5_builder_laws.proofs.cuts.JoinLaws.{view_joins}
use Rattle.h5_round_trip.specs.Answers.{Answers}
use Rattle.h5_round_trip.specs.Inside.{IsInPlainData, PlainReadsOn, PlainTextsStay, ReadsInside, StaysRead, text_before}
use Rattle.h5_round_trip.specs.Readable.{CanBeRead}
use Rattle.h5_round_trip.proofs.DoubledLaws.{read_written, shape_written}
use Rattle.h5_round_trip.proofs.JoinedLaws.{inside_joined}
use Rattle.h5_round_trip.proofs.ReadingLaws.{nodes_inside}
use Rattle.h5_round_trip.proofs.ShapeLaws.{Shape, shape}

module _ {M : Type 0} (reply_to : M → TokenText → Reply) (after : M → TokenText → ℕ → M) (foreign : M → Bool) (ended : M → M) where
  pub reads_inside : {b : Bool} (nodes : Nodes) (p : ReaderPlace) (m : M) (rest : List ℕ) → Shape b nodes → CanBeRead nodes → IsInPlainData p → Answers reply_to after m (tokens_of nodes)
      → ReadsInside IsInPlainData (PlainReadsOn reply_to after foreign) p m nodes rest
  reads_inside nodes p m rest shape readable h answers =
      let r = nodes_inside reply_to after foreign ended (as_written nodes) p m rest (shape_written shape) (read_written nodes readable) (h.started, h.mode) answers in
      record {
        place = r.place;
        meaning = r.meaning;
        reads = (r.reply, (r.goes, subst (λ ts. Read reply_to after foreign p m (text_before nodes rest) ts r.reply r.place r.meaning rest) (sym (append-nil r.handed) ∙ r.whole) r.read));
        is_in = record { mode = r.is_in.1; started = r.is_in.0 };
      }

module _ (choices : SinkChoices) where
  abbrev answer : View → TokenText → Reply
  answer v t = reply_to choices t v

  abbrev next : View → TokenText → ℕ → View
  next v t line = after_token choices t v

  -- the builder answers as to a plain document's tokens
  pub answers_so : (ts : List TokenText) (v : View) → replies choices ts v ≡ map plain_reply ts → Answers answer next v ts
  unfolding run
  answers_so [] v e = tt
  answers_so (t ∷ ts) v e = (cc, (λ line. answers_so ts (after_token choices t v) (cc)))

  -- the builder afterwards is what the run of the tokens leaves
  step_runs : {foreign : View → Bool} {p : ReaderPlace} {v : View} {xs : List ℕ} {ts : List TokenText} {reply : Reply} {q : ReaderPlace} {n : View} {ys : List ℕ} → Step answer next foreign p v xs ts reply q n ys → n ≡ after_all choices ts v
  unfolding run
  step_runs (marked h k) = refl
  step_runs (unmarked h k) = refl
  step_runs (token_step token h k) = refl
  step_runs (switch_step mode h k) = refl
  step_runs (text_step text h less bits) = refl

  pub read_runs : {foreign : View → Bool} {p : ReaderPlace} {v : View} {xs : List ℕ} {ts : List TokenText} {reply : Reply} {q : ReaderPlace} {n : View} {ys : List ℕ} → Read answer next foreign p v xs ts reply q n ys → n ≡ after_all choices ts v
  unfolding run
  read_runs nothing_read = refl
  read_runs {v = v} (read_on {ts = ts} {us = us} r on s) = step_runs s ∙ ap (after_all choices us) (read_runs r) ∙ sym (view_joins choices ts us v)

  -- nodes that stay in their box, and whose text is read as tokens that are run
  pub stays_read : {P : Type 0} {IsIn : P → Type 0} {Reads : P → View → List ℕ → List TokenText → P → View → List ℕ → Type 0} (p : P) (v : View) (o : Around) (b : IsBox o v.world) (nodes : Nodes) (rest : List ℕ)
      → Stays choices (tokens_of nodes) o nodes v b → (r : ReadsInside IsIn Reads p v nodes rest) → r.meaning ≡ after_all choices (tokens_of nodes) v → StaysRead IsIn Reads p v o b nodes rest
  stays_read {Reads = Reads} p v o b nodes rest s r runs = record {
    place = r.place;
    is_in = r.is_in;
    forest = s.forest;
    ok = s.ok;
    saved = s.saved;
    reads = subst (λ n. Reads p v (text_before nodes rest) (tokens_of nodes) r.place n rest) (runs ∙ s.view) r.reads;
    added = s.added;
    looks = s.looks;
    stands = s.stands;
    changes = s.changes;
  }

  pub texts_stay : PlainTextsStay choices
  texts_stay foreign p v o b nodes rest h k e f plain readable some =
      let s = stay_in_box choices (tokens_of nodes) v o nodes b plain k e f (inside_joined nodes (shape nodes plain)) in
      let r = reads_inside answer next foreign (λ w. w) nodes p v rest (shape nodes plain) readable h (answers_so (tokens_of nodes) v s.answers) in
      stays_read p v o b nodes rest s r (read_runs r.reads.1.1)

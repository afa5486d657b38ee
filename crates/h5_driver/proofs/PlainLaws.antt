-- The text of a plain document, taken by a parser.
use Rattle.std.proofs.Common.{◌≡◌, ℕ, List, [], ◌∷◌, ◌++◌, map, refl, sym, ap, ◌∙◌, subst, Option, Some, None as Nothing, codes, Bool, false, Result, Ok, Err, IfOk}
use Rattle.h5_token.specs.TokenText.{TokenText}
use Rattle.h5_token.specs.declared.fault.BuildFault.{BuildFault}
use Rattle.h5_interface.specs.Changes.{mark}
use Rattle.h5_interface.specs.Forest.{Child, ChildNode, ChildText, DoctypeNode, DocumentNode, ElementNode, Forest, IsForest, Marks, Node, children_of}
use Rattle.h5_interface.specs.Seen.{Seen}
use Rattle.h5_interface.specs.SinkChoices.{SinkChoices}
use Rattle.h5_interface.specs.declared.marks.QuirksMode.TheVariants.{NoQuirks}
use Rattle.h5_builder_spec.specs.Changes.{pop}
use Rattle.h5_builder_spec.specs.Run as r
use Rattle.h5_builder_spec.specs.inner.Kept.{IsFitting}
use Rattle.h5_builder_spec.specs.Run.{View, after_all, after_token, refusal, run, take_or_refuse}
use Rattle.h5_builder_spec.specs.Sound.{Sound}
use Rattle.h5_builder_spec.specs.formatting.FormattingNames.{html_name}
use Rattle.h5_builder_spec.specs.World.{World}
use Rattle.h5_builder_laws.specs.Plain.{ElementThen, End, Nodes, PlainDocument, TextThen, document_tokens, plain_reply, root_of}
use Rattle.h5_builder_laws.specs.Rebuilding.{DocumentStands, HoldsDocument, IsStart, Looks, Stands, with_scripting}
use Rattle.h5_tree_builder.specs.Builder.{first_building, pop_each}
use Rattle.h5_driver.specs.inner.Readings.{AreReadings}
use Rattle.h5_driver.specs.Reading.{Parses}
use Rattle.h5_driver.specs.BuilderSink.{after, ended, replies}
use Rattle.h5_round_trip.specs.Readable.{IsReadableDocument}
use Rattle.h5_driver.specs.PlainDocuments.{BringsBack, ComesBack}
use Rattle.h5_round_trip.specs.Written.{written_of}
use Rattle.h5_tokenizer_input.specs.Options as reading
use Rattle.h5_tokenizer_input.specs.declared.options.TokenizerOpts.{TokenizerOpts}
use Rattle.h5_builder_spec.proofs.changes.ClosingLaws.{pop_sound}
use Rattle.h5_builder_laws.proofs.kept.FittingLaws.{token_fitting}
use Rattle.h5_builder_laws.proofs.LooksLaws.{looks_marked}
use Rattle.h5_builder_laws.proofs.StartLaws.{all_none}
use Rattle.h5_builder_laws.proofs.WholeLaws.{rebuilds_all}
use Rattle.h5_tree_builder.proofs.BuilderLaws.{fits_first}
use Rattle.h5_round_trip.proofs.JoinedLaws.{document_joined}
use Rattle.h5_round_trip.specs.Answers.{Answers}

-- the builder's replies are those to a plain document's tokens
pub answers_by : (choices : SinkChoices) (ts : List TokenText) (v : View) → r.replies choices ts v ≡ map plain_reply ts → Answers (replies choices) (after choices) v ts
unfolding run
answers_by choices [] v e = tt
answers_by choices (t ∷ ts) v e = (cc, (λ line. answers_by choices ts (after_token choices t v) (cc)))

-- ---- marks don't matter

pub same_children : (f : Forest) (marks : ℕ → Marks) (n : ℕ) → children_of (mark marks f) n ≡ children_of f n
same_children f marks n = at (f.node n) refl
  where
    at : (o : Option Node) → f.node n ≡ o → children_of (mark marks f) n ≡ children_of f n
    at Nothing w = rw w refl
    at (Some x) w = rw w refl

pub stand_marked : (f : Forest) (marks : ℕ → Marks) (cs : List Child) (ns : Nodes) → Stands f cs ns → Stands (mark marks f) cs ns
stand_marked f marks [] End h = tt
stand_marked f marks (ChildText t ∷ cs) (TextThen text rest) h = (h.0, stand_marked f marks cs rest h.1)
stand_marked f marks (ChildNode n ∷ cs) (ElementThen name attrs inner rest) h =
    let same = same_children f marks n in
    let kind = ElementNode (html_name name) in (
      looks_marked f n marks kind attrs (children_of (mark marks f) n) (subst (λ (kids : List Child). Looks f n kind attrs kids) (sym same) h.0),
      (subst (λ (kids : List Child). Stands (mark marks f) kids inner) (sym same) (stand_marked f marks (children_of f n) inner h.1.0), stand_marked f marks cs rest h.1.1),
    )
stand_marked f marks _ _ h = absurd h

document_marked : (f : Forest) (marks : ℕ → Marks) (d : PlainDocument) → DocumentStands f d → DocumentStands (mark marks f) d
document_marked f marks d s = record {
  doctype = s.doctype;
  root = s.root;
  document = looks_marked f f.document marks DocumentNode [] (ChildNode s.doctype ∷ ChildNode s.root ∷ []) s.document;
  is_doctype = looks_marked f s.doctype marks (DoctypeNode (codes "html") [] []) [] [] s.is_doctype;
  stands = stand_marked f marks (ChildNode s.root ∷ []) (root_of d) s.stands;
}

popped : (choices : SinkChoices) (d : PlainDocument) (ns : List ℕ) (w : World) → DocumentStands w.forest d → w.seen_quirks ≡ NoQuirks → DocumentStands (pop_each choices ns w).forest d × ((pop_each choices ns w).seen_quirks ≡ NoQuirks)
unfolding pop
popped choices d [] w s q = (s, q)
popped choices d (n ∷ ns) w s q = popped choices d ns (pop choices w) (document_marked w.forest _ d s) q

-- ---- and what is there is a forest

-- a token doesn't change whether a builder has failed or ended
same_standing : (choices : SinkChoices) (t : TokenText) (v : View) → ((after_token choices t v).failed ≡ v.failed) × ((after_token choices t v).ended ≡ v.ended)
same_standing choices t v = at (refusal v t)
  where
    at : (o : Option BuildFault) → ((take_or_refuse choices t o v).failed ≡ v.failed) × ((take_or_refuse choices t o v).ended ≡ v.ended)
    at (Some fault) = (refl, refl)
    at Nothing = (refl, refl)

pub sound_after : (choices : SinkChoices) (ts : List TokenText) (v : View) → IsFitting v → v.failed ≡ false → v.ended ≡ false → Sound (after_all choices ts v).world
unfolding run
sound_after choices [] v k f e = (k.fitting f e).sound
sound_after choices (t ∷ ts) v k f e =
    let s = same_standing choices t v in sound_after choices ts (after_token choices t v) (token_fitting choices t v k) (s.0 ∙ f) (s.1 ∙ e)

pub sound_popped : (choices : SinkChoices) (ns : List ℕ) (w : World) → Sound w → Sound (pop_each choices ns w)
sound_popped choices [] w k = k
sound_popped choices (n ∷ ns) w k = sound_popped choices ns (pop choices w) (pop_sound choices w k)

forest_told : (choices : SinkChoices) (scripting : Bool) (seen : Seen) (ts : List TokenText) → HoldsDocument seen.forest → IsForest (ended choices (after_all choices ts (first_building seen (with_scripting scripting)).view)).world.forest
forest_told choices scripting seen ts holds =
    let v = (first_building seen (with_scripting scripting)).view in
    let w = (after_all choices ts v).world in
    let first : IsFitting v = record { fitting = λ f e. record { sound = all_none seen.forest holds.is_forest; fits = fits_first seen (with_scripting scripting) } } in
    (sound_popped choices w.stack w (sound_after choices ts v first refl refl)).stands.is_forest

-- a new builder rebuilds a plain document
record Rebuilt (choices : SinkChoices) (scripting : Bool) (seen : Seen) (d : PlainDocument) : Type 0 where
  answers : Answers (replies choices) (after choices) (first_building seen (with_scripting scripting)).view (document_tokens d)
  stands : DocumentStands (after_all choices (document_tokens d) (first_building seen (with_scripting scripting)).view).world.forest d
  quirks : (after_all choices (document_tokens d) (first_building seen (with_scripting scripting)).view).world.seen_quirks ≡ NoQuirks

rebuilt : (choices : SinkChoices) (scripting : Bool) (seen : Seen) (d : PlainDocument) → HoldsDocument seen.forest → Rebuilt choices scripting seen d
rebuilt choices scripting seen d holds =
    let v = (first_building seen (with_scripting scripting)).view in
    let ts = document_tokens d in
    let start : IsStart v.world = record { holds = holds; options = refl; mode = refl; none_open = refl; none_listed = refl; ignore_lf = refl; no_foster = refl; no_pending = refl; no_template_modes = refl; no_head = refl; no_form = refl; no_context = refl } in
    let built = rebuilds_all choices ts v d start refl refl (document_joined d) in
    record { answers = answers_by choices ts v built.answers; stands = built.stands; quirks = built.quirks }

-- its replies are those to a plain document's tokens
pub document_answers : (choices : SinkChoices) (scripting : Bool) (seen : Seen) (d : PlainDocument) → HoldsDocument seen.forest → Answers (replies choices) (after choices) (first_building seen (with_scripting scripting)).view (document_tokens d)
document_answers choices scripting seen d holds = (rebuilt choices scripting seen d holds).answers

-- and the document is what its sink shows after them and the end
pub document_stands : (choices : SinkChoices) (scripting : Bool) (seen told : Seen) (d : PlainDocument) (n : View) → HoldsDocument seen.forest → n ≡ ended choices (after_all choices (document_tokens d) (first_building seen (with_scripting scripting)).view)
    → told.forest ≡ n.world.forest → told.quirks ≡ n.world.seen_quirks → ComesBack told d
document_stands choices scripting seen told d n holds same forest quirks =
    let w = (after_all choices (document_tokens d) (first_building seen (with_scripting scripting)).view).world in
    let built = rebuilt choices scripting seen d holds in
    let end = popped choices d w.stack w built.stands built.quirks in
    record {
      is_forest = subst IsForest (sym (forest ∙ ap (λ (u : View). u.world.forest) same)) (forest_told choices scripting seen (document_tokens d) holds);
      stands = subst (λ (f : Forest). DocumentStands f d) (sym (forest ∙ ap (λ (u : View). u.world.forest) same)) end.0;
      quirks = quirks ∙ ap (λ (u : View). u.world.seen_quirks) same ∙ end.1;
    }

module _ {T : Type 0} {choices : SinkChoices} {first : TokenizerOpts → T} {Readings : T → View → List ℕ → List TokenText → T → View → List ℕ → Type 0} {Reads : T → View → List ℕ → List TokenText → View → Type 0}
    (law : AreReadings choices first Readings Reads) where
  -- what a parser makes from a document's text
  document_parsed : (scripting : Bool) (seen told : Seen) (d : PlainDocument) → HoldsDocument seen.forest → IsReadableDocument d
      → Parses Reads choices (first reading.default_options) (first_building seen (with_scripting scripting)).view (written_of d) told → ComesBack told d
  document_parsed scripting seen told d holds readable parses =
      let read = law.documents d (first_building seen (with_scripting scripting)).view readable (document_answers choices scripting seen d holds) in
      let same = parses.any (document_tokens d) read.0 read.1 in
      document_stands choices scripting seen told d read.0 holds same.0 same.1.0 same.1.1

  -- so does a new parser, however the text is split
  pub brings_back : (r : T) (v : View) (waiting text : List ℕ) (told : Seen) → Parses Reads choices r v (waiting ++ text) told → BringsBack first r v waiting text told
  brings_back r v waiting text told parses = λ d seen new holds readable same.
      let P : T → View → List ℕ → List ℕ → Type 0 = λ s w u t. Parses Reads choices s w (u ++ t) told in
      let fresh = first reading.default_options in
      let view = (first_building seen (with_scripting new.scripting)).view in
      document_parsed new.scripting seen told d holds readable
      (subst (P fresh view []) same
      (subst (λ u. P fresh view u text) new.none_waits
      (subst (λ w. P fresh w waiting text) new.builder
      (subst (λ s. P s v waiting text) new.reader parses))))

  pub brought_back : {O : Type 0} (told : O → Seen) (r : T) (v : View) (waiting text : List ℕ) (result : Result O BuildFault)
      → IfOk result (λ o. Parses Reads choices r v (waiting ++ text) (told o)) → IfOk result (λ o. BringsBack first r v waiting text (told o))
  brought_back told r v waiting text (Ok o) h = brings_back r v waiting text (told o) h
  brought_back told r v waiting text (Err e) h = h

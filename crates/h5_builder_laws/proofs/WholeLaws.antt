-- The whole document.
use Rattle.std.proofs.Common.{◌∙◌, List, [], ◌∷◌, codes, refl, ap, sym, subst, Bool, false, ◌≡◌}
use Rattle.h5_token.specs.TokenText.{EndOfFile, TokenText}
use Rattle.h5_token.specs.Joins.{join}
use Rattle.h5_interface.specs.Forest.{Child, ChildNode, children_of}
use Rattle.h5_interface.specs.SinkChoices.{SinkChoices}
use Rattle.h5_tables.specs.TagSets.{void_names}
use Rattle.h5_tables.specs.declared.modes.InsertionMode.TheVariants.{AfterAfterBody}
use Rattle.h5_builder_spec.specs.Run.{View}
use Rattle.h5_builder_spec.specs.World.{World}
use Rattle.h5_builder_laws.specs.Plain.{ElementThen, End, Flow, IsPlain, PlainDocument, as_written, document_tokens, end_tag, nothing_open, start_tag, tokens_before}
use Rattle.h5_builder_laws.specs.Rebuilding.{DocumentStands, IsStart, RebuildsAll, Stands}
use Rattle.h5_builder_laws.proofs.CutGoesLaws.{goes_cut}
use Rattle.h5_builder_laws.proofs.FilledLaws.{own}
use Rattle.h5_builder_laws.proofs.GoesLaws.{Arrives, Goes, Runs, Straight, arrives}
use Rattle.h5_builder_laws.proofs.KeptBackLaws.{runs}
use Rattle.h5_builder_laws.proofs.HeadLaws.{head_stands}
use Rattle.h5_builder_laws.proofs.StageLaws.{WithBody, body_end_next, body_filled, body_next, doctype_next, file_end_next, head_end_next, head_next, html_end_next, html_next}
use Rattle.h5_builder_laws.proofs.StartLaws.{start_fitting}
use Rattle.h5_builder_laws.proofs.TitleLaws.{head_filled}

-- where the tokens of a document lead
record Led (blanks : Bool) (choices : SinkChoices) (d : PlainDocument) (w : World) : Type 0 where
  after : World
  goes : Goes blanks choices (document_tokens d) w after
  inner : List Child
  holds : WithBody AfterAfterBody d.html_attrs d.head_attrs d.body_attrs d.head inner d.blocks after

led : {blanks : Bool} → (choices : SinkChoices) (d : PlainDocument) (w : World) → IsStart w → IsPlain blanks (Flow false nothing_open) d.blocks → Led blanks choices d w
unfolding void_names
led {blanks} choices d w s plain =
    let a = d.html_attrs in
    let b = d.head_attrs in
    let c = d.body_attrs in
    let n1 = doctype_next choices w s in
    let n2 = html_next choices a n1.after n1.holds in
    let n3 = head_next choices a b n2.after n2.holds in
    let held = head_filled {blanks = blanks} choices a b n3.after d.is_head n3.holds in
    let n4 = head_end_next choices a b d.head held.after held.holds in
    let n5 = body_next choices a b c d.head n4.after n4.holds in
    let all = body_filled choices a b c d.head d.blocks n5.after plain n5.holds in
    let n6 = body_end_next choices a b c d.head all.inner d.blocks all.after all.holds in
    let n7 = html_end_next choices a b c d.head all.inner d.blocks n6.after n6.holds in
    let n8 = file_end_next choices a b c d.head all.inner d.blocks n7.after n7.holds in
    let last = all.goes (end_tag (codes "body") ∷ end_tag (codes "html") ∷ EndOfFile ∷ []) n8.after (n6.after, (Straight n6.moves, (n7.after, (Straight n7.moves, (n8.after, (Straight n8.moves, refl {a = n8.after})))))) in
    let in_body = tokens_before (as_written d.blocks) (end_tag (codes "body") ∷ end_tag (codes "html") ∷ EndOfFile ∷ []) in
    let later = held.goes (end_tag (codes "head") ∷ start_tag (codes "body") c ∷ in_body) n8.after (n4.after, (Straight n4.moves, (n5.after, (Straight n5.moves, last)))) in
    record {
      after = n8.after;
      goes = (n1.after, (Straight n1.moves, (n2.after, (Straight n2.moves, (n3.after, (Straight n3.moves, later))))));
      inner = all.inner;
      holds = n8.holds;
    }

-- and what stands there
stands : (d : PlainDocument) (w : World) (inner : List Child) → WithBody AfterAfterBody d.html_attrs d.head_attrs d.body_attrs d.head inner d.blocks w → DocumentStands w.forest d
stands d w inner s =
    let f = w.forest in
    let blocks : Stands f (children_of f s.content) d.blocks = subst (λ cs. Stands f cs d.blocks) (sym s.is_body.has_children) s.stands in
    let content : Stands f (ChildNode s.content ∷ []) (ElementThen (codes "body") d.body_attrs d.blocks End) = (own s.is_body, (blocks, tt)) in
    let held : Stands f (children_of f s.header) d.head = subst (λ cs. Stands f cs d.head) (sym s.is_head.has_children) (head_stands s.holds) in
    let below : Stands f (children_of f s.root) (ElementThen (codes "head") d.head_attrs d.head (ElementThen (codes "body") d.body_attrs d.blocks End)) =
    subst (λ cs. Stands f cs (ElementThen (codes "head") d.head_attrs d.head (ElementThen (codes "body") d.body_attrs d.blocks End))) (sym s.rooted.is_root.has_children)
    (own s.is_head, (held, content)) in
    record {
      doctype = s.doctype;
      root = s.root;
      document = s.rooted.begun.document;
      is_doctype = s.rooted.begun.is_doctype;
      stands = (own s.rooted.is_root, (below, tt));
    }

-- a run of its tokens, however their texts are cut
arrived : {blanks : Bool} → (choices : SinkChoices) (ts : List TokenText) (v : View) (d : PlainDocument) (s : IsStart v.world) → v.ended ≡ false → v.failed ≡ false → join ts ≡ document_tokens d
    → (plain : IsPlain blanks (Flow false nothing_open) d.blocks) → Arrives blanks choices ts v (led choices d v.world s plain).after
arrived {blanks} choices ts v d s e f j plain =
    let l = led choices d v.world s plain in
    let k = start_fitting v.world s in
    arrives choices ts v l.after f e (goes_cut blanks choices ts v.world l.after k (subst (λ x. Runs blanks choices x v.world l.after) (sym j) (runs blanks choices (document_tokens d) v.world l.after k l.goes)))

pub rebuilds_all : (choices : SinkChoices) (ts : List TokenText) (v : View) → RebuildsAll choices ts v
rebuilds_all choices ts v d s e f j =
    let l = led choices d v.world s d.are_blocks in
    let r = arrived choices ts v d s e f j d.are_blocks in
    record {
      stands = subst (λ (w : World). DocumentStands w.forest d) (sym r.world) (stands d l.after l.inner l.holds);
      quirks = ap (λ (w : World). w.seen_quirks) r.world ∙ l.holds.quirks;
      answers = r.answers;
      quiet = λ plain. (arrived choices ts v d s e f j plain).quiet refl;
    }

-- HTML standard, section 13.2.6.4.7, the "in body" insertion mode: each of its rows is lawful, in each mode that goes by them.
use Rattle.std.proofs.Common.{Bool, List, [], false, inl, inr, refl, subst, sym, true, ℕ, ◌∙◌, ◌≡◌}
use Rattle.h5_token.specs.TokenText.{TagText}
use Rattle.h5_token.specs.declared.tag.TagKind.TheVariants.{EndTag, StartTag}
use Rattle.h5_token.specs.declared.tag.TagKind.{TagKind}
use Rattle.h5_tables.specs.TurnText.{CommentTurn, EofTurn, NullTurn, TagTurn, TextTurn, TurnText}
use Rattle.h5_tables.specs.declared.modes.InsertionMode.TheVariants.{AfterBody, InBody}
use Rattle.h5_tables.specs.declared.modes.InsertionMode.{InsertionMode}
use Rattle.h5_tables.specs.declared.modes.SplitStatus.{SplitStatus}
use Rattle.h5_builder_spec.specs.ByName.{by_kind, by_name}
use Rattle.h5_builder_spec.specs.Kinds.{is_start}
use Rattle.h5_builder_spec.specs.Rows.{Again, AgainBy, Answers, Ending, IsAcknowledged, IsDone, Row}
use Rattle.h5_builder_spec.specs.World.{World}
use Rattle.h5_builder_spec.specs.inner.Fits.{goes_by_body}
use Rattle.h5_builder_spec.specs.modes.InBody.{body_ends, in_body, in_body_end, in_body_end_other, in_body_start, in_body_start_other, in_body_tag, no_template_mode}
use Rattle.h5_builder_spec.specs.modes.InHead.{template_eof}
use Rattle.h5_builder_spec.specs.modes.Shared.{in_body_text}
use Rattle.h5_builder_spec.proofs.changes.ListsLaws.{ready_steady}
use Rattle.h5_builder_spec.proofs.modes.InBody.{EndsBody, IsBodyRow, NoPart, NoPartOf, is_end_html, tag_row, text_ready}
use Rattle.h5_builder_spec.proofs.modes.ReadyInLaws.{ready_in}
use Rattle.h5_builder_spec.proofs.rows.EndingLaws.{RowStops, Stops}
use Rattle.h5_builder_laws.proofs.LawfulRow.{IsLawfulFor, IsLawfulRow, IsLawfulTag, lawful_choose, lawful_ignored, lawful_nothing}
use Rattle.h5_builder_laws.proofs.modes.SharedRows.{comment_lawful, eof_template_lawful}
use Rattle.h5_builder_laws.proofs.turns.AgainLaws.{Leads, end_html_kind, kind_of_end, kind_of_tag}
use Rattle.h5_builder_laws.proofs.turns.RankWeightLaws.{closes_templates}
use Rattle.h5_builder_laws.proofs.turns.Ranks.{TurnKind}
use Rattle.h5_builder_laws.proofs.turns.RowEdges.{ByEdge, RowLeads, stops}
use Rattle.h5_builder_laws.proofs.turns.Ranks as edges

abbrev pub is_tag : TurnText → Bool
is_tag (TagTurn tag) = true
is_tag _ = false

-- an end tag `html` goes to the mode after the body, and no other tag takes another turn
body_leads : (k : TagKind) (name : List ℕ) (x : Ending) → EndsBody (is_end_html k name) x → Leads (kind_of_tag k name) InBody x
body_leads k name IsDone h = tt
body_leads k name IsAcknowledged h = tt
body_leads k name (Answers answer) h = tt
body_leads StartTag name (Again mode) h = absurd (let clash = h.1 in cc)
body_leads EndTag name (Again mode) h = subst (λ j. edges.Again (kind_of_end name) InBody j) (sym h.0) (subst (λ c. edges.Again c InBody AfterBody) (sym (end_html_kind name h.1)) edges.end_html)
body_leads k name (AgainBy mode) h = absurd h

body_stops : (html : Bool) (x : Ending) → html ≡ false → EndsBody html x → Stops x
body_stops html IsDone apart h = tt
body_stops html IsAcknowledged apart h = tt
body_stops html (Answers answer) apart h = tt
body_stops html (Again mode) apart h = absurd (let clash = sym apart ∙ h.1 in cc)
body_stops html (AgainBy mode) apart h = absurd h

module _ (m : InsertionMode) (goes : goes_by_body m ≡ true) (w : World) where
  -- what is asked of a row of the body is all but where it leads
  by_row : {c : TurnKind} {given : Type 0} (k : TagKind) (name : List ℕ) (r : Row) → IsBodyRow k name w r → NoPart m k name → RowLeads c m w r → IsLawfulRow m c (is_start k) given w r
  by_row k name r x part leads = record {
    steady = λ choices s same some h. (x.leaves choices m goes same (ready_in m goes w s h) part).steady;
    fits = λ choices s same some h. (x.leaves choices m goes same (ready_in m goes w s h) part).fits;
    told = λ n. x.told;
    silent = λ n s. x.silent s;
    leads = leads;
  }

  -- a tag: in another mode than "in body", no end tag `html`, and none of a part of a table
  pub body_tag_stops : (k : TagKind) (tag : TagText) → tag.kind ≡ k → is_end_html k tag.name ≡ false → RowStops (in_body (TagTurn tag) w)
  unfolding in_body_tag
  body_tag_stops k tag e apart =
      let r = by_kind k (by_name in_body_start in_body_start_other tag w) (by_name in_body_end in_body_end_other tag w) in
      subst (λ j. RowStops (by_kind j (by_name in_body_start in_body_start_other tag w) (by_name in_body_end in_body_end_other tag w))) (sym e) (body_stops (is_end_html k tag.name) r.ending apart (tag_row k tag w).ends)

  pub body_tag_lawful : (k : TagKind) (tag : TagText) → tag.kind ≡ k → NoPartOf k tag.name → is_end_html k tag.name ≡ false → IsLawfulTag k tag m w (in_body (TagTurn tag) w)
  unfolding in_body_tag
  body_tag_lawful k tag e part apart =
      let r = by_kind k (by_name in_body_start in_body_start_other tag w) (by_name in_body_end in_body_end_other tag w) in
      let x = tag_row k tag w in
      subst (λ j. IsLawfulTag k tag m w (by_kind j (by_name in_body_start in_body_start_other tag w) (by_name in_body_end in_body_end_other tag w))) (sym e)
      (by_row k tag.name r x (inr part) (stops (kind_of_tag k tag.name) m w r (body_stops (is_end_html k tag.name) r.ending apart x.ends)))

  -- a text
  pub body_text_lawful : (status : SplitStatus) (x : List ℕ) → IsLawfulFor (TextTurn status x) m w (in_body_text x w)
  body_text_lawful status x = record {
    steady = λ choices s same some h. ready_steady _ (text_ready choices m goes w (ready_in m goes w s h) x some).ready;
    fits = λ choices s same some h. (text_ready choices m goes w (ready_in m goes w s h) x some).fit;
    told = λ n. (tt, tt);
    silent = λ n h. tt;
    leads = ByEdge tt;
  }

  -- a token that isn't a tag
  pub body_other_lawful : closes_templates m ≡ true → (t : TurnText) → is_tag t ≡ false → IsLawfulFor t m w (in_body t w)
  body_other_lawful closes (TagTurn tag) other = absurd (cc)
  body_other_lawful closes (CommentTurn x) other = comment_lawful m w x
  body_other_lawful closes (TextTurn status x) other = body_text_lawful status x
  body_other_lawful closes NullTurn other = lawful_ignored
  body_other_lawful closes EofTurn other = lawful_choose (no_template_mode w.template_modes) (body_ends [] IsDone w) (template_eof w) (λ e. lawful_nothing _) (λ e. eof_template_lawful m w goes closes)

-- and in the body itself, a tag whatever its name
pub lawful_in_body : (t : TurnText) (w : World) → IsLawfulFor t InBody w (in_body t w)
unfolding in_body_tag
lawful_in_body (TagTurn tag) w = let x = tag_row tag.kind tag w in by_row InBody refl w tag.kind tag.name (in_body_tag tag w) x (inl refl) (ByEdge (body_leads tag.kind tag.name (in_body_tag tag w).ending x.ends))
lawful_in_body t w = body_other_lawful InBody refl w refl t refl

-- Whitespace texts in tables, which are buffered: a list that leads somewhere leads there token by token.
use Rattle.std.proofs.Common.{◌≡◌, ◌∙◌, ℕ, Bool, true, false, List, [], ◌∷◌, ◌++◌, Option, Some, None, cond, refl, ap, sym}
use Rattle.h5_token.specs.TokenText.{TagText, TokenText, TagIs, Characters, CommentIs, DoctypeIs, EndOfFile, NullCharacter, ParseErrorIs}
use Rattle.h5_interface.specs.Forest.{ChildText}
use Rattle.h5_interface.specs.SinkChoices.{SinkChoices}
use Rattle.h5_tables.specs.TurnText.{TagTurn, TextTurn}
use Rattle.h5_tables.specs.declared.modes.InsertionMode.{InsertionMode}
use Rattle.h5_tables.specs.declared.modes.InsertionMode.TheVariants.{InTableText}
use Rattle.h5_tables.specs.declared.modes.SplitStatus.TheVariants.{NotSplit}
use Rattle.h5_builder_spec.specs.Changes.{append_pending_text, append_text, set_mode, take_pending_text}
use Rattle.h5_builder_spec.specs.insertion.Foreign.{adjusted_current_node}
use Rattle.h5_builder_spec.specs.insertion.Place.{LastChild, Place, appropriate_place, place, put}
use Rattle.h5_builder_spec.specs.modes.ForeignContent.{dispatch}
use Rattle.h5_builder_spec.specs.modes.InBody.{in_body}
use Rattle.h5_builder_spec.specs.modes.InTableText.{in_table_text_else, pending_text, saved_mode}
use Rattle.h5_builder_spec.specs.modes.Tables.{foster}
use Rattle.h5_builder_spec.specs.Rows.{AgainBy, AppendText, IsDone, Row, TakePendingText, changed_by, choose, next_mode, row}
use Rattle.h5_builder_spec.specs.Run.{step, taken, text_step, without_lf}
use Rattle.h5_builder_spec.specs.Settle.{Settled, goes_on_to, settle}
use Rattle.h5_builder_spec.specs.inner.Kept.{Fitting}
use Rattle.h5_builder_spec.specs.Text.{fostered_text, text_in, text_in_table, text_rule}
use Rattle.h5_builder_spec.specs.World.{World}
use Rattle.h5_builder_laws.proofs.cuts.CutLaws.{by_mode}
use Rattle.h5_builder_laws.proofs.cuts.RunLaws.{taken_same, takes_text}
use Rattle.h5_builder_laws.proofs.kept.FittingLaws.{taken_fitting}
use Rattle.h5_builder_laws.proofs.modes.ForeignModeLaws.{IsHtmlAt, html_not_foreign}
use Rattle.h5_builder_laws.proofs.modes.ForeignRowLaws.{dispatch_html}
use Rattle.h5_builder_laws.proofs.turns.SettleLaws.{settle-again}
use Rattle.h5_builder_laws.proofs.CutGoesLaws.{fitting_takes}
use Rattle.h5_builder_laws.proofs.GoesLaws.{Blanks, Goes, InColumns, IsTableMode, KeptBack, Runs, Straight, Takes, TheRow, TheSection, TheTable, steps_aside, steps_of, taken_so}
use Rattle.h5_builder_laws.proofs.HtmlLaws.{AtHtml, taken_html}

module _ (choices : SinkChoices) (b : ℕ) (t : List ℕ) (w v : World) (x : Blanks (b ∷ t) w v) where
  -- while it is buffered
  abbrev back : World
  back = record w { mode = InTableText; saved_mode = Some w.mode; pending = b ∷ t }

  by_table : {m : InsertionMode} → IsTableMode m → text_in m choices (b ∷ t) w ≡ text_in_table choices (b ∷ t) w
  by_table TheTable = refl
  by_table TheSection = refl
  by_table TheRow = refl

  to_back : text_in_table choices (b ∷ t) w ≡ back
  unfolding text_in_table append_pending_text
  to_back =
      ap (λ c. cond c (record w { mode = InTableText; saved_mode = Some w.mode; pending = w.pending ++ b ∷ t }) (fostered_text choices (b ∷ t) w)) x.keeps
      ∙ ap (λ l. let y : World = record w { mode = InTableText; saved_mode = Some w.mode; pending = l ++ b ∷ t } in y) x.none_pending

  goes_back : Takes choices (Characters (b ∷ t)) w back
  unfolding step
  goes_back = record {
    world =
        ap (λ l. (text_step choices (without_lf l (b ∷ t)) (taken w)).world) x.ignore_lf
        ∙ ap (text_rule choices (b ∷ t)) (taken_same w x.ignore_lf)
        ∙ by_mode choices w.mode (b ∷ t) w (html_not_foreign choices (TextTurn NotSplit []) w x.html) refl
        ∙ by_table x.mode
        ∙ to_back;
    reply = ap (λ l. (text_step choices (without_lf l (b ∷ t)) (taken w)).reply) x.ignore_lf;
    accepted = takes_text w.mode (b ∷ t);
  }

  -- no token is for foreign content
  back_at : (o : Option ℕ) → IsHtmlAt w o → IsHtmlAt back o
  back_at None h = tt
  back_at (Some n) h = h

  back_html : AtHtml back
  back_html = back_at (adjusted_current_node w) x.html

  module _ (tag : TagText) (u : World) (k : Fitting back) (m : Takes choices (TagIs tag) v u) where
    -- the first turn
    abbrev first : Row
    first = record { changes = TakePendingText ∷ AppendText (b ∷ t) ∷ []; ending = AgainBy saved_mode; quiet = true }

    first_is : dispatch choices (TagTurn tag) (taken back) ≡ first
    unfolding pending_text in_table_text_else
    first_is =
        dispatch_html choices (TagTurn tag) (taken back) (taken_html choices (TagTurn tag) back back_html)
        ∙ ap (λ c. let r = choose c (row (AppendText (b ∷ t) ∷ []) IsDone) (foster in_body (TextTurn NotSplit (b ∷ t)) (taken back)) in
        let q : Row = record r { changes = TakePendingText ∷ r.changes; ending = AgainBy saved_mode } in q) x.blank

    abbrev behind : Place → List ℕ → World
    behind q l = record w { forest = put q (ChildText (b ∷ t)) w.forest; saved_mode = Some w.mode; pending = l; ignore_lf = false }

    back_place : place (take_pending_text (taken back)) ≡ place w
    unfolding appropriate_place
    back_place = refl

    second_is : set_mode w.mode (changed_by choices first (taken back)) ≡ taken v
    unfolding append_text
    second_is =
        ap (λ q. behind q []) (back_place ∙ x.placed)
        ∙ ap (behind (LastChild x.node)) (sym x.none_pending)
        ∙ ap taken (sym x.to)

    settles : settle choices (TagTurn tag) (taken back) ≡ goes_on_to first (settle choices (TagTurn tag) (taken v))
    unfolding append_text
    settles =
        let f = taken_fitting back k in
        settle-again choices (TagTurn tag) (taken back) w.mode f.sound tt f.fits (ap (λ r. next_mode r.ending (changed_by choices r (taken back))) first_is)
        ∙ ap (λ r. goes_on_to r (settle choices (TagTurn tag) (set_mode w.mode (changed_by choices r (taken back))))) first_is
        ∙ ap (λ y. goes_on_to first (settle choices (TagTurn tag) y)) second_is

    pub goes_on_back : Takes choices (TagIs tag) back u
    unfolding step
    goes_on_back = record {
      world = ap (λ (s : Settled). s.world) settles ∙ m.world;
      reply = ap (λ (s : Settled). s.reply) settles ∙ m.reply;
      accepted = refl;
    }

pub runs : (blanks : Bool) (choices : SinkChoices) (ts : List TokenText) (w u : World) → Fitting w → Goes blanks choices ts w u → Runs blanks choices ts w u
runs blanks choices [] w u k g = g
runs blanks choices (t ∷ ts) w u k (v, (Straight m, g)) = (v, (steps_of m, runs blanks choices ts v u (fitting_takes choices t w v k (taken_so m)) g))
runs blanks choices (t ∷ ts) w u k (v, (InColumns e c m, g)) = (v, (steps_aside e m, runs blanks choices ts v u (fitting_takes choices t w v k m) g))
runs blanks choices (Characters _ ∷ TagIs tag ∷ ts) w u k (v, (KeptBack {b} {t} e z x, (y, (Straight m, g)))) =
    let first = goes_back choices b t w v x in
    let kept = fitting_takes choices (Characters (b ∷ t)) w (back choices b t w v x) k first in
    let next = goes_on_back choices b t w v x tag y kept (taken_so m) in
    (back choices b t w v x, (steps_aside e first, (y, (steps_aside e next, runs blanks choices ts y u (fitting_takes choices (TagIs tag) (back choices b t w v x) y kept next) g))))
runs blanks choices (Characters _ ∷ TagIs tag ∷ ts) w u k (v, (KeptBack {b} {t} e z x, (y, (InColumns f c m, g)))) =
    let first = goes_back choices b t w v x in
    let kept = fitting_takes choices (Characters (b ∷ t)) w (back choices b t w v x) k first in
    let next = goes_on_back choices b t w v x tag y kept m in
    (back choices b t w v x, (steps_aside e first, (y, (steps_aside e next, runs blanks choices ts y u (fitting_takes choices (TagIs tag) (back choices b t w v x) y kept next) g))))
runs blanks choices (Characters _ ∷ []) w u k (v, (KeptBack e z x, g)) = absurd (z)
runs blanks choices (Characters _ ∷ Characters c ∷ ts) w u k (v, (KeptBack e z x, g)) = absurd (z)
runs blanks choices (Characters _ ∷ DoctypeIs c ∷ ts) w u k (v, (KeptBack e z x, g)) = absurd (z)
runs blanks choices (Characters _ ∷ CommentIs c ∷ ts) w u k (v, (KeptBack e z x, g)) = absurd (z)
runs blanks choices (Characters _ ∷ NullCharacter ∷ ts) w u k (v, (KeptBack e z x, g)) = absurd (z)
runs blanks choices (Characters _ ∷ EndOfFile ∷ ts) w u k (v, (KeptBack e z x, g)) = absurd (z)
runs blanks choices (Characters _ ∷ ParseErrorIs c ∷ ts) w u k (v, (KeptBack e z x, g)) = absurd (z)

-- However the texts of a list of tokens are split, it leads to the same world.
use Rattle.std.proofs.Common.{◌≡◌, ℕ, Bool, false, true, List, [], ◌∷◌, ◌++◌, refl, ap, sym, subst, ◌∙◌}
use Rattle.h5_token.specs.TokenText.{TokenText, DoctypeIs, TagIs, CommentIs, Characters, NullCharacter, EndOfFile, ParseErrorIs}
use Rattle.h5_interface.specs.SinkChoices.{SinkChoices}
use Rattle.h5_tables.specs.declared.modes.InsertionMode.{InsertionMode}
use Rattle.h5_tables.specs.declared.modes.InsertionMode.TheVariants.{InBody, InCaption, InCell, InTemplate, Text}
use Rattle.h5_token.specs.Joins.{glue, join}
use Rattle.h5_builder_spec.specs.Changes.{append_text, set_frameset_ok_by_text}
use Rattle.h5_builder_spec.specs.insertion.Foreign.{is_foreign_text}
use Rattle.h5_builder_spec.specs.Run.{step, taken, text_step, without_lf}
use Rattle.h5_builder_spec.specs.inner.Kept.{Fitting}
use Rattle.h5_builder_spec.specs.Text.{foreign_text, is_quiet_text, text_in_body, text_rule}
use Rattle.h5_builder_spec.specs.World.{World}
use Rattle.h5_builder_laws.proofs.cuts.CutLaws.{by_foreign, by_mode}
use Rattle.h5_builder_laws.proofs.kept.FittingLaws.{step_fitting}
use Rattle.h5_builder_laws.proofs.cuts.RunLaws.{step_cut, takes_text, without_lf-append, step_reply}
use Rattle.h5_builder_spec.proofs.changes.TreeLaws.{tree_reconstruct}
use Rattle.h5_builder_laws.proofs.GoesLaws.{Runs, Steps, Takes}

-- in a mode in which texts report no parse error, none does
text_quiet : (choices : SinkChoices) (t : List ℕ) (w : World) → is_quiet_text w.mode ≡ true → (text_step choices t w).quiet ≡ true
text_quiet choices [] w q = refl
text_quiet choices (b ∷ t) w q = q

quiet_mode : (choices : SinkChoices) (t u : List ℕ) (d : ℕ) (w : World) → (text_step choices (t ++ d ∷ u) w).quiet ≡ true → is_quiet_text w.mode ≡ true
quiet_mode choices [] u d w q = q
quiet_mode choices (b ∷ t) u d w q = q

-- and the mode stays one
pub body_mode : (choices : SinkChoices) (t : List ℕ) (w : World) → (text_in_body choices t w).mode ≡ w.mode
unfolding text_in_body append_text set_frameset_ok_by_text
body_mode choices t w = ap (λ (v : World). v.mode) (tree_reconstruct choices w)

put_mode : (t : List ℕ) (w : World) → (append_text t w).mode ≡ w.mode
unfolding append_text
put_mode t w = refl

-- by the mode, and in foreign content
quiet_by_mode : (choices : SinkChoices) (m : InsertionMode) (b : ℕ) (t : List ℕ) (w : World) → is_foreign_text choices w ≡ false → w.mode ≡ m → is_quiet_text m ≡ true → is_quiet_text (text_rule choices (b ∷ t) w).mode ≡ true
quiet_by_mode choices InBody b t w h e q = ap (λ (v : World). is_quiet_text v.mode) (by_mode choices InBody (b ∷ t) w h e) ∙ ap is_quiet_text (body_mode choices (b ∷ t) w ∙ e)
quiet_by_mode choices InCaption b t w h e q = ap (λ (v : World). is_quiet_text v.mode) (by_mode choices InCaption (b ∷ t) w h e) ∙ ap is_quiet_text (body_mode choices (b ∷ t) w ∙ e)
quiet_by_mode choices InCell b t w h e q = ap (λ (v : World). is_quiet_text v.mode) (by_mode choices InCell (b ∷ t) w h e) ∙ ap is_quiet_text (body_mode choices (b ∷ t) w ∙ e)
quiet_by_mode choices InTemplate b t w h e q = ap (λ (v : World). is_quiet_text v.mode) (by_mode choices InTemplate (b ∷ t) w h e) ∙ ap is_quiet_text (body_mode choices (b ∷ t) w ∙ e)
quiet_by_mode choices Text b t w h e q = ap (λ (v : World). is_quiet_text v.mode) (by_mode choices Text (b ∷ t) w h e) ∙ ap is_quiet_text (put_mode (b ∷ t) w ∙ e)
quiet_by_mode choices m b t w h e q = absurd (cc)

foreign_mode : (t : List ℕ) (w : World) → (foreign_text t w).mode ≡ w.mode
unfolding append_text set_frameset_ok_by_text
foreign_mode t w = refl

quiet_after : (choices : SinkChoices) (m : InsertionMode) (b : ℕ) (t : List ℕ) (w : World) → w.mode ≡ m → is_quiet_text m ≡ true → is_quiet_text (text_rule choices (b ∷ t) w).mode ≡ true
quiet_after choices m b t w e q = at (is_foreign_text choices w) refl
  where
    at : (c : Bool) → is_foreign_text choices w ≡ c → is_quiet_text (text_rule choices (b ∷ t) w).mode ≡ true
    at true h = ap (λ (v : World). is_quiet_text v.mode) (by_foreign choices (b ∷ t) w h) ∙ ap is_quiet_text (foreign_mode (b ∷ t) w ∙ e) ∙ q
    at false h = quiet_by_mode choices m b t w h e q

still_quiet : (choices : SinkChoices) (t : List ℕ) (w : World) → is_quiet_text w.mode ≡ true → is_quiet_text (text_step choices t w).world.mode ≡ true
still_quiet choices [] w q = q
still_quiet choices (b ∷ t) w q = quiet_after choices w.mode b t w refl q

-- a text in two pieces
module _ (choices : SinkChoices) (b : ℕ) (t : List ℕ) (d : ℕ) (u : List ℕ) (w : World) where
  abbrev middle : World
  middle = (step choices (Characters (b ∷ t)) w).world

  mode_is_quiet : (step choices (Characters ((b ∷ t) ++ d ∷ u)) w).quiet ≡ true → is_quiet_text w.mode ≡ true
  unfolding step
  mode_is_quiet q =
      quiet_mode choices (without_lf w.ignore_lf (b ∷ t)) u d (taken w)
      (ap (λ x. (text_step choices x (taken w)).quiet) (sym (without_lf-append w.ignore_lf b t (d ∷ u))) ∙ q)

  cut_steps : {blanks : Bool} (v : World) → Fitting w → Steps blanks choices (Characters ((b ∷ t) ++ d ∷ u)) w v → Steps blanks choices (Characters (b ∷ t)) w middle × Steps blanks choices (Characters (d ∷ u)) middle v
  unfolding step
  cut_steps v k m = (
    record {
      takes = record {
        world = refl;
        reply = step_reply choices (without_lf w.ignore_lf (b ∷ t)) (taken w);
        accepted = takes_text w.mode (b ∷ t);
      };
      quiet = λ e. text_quiet choices (without_lf w.ignore_lf (b ∷ t)) (taken w) (mode_is_quiet (m.quiet e));
    },
    record {
      takes = record {
        world = sym (step_cut choices b t d u w k) ∙ m.takes.world;
        reply = step_reply choices (without_lf middle.ignore_lf (d ∷ u)) (taken middle);
        accepted = takes_text middle.mode (d ∷ u);
      };
      quiet = λ e. text_quiet choices (without_lf middle.ignore_lf (d ∷ u)) (taken middle) (still_quiet choices (without_lf w.ignore_lf (b ∷ t)) (taken w) (mode_is_quiet (m.quiet e)));
    },
  )

unglued : (blanks : Bool) (choices : SinkChoices) (t : List ℕ) (ts : List TokenText) (w u : World) → Fitting w → Runs blanks choices (glue t ts) w u → Runs blanks choices (Characters t ∷ ts) w u
unglued blanks choices [] ts w u k g = g
unglued blanks choices (b ∷ t) [] w u k g = g
unglued blanks choices (b ∷ t) (Characters [] ∷ ts) w u k g = g
unglued blanks choices (b ∷ t) (Characters (d ∷ r) ∷ ts) w u k (v, (m, g)) =
    let both = cut_steps choices b t d r w v k m in
    ((step choices (Characters (b ∷ t)) w).world, (both.0, (v, (both.1, g))))
unglued blanks choices (b ∷ t) (_ ∷ ts) w u k g = g

-- a token that is taken leaves what a builder keeps
pub fitting_takes : (choices : SinkChoices) (t : TokenText) (w v : World) → Fitting w → Takes choices t w v → Fitting v
fitting_takes choices t w v k m = subst Fitting m.world (step_fitting choices t w k)

-- the whole list, where a builder has what it keeps
pub goes_cut : (blanks : Bool) (choices : SinkChoices) (ts : List TokenText) (w u : World) → Fitting w → Runs blanks choices (join ts) w u → Runs blanks choices ts w u
goes_cut blanks choices [] w u k g = g
goes_cut blanks choices (Characters t ∷ ts) w u k g =
    let h = unglued blanks choices t (join ts) w u k g in
    (h.0, (h.1.0, goes_cut blanks choices ts h.0 u (fitting_takes choices (Characters t) w h.0 k h.1.0.takes) h.1.1))
goes_cut blanks choices (DoctypeIs x ∷ ts) w u k (v, (m, g)) = (v, (m, goes_cut blanks choices ts v u (fitting_takes choices (DoctypeIs x) w v k m.takes) g))
goes_cut blanks choices (TagIs x ∷ ts) w u k (v, (m, g)) = (v, (m, goes_cut blanks choices ts v u (fitting_takes choices (TagIs x) w v k m.takes) g))
goes_cut blanks choices (CommentIs x ∷ ts) w u k (v, (m, g)) = (v, (m, goes_cut blanks choices ts v u (fitting_takes choices (CommentIs x) w v k m.takes) g))
goes_cut blanks choices (NullCharacter ∷ ts) w u k (v, (m, g)) = (v, (m, goes_cut blanks choices ts v u (fitting_takes choices NullCharacter w v k m.takes) g))
goes_cut blanks choices (EndOfFile ∷ ts) w u k (v, (m, g)) = (v, (m, goes_cut blanks choices ts v u (fitting_takes choices EndOfFile w v k m.takes) g))
goes_cut blanks choices (ParseErrorIs x ∷ ts) w u k (v, (m, g)) = (v, (m, goes_cut blanks choices ts v u (fitting_takes choices (ParseErrorIs x) w v k m.takes) g))

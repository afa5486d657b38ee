-- The chain of a token, turn by turn.
use Rattle.std.proofs.Common.{◌≡◌, ℕ, zero, suc, ◌+◌, ◌<◌, ◌≤◌, true, false, not, ◌&&◌, length, Option, Some, None, refl, ap, sym, subst, ◌∙◌, arith}
use Rattle.h5_token.specs.Reply.{Continues, reply}
use Rattle.h5_interface.specs.SinkChoices.{SinkChoices}
use Rattle.h5_tables.specs.TurnResult as results
use Rattle.h5_tables.specs.TurnText.{HasText, TurnText, is_self_closing}
use Rattle.h5_tables.specs.declared.modes.InsertionMode.{InsertionMode}
use Rattle.h5_builder_laws.proofs.turns.Ranks.{TextTurns}
use Rattle.h5_builder_spec.specs.Changes.{set_mode}
use Rattle.h5_builder_spec.specs.insertion.Foreign.{is_foreign}
use Rattle.h5_builder_spec.specs.modes.ForeignContent.{dispatch}
use Rattle.h5_builder_spec.specs.modes.Modes.{rule}
use Rattle.h5_builder_spec.specs.Rows.{Again, AgainBy, Answers, Ending, Follows, IsAcknowledged, IsDone, Row, changed_by, next_mode}
use Rattle.h5_builder_spec.specs.Settle.{Chain, Ends, GoesOn, IsOneChain, Settled, by_row, ends_with, goes_on_to, settle, settle_within, then_turns}
use Rattle.h5_builder_spec.specs.inner.Kept.{Fits, Fitting}
use Rattle.h5_builder_spec.specs.Sound.{Sound}
use Rattle.h5_builder_spec.specs.World.{World}
use Rattle.h5_builder_laws.proofs.turns.AgainLaws.{kind_of_turn}
use Rattle.h5_builder_laws.proofs.turns.FallsLaws.{rank_few, rank_of, rank_some, text_rank_few}
use Rattle.h5_builder_laws.proofs.kept.SetModeLaws.{FitsAfter}
use Rattle.h5_builder_laws.proofs.kept.DispatchLaws.{dispatch_kept}
use Rattle.h5_builder_laws.proofs.modes.ForeignRowLaws.{dispatch_html}
use Rattle.h5_builder_laws.proofs.turns.ForeignTurnLaws.{dispatch_falls, dispatch_text_falls}

-- the first turn, and as many more as elements are open, and fifteen
fuel : (n : ℕ) → 16 + n ≡ suc (15 + n)
fuel n = omega arith

pub settle-first : (choices : SinkChoices) (t : TurnText) (w : World) → settle choices t w ≡ by_row choices (λ v. settle_within choices (15 + length w.stack) t v) t (dispatch choices t w) w
unfolding settle settle_within
settle-first choices t w = ap (λ n. settle_within choices n t w) (fuel (length w.stack))

-- ONE TURN that is the last needs nothing
pub settle-end : (choices : SinkChoices) (t : TurnText) (w : World) → next_mode (dispatch choices t w).ending (changed_by choices (dispatch choices t w) w) ≡ None
    → settle choices t w ≡ ends_with t (dispatch choices t w) (changed_by choices (dispatch choices t w) w)
settle-end choices t w e = settle-first choices t w ∙ ap (then_turns (λ v. settle_within choices (15 + length w.stack) t v) t (dispatch choices t w) (changed_by choices (dispatch choices t w) w)) e

-- where the token isn't foreign, and the mode and its row are known
by_mode_row : (choices : SinkChoices) (t : TurnText) (w : World) (m : InsertionMode) (r : Row) → is_foreign choices t w ≡ false → w.mode ≡ m → rule m t w ≡ r → dispatch choices t w ≡ r
by_mode_row choices t w m r n e f = dispatch_html choices t w n ∙ ap (λ k. rule k t w) e ∙ f

pub settle-done : (choices : SinkChoices) (t : TurnText) (w : World) (m : InsertionMode) (r : Row) → is_foreign choices t w ≡ false → w.mode ≡ m → rule m t w ≡ r → next_mode r.ending (changed_by choices r w) ≡ None → settle choices t w ≡ ends_with t r (changed_by choices r w)
settle-done choices t w m r html e f n =
    let same : dispatch choices t w ≡ r = by_mode_row choices t w m r html e f in
    settle-end choices t w (ap (λ x. next_mode x.ending (changed_by choices x w)) same ∙ n) ∙ ap (λ x. ends_with t x (changed_by choices x w)) same

-- the chain where a turn that followed its row was the last
pub ends_here : {H : Type 0} (choices : SinkChoices) (node : H → ℕ) (t : TurnText) (w v : World) (a b : ℕ) → Follows choices node (dispatch choices t w) t w v a b results.Done
    → settle choices t w ≡ record { world = v; turns = 1; reply = Continues; quiet = (dispatch choices t w).quiet && not (is_self_closing t) }
ends_here choices node t w v a b f =
    let r = dispatch choices t w in
    settle-end choices t w (ap (λ x. next_mode x (changed_by choices r w)) f.ending)
    ∙ ap (λ x. ends_with t (record r { ending = x }) (changed_by choices r w)) f.ending
    ∙ ap (λ x. ends_with t (record r { ending = IsDone }) x) (sym f.world)

pub acknowledged_here : {H : Type 0} (choices : SinkChoices) (node : H → ℕ) (t : TurnText) (w v : World) (a b : ℕ) → Follows choices node (dispatch choices t w) t w v a b results.DoneAckSelfClosing
    → settle choices t w ≡ record { world = v; turns = 1; reply = Continues; quiet = (dispatch choices t w).quiet && true }
acknowledged_here choices node t w v a b f =
    let r = dispatch choices t w in
    settle-end choices t w (ap (λ x. next_mode x (changed_by choices r w)) f.ending)
    ∙ ap (λ x. ends_with t (record r { ending = x }) (changed_by choices r w)) f.ending
    ∙ ap (λ x. ends_with t (record r { ending = IsAcknowledged }) x) (sym f.world)

pub answered_here : {H : Type 0} (choices : SinkChoices) (node : H → ℕ) (t : TurnText) (w v : World) (a b : ℕ) (answer : _) → Follows choices node (dispatch choices t w) t w v a b (results.Answer answer)
    → settle choices t w ≡ record { world = v; turns = 1; reply = reply node answer; quiet = (dispatch choices t w).quiet && true }
answered_here choices node t w v a b answer f =
    let r = dispatch choices t w in
    settle-end choices t w (ap (λ x. next_mode x (changed_by choices r w)) f.ending)
    ∙ ap (λ x. ends_with t (record r { ending = x }) (changed_by choices r w)) f.ending
    ∙ ap (λ x. ends_with t (record r { ending = Answers (reply node answer) }) x) (sym f.world)

-- SOME WORLDS that a token's turns stay among, and in which its rank falls from turn to turn and is few at first
record Ranked (choices : SinkChoices) (t : TurnText) (G : World → Type 0) : Type 0 where
  falls : (w : World) (k : InsertionMode) → G w → next_mode (dispatch choices t w).ending (changed_by choices (dispatch choices t w) w) ≡ Some k → rank_of t (set_mode k (changed_by choices (dispatch choices t w) w)) < rank_of t w
  stays : (w : World) (k : InsertionMode) → G w → next_mode (dispatch choices t w).ending (changed_by choices (dispatch choices t w) w) ≡ Some k → G (set_mode k (changed_by choices (dispatch choices t w) w))
  few : (w : World) → G w → rank_of t w ≤ 16 + length w.stack

module _ (choices : SinkChoices) (t : TurnText) (G : World → Type 0) (d : Ranked choices t G) where
  -- what a turn leads to, where two ways to go on agree on lower ranks
  same_turn : (go on : World → Settled) (r : Row) (n : ℕ) (w : World) (o : Option InsertionMode) → ((k : InsertionMode) → o ≡ Some k → rank_of t (set_mode k w) < n) → ((k : InsertionMode) → o ≡ Some k → G (set_mode k w))
      → ((v : World) → G v → rank_of t v < n → go v ≡ on v) → then_turns go t r w o ≡ then_turns on t r w o
  same_turn go on r n w None f g h = refl
  same_turn go on r n w (Some k) f g h = ap (goes_on_to r) (h (set_mode k w) (g k refl) (f k refl))

  same_row : (go on : World → Settled) (w : World) → G w → ((v : World) → G v → rank_of t v < rank_of t w → go v ≡ on v) → by_row choices go t (dispatch choices t w) w ≡ by_row choices on t (dispatch choices t w) w
  same_row go on w g h =
      let r = dispatch choices t w in
      let v = changed_by choices r w in
      same_turn go on r (rank_of t w) v (next_mode r.ending v) (λ k e. d.falls w k g e) (λ k e. d.stays w k g e) h

  enough_in : (n k : ℕ) (w : World) → G w → rank_of t w ≤ n → rank_of t w ≤ k → settle_within choices n t w ≡ settle_within choices k t w
  unfolding settle_within
  enough_in zero k w g h i = absurd (omega (arith, h, rank_some t w))
  enough_in (suc n) zero w g h i = absurd (omega (arith, i, rank_some t w))
  enough_in (suc n) (suc k) w g h i =
      same_row (λ v. settle_within choices n t v) (λ v. settle_within choices k t v) w g (λ v x l. enough_in n k v x (omega (arith, h, l)) (omega (arith, i, l)))

  turn_in : (w : World) → G w → settle choices t w ≡ by_row choices (settle choices t) t (dispatch choices t w) w
  unfolding settle
  turn_in w g =
      settle-first choices t w
      ∙ same_row (λ v. settle_within choices (15 + length w.stack) t v) (λ v. settle_within choices (16 + length v.stack) t v) w g
      (λ v x l. enough_in (15 + length w.stack) (16 + length v.stack) v x (omega (arith, l, d.few w g)) (d.few v x))

  again_in : (w : World) (k : InsertionMode) → G w → next_mode (dispatch choices t w).ending (changed_by choices (dispatch choices t w) w) ≡ Some k
      → settle choices t w ≡ goes_on_to (dispatch choices t w) (settle choices t (set_mode k (changed_by choices (dispatch choices t w) w)))
  again_in w k g e = turn_in w g ∙ ap (then_turns (settle choices t) t (dispatch choices t w) (changed_by choices (dispatch choices t w) w)) e

  -- there is a chain
  chain_in : (n : ℕ) (w : World) → G w → rank_of t w ≤ n → Chain choices t w (settle choices t w)
  chain_in zero w g h = absurd (omega (arith, h, rank_some t w))
  chain_in (suc n) w g h =
      let r = dispatch choices t w in
      let v = changed_by choices r w in
      at (next_mode r.ending v) refl (λ k e. chain_in n (set_mode k v) (d.stays w k g e) (omega (arith, h, d.falls w k g e)))
    where
      at : (o : Option InsertionMode) → next_mode (dispatch choices t w).ending (changed_by choices (dispatch choices t w) w) ≡ o
          → ((k : InsertionMode) → next_mode (dispatch choices t w).ending (changed_by choices (dispatch choices t w) w) ≡ Some k → Chain choices t (set_mode k (changed_by choices (dispatch choices t w) w)) (settle choices t (set_mode k (changed_by choices (dispatch choices t w) w))))
          → Chain choices t w (settle choices t w)
      at None e next = subst (Chain choices t w) (sym (settle-end choices t w e)) (Ends w e)
      at (Some k) e next = subst (Chain choices t w) (sym (again_in w k g e)) (GoesOn w k (settle choices t (set_mode k (changed_by choices (dispatch choices t w) w))) e (next k e))

  -- and no other
  only_in : {w : World} {s : Settled} → G w → Chain choices t w s → s ≡ settle choices t w
  only_in g (Ends w e) = sym (settle-end choices t w e)
  only_in g (GoesOn w k s e c) = ap (goes_on_to (dispatch choices t w)) (only_in (d.stays w k g e) c) ∙ sym (again_in w k g e)

-- A TEXT, from any world
among_texts : (choices : SinkChoices) (t : TurnText) → kind_of_turn t ≡ TextTurns → Ranked choices t (λ w. Unit {0})
among_texts choices t i = record { falls = λ w k g e. dispatch_text_falls choices t w i k e; stays = λ w k g e. tt; few = λ w g. text_rank_few t w i }

pub settle-text-turn : (choices : SinkChoices) (t : TurnText) (w : World) → kind_of_turn t ≡ TextTurns → settle choices t w ≡ by_row choices (settle choices t) t (dispatch choices t w) w
settle-text-turn choices t w i = turn_in choices t (λ v. Unit {0}) (among_texts choices t i) w tt

pub settle-text-row : (choices : SinkChoices) (t : TurnText) (w : World) (m : InsertionMode) (r : Row) → kind_of_turn t ≡ TextTurns → is_foreign choices t w ≡ false → w.mode ≡ m → rule m t w ≡ r → settle choices t w ≡ by_row choices (settle choices t) t r w
settle-text-row choices t w m r i html e f = settle-text-turn choices t w i ∙ ap (λ x. by_row choices (settle choices t) t x w) (by_mode_row choices t w m r html e f)

-- ANY TOKEN, from a world that fits
fits_next : (x : Ending) (v : World) (k : InsertionMode) → next_mode x v ≡ Some k → FitsAfter x v → Fits (set_mode k v)
fits_next IsDone v k e h = absurd (cc)
fits_next IsAcknowledged v k e h = absurd (cc)
fits_next (Answers answer) v k e h = absurd (cc)
fits_next (Again j) v k e h = let same : j ≡ k = cc in subst (λ m. Fits (set_mode m v)) same h
fits_next (AgainBy mode) v k e h = let same : mode v ≡ k = cc in subst (λ m. Fits (set_mode m v)) same h

fitting_next : (choices : SinkChoices) (t : TurnText) (w : World) (k : InsertionMode) → HasText t → Fitting w → next_mode (dispatch choices t w).ending (changed_by choices (dispatch choices t w) w) ≡ Some k
    → Fitting (set_mode k (changed_by choices (dispatch choices t w) w))
fitting_next choices t w k some g e = record {
  sound = (dispatch_kept choices t w some g).sound;
  fits = fits_next (dispatch choices t w).ending (changed_by choices (dispatch choices t w) w) k e (dispatch_kept choices t w some g).fits;
}

among_fitting : (choices : SinkChoices) (t : TurnText) → HasText t → Ranked choices t Fitting
among_fitting choices t some = record {
  falls = λ w k g e. dispatch_falls choices t w g k e;
  stays = λ w k g e. fitting_next choices t w k some g e;
  few = λ w g. rank_few t w g.fits;
}

-- the chain is one turn, and after "again" the chain from there
pub settle-turn : (choices : SinkChoices) (t : TurnText) (w : World) → Sound w → HasText t → Fits w → settle choices t w ≡ by_row choices (settle choices t) t (dispatch choices t w) w
settle-turn choices t w s some f = turn_in choices t Fitting (among_fitting choices t some) w (record { sound = s; fits = f })

pub settle-again : (choices : SinkChoices) (t : TurnText) (w : World) (k : InsertionMode) → Sound w → HasText t → Fits w → next_mode (dispatch choices t w).ending (changed_by choices (dispatch choices t w) w) ≡ Some k
    → settle choices t w ≡ goes_on_to (dispatch choices t w) (settle choices t (set_mode k (changed_by choices (dispatch choices t w) w)))
settle-again choices t w k s some f e = again_in choices t Fitting (among_fitting choices t some) w k (record { sound = s; fits = f }) e

pub one_chain : (choices : SinkChoices) (t : TurnText) (w : World) → Sound w → HasText t → Fits w → IsOneChain choices t w
one_chain choices t w s some f =
    let d = among_fitting choices t some in
    let g : Fitting w = record { sound = s; fits = f } in
    record { chain = chain_in choices t Fitting d (16 + length w.stack) w g (rank_few t w f); no_other = λ x c. only_in choices t Fitting d g c }

-- the chain where a turn that followed its row led to another
pub goes_on : {H : Type 0} (choices : SinkChoices) (node : H → ℕ) (t : TurnText) (w v u : World) (a b : ℕ) (m : InsertionMode) (token : _) → Follows choices node (dispatch choices t w) t w v a b (results.Reprocess m token) → u ≡ set_mode m v
    → Sound w → HasText t → Fits w → settle choices t w ≡ goes_on_to (dispatch choices t w) (settle choices t u)
goes_on choices node t w v u a b m token f e s some h =
    let r = dispatch choices t w in
    settle-again choices t w m s some h (ap (next_mode r.ending) (sym f.world) ∙ f.ending.0)
    ∙ ap (λ x. goes_on_to r (settle choices t x)) (ap (set_mode m) (sym f.world) ∙ sym e)

-- to one of a lower rank
pub rank_falls : {H : Type 0} (choices : SinkChoices) (node : H → ℕ) (t : TurnText) (w v u : World) (a b : ℕ) (m : InsertionMode) (token : _) → Follows choices node (dispatch choices t w) t w v a b (results.Reprocess m token) → u ≡ set_mode m v
    → Sound w → HasText t → Fits w → rank_of t u < rank_of t w
rank_falls choices node t w v u a b m token f e s some h =
    let r = dispatch choices t w in
    subst (λ (x : World). rank_of t x < rank_of t w) (ap (set_mode m) (sym f.world) ∙ sym e) (dispatch_falls choices t w (record { sound = s; fits = h }) m (ap (next_mode r.ending) (sym f.world) ∙ f.ending.0))

-- WHAT A BUILDER KEEPS, it keeps through all turns of a token
module _ (choices : SinkChoices) (t : TurnText) (some : HasText t) where
  turn_fitting : (go : World → Settled) (w : World) → Fitting w → ((k : InsertionMode) → (let v = changed_by choices (dispatch choices t w) w in next_mode (dispatch choices t w).ending v ≡ Some k → Fitting (go (set_mode k v)).world))
      → Fitting (by_row choices go t (dispatch choices t w) w).world
  turn_fitting go w g next =
      let r = dispatch choices t w in
      let v = changed_by choices r w in
      at go r v (next_mode r.ending v) refl (dispatch_kept choices t w some g).sound (dispatch_kept choices t w some g).fits next
    where
      fits_last : (x : Ending) (v : World) → next_mode x v ≡ None → FitsAfter x v → Fits v
      fits_last IsDone v e f = f
      fits_last IsAcknowledged v e f = f
      fits_last (Answers answer) v e f = f
      fits_last (Again m) v e f = absurd (cc)
      fits_last (AgainBy mode) v e f = absurd (cc)

      at : (go : World → Settled) (r : Row) (v : World) (o : Option InsertionMode) → next_mode r.ending v ≡ o → Sound v → FitsAfter r.ending v → ((k : InsertionMode) → next_mode r.ending v ≡ Some k → Fitting (go (set_mode k v)).world) → Fitting (then_turns go t r v o).world
      at go r v None e s f next = record { sound = s; fits = fits_last r.ending v e f }
      at go r v (Some k) e s f next = next k e

  within_fitting : (n : ℕ) (w : World) → Fitting w → rank_of t w ≤ n → Fitting (settle_within choices n t w).world
  unfolding settle_within
  within_fitting zero w g h = absurd (omega (arith, h, rank_some t w))
  within_fitting (suc n) w g h =
      turn_fitting (λ v. settle_within choices n t v) w g
      (λ k e. within_fitting n (set_mode k (changed_by choices (dispatch choices t w) w)) (fitting_next choices t w k some g e) (omega (arith, h, dispatch_falls choices t w g k e)))

  pub settle_fitting : (w : World) → Fitting w → Fitting (settle choices t w).world
  unfolding settle
  settle_fitting w g = within_fitting (16 + length w.stack) w g (rank_few t w g.fits)

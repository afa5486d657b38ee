-- Turn after turn: what is left of a chain.
use Rattle.std.proofs.Common.{◌≡◌, ◌+◌, ◌<◌, ◌≤◌, ◌^◌, ◌&&◌, not, ℕ, length, Bool, true, false, refl, ap, sym, subst, ◌∙◌, arith}
use Rattle.std.proofs.lemmas.Bool.{not-false, not-true}
use Rattle.h5_token.specs.Reply.{reply}
use Rattle.h5_token.specs.declared.sink.TokenSinkResult.{TokenSinkResult}
use Rattle.h5_token.specs.declared.sink.TokenSinkResult.TheVariants.{Continue}
use Rattle.h5_interface.specs.SinkChoices.{SinkChoices}
use Rattle.h5_tables.specs.TurnResult as results
use Rattle.h5_tables.specs.TurnResult.{TurnResult}
use Rattle.h5_tables.specs.TurnText.{HasText, TurnText, is_self_closing}
use Rattle.h5_tables.specs.declared.modes.InsertionMode.{InsertionMode}
use Rattle.h5_builder_spec.specs.inner.Fits.{is_before_root}
use Rattle.h5_builder_spec.specs.inner.NamesFit.{NamesFit}
use Rattle.h5_builder_spec.proofs.fitting.OpenLaws.{names_root_open}
use Rattle.h5_builder_spec.proofs.rows.MarkLaws.{still_told}
use Rattle.h5_builder_spec.specs.Changes.{set_mode}
use Rattle.h5_builder_spec.specs.modes.ForeignContent.{dispatch}
use Rattle.h5_builder_spec.specs.Rows.{Follows}
use Rattle.h5_builder_spec.specs.Settle.{Settled, settle}
use Rattle.h5_builder_spec.specs.inner.Kept.{Fits, HasHtmlRoot}
use Rattle.h5_builder_spec.specs.Sound.{Sound, situation_of}
use Rattle.h5_builder_spec.specs.World.{World, names_of}
use Rattle.h5_builder_laws.proofs.turns.SettleLaws.{acknowledged_here, answered_here, ends_here, goes_on}
use Rattle.h5_interface.specs.declared.sink.TreeSink.{Ghosts}
use Rattle.h5_builder_state.proofs.ItemLaws.{length-values}
use Rattle.h5_builder_state.specs.Steps.{IsSound}
use Rattle.h5_builder_state.specs.View.{elements_of, open_node, world}
use Rattle.h5_builder_state.proofs.AttributeLaws.{open_length}
use Rattle.h5_builder_state.specs.declared.state.State.{State}
use Rattle.h5_tree_builder.specs.Chains.{CameTo, Left}

-- once the root has been made builder and sink are ready
pub ready_in_mode : (w : World) (m : InsertionMode) → w.mode ≡ m → is_before_root m ≡ false → Sound w → Fits w → HasHtmlRoot w
ready_in_mode w m e after k h = record { sound = k; lists = h.lists; root = names_root_open (situation_of w) m (names_of w) after (subst (λ x. NamesFit (situation_of w) x (names_of w)) e h.mode) }

-- what a mode says, if it is the world's
pub fits_in_mode : (w : World) (m : InsertionMode) → w.mode ≡ m → Fits w → NamesFit (situation_of w) m (names_of w)
fits_in_mode w m e h = subst (λ x. NamesFit (situation_of w) x (names_of w)) e h.mode

-- few elements are open
pub few_open : {S H O : Type 0} (law : Ghosts S H O) (sink : S) (state : State H) → IsSound law sink state → length (world law.sees law.node sink state).stack < 2 ^ 32
unfolding world
few_open law sink state k = omega (arith, k.kept.few, open_length (open_node law.node) (elements_of state), length-values state.open_elems.elements)

pub left_all : (choices : SinkChoices) (t : TurnText) (w : World) (a : ℕ) → Left choices t w w a a 0
left_all choices t w a = record { world = refl; turns = omega arith; reply = refl; quiet = λ h. (h, refl); noted = λ h k. absurd (let clash : true ≡ false = sym k ∙ h in cc) }

pub and_left : (a b : Bool) → (a && b) ≡ true → a ≡ true
and_left true b h = refl
and_left false b h = absurd (cc)

pub and_right : (a b : Bool) → (a && b) ≡ true → b ≡ true
and_right true b h = h
and_right false b h = absurd (cc)

module _ {H : Type 0} (choices : SinkChoices) (node : H → ℕ) (t : TurnText) (first w v : World) where
  -- one turn more
  pub left_next : (u : World) (a b c n : ℕ) (m : _) (token : _) → Follows choices node (dispatch choices t w) t w v b c (results.Reprocess m token) → u ≡ set_mode m v → Sound w → HasText t → Fits w → Left choices t first w a b n → Left choices t first u a c (n + 1)
  left_next u a b c n m token f i k some h l =
      let r = dispatch choices t w in
      let e = goes_on choices node t w v u b c m token f i k some h in
      record {
        world = l.world ∙ ap (λ (s : Settled). s.world) e;
        turns = omega (arith, l.turns, ap (λ (s : Settled). s.turns) e);
        reply = l.reply ∙ ap (λ (s : Settled). s.reply) e;
        quiet = λ all. let before = l.quiet all in let q = sym (ap (λ (s : Settled). s.quiet) e) ∙ before.0 in
            (and_right r.quiet (settle choices t u).quiet q, f.quiet (and_left r.quiet (settle choices t u).quiet q) ∙ before.1);
        noted = λ all q. told r.quiet refl (λ k. l.noted all (ap (λ (s : Settled). s.quiet) e ∙ ap (λ x. x && (settle choices t u).quiet) k ∙ q));
      }
    where
      told : (k : Bool) → (dispatch choices t w).quiet ≡ k → ((dispatch choices t w).quiet ≡ true → 0 < b) → 0 < c
      told true h before = still_told choices node (dispatch choices t w) t w v b c (results.Reprocess m token) f (before h)
      told false h before = f.noted h

  -- what the last turn does to the mark, from before it to after it, and the error for the flag then
  record Ends (q : Bool) (b c d : ℕ) : Type 0 where
    quiet : (dispatch choices t w).quiet ≡ true → c ≡ b
    noted : (dispatch choices t w).quiet ≡ false → 0 < c
    keeps : 0 < b → 0 < c
    kept : q ≡ true → d ≡ c
    told : q ≡ false → 0 < d
    rises : c ≤ d

  -- the last turn, after which an error is reported only if the chain isn't quiet
  last : (a b c d n : ℕ) (answer : TokenSinkResult H) (q : Bool) → settle choices t w ≡ record { world = v; turns = 1; reply = reply node answer; quiet = (dispatch choices t w).quiet && q } → Ends q b c d
      → Left choices t first w a b n → CameTo node (settle choices t first) true v a d (record { turns = n + 1; answer = answer })
  last a b c d n answer q e ends l =
      let r = dispatch choices t w in
      let tells : (settle choices t w).quiet ≡ (r.quiet && q) = ap (λ (s : Settled). s.quiet) e in
      record {
        world = sym (l.world ∙ ap (λ (s : Settled). s.world) e);
        turns = λ h. omega (arith, l.turns, ap (λ (s : Settled). s.turns) e);
        reply = sym (l.reply ∙ ap (λ (s : Settled). s.reply) e);
        quiet = λ h. let k = l.quiet h in let both = sym tells ∙ k.0 in ends.kept (and_right r.quiet q both) ∙ ends.quiet (and_left r.quiet q both) ∙ k.1;
        noted = λ h all. behind r.quiet q refl refl (λ k. l.noted all (tells ∙ k));
      }
    where
      later : 0 < c → 0 < d
      later k = let rises = ends.rises in omega (arith, k, rises)

      behind : (x y : Bool) → (dispatch choices t w).quiet ≡ x → q ≡ y → (((dispatch choices t w).quiet && q) ≡ true → 0 < b) → 0 < d
      behind false y i j before = later (ends.noted i)
      behind true false i j before = ends.told j
      behind true true i j before = later (ends.keeps (before (ap (λ k. k && q) i ∙ j)))

  pub done_last : (a b c d n : ℕ) (flag : Bool) → Follows choices node (dispatch choices t w) t w v b c results.Done → flag ≡ is_self_closing t → (flag ≡ false → d ≡ c) → (flag ≡ true → 0 < d) → c ≤ d → Left choices t first w a b n
      → CameTo node (settle choices t first) true v a d (record { turns = n + 1; answer = Continue })
  done_last a b c d n flag f is kept told rises l =
      last a b c d n Continue (not (is_self_closing t)) (ends_here choices node t w v b c f)
      (record {
        quiet = f.quiet;
        noted = f.noted;
        keeps = still_told choices node (dispatch choices t w) t w v b c results.Done f;
        kept = λ h. kept (is ∙ not-true (is_self_closing t) h);
        told = λ h. told (is ∙ not-false (is_self_closing t) h);
        rises = rises;
      }) l

  -- if no error for a flag is reported
  unflagged : (b c : ℕ) (result : TurnResult H) → Follows choices node (dispatch choices t w) t w v b c result → Ends true b c c
  unflagged b c result f = record { quiet = f.quiet; noted = f.noted; keeps = still_told choices node (dispatch choices t w) t w v b c result f; kept = λ h. refl; told = λ h. absurd (cc); rises = omega arith }

  pub acknowledged_last : (a b c n : ℕ) → Follows choices node (dispatch choices t w) t w v b c results.DoneAckSelfClosing → Left choices t first w a b n → CameTo node (settle choices t first) true v a c (record { turns = n + 1; answer = Continue })
  acknowledged_last a b c n f l = last a b c c n Continue true (acknowledged_here choices node t w v b c f) (unflagged b c results.DoneAckSelfClosing f) l

  pub answered_last : (a b c n : ℕ) (answer : TokenSinkResult H) → Follows choices node (dispatch choices t w) t w v b c (results.Answer answer) → Left choices t first w a b n → CameTo node (settle choices t first) true v a c (record { turns = n + 1; answer = answer })
  answered_last a b c n answer f l = last a b c c n answer true (answered_here choices node t w v b c answer f) (unflagged b c (results.Answer answer) f) l

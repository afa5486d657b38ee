-- A list of tokens, taken one after the other.
use Rattle.std.proofs.Common.{◌≡◌, ℕ, ◌++◌, true, List, [], ◌∷◌, refl, ap, sym, subst, ◌∙◌, append_assoc}
use Rattle.std.proofs.lemmas.List.{append-nil}
use Rattle.h5_token.specs.Reply.{Reply}
use Rattle.h5_token.specs.TokenText.{TokenText}
use Rattle.h5_interface.specs.SinkChoices.{SinkChoices}
use Rattle.h5_builder_spec.specs.Run.{CountsTurns, Took, Turns, Untold, View, WasRefused, after_all, after_token, all_quiet, is_quiet, last_turns, later_turns, replies, reply_to, run, told_all, told_of}
use Rattle.h5_builder_spec.specs.inner.Kept.{IsFitting}
use Rattle.h5_builder_laws.proofs.cuts.RunLaws.{cuts_agree}
use Rattle.h5_builder_laws.specs.Rebuilding.{DocumentStands, IsStart}
use Rattle.h5_builder_laws.proofs.WholeLaws.{rebuilds_all}
use Rattle.h5_tree_builder.specs.Builder.{Building, RanAll, RebuildsPlain, Replied}
use Rattle.h5_tree_builder.proofs.ChainLaws.{and_left, and_right}

-- a count after two tokens
counts_later : (before next : Turns) (old now new : ℕ) → CountsTurns before old now → CountsTurns next now new → CountsTurns (later_turns before next) old new
counts_later before WasRefused old now new a b = subst (λ n. CountsTurns before old n) (sym b) a
counts_later before (Took count) old now new a b = b
counts_later before Untold old now new a b = tt

-- what was counted so far, and what is still counted, come to what is counted of all
pub record Counted (choices : SinkChoices) (all left : List TokenText) (old now : Building) : Type 0 where
  pub before : Turns
  pub counts : CountsTurns before old.turns now.turns
  pub whole : last_turns before (told_all choices left now.view) ≡ last_turns WasRefused (told_all choices all old.view)

-- after some tokens: what is still to come gives what was to come at first
pub record Onward (choices : SinkChoices) (all left : List TokenText) (old now : Building) (answers : List Reply) : Type 0 where
  pub view : after_all choices left now.view ≡ after_all choices all old.view
  pub told : answers ++ replies choices left now.view ≡ replies choices all old.view
  pub turns : Counted choices all left old now
  pub quiet : all_quiet choices all old.view ≡ true → (all_quiet choices left now.view ≡ true) × (now.errors ≡ old.errors)

-- one token more
pub onward_next : (choices : SinkChoices) (all rest : List TokenText) (t : TokenText) (old now new : Building) (answers : List Reply) (answer : Reply) → Replied choices t now new answer → Onward choices all (t ∷ rest) old now answers → Onward choices all rest old new (answers ++ answer ∷ [])
unfolding run
onward_next choices all rest t old now new answers answer r o =
    let v = now.view in
    record {
      view = ap (after_all choices rest) r.view ∙ o.view;
      told = append_assoc answers (answer ∷ []) (replies choices rest new.view)
          ∙ ap (λ x. answers ++ x ∷ replies choices rest new.view) r.told
          ∙ ap (λ x. answers ++ reply_to choices t v ∷ replies choices rest x) r.view
          ∙ o.told;
      turns = record {
        before = later_turns o.turns.before (told_of choices t v).turns;
        counts = counts_later o.turns.before (told_of choices t v).turns old.turns now.turns new.turns o.turns.counts r.turns;
        whole = ap (λ x. last_turns (later_turns o.turns.before (told_of choices t v).turns) (told_all choices rest x)) r.view ∙ o.turns.whole;
      };
      quiet = λ h. let k = o.quiet h in (
        ap (all_quiet choices rest) r.view ∙ and_right (is_quiet choices t v) (all_quiet choices rest (after_token choices t v)) k.0,
        r.quiet (and_left (is_quiet choices t v) (all_quiet choices rest (after_token choices t v)) k.0) ∙ k.1,
      );
    }

-- no token is left, and at first there was what a builder keeps
pub onward_last : (choices : SinkChoices) (all : List TokenText) (old now : Building) (answers : List Reply) → IsFitting old.view → Onward choices all [] old now answers → RanAll choices all old now answers
unfolding run
onward_last choices all old now answers k o =
    let told : answers ≡ replies choices all old.view = sym (append-nil answers) ∙ o.told in
    let agree = cuts_agree choices all old.view k in
    record {
      view = o.view;
      told = told;
      turns = subst (λ x. CountsTurns x old.turns now.turns) o.turns.whole o.turns.counts;
      quiet = λ h. (o.quiet h).1;
      joined = o.view ∙ agree.views;
      spread = told ∙ agree.replies;
    }

-- a plain document is rebuilt
pub rebuilds_plain : (choices : SinkChoices) (ts : List TokenText) (old new : Building) (answers : List Reply) → RanAll choices ts old new answers → RebuildsPlain ts old new answers
rebuilds_plain choices ts old new answers r d scripting seen holds same j =
    let start : IsStart old.view.world = subst (λ (b : Building). IsStart b.view.world) (sym same) (record { holds = holds; options = refl; mode = refl; none_open = refl; none_listed = refl; no_template_modes = refl; no_head = refl; ignore_lf = refl; no_foster = refl; no_pending = refl; no_form = refl; no_context = refl }) in
    let all = rebuilds_all choices ts old.view d start (ap (λ (b : Building). b.view.ended) same) (ap (λ (b : Building). b.view.failed) same) j in
    record {
      stands = subst (λ (v : View). DocumentStands v.world.forest d) (sym r.view) all.stands;
      quirks = ap (λ (v : View). v.world.seen_quirks) r.view ∙ all.quirks;
      told = r.told ∙ all.answers;
      quiet = λ plain. r.quiet (all.quiet plain);
    }

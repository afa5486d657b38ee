-- How many turns a token takes.
use Rattle.std.proofs.Common.{◌≡◌, [], ℕ, zero, suc, ◌+◌, ◌<◌, ◌≤◌, true, false, Option, Some, None, length, refl, ap, sym, subst, ◌∙◌, arith}
use Rattle.h5_interface.specs.SinkChoices.{SinkChoices}
use Rattle.h5_tables.specs.TurnText.{TurnText, EofTurn}
use Rattle.h5_tables.specs.declared.modes.InsertionMode.{InsertionMode}
use Rattle.h5_tables.specs.declared.modes.InsertionMode.TheVariants.{Initial, BeforeHtml, BeforeHead, InHead, AfterHead, InBody}
use Rattle.h5_builder_spec.specs.Changes.{create_root, insert_element, insert_head, pop, set_mode, set_quirks_mode}
use Rattle.h5_builder_spec.specs.modes.InBody.{body_ends, no_template_mode}
use Rattle.h5_builder_spec.specs.modes.InHead.{template_eof}
use Rattle.h5_builder_spec.specs.modes.InitialMode.{initial_else}
use Rattle.h5_builder_spec.specs.modes.ForeignContent.{dispatch}
use Rattle.h5_builder_spec.specs.modes.Modes.{rule}
use Rattle.h5_builder_spec.specs.Rows.{IsDone, Row, changed_by, choose, next_mode}
use Rattle.h5_builder_spec.specs.Settle.{Settled, by_row, settle, settle_within, then_turns}
use Rattle.h5_builder_spec.specs.World.{World}
use Rattle.h5_builder_laws.proofs.modes.ForeignRowLaws.{dispatch_html, eof_html}
use Rattle.h5_builder_laws.proofs.turns.SettleLaws.{settle-first}

turn_some : (go : World → Settled) (t : TurnText) (r : Row) (w : World) (o : Option InsertionMode) → 0 < (then_turns go t r w o).turns
turn_some go t r w None = omega arith
turn_some go t r w (Some m) = omega arith

pub turns_some : (choices : SinkChoices) (t : TurnText) (w : World) → 0 < (settle choices t w).turns
turns_some choices t w =
    let r = dispatch choices t w in
    let v = changed_by choices r w in
    subst (λ (s : Settled). 0 < s.turns) (sym (settle-first choices t w)) (turn_some (λ u. settle_within choices (15 + length w.stack) t u) t r v (next_mode r.ending v))

turn_few : (go : World → Settled) (n : ℕ) (t : TurnText) (r : Row) (w : World) (o : Option InsertionMode) → 0 < n → ((v : World) → (go v).turns + 1 ≤ n) → (then_turns go t r w o).turns ≤ n
turn_few go n t r w None p h = omega arith
turn_few go n t r w (Some m) p h = h (set_mode m w)

within_few : (choices : SinkChoices) (n : ℕ) (t : TurnText) (w : World) → (settle_within choices n t w).turns ≤ n
unfolding settle_within
within_few choices zero t w = omega arith
within_few choices (suc n) t w =
    let r = dispatch choices t w in
    let v = changed_by choices r w in
    turn_few (λ v. settle_within choices n t v) (suc n) t r v (next_mode r.ending v) (omega arith) (λ u. omega (arith, within_few choices n t u))

pub turns_few : (choices : SinkChoices) (t : TurnText) (w : World) → (settle choices t w).turns ≤ 16 + length w.stack
unfolding settle
turns_few choices t w = within_few choices (16 + length w.stack) t w

-- one more turn, in another mode
within_row : (choices : SinkChoices) (j : ℕ) (w : World) (m : InsertionMode) (r : Row) → w.mode ≡ m → rule m EofTurn w ≡ r → settle_within choices (suc j) EofTurn w ≡ by_row choices (λ v. settle_within choices j EofTurn v) EofTurn r w
unfolding settle_within
within_row choices j w m r e f = ap (λ x. by_row choices (λ v. settle_within choices j EofTurn v) EofTurn x w) (dispatch_html choices EofTurn w (eof_html choices w) ∙ ap (λ k. rule k EofTurn w) e ∙ f)

one_more : (choices : SinkChoices) (j : ℕ) (w : World) (m k : InsertionMode) (r : Row) (n : ℕ) → w.mode ≡ m → rule m EofTurn w ≡ r → next_mode r.ending (changed_by choices r w) ≡ Some k → (changed_by choices r w).template_modes ≡ []
    → ((v : World) → v.mode ≡ k → v.template_modes ≡ [] → (settle_within choices j EofTurn v).turns ≡ n)
    → (settle_within choices (suc j) EofTurn w).turns ≡ n + 1
one_more choices j w m k r n e f a none next =
    ap (λ (s : Settled). s.turns) (within_row choices j w m r e f)
    ∙ ap (λ o. (then_turns (λ v. settle_within choices j EofTurn v) EofTurn r (changed_by choices r w) o).turns) a
    ∙ ap (λ x. x + 1) (next (set_mode k (changed_by choices r w)) refl none)

body_end : (choices : SinkChoices) (j : ℕ) (w : World) → w.mode ≡ InBody → w.template_modes ≡ [] → (settle_within choices (suc j) EofTurn w).turns ≡ 1
body_end choices j w e none =
    ap (λ (s : Settled). s.turns) (within_row choices j w InBody (body_ends [] IsDone w) e (ap (λ ms. choose (no_template_mode ms) (body_ends [] IsDone w) (template_eof w)) none))

after_head_end : (choices : SinkChoices) (j : ℕ) (w : World) → w.mode ≡ AfterHead → w.template_modes ≡ [] → (settle_within choices (suc (suc j)) EofTurn w).turns ≡ 2
unfolding insert_element
after_head_end choices j w e none = one_more choices (suc j) w AfterHead InBody _ 1 e refl refl none (body_end choices j)

in_head_end : (choices : SinkChoices) (j : ℕ) (w : World) → w.mode ≡ InHead → w.template_modes ≡ [] → (settle_within choices (suc (suc (suc j))) EofTurn w).turns ≡ 3
unfolding pop
in_head_end choices j w e none = one_more choices (suc (suc j)) w InHead AfterHead _ 2 e refl refl none (after_head_end choices j)

before_head_end : (choices : SinkChoices) (j : ℕ) (w : World) → w.mode ≡ BeforeHead → w.template_modes ≡ [] → (settle_within choices (suc (suc (suc (suc j)))) EofTurn w).turns ≡ 4
unfolding insert_head insert_element
before_head_end choices j w e none = one_more choices (suc (suc (suc j))) w BeforeHead InHead _ 3 e refl refl none (in_head_end choices j)

before_html_end : (choices : SinkChoices) (j : ℕ) (w : World) → w.mode ≡ BeforeHtml → w.template_modes ≡ [] → (settle_within choices (suc (suc (suc (suc (suc j))))) EofTurn w).turns ≡ 5
unfolding create_root
before_html_end choices j w e none = one_more choices (suc (suc (suc (suc j)))) w BeforeHtml BeforeHead _ 4 e refl refl none (before_head_end choices j)

initial_next : (choices : SinkChoices) (w : World) → next_mode (initial_else EofTurn w).ending (changed_by choices (initial_else EofTurn w) w) ≡ Some BeforeHtml
unfolding initial_else
initial_next choices w = elim w.options.iframe_srcdoc as (λ b. next_mode (choose b _ _).ending (changed_by choices (choose b _ _) w) ≡ Some BeforeHtml) [ true ↦ refl | false ↦ refl ]

initial_modes : (choices : SinkChoices) (w : World) → (changed_by choices (initial_else EofTurn w) w).template_modes ≡ w.template_modes
unfolding initial_else set_quirks_mode
initial_modes choices w = elim w.options.iframe_srcdoc as (λ b. (changed_by choices (choose b _ _) w).template_modes ≡ w.template_modes) [ true ↦ refl | false ↦ refl ]

-- the end of the file alone, at the start
pub end_alone : (choices : SinkChoices) (w : World) → w.mode ≡ Initial → w.template_modes ≡ [] → (settle choices EofTurn w).turns ≡ 6
unfolding settle
end_alone choices w e none =
    let j = 10 + length w.stack in
    let six : 16 + length w.stack ≡ suc (suc (suc (suc (suc (suc j))))) = omega arith in
    ap (λ n. (settle_within choices n EofTurn w).turns) six
    ∙ one_more choices (suc (suc (suc (suc (suc j))))) w Initial BeforeHtml (initial_else EofTurn w) 5 e refl (initial_next choices w) (initial_modes choices w ∙ none) (before_html_end choices j)

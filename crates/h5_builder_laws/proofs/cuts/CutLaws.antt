-- A text that is cut in two is the whole text.
use Rattle.std.proofs.Common.{◌≡◌, ℕ, Bool, true, false, cond, ◌&&◌, List, [], ◌∷◌, ◌++◌, codes, refl, ap, sym, ◌∙◌, append_assoc}
use Rattle.std.proofs.lemmas.List.{append-nil}
use Rattle.h5_interface.specs.SinkChoices.{SinkChoices}
use Rattle.h5_interface.specs.Forest.{ChildText, Forest}
use Rattle.h5_tables.specs.TagSets.{is_html_named}
use Rattle.h5_builder_spec.specs.inner.Fits.{is_before_root}
use Rattle.h5_tables.specs.TurnText.{TextTurn, TurnText}
use Rattle.h5_tables.specs.declared.modes.InsertionMode.{InsertionMode}
use Rattle.h5_tables.specs.declared.modes.SplitStatus.TheVariants.{NotSplit, NotWhitespace, Whitespace}
use Rattle.h5_tables.specs.declared.modes.InsertionMode.TheVariants.{Initial, BeforeHtml, BeforeHead, InHead, InHeadNoscript, AfterHead, InBody, Text, InTable, InTableText, InCaption, InColumnGroup, InTableBody, InRow, InCell, AfterBody, AfterAfterBody, InTemplate, InFrameset, AfterFrameset, AfterAfterFrameset}
use Rattle.h5_builder_spec.specs.Blanks.{is_blank, all_blank, blanks_of, rest_of}
use Rattle.h5_builder_spec.specs.Changes.{append_pending_text, append_text, save_mode, set_foster, set_frameset_ok_by_text, set_mode, with_forest}
use Rattle.h5_builder_spec.specs.insertion.Foreign.{is_foreign_text}
use Rattle.h5_builder_spec.specs.formatting.Formatting.{reconstruct_active_formatting_elements}
use Rattle.h5_builder_spec.specs.modes.AfterBody.{back_to_body}
use Rattle.h5_builder_spec.specs.modes.AfterHead.{after_head_else}
use Rattle.h5_builder_spec.specs.modes.BeforeHead.{before_head_else}
use Rattle.h5_builder_spec.specs.modes.BeforeHtml.{before_html_else}
use Rattle.h5_builder_spec.specs.modes.Modes.{rule}
use Rattle.h5_builder_spec.specs.modes.Shared.{current_is, in_body_text}
use Rattle.h5_builder_spec.specs.inner.Kept.{Fitting}
use Rattle.h5_builder_spec.specs.modes.InColumnGroup.{in_column_group_else}
use Rattle.h5_builder_spec.specs.modes.InHead.{in_head_else}
use Rattle.h5_builder_spec.specs.modes.InHeadNoscript.{in_head_noscript_else}
use Rattle.h5_builder_spec.specs.modes.InTable.{in_table_text_or_null, keeps_text}
use Rattle.h5_builder_spec.specs.modes.InitialMode.{initial_else}
use Rattle.h5_builder_spec.specs.Rows.{Row, choose, row}
use Rattle.h5_builder_spec.specs.Text.{after_row, all_blanks, closes_column_group, foreign_text, fostered_text, if_any, unless_foreign, split, dropped, by_else, text_in_body, text_in_column_group, text_in_table, text_in_table_text, text_after_body, text_after_head, text_in_head, text_in_head_noscript, text_before_head, text_before_html, text_initial, text_in, text_rule}
use Rattle.h5_builder_spec.specs.insertion.Place.{appropriate_place, place, put}
use Rattle.h5_builder_spec.specs.World.{World, names_of}
use Rattle.h5_builder_laws.proofs.cuts.ForeignTextLaws.{Closes, In, KeepsIn, appends_in, blanks_close, bodies_in, body_html, closes_leads, drops_in, else_fitting, foreign_again, foster_foreign, in_root, left_in, pending_in}
use Rattle.h5_builder_spec.proofs.changes.FormattingLaws.{reconstruct_after_flag_and_text}
use Rattle.h5_builder_laws.proofs.cuts.TableTextLaws.{current_name_kept, fostered_keeps}
use Rattle.h5_builder_laws.proofs.cuts.TextForestLaws.{place_same, put_text_twice, text_same}
use Rattle.h5_builder_spec.proofs.changes.TreeLaws.{tree_reconstruct}
use Rattle.h5_builder_spec.proofs.BlankLaws.{all_blank-append}

-- a text is all whitespace, or has a remainder after its whitespace
pub data Cut (t u : List ℕ) : Type 0 where
  AllBlank : blanks_of t ≡ t → rest_of t ≡ [] → blanks_of (t ++ u) ≡ t ++ blanks_of u → rest_of (t ++ u) ≡ rest_of u → Cut t u
  HasRest : (b : ℕ) (r : List ℕ) → rest_of t ≡ b ∷ r → blanks_of (t ++ u) ≡ blanks_of t → rest_of (t ++ u) ≡ (b ∷ r) ++ u → Cut t u

more_blank : (b : ℕ) (t u : List ℕ) → is_blank b ≡ true → Cut t u → Cut (b ∷ t) u
more_blank b t u h (AllBlank e f g i) = AllBlank (rw h (ap (λ x. b ∷ x) e)) (rw h f) (rw h (ap (λ x. b ∷ x) g)) (rw h i)
more_blank b t u h (HasRest d r e f g) = HasRest d r (rw h e) (rw h (ap (λ x. b ∷ x) f)) (rw h g)

pub cut : (t u : List ℕ) → Cut t u
cut [] u = AllBlank refl refl refl refl
cut (b ∷ t) u =
    (elim (is_blank b) as (λ v. is_blank b ≡ v → Cut (b ∷ t) u) [
      | true ↦ λ h. more_blank b t u h (cut t u)
      | false ↦ λ h. HasRest b t (rw h refl) (rw h refl) (rw h refl)
    ]) refl

-- what a rule of blanks keeps
pub record Blanks (f : List ℕ → World → World) : Type 0 where
  twice : (t u : List ℕ) (w : World) → f u (f t w) ≡ f (t ++ u) w
  mode : (t : List ℕ) (w : World) → (f t w).mode ≡ w.mode

drops : Blanks dropped
drops = record { twice = λ t u w. refl; mode = λ t w. refl }

-- the forest after a text that is put twice
forest_twice : (t u : List ℕ) (w : World) → put (place (with_forest (put (place w) (ChildText t) w.forest) w)) (ChildText u) (put (place w) (ChildText t) w.forest) ≡ put (place w) (ChildText (t ++ u)) w.forest
forest_twice t u w =
    ap (λ p. put p (ChildText u) (put (place w) (ChildText t) w.forest)) (place_same w.forest (put (place w) (ChildText t) w.forest) (text_same (place w) t w.forest) w refl)
    ∙ put_text_twice (place w) t u w.forest

appends : Blanks append_text
unfolding append_text
appends = record { twice = λ t u w. ap (λ f. with_forest f w) (forest_twice t u w); mode = λ t w. refl }

and_assoc : (p q r : Bool) → ((p && q) && r) ≡ (p && (q && r))
and_assoc true q r = refl
and_assoc false q r = refl

ok_twice : (o : Bool) (t u : List ℕ) → ((o && all_blank t) && all_blank u) ≡ (o && all_blank (t ++ u))
ok_twice o t u = and_assoc o (all_blank t) (all_blank u) ∙ ap (λ b. o && b) (sym (all_blank-append t u))

abbrev with_text : World → Forest → Bool → World
with_text w f o = record w { forest = f; frameset_ok = o }

-- a text as the body takes it, where all active formatting elements are open
abbrev plain_text : List ℕ → World → World
plain_text t w = append_text t (set_frameset_ok_by_text t w)

plain_twice : (t u : List ℕ) (w : World) → plain_text u (plain_text t w) ≡ plain_text (t ++ u) w
unfolding append_text set_frameset_ok_by_text appropriate_place
plain_twice t u w =
    ap (λ f. with_text w f ((w.frameset_ok && all_blank t) && all_blank u)) (forest_twice t u w)
    ∙ ap (λ o. with_text w (put (place w) (ChildText (t ++ u)) w.forest) o) (ok_twice w.frameset_ok t u)

plain_mode : (t : List ℕ) (w : World) → (plain_text t w).mode ≡ w.mode
unfolding append_text set_frameset_ok_by_text
plain_mode t w = refl

-- after a text nothing is reconstructed any more
in_body_twice : (choices : SinkChoices) → Blanks (text_in_body choices)
unfolding text_in_body
in_body_twice choices = record {
  twice = λ t u w. ap (plain_text u) (reconstruct_after_flag_and_text choices t w) ∙ plain_twice t u (reconstruct_active_formatting_elements choices w);
  mode = λ t w. plain_mode t (reconstruct_active_formatting_elements choices w) ∙ ap (λ (v : World). v.mode) (tree_reconstruct choices w);
}

any_twice : (f : List ℕ → World → World) → Blanks f → (t u : List ℕ) (w : World) → if_any f u (if_any f t w) ≡ if_any f (t ++ u) w
any_twice f b [] u w = refl
any_twice f b (x ∷ t) [] w = ap (λ z. f z w) (sym (append-nil (x ∷ t)))
any_twice f b (x ∷ t) (y ∷ u) w = b.twice (x ∷ t) (y ∷ u) w

any_kept : (P : World → Type 0) (f : List ℕ → World → World) → ((b : ℕ) (t : List ℕ) (w : World) → P w → P (f (b ∷ t) w)) → (t : List ℕ) (w : World) → P w → P (if_any f t w)
any_kept P f keeps [] w h = h
any_kept P f keeps (x ∷ t) w h = keeps x t w h

-- the text rule where the mode is known, and in foreign content
pub by_mode : (choices : SinkChoices) (m : InsertionMode) (t : List ℕ) (w : World) → is_foreign_text choices w ≡ false → w.mode ≡ m → text_rule choices t w ≡ text_in m choices t w
by_mode choices m t w html e = ap (λ c. cond c (foreign_text t w) (text_in w.mode choices t w)) html ∙ ap (λ k. text_in k choices t w) e

pub by_foreign : (choices : SinkChoices) (t : List ℕ) (w : World) → is_foreign_text choices w ≡ true → text_rule choices t w ≡ foreign_text t w
by_foreign choices t w h = ap (λ c. cond c (foreign_text t w) (text_in w.mode choices t w)) h

-- the law of a rule, if something holds: cut, it goes on by the rule of the view that is reached
abbrev LawWhere : SinkChoices → (World → Type 0) → (List ℕ → World → World) → Type 0
LawWhere choices P f = (b : ℕ) (t : List ℕ) (d : ℕ) (u : List ℕ) (w : World) → P w → f ((b ∷ t) ++ d ∷ u) w ≡ text_rule choices (d ∷ u) (f (b ∷ t) w)

-- of a mode, where the text isn't foreign, and wherever it is
abbrev HoldsIn : SinkChoices → InsertionMode → Type 0
HoldsIn choices m = LawWhere choices (In choices m) (text_in m choices)

abbrev HoldsAt : SinkChoices → InsertionMode → Type 0
HoldsAt choices m = (b : ℕ) (t : List ℕ) (d : ℕ) (u : List ℕ) (w : World) → w.mode ≡ m → Fitting w → unless_foreign choices (text_in m choices) ((b ∷ t) ++ d ∷ u) w ≡ text_rule choices (d ∷ u) (unless_foreign choices (text_in m choices) (b ∷ t) w)

holds_at : (choices : SinkChoices) (m : InsertionMode) → HoldsIn choices m → HoldsAt choices m
holds_at choices m law b t d u w e g = at (is_foreign_text choices w) refl
  where
    at : (c : Bool) → is_foreign_text choices w ≡ c → cond c (foreign_text ((b ∷ t) ++ d ∷ u) w) (text_in m choices ((b ∷ t) ++ d ∷ u) w) ≡ text_rule choices (d ∷ u) (cond c (foreign_text (b ∷ t) w) (text_in m choices (b ∷ t) w))
    at true h = sym (plain_twice (b ∷ t) (d ∷ u) w) ∙ sym (by_foreign choices (d ∷ u) (foreign_text (b ∷ t) w) (foreign_again choices (b ∷ t) w ∙ h))
    at false h = law b t d u w (record { mode = e; fitting = g; html = h })

-- a split if something holds that its rule of blanks keeps
split_cut : (choices : SinkChoices) (P : World → Type 0) (blanks others : List ℕ → World → World) → Blanks blanks → ((b : ℕ) (t : List ℕ) (w : World) → P w → P (blanks (b ∷ t) w)) → LawWhere choices P others → ((t : List ℕ) (w : World) → P w → text_rule choices t w ≡ split blanks others t w)
    → (t : List ℕ) (d : ℕ) (u : List ℕ) (w : World) → P w → Cut t (d ∷ u) → split blanks others (t ++ d ∷ u) w ≡ text_rule choices (d ∷ u) (split blanks others t w)
split_cut choices P blanks others bs keeps law is t d u w h (AllBlank e f g i) =
    let v = if_any blanks t w in
    let left : split blanks others (t ++ d ∷ u) w ≡ split blanks others (d ∷ u) v = rw (g, i) (ap (λ x. if_any others (rest_of (d ∷ u)) x) (sym (any_twice blanks bs t (blanks_of (d ∷ u)) w))) in
    let right : split blanks others t w ≡ v = rw (e, f) refl in
    left ∙ sym (is (d ∷ u) v (any_kept P blanks keeps t w h)) ∙ ap (λ x. text_rule choices (d ∷ u) x) (sym right)
split_cut choices P blanks others bs keeps law is t d u w h (HasRest b r e f g) =
    let v = if_any blanks (blanks_of t) w in
    let left : split blanks others (t ++ d ∷ u) w ≡ others ((b ∷ r) ++ d ∷ u) v = rw (f, g) refl in
    let right : split blanks others t w ≡ others (b ∷ r) v = rw e refl in
    left ∙ law b r d u v (any_kept P blanks keeps (blanks_of t) w h) ∙ ap (λ x. text_rule choices (d ∷ u) x) (sym right)

-- a rule of "anything else" that looks at no text leads to one mode
pub record Leads (choices : SinkChoices) (r : TurnText → World → Row) (m : InsertionMode) : Type 0 where
  pub same : (t u : List ℕ) (w : World) → r (TextTurn NotWhitespace t) w ≡ r (TextTurn NotWhitespace u) w
  pub mode : (t : List ℕ) (w : World) → (after_row choices (r (TextTurn NotWhitespace t) w) w).mode ≡ m

pub leads_back : (choices : SinkChoices) → Leads choices back_to_body InBody
leads_back choices = record { same = λ t u w. refl; mode = λ t w. refl }

pub leads_after_head : (choices : SinkChoices) → Leads choices after_head_else InBody
leads_after_head choices = record { same = λ t u w. refl; mode = λ t w. refl }

pub leads_in_head : (choices : SinkChoices) → Leads choices in_head_else AfterHead
leads_in_head choices = record { same = λ t u w. refl; mode = λ t w. refl }

pub leads_in_head_noscript : (choices : SinkChoices) → Leads choices in_head_noscript_else InHead
leads_in_head_noscript choices = record { same = λ t u w. refl; mode = λ t w. refl }

pub leads_before_head : (choices : SinkChoices) → Leads choices before_head_else InHead
leads_before_head choices = record { same = λ t u w. refl; mode = λ t w. refl }

pub leads_before_html : (choices : SinkChoices) → Leads choices before_html_else BeforeHead
leads_before_html choices = record { same = λ t u w. refl; mode = λ t w. refl }

pub leads_initial : (choices : SinkChoices) → Leads choices initial_else BeforeHtml
unfolding initial_else
leads_initial choices = record {
  same = λ t u w. refl;
  mode = λ t w. elim w.options.iframe_srcdoc as (λ b. (after_row choices (choose b _ _) w).mode ≡ BeforeHtml) [ true ↦ refl | false ↦ refl ];
}

-- "anything else" if something holds, by which the mode is known and leads to another
else_law : (choices : SinkChoices) (P : World → Type 0) (m k : InsertionMode) (r : TurnText → World → Row) → ((w : World) → P w → In choices m w) → ((t u : List ℕ) (w : World) → r (TextTurn NotWhitespace t) w ≡ r (TextTurn NotWhitespace u) w)
    → ((t : List ℕ) (w : World) → P w → (after_row choices (r (TextTurn NotWhitespace t) w) w).mode ≡ k) → ((t : List ℕ) (w : World) → rule m (TextTurn NotWhitespace t) w ≡ r (TextTurn NotWhitespace t) w) → HoldsAt choices k
    → LawWhere choices P (by_else choices r (text_in k choices))
else_law choices P m k r ins same leads is next b t d u w h =
    ap (λ x. unless_foreign choices (text_in k choices) ((b ∷ t) ++ d ∷ u) (after_row choices x w)) (same ((b ∷ t) ++ d ∷ u) (b ∷ t) w)
    ∙ next b t d u (after_row choices (r (TextTurn NotWhitespace (b ∷ t)) w) w) (leads (b ∷ t) w h) (else_fitting choices m k r is b t w (ins w h))

-- a mode that splits, and leads to one mode
splits_holds : (choices : SinkChoices) (m k : InsertionMode) (blanks : List ℕ → World → World) (r : TurnText → World → Row) → Blanks blanks → KeepsIn choices m blanks → Leads choices r k → ((t : List ℕ) (w : World) → rule m (TextTurn NotWhitespace t) w ≡ r (TextTurn NotWhitespace t) w)
    → ((t : List ℕ) (w : World) → text_in m choices t w ≡ split blanks (by_else choices r (text_in k choices)) t w) → HoldsAt choices k → HoldsAt choices m
splits_holds choices m k blanks r bs keeps leads is split_is next = holds_at choices m inside
  where
    inside : HoldsIn choices m
    inside b t d u w i =
        split_is ((b ∷ t) ++ d ∷ u) w
        ∙ split_cut choices (In choices m) blanks (by_else choices r (text_in k choices)) bs keeps (else_law choices (In choices m) m k r (λ v j. j) leads.same (λ x v j. leads.mode x v) is next) (λ x v j. by_mode choices m x v j.html j.mode ∙ split_is x v) (b ∷ t) d u w i
        (cut (b ∷ t) (d ∷ u))
        ∙ ap (text_rule choices (d ∷ u)) (sym (split_is (b ∷ t) w))

-- a rule that keeps the mode, and of which two are one
stays_holds : (choices : SinkChoices) (m : InsertionMode) (f : List ℕ → World → World) → Blanks f → KeepsIn choices m f → ((t : List ℕ) (w : World) → text_in m choices t w ≡ f t w) → HoldsIn choices m
stays_holds choices m f bs keeps is b t d u w i =
    let v = f (b ∷ t) w in
    let j = keeps b t w i in
    is ((b ∷ t) ++ d ∷ u) w ∙ sym (bs.twice (b ∷ t) (d ∷ u) w) ∙ sym (by_mode choices m (d ∷ u) v j.html j.mode ∙ is (d ∷ u) v) ∙ ap (text_rule choices (d ∷ u)) (sym (is (b ∷ t) w))

body_holds : (choices : SinkChoices) (m : InsertionMode) → is_before_root m ≡ false → ((t : List ℕ) (w : World) → rule m (TextTurn NotSplit t) w ≡ in_body_text t w) → ((t : List ℕ) (w : World) → text_in m choices t w ≡ text_in_body choices t w) → HoldsAt choices m
body_holds choices m after row is = holds_at choices m (stays_holds choices m (text_in_body choices) (in_body_twice choices) (bodies_in choices m NotSplit after row) is)

in_body_holds : (choices : SinkChoices) → HoldsAt choices InBody
in_body_holds choices = body_holds choices InBody refl (λ t w. refl) (λ t w. refl)

-- a buffered text is appended to what is buffered already
kept_twice : Blanks text_in_table_text
unfolding append_pending_text
kept_twice = record { twice = λ t u w. ap (λ p. let x : World = record w { pending = p } in x) (append_assoc w.pending t u); mode = λ t w. refl }

table_text_in_holds : (choices : SinkChoices) → HoldsIn choices InTableText
table_text_in_holds choices = stays_holds choices InTableText text_in_table_text kept_twice (pending_in choices) (λ t w. refl)

after_body_holds : (choices : SinkChoices) (m : InsertionMode) → is_before_root m ≡ false → ((t : List ℕ) (w : World) → rule m (TextTurn Whitespace t) w ≡ in_body_text t w) → ((t : List ℕ) (w : World) → rule m (TextTurn NotWhitespace t) w ≡ back_to_body (TextTurn NotWhitespace t) w)
    → ((t : List ℕ) (w : World) → text_in m choices t w ≡ text_after_body choices t w) → HoldsAt choices m
unfolding text_after_body
after_body_holds choices m after blank other is =
    splits_holds choices m InBody (text_in_body choices) back_to_body (in_body_twice choices) (bodies_in choices m Whitespace after blank) (leads_back choices) other is (in_body_holds choices)

after_head_holds : (choices : SinkChoices) → HoldsAt choices AfterHead
unfolding text_after_head
after_head_holds choices = splits_holds choices AfterHead InBody append_text after_head_else appends (appends_in choices AfterHead) (leads_after_head choices) (λ t w. refl) (λ t w. refl) (in_body_holds choices)

in_head_holds : (choices : SinkChoices) → HoldsAt choices InHead
unfolding text_in_head
in_head_holds choices = splits_holds choices InHead AfterHead append_text in_head_else appends (appends_in choices InHead) (leads_in_head choices) (λ t w. refl) (λ t w. refl) (after_head_holds choices)

in_head_noscript_holds : (choices : SinkChoices) → HoldsAt choices InHeadNoscript
unfolding text_in_head_noscript
in_head_noscript_holds choices = splits_holds choices InHeadNoscript InHead append_text in_head_noscript_else appends (appends_in choices InHeadNoscript) (leads_in_head_noscript choices) (λ t w. refl) (λ t w. refl) (in_head_holds choices)

before_head_holds : (choices : SinkChoices) → HoldsAt choices BeforeHead
unfolding text_before_head
before_head_holds choices = splits_holds choices BeforeHead InHead dropped before_head_else drops (drops_in choices BeforeHead) (leads_before_head choices) (λ t w. refl) (λ t w. refl) (in_head_holds choices)

before_html_holds : (choices : SinkChoices) → HoldsAt choices BeforeHtml
unfolding text_before_html
before_html_holds choices = splits_holds choices BeforeHtml BeforeHead dropped before_html_else drops (drops_in choices BeforeHtml) (leads_before_html choices) (λ t w. refl) (λ t w. refl) (before_head_holds choices)

initial_holds : (choices : SinkChoices) → HoldsAt choices Initial
unfolding text_initial
initial_holds choices = splits_holds choices Initial BeforeHtml dropped initial_else drops (drops_in choices Initial) (leads_initial choices) (λ t w. refl) (λ t w. refl) (before_html_holds choices)

-- what is fostered twice is fostered once: the flag goes off and on again
body_foster : (choices : SinkChoices) (t : List ℕ) (w : World) → (text_in_body choices t w).foster ≡ w.foster
unfolding text_in_body append_text set_frameset_ok_by_text
body_foster choices t w = ap (λ (v : World). v.foster) (tree_reconstruct choices w)

fostered_twice : (choices : SinkChoices) (t u : List ℕ) (w : World) → fostered_text choices u (fostered_text choices t w) ≡ fostered_text choices (t ++ u) w
fostered_twice choices t u w =
    let v = text_in_body choices t (set_foster true w) in
    let on : set_foster true (set_foster false v) ≡ v = ap (λ b. set_foster b v) (sym (body_foster choices t (set_foster true w))) in
    ap (λ x. set_foster false (text_in_body choices u x)) on ∙ ap (set_foster false) ((in_body_twice choices).twice t u (set_foster true w))

fostered_mode : (choices : SinkChoices) (t : List ℕ) (w : World) → (fostered_text choices t w).mode ≡ w.mode
fostered_mode choices t w = (in_body_twice choices).mode t (set_foster true w)

-- in a table, a row group and a row: either way
kept_back : (choices : SinkChoices) (t : List ℕ) (w : World) → keeps_text w ≡ true → text_in_table choices t w ≡ text_in_table_text t (set_mode InTableText (save_mode w))
unfolding text_in_table
kept_back choices t w e = ap (λ b. cond b (text_in_table_text t (set_mode InTableText (save_mode w))) (fostered_text choices t w)) e

fosters : (choices : SinkChoices) (t : List ℕ) (w : World) → keeps_text w ≡ false → text_in_table choices t w ≡ fostered_text choices t w
unfolding text_in_table
fosters choices t w e = ap (λ b. cond b (text_in_table_text t (set_mode InTableText (save_mode w))) (fostered_text choices t w)) e

-- what is fostered isn't foreign afterwards
fostered_html : (choices : SinkChoices) (m : InsertionMode) (b : ℕ) (t : List ℕ) (w : World) → is_before_root m ≡ false → In choices m w → is_foreign_text choices (fostered_text choices (b ∷ t) w) ≡ false
unfolding names_of
fostered_html choices m b t w after i =
    foster_foreign choices false (text_in_body choices (b ∷ t) (set_foster true w)) ∙ body_html choices (b ∷ t) (set_foster true w) i.fitting.sound (in_root after i) (foster_foreign choices true w ∙ i.html)

table_holds : (choices : SinkChoices) (m : InsertionMode) → is_before_root m ≡ false → ((t : List ℕ) (w : World) → rule m (TextTurn NotSplit t) w ≡ in_table_text_or_null (TextTurn NotSplit t) w) → ((t : List ℕ) (w : World) → text_in m choices t w ≡ text_in_table choices t w) → HoldsAt choices m
table_holds choices m after row is = holds_at choices m (λ b t d u w i. is ((b ∷ t) ++ d ∷ u) w ∙ at b t d u w i (keeps_text w) refl ∙ ap (text_rule choices (d ∷ u)) (sym (is (b ∷ t) w)))
  where
    at : (b : ℕ) (t : List ℕ) (d : ℕ) (u : List ℕ) (w : World) → In choices m w → (o : Bool) → keeps_text w ≡ o → text_in_table choices ((b ∷ t) ++ d ∷ u) w ≡ text_rule choices (d ∷ u) (text_in_table choices (b ∷ t) w)
    at b t d u w i true e =
        kept_back choices ((b ∷ t) ++ d ∷ u) w e
        ∙ table_text_in_holds choices b t d u (set_mode InTableText (save_mode w)) (left_in choices m row w e i)
        ∙ ap (text_rule choices (d ∷ u)) (sym (kept_back choices (b ∷ t) w e))
    at b t d u w i false e =
        let v = fostered_text choices (b ∷ t) w in
        fosters choices ((b ∷ t) ++ d ∷ u) w e
        ∙ sym (fostered_twice choices (b ∷ t) (d ∷ u) w)
        ∙ sym (fosters choices (d ∷ u) v (fostered_keeps choices (b ∷ t) w i.fitting.sound.formatting e))
        ∙ sym (by_mode choices m (d ∷ u) v (fostered_html choices m b t w after i) (fostered_mode choices (b ∷ t) w ∙ i.mode) ∙ is (d ∷ u) v)
        ∙ ap (text_rule choices (d ∷ u)) (sym (fosters choices (b ∷ t) w e))

in_table_holds : (choices : SinkChoices) → HoldsAt choices InTable
in_table_holds choices = table_holds choices InTable refl (λ t w. refl) (λ t w. refl)

-- blanks alone
all_blanks-append : (t u : List ℕ) → all_blanks (t ++ u) ≡ all_blanks t ++ all_blanks u
all_blanks-append [] u = refl
all_blanks-append (b ∷ t) u = elim (is_blank b) as (λ v. cond v (b ∷ all_blanks (t ++ u)) (all_blanks (t ++ u)) ≡ cond v (b ∷ all_blanks t) (all_blanks t) ++ all_blanks u) [
  | true ↦ ap (λ x. b ∷ x) (all_blanks-append t u)
  | false ↦ all_blanks-append t u
]

column_closes : (choices : SinkChoices) (t : List ℕ) (w : World) → current_is (codes "colgroup") w ≡ true → text_in_column_group choices t w ≡ closes_column_group choices t w
unfolding text_in_column_group
column_closes choices t w e = ap (λ b. cond b (closes_column_group choices t w) (if_any append_text (all_blanks t) w)) e

column_stays : (choices : SinkChoices) (t : List ℕ) (w : World) → current_is (codes "colgroup") w ≡ false → text_in_column_group choices t w ≡ if_any append_text (all_blanks t) w
unfolding text_in_column_group
column_stays choices t w e = ap (λ b. cond b (closes_column_group choices t w) (if_any append_text (all_blanks t) w)) e

blanks_alone : (choices : SinkChoices) (m : InsertionMode) (P : World → Type 0) (f : List ℕ → World → World) → Blanks f → ((w : World) → P w → In choices m w) → ((b : ℕ) (t : List ℕ) (w : World) → P w → P (f (b ∷ t) w)) → ((t : List ℕ) (w : World) → P w → text_in m choices t w ≡ if_any f (all_blanks t) w) → LawWhere choices P (text_in m choices)
blanks_alone choices m P f bs ins keeps is b t d u w i =
    let v = if_any f (all_blanks (b ∷ t)) w in
    let j = any_kept P f keeps (all_blanks (b ∷ t)) w i in
    is ((b ∷ t) ++ d ∷ u) w i
    ∙ ap (λ x. if_any f x w) (all_blanks-append (b ∷ t) (d ∷ u))
    ∙ sym (any_twice f bs (all_blanks (b ∷ t)) (all_blanks (d ∷ u)) w)
    ∙ sym (by_mode choices m (d ∷ u) v (ins v j).html (ins v j).mode ∙ is (d ∷ u) v j)
    ∙ ap (text_rule choices (d ∷ u)) (sym (is (b ∷ t) w i))

-- in a column group that isn't closed
record Stays (choices : SinkChoices) (w : World) : Type 0 where
  inside : In choices InColumnGroup w
  current : current_is (codes "colgroup") w ≡ false

column_group_holds : (choices : SinkChoices) → HoldsAt choices InColumnGroup
column_group_holds choices = holds_at choices InColumnGroup (λ b t d u w i. at b t d u w i (current_is (codes "colgroup") w) refl)
  where
    at : (b : ℕ) (t : List ℕ) (d : ℕ) (u : List ℕ) (w : World) → In choices InColumnGroup w → (o : Bool) → current_is (codes "colgroup") w ≡ o → text_in_column_group choices ((b ∷ t) ++ d ∷ u) w ≡ text_rule choices (d ∷ u) (text_in_column_group choices (b ∷ t) w)
    at b t d u w i true e =
        column_closes choices ((b ∷ t) ++ d ∷ u) w e
        ∙ split_cut choices (Closes choices) append_text (by_else choices in_column_group_else (text_in_table choices)) appends (blanks_close choices)
        (else_law choices (Closes choices) InColumnGroup InTable in_column_group_else (λ v c. c.inside) (λ x y v. refl) (closes_leads choices) (λ x v. refl) (in_table_holds choices))
        (λ x v c. by_mode choices InColumnGroup x v c.inside.html c.inside.mode ∙ column_closes choices x v c.current) (b ∷ t) d u w (record { inside = i; current = e }) (cut (b ∷ t) (d ∷ u))
        ∙ ap (text_rule choices (d ∷ u)) (sym (column_closes choices (b ∷ t) w e))
    at b t d u w i false e =
        blanks_alone choices InColumnGroup (Stays choices) append_text appends (λ v c. c.inside)
        (λ x y v c. record { inside = appends_in choices InColumnGroup x y v c.inside; current = current_name_kept (is_html_named (codes "colgroup")) (x ∷ y) v ∙ c.current })
        (λ x v c. column_stays choices x v c.current) b t d u w (record { inside = i; current = e })

-- in and after framesets
frameset_holds : (choices : SinkChoices) (m : InsertionMode) (f : List ℕ → World → World) → Blanks f → KeepsIn choices m f → ((t : List ℕ) (w : World) → text_in m choices t w ≡ if_any f (all_blanks t) w) → HoldsAt choices m
frameset_holds choices m f bs keeps is = holds_at choices m (blanks_alone choices m (In choices m) f bs (λ v j. j) keeps (λ x v j. is x v))

holds : (choices : SinkChoices) (m : InsertionMode) → HoldsAt choices m
holds choices Initial = initial_holds choices
holds choices BeforeHtml = before_html_holds choices
holds choices BeforeHead = before_head_holds choices
holds choices InHead = in_head_holds choices
holds choices InHeadNoscript = in_head_noscript_holds choices
holds choices AfterHead = after_head_holds choices
holds choices InBody = in_body_holds choices
holds choices Text = holds_at choices Text (stays_holds choices Text append_text appends (appends_in choices Text) (λ t w. refl))
holds choices InTable = in_table_holds choices
holds choices InTableText = holds_at choices InTableText (table_text_in_holds choices)
holds choices InCaption = body_holds choices InCaption refl (λ t w. refl) (λ t w. refl)
holds choices InColumnGroup = column_group_holds choices
holds choices InTableBody = table_holds choices InTableBody refl (λ t w. refl) (λ t w. refl)
holds choices InRow = table_holds choices InRow refl (λ t w. refl) (λ t w. refl)
holds choices InCell = body_holds choices InCell refl (λ t w. refl) (λ t w. refl)
holds choices AfterBody = after_body_holds choices AfterBody refl (λ t w. refl) (λ t w. refl) (λ t w. refl)
holds choices AfterAfterBody = after_body_holds choices AfterAfterBody refl (λ t w. refl) (λ t w. refl) (λ t w. refl)
holds choices InTemplate = body_holds choices InTemplate refl (λ t w. refl) (λ t w. refl)
holds choices InFrameset = frameset_holds choices InFrameset append_text appends (appends_in choices InFrameset) (λ t w. refl)
holds choices AfterFrameset = frameset_holds choices AfterFrameset append_text appends (appends_in choices AfterFrameset) (λ t w. refl)
holds choices AfterAfterFrameset = frameset_holds choices AfterAfterFrameset (text_in_body choices) (in_body_twice choices) (bodies_in choices AfterAfterFrameset Whitespace refl (λ t w. refl)) (λ t w. refl)

-- The rule on two texts joined is the rule on the first, and then the text rule of the view that is reached on the
-- second, if a builder keeps what it should. The listed elements then have names of formatting elements: if a `table`
-- were listed, it could get a new element when a text of a table is fostered, and what follows would be buffered. And
-- in a fragment an element is open: if none were, a new one would leave the context as the adjusted current node.
pub text_cut : (choices : SinkChoices) (b : ℕ) (t : List ℕ) (d : ℕ) (u : List ℕ) (w : World) → Fitting w → text_rule choices ((b ∷ t) ++ d ∷ u) w ≡ text_rule choices (d ∷ u) (text_rule choices (b ∷ t) w)
text_cut choices b t d u w g = holds choices w.mode b t d u w refl g

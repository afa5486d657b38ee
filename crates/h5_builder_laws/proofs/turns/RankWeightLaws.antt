-- The weights in the rank: what the end of the file and a start tag that closes a table take, and what both are at most.
use Rattle.std.proofs.Common.{◌≡◌, ◌<◌, ◌≤◌, ◌+◌, ◌*◌, suc, Bool, true, false, cond, List, [], ◌∷◌, length, Option, Some, refl, ap, sym, subst, arith}
use Rattle.h5_names.specs.declared.qualified.QualName.{QualName}
use Rattle.h5_tables.specs.declared.modes.InsertionMode.{InsertionMode}
use Rattle.h5_tables.specs.declared.modes.InsertionMode.TheVariants.{Initial, BeforeHtml, BeforeHead, InHead, InHeadNoscript, AfterHead, InBody, Text, InTable, InTableText, InCaption, InColumnGroup, InTableBody, InRow, InCell, InTemplate, AfterBody, InFrameset, AfterFrameset, AfterAfterBody, AfterAfterFrameset}
use Rattle.h5_builder_spec.specs.inner.Fits.{AllKinds, Fits, Placed, is_table_mode, PlacedBelow, goes_by_body, is_template_mode, is_whole, may_be_left}
use Rattle.h5_builder_spec.specs.reset.Situation.{Situation}
use Rattle.h5_builder_spec.specs.inner.Floors.{Grounded, RootIs, above, in_head, on_body, on_root, on_template}
use Rattle.h5_builder_spec.specs.inner.Frames.{Cut, here, passes_table_scope, passes_to_template, there}
use Rattle.h5_builder_spec.specs.inner.NamesFit.{NamesFit}
use Rattle.h5_builder_spec.specs.reset.ResetByRoles.{context_or, decide, decide_root, first_mode, reset}
use Rattle.h5_builder_spec.specs.reset.Roles.{CellRole, ColgroupRole, HeadRole, HtmlRole, PlainRole, Role, TableRole, TemplateRole, count_roles, has_role, is_base, is_template, later_roles, roles}
use Rattle.h5_builder_spec.proofs.fitting.NamesFitLaws.{roles_length}
use Rattle.h5_builder_laws.proofs.turns.Ranks as ranks
use Rattle.h5_builder_laws.proofs.turns.Ranks.{CellTurns, ColTurns, EndHtmlTurns, EndPartTurns, EofTurns, OtherTurns, PartTurns, RowTurns, StartTableTurns, TextTurns, TurnKind, chain, early_below, eof_rank, eof_weight, is_early, is_frameset_mode, is_table_like, rank, rank_in, rank_saved}
use Rattle.h5_builder_spec.proofs.fitting.TemplateNameLaws.{template_count}

-- in a mode that may be left for a text, and before the root is made, the rank is that of the table of ranks
abbrev pub is_usual : InsertionMode → Bool
is_usual Text = false
is_usual InTableText = false
is_usual _ = true

pub rank_usual : (c : TurnKind) (s : Situation) (m : InsertionMode) (ns : List Role) → is_usual m ≡ true → rank c s m ns ≡ rank_in c m ns
rank_usual c s Text ns h = absurd (cc)
rank_usual c s InTableText ns h = absurd (cc)
rank_usual EofTurns s _ ns h = refl
rank_usual TextTurns s _ ns h = refl
rank_usual _ s _ ns h = refl

left_usual : (m : InsertionMode) → may_be_left m ≡ true → is_usual m ≡ true
left_usual Text h = absurd (cc)
left_usual InTableText h = absurd (cc)
left_usual _ h = refl

-- counts
count_fewer : (p : Role → Bool) (ns : List Role) → count_roles p ns ≤ length ns
count_fewer p [] = omega arith
count_fewer p (n ∷ ns) = at (p n) (count_fewer p ns)
  where
    at : (b : Bool) → count_roles p ns ≤ length ns → cond b (suc (count_roles p ns)) (count_roles p ns) ≤ length (n ∷ ns)
    at true h = omega (arith, h)
    at false h = omega (arith, h)

count_later : (p : Role → Bool) (n : Role) (ns : List Role) → count_roles p ns ≤ count_roles p (n ∷ ns)
count_later p n ns = at (p n)
  where
    at : (b : Bool) → count_roles p ns ≤ cond b (suc (count_roles p ns)) (count_roles p ns)
    at true = omega arith
    at false = omega arith

early_fewer : (ns : List Role) → early_below ns ≤ count_roles is_early ns
early_fewer [] = omega arith
early_fewer (n ∷ ns) = at (is_template n) (early_fewer ns) (count_later is_early n ns)
  where
    at : (b : Bool) → early_below ns ≤ count_roles is_early ns → count_roles is_early ns ≤ count_roles is_early (n ∷ ns) → cond b (count_roles is_early ns) (early_below ns) ≤ count_roles is_early (n ∷ ns)
    at true h k = k
    at false h k = omega (arith, h, k)

-- the weight of the end of the file, whether a template is open or not
weight_at_most : (ns : List Role) → eof_weight ns ≤ count_roles is_template ns + 3 * early_below ns + 1
weight_at_most ns = at (has_role is_template ns)
  where
    at : (b : Bool) → cond b (count_roles is_template ns + 3 * early_below ns + 1) 1 ≤ count_roles is_template ns + 3 * early_below ns + 1
    at true = omega arith
    at false = omega arith

weight_some : (ns : List Role) → 1 ≤ eof_weight ns
weight_some ns = at (has_role is_template ns)
  where
    at : (b : Bool) → 1 ≤ cond b (count_roles is_template ns + 3 * early_below ns + 1) 1
    at true = omega arith
    at false = omega arith

-- what isn't a template changes no weight, and a template that is popped adds none
pub weight_push : (n : Role) (ns : List Role) → is_template n ≡ false → eof_weight (n ∷ ns) ≡ eof_weight ns
weight_push TemplateRole ns h = absurd (cc)
weight_push _ ns h = refl

pub weight_pop : (n : Role) (ns : List Role) → eof_weight ns ≤ eof_weight (n ∷ ns)
weight_pop TemplateRole ns = let w = weight_at_most ns in let e = early_fewer ns in omega (arith, w, e)
weight_pop _ ns = omega arith

-- the modes before the body, at the end of the file
module _ (s t : Situation) (old new : List Role) where
  pub eof_falls : (m k : InsertionMode) → ranks.Again EofTurns m k → eof_weight new ≤ eof_weight old → rank EofTurns t k new < rank EofTurns s m old
  eof_falls m k (ranks.initial _) w = omega (arith, w)
  eof_falls m k (ranks.before_html _) w = omega (arith, w)
  eof_falls m k (ranks.before_head _) w = omega (arith, w)
  eof_falls m k (ranks.in_head_noscript _) w = omega (arith, w)
  eof_falls m k (ranks.in_head _) w = omega (arith, w)
  eof_falls m k (ranks.after_head _) w = omega (arith, w)
  eof_falls m k (ranks.after_body _ l) w = absurd (cc)
  eof_falls m k (ranks.after_after_body _ l) w = absurd (cc)

-- with no more weight no higher rank
rank_in_less : (c : TurnKind) (m : InsertionMode) (old new : List Role) → eof_weight new ≤ eof_weight old → count_roles is_table_like new ≤ count_roles is_table_like old → rank_in c m new ≤ rank_in c m old
rank_in_less EofTurns AfterBody old new w n = omega arith
rank_in_less EofTurns AfterAfterBody old new w n = omega arith
rank_in_less EofTurns InFrameset old new w n = omega arith
rank_in_less EofTurns AfterFrameset old new w n = omega arith
rank_in_less EofTurns AfterAfterFrameset old new w n = omega arith
rank_in_less EofTurns _ old new w n = omega (arith, w)
rank_in_less StartTableTurns InRow old new w n = omega (arith, n)
rank_in_less StartTableTurns _ old new w n = omega (arith, n)
rank_in_less TextTurns m old new w n = omega arith
rank_in_less _ m old new w n = omega arith

-- a mode that was left for a text is taken up again: at the end of the file, and after a text in a table
pub text_falls : (s t : Situation) (m : InsertionMode) (ns : List Role) → may_be_left m ≡ true → s.saved_mode ≡ Some m → rank EofTurns t m (later_roles ns) < rank EofTurns s Text ns
text_falls s t m ns h e =
    let k = rank_usual EofTurns t m (later_roles ns) (left_usual m h) in
    let l : rank_saved EofTurns s.saved_mode (later_roles ns) ≡ 1 + rank_in EofTurns m (later_roles ns) = ap (λ o. rank_saved EofTurns o (later_roles ns)) e in
    omega (arith, k, l)

-- the kinds of tokens whose rank weighs open elements
abbrev pub is_weighed : TurnKind → Bool
is_weighed EofTurns = true
is_weighed StartTableTurns = true
is_weighed _ = false

abbrev pub is_text : TurnKind → Bool
is_text TextTurns = true
is_text _ = false

pub table_text_falls : (c : TurnKind) (s t : Situation) (m : InsertionMode) (old new : List Role) → is_text c ≡ false → is_table_mode m ≡ true → s.saved_mode ≡ Some m → eof_weight new ≤ eof_weight old → count_roles is_table_like new ≤ count_roles is_table_like old
    → rank c t m new < rank c s InTableText old
table_text_falls c s t m old new h i e w n =
    let k = rank_usual c t m new (table_usual m i) in
    let l : rank_saved c s.saved_mode old ≡ 1 + rank_in c m old = ap (λ o. rank_saved c o old) e in
    let j = in_text c h in
    let o = rank_in_less c m old new w n in
    omega (arith, k, l, j, o)
  where
    table_usual : (m : InsertionMode) → is_table_mode m ≡ true → is_usual m ≡ true
    table_usual Text h = absurd (cc)
    table_usual InTableText h = absurd (cc)
    table_usual _ h = refl

    in_text : (c : TurnKind) → is_text c ≡ false → rank c s InTableText old ≡ rank_saved c s.saved_mode old
    in_text TextTurns h = absurd (cc)
    in_text _ h = refl

-- the mode that a reset chooses isn't further from the body than the `html` and `head` elements say
kind_chain : (ms : List InsertionMode) → AllKinds ms → (chain (first_mode ms) ≡ 0) × (is_usual (first_mode ms) ≡ true)
kind_chain [] k = (refl, refl)
kind_chain (m ∷ ms) k = at m k.0
  where
    at : (m : InsertionMode) → is_template_mode m ≡ true → (chain m ≡ 0) × (is_usual m ≡ true)
    at InTemplate h = (refl, refl)
    at InTable h = (refl, refl)
    at InColumnGroup h = (refl, refl)
    at InTableBody h = (refl, refl)
    at InRow h = (refl, refl)
    at InBody h = (refl, refl)
    at _ h = absurd (cc)

html_chain : (s : Situation) → chain (cond s.has_head AfterHead BeforeHead) ≤ 3
html_chain s = at s.has_head
  where
    at : (b : Bool) → chain (cond b AfterHead BeforeHead) ≤ 3
    at true = omega arith
    at false = omega arith

root_chain : (s : Situation) (n : Role) → AllKinds s.template_modes → chain (decide_root s n) ≤ 3
root_chain s TemplateRole k = let e = (kind_chain s.template_modes k).0 in omega (arith, e)
root_chain s HtmlRole k = html_chain s
root_chain s CellRole k = omega arith
root_chain s HeadRole k = omega arith
root_chain s _ k = omega arith

reset_chain : (s : Situation) (ns : List Role) → AllKinds s.template_modes → RootIs ns → chain (reset s ns) + 3 * early_below ns ≤ 3 * count_roles is_early ns
reset_chain s [] k r = omega arith
reset_chain s (HtmlRole ∷ []) k r = let e = root_chain s (context_or HtmlRole s.context) k in omega (arith, e)
reset_chain s (_ ∷ []) k r = absurd (cc)
reset_chain s (n ∷ m ∷ ns) k r = at n (reset_chain s (m ∷ ns) k r) (early_fewer (m ∷ ns))
  where
    at : (n : Role) → chain (reset s (m ∷ ns)) + 3 * early_below (m ∷ ns) ≤ 3 * count_roles is_early (m ∷ ns) → early_below (m ∷ ns) ≤ count_roles is_early (m ∷ ns)
        → chain (decide s n (reset s (m ∷ ns))) + 3 * early_below (n ∷ m ∷ ns) ≤ 3 * count_roles is_early (n ∷ m ∷ ns)
    at PlainRole h f = h
    at TemplateRole h f = let e = (kind_chain s.template_modes k).0 in omega (arith, e)
    at HtmlRole h f = let e = html_chain s in omega (arith, e, f)
    at HeadRole h f = omega (arith, f)
    at _ h f = omega (arith, f)

reset_near : (s : Situation) (ns : List Role) → AllKinds s.template_modes → chain (reset s ns) ≤ 3
reset_near s [] k = omega arith
reset_near s (n ∷ []) k = root_chain s (context_or n s.context) k
reset_near s (n ∷ m ∷ ns) k = at n (reset_near s (m ∷ ns) k)
  where
    at : (n : Role) → chain (reset s (m ∷ ns)) ≤ 3 → chain (decide s n (reset s (m ∷ ns))) ≤ 3
    at PlainRole h = h
    at TemplateRole h = let e = (kind_chain s.template_modes k).0 in omega (arith, e)
    at HtmlRole h = html_chain s
    at _ h = omega arith

html_usual : (s : Situation) → is_usual (cond s.has_head AfterHead BeforeHead) ≡ true
html_usual s = at s.has_head
  where
    at : (b : Bool) → is_usual (cond b AfterHead BeforeHead) ≡ true
    at true = refl
    at false = refl

reset_usual : (s : Situation) (ns : List Role) → AllKinds s.template_modes → is_usual (reset s ns) ≡ true
reset_usual s [] k = refl
reset_usual s (n ∷ []) k = at (context_or n s.context)
  where
    at : (n : Role) → is_usual (decide_root s n) ≡ true
    at TemplateRole = (kind_chain s.template_modes k).1
    at HtmlRole = html_usual s
    at CellRole = refl
    at HeadRole = refl
    at _ = refl
reset_usual s (n ∷ m ∷ ns) k = at n (reset_usual s (m ∷ ns) k)
  where
    at : (n : Role) → is_usual (reset s (m ∷ ns)) ≡ true → is_usual (decide s n (reset s (m ∷ ns))) ≡ true
    at PlainRole h = h
    at TemplateRole h = (kind_chain s.template_modes k).1
    at HtmlRole h = html_usual s
    at _ h = refl

-- so the rank falls where the end of the file closes a template
eof_at_most : (m : InsertionMode) (ns : List Role) → eof_rank m ns ≤ chain m + eof_weight ns
eof_at_most AfterBody ns = omega arith
eof_at_most AfterAfterBody ns = omega arith
eof_at_most InFrameset ns = let h = weight_some ns in omega (arith, h)
eof_at_most AfterFrameset ns = let h = weight_some ns in omega (arith, h)
eof_at_most AfterAfterFrameset ns = let h = weight_some ns in omega (arith, h)
eof_at_most _ ns = omega arith

template_weight : {ns rest : List Role} → Cut passes_to_template TemplateRole ns rest → (has_role is_template ns ≡ true) × (early_below ns ≡ count_roles is_early rest)
template_weight here = (refl, refl)
template_weight (there TemplateRole h c) = absurd (cc)
template_weight (there _ h c) = template_weight c

pub template_falls : (s t : Situation) {ns rest : List Role} → Cut passes_to_template TemplateRole ns rest → AllKinds s.template_modes → RootIs rest → rank EofTurns t (reset s rest) rest < eof_weight ns
template_falls s t {ns = ns} {rest = rest} c k r =
    let u = rank_usual EofTurns t (reset s rest) rest (reset_usual s rest k) in
    let e = eof_at_most (reset s rest) rest in
    let w = weight_at_most rest in
    let n = template_count c in
    let p = template_weight c in
    let x = p.1 in
    let z : eof_weight ns ≡ count_roles is_template ns + 3 * early_below ns + 1 = ap (λ b. cond b (count_roles is_template ns + 3 * early_below ns + 1) 1) p.0 in
    let l = reset_chain s rest k r in
    omega (arith, u, e, w, n, x, z, l)

-- in the modes in which the end of the file closes a template
abbrev pub closes_templates : InsertionMode → Bool
closes_templates AfterBody = false
closes_templates AfterAfterBody = false
closes_templates m = goes_by_body m

closing_weight : (u : Situation) (m : InsertionMode) (ns : List Role) → closes_templates m ≡ true → eof_weight ns ≤ rank EofTurns u m ns
closing_weight u InBody ns h = omega arith
closing_weight u InTable ns h = omega arith
closing_weight u InCaption ns h = omega arith
closing_weight u InColumnGroup ns h = omega arith
closing_weight u InTableBody ns h = omega arith
closing_weight u InRow ns h = omega arith
closing_weight u InCell ns h = omega arith
closing_weight u InTemplate ns h = omega arith
closing_weight u _ ns h = absurd (cc)

pub template_again_falls : (s t u : Situation) (m : InsertionMode) {ns rest : List Role} → Cut passes_to_template TemplateRole ns rest → AllKinds s.template_modes → RootIs rest → closes_templates m ≡ true
    → rank EofTurns t (reset s rest) rest < rank EofTurns u m ns
template_again_falls s t u m {ns = ns} c k r h = let f = template_falls s t c k r in let w = closing_weight u m ns h in omega (arith, f, w)

-- and where a start tag closes a table
table_fewer : {ns rest : List Role} → Cut passes_table_scope TableRole ns rest → count_roles is_table_like rest < count_roles is_table_like ns
table_fewer here = omega arith
table_fewer (there {ns = ns} n h c) = let f = table_fewer c in let l = count_later is_table_like n ns in omega (arith, f, l)

start_table_at_most : (m : InsertionMode) (ns : List Role) → chain m ≤ 3 → rank_in StartTableTurns m ns ≤ count_roles is_table_like ns + 4
start_table_at_most InFrameset ns h = omega arith
start_table_at_most _ ns h = omega (arith, h)

pub table_falls : (s t u : Situation) (m : InsertionMode) {ns rest : List Role} → Cut passes_table_scope TableRole ns rest → AllKinds s.template_modes → RootIs rest → is_table_mode m ≡ true
    → rank StartTableTurns t (reset s rest) rest < rank StartTableTurns u m ns
table_falls s t u m {ns = ns} {rest = rest} c k r h =
    let e = rank_usual StartTableTurns t (reset s rest) rest (reset_usual s rest k) in
    let a = start_table_at_most (reset s rest) rest (reset_near s rest k) in
    let f = table_fewer c in
    at m h (omega (arith, e, a, f))
  where
    at : (m : InsertionMode) → is_table_mode m ≡ true → rank StartTableTurns t (reset s rest) rest < count_roles is_table_like ns + 4 → rank StartTableTurns t (reset s rest) rest < rank StartTableTurns u m ns
    at InTable h l = l
    at InTableBody h l = l
    at InRow h l = l
    at _ h l = absurd (cc)

pub colgroup_falls : (t u : Situation) (n : Role) (ns : List Role) → is_table_like n ≡ true → rank StartTableTurns t InTable ns < rank StartTableTurns u InColumnGroup (n ∷ ns)
colgroup_falls t u TableRole ns h = omega arith
colgroup_falls t u ColgroupRole ns h = omega arith
colgroup_falls t u _ ns h = absurd (cc)

-- the rank is at most 13 and the number of open elements
grounded_early : {w : Bool} {ns : List Role} → Grounded w ns → count_roles is_early ns ≤ 2
grounded_early on_root = omega arith
grounded_early on_body = omega arith
grounded_early on_template = omega arith
grounded_early in_head = omega arith
grounded_early (above {ns = ns} n b g) = at n b (grounded_early g)
  where
    at : (n : Role) → is_base n ≡ false → count_roles is_early ns ≤ 2 → count_roles is_early (n ∷ ns) ≤ 2
    at HtmlRole b h = absurd (cc)
    at HeadRole b h = absurd (cc)
    at _ b h = h

placed_early : (w : Bool) (s : Situation) (m : InsertionMode) (ns : List Role) → is_frameset_mode m ≡ false → Placed w s m ns → count_roles is_early ns ≤ 2
placed_early w s BeforeHead ns h p = subst (λ l. count_roles is_early l ≤ 2) (sym p.1) (omega arith)
placed_early w s InHead ns h p = subst (λ l. count_roles is_early l ≤ 2) (sym p.1) (omega arith)
placed_early w s InHeadNoscript ns h p = subst (λ l. count_roles is_early l ≤ 2) (sym p.1) (omega arith)
placed_early w s AfterHead ns h p = subst (λ l. count_roles is_early l ≤ 2) (sym p.1.0) (omega arith)
placed_early w s InBody ns h p = grounded_early p
placed_early w s AfterBody ns h p = grounded_early p
placed_early w s AfterAfterBody ns h p = grounded_early p
placed_early w s InTable ns h p = grounded_early p.0
placed_early w s InCaption ns h p = grounded_early p.0
placed_early w s InColumnGroup ns h p = grounded_early p.0
placed_early w s InTableBody ns h p = grounded_early p.0
placed_early w s InRow ns h p = grounded_early p.0
placed_early w s InCell ns h p = grounded_early p.0
placed_early w s InTemplate ns h p = grounded_early p.0
placed_early w s InFrameset ns h p = absurd (cc)
placed_early w s AfterFrameset ns h p = absurd (cc)
placed_early w s AfterAfterFrameset ns h p = absurd (cc)
placed_early w s _ ns h p = elim p [ ]

eof_bound : (m : InsertionMode) (ns : List Role) → (is_frameset_mode m ≡ false → count_roles is_early ns ≤ 2) → eof_rank m ns ≤ 12 + length ns
eof_bound m ns f = at m f
  where
    chain_few : (m : InsertionMode) → chain m ≤ 5
    chain_few Initial = omega arith
    chain_few _ = omega arith

    few : (m : InsertionMode) → count_roles is_early ns ≤ 2 → eof_rank m ns ≤ 12 + length ns
    few m h =
        let a = eof_at_most m ns in
        let b = chain_few m in
        let w = weight_at_most ns in
        let e = early_fewer ns in
        let n = count_fewer is_template ns in
        omega (arith, a, b, w, e, n, h)

    at : (m : InsertionMode) → (is_frameset_mode m ≡ false → count_roles is_early ns ≤ 2) → eof_rank m ns ≤ 12 + length ns
    at InFrameset g = omega arith
    at AfterFrameset g = omega arith
    at AfterAfterFrameset g = omega arith
    at m g = few m (g refl)

start_table_bound : (m : InsertionMode) (ns : List Role) → rank_in StartTableTurns m ns ≤ 12 + length ns
start_table_bound m ns = at m (count_fewer is_table_like ns)
  where
    at : (m : InsertionMode) → count_roles is_table_like ns ≤ length ns → rank_in StartTableTurns m ns ≤ 12 + length ns
    at InFrameset h = omega arith
    at _ h = omega (arith, h)

-- in the other rows of the table nothing is weighed
few_turns : (c : TurnKind) (m : InsertionMode) (ns : List Role) → is_weighed c ≡ false → rank_in c m ns ≤ 7
few_turns EofTurns m ns h = absurd (cc)
few_turns StartTableTurns m ns h = absurd (cc)
few_turns TextTurns InCell ns h = omega arith
few_turns TextTurns _ ns h = omega arith
few_turns EndHtmlTurns InCell ns h = omega arith
few_turns EndHtmlTurns _ ns h = omega arith
few_turns CellTurns InCell ns h = omega arith
few_turns CellTurns _ ns h = omega arith
few_turns RowTurns InCell ns h = omega arith
few_turns RowTurns _ ns h = omega arith
few_turns ColTurns InCell ns h = omega arith
few_turns ColTurns _ ns h = omega arith
few_turns PartTurns InCell ns h = omega arith
few_turns PartTurns _ ns h = omega arith
few_turns EndPartTurns InCell ns h = omega arith
few_turns EndPartTurns _ ns h = omega arith
few_turns OtherTurns InCell ns h = omega arith
few_turns OtherTurns _ ns h = omega arith

rank_in_bound : (c : TurnKind) (m : InsertionMode) (ns : List Role) → (is_frameset_mode m ≡ false → count_roles is_early ns ≤ 2) → rank_in c m ns ≤ 12 + length ns
rank_in_bound EofTurns m ns f = eof_bound m ns f
rank_in_bound StartTableTurns m ns f = start_table_bound m ns
rank_in_bound c m ns f = let k = few_turns c m ns refl in omega (arith, k)

later_fewer : (ns : List Role) → length (later_roles ns) ≤ length ns
later_fewer [] = omega arith
later_fewer (n ∷ ns) = omega arith

saved_bound : (c : TurnKind) (o : Option InsertionMode) (m : InsertionMode) (ns : List Role) → o ≡ Some m → rank_in c m ns ≤ 12 + length ns → rank_saved c o ns ≤ 13 + length ns
saved_bound c o m ns e h =
    let l : rank_saved c o ns ≡ 1 + rank_in c m ns = ap (λ x. rank_saved c x ns) e in
    omega (arith, l, h)

usual_bound : (c : TurnKind) (s : Situation) (m : InsertionMode) (ns : List Role) → is_usual m ≡ true → (is_frameset_mode m ≡ false → count_roles is_early ns ≤ 2) → rank c s m ns ≤ 13 + length ns
usual_bound c s m ns h f = let e = rank_usual c s m ns h in let b = rank_in_bound c m ns f in omega (arith, e, b)

none_early : (ns : List Role) → ns ≡ [] → count_roles is_early ns ≤ 2
none_early ns e = subst (λ l. count_roles is_early l ≤ 2) (sym e) (omega arith)

pub rank_bound : (c : TurnKind) (s : Situation) (m : InsertionMode) (ns : List Role) → Fits s m ns → rank c s m ns ≤ 13 + length ns
rank_bound c s Text ns f = in_text c
  where
    below : (ns : List Role) (m : InsertionMode) → PlacedBelow (is_whole s.context) s m ns → Placed (is_whole s.context) s m (later_roles ns)
    below [] m p = elim p [ ]
    below (n ∷ []) m p = elim p [ ]
    below (n ∷ k ∷ ns) m p = p.1

    in_text : (c : TurnKind) → rank c s Text ns ≤ 13 + length ns
    in_text EofTurns =
        let m = f.place.0 in
        let low = later_roles ns in
        let b = saved_bound EofTurns s.saved_mode m low f.place.1.0 (rank_in_bound EofTurns m low (λ h. placed_early (is_whole s.context) s m low h (below ns m f.place.1.1))) in
        let l = later_fewer ns in
        omega (arith, b, l)
    in_text _ = omega arith
rank_bound c s InTableText ns f = in_table c
  where
    saved : (c : TurnKind) → rank_saved c s.saved_mode ns ≤ 13 + length ns
    saved c =
        let m = f.place.0 in
        saved_bound c s.saved_mode m ns f.place.1.0 (rank_in_bound c m ns (λ h. placed_early (is_whole s.context) s m ns h f.place.1.1.1))

    in_table : (c : TurnKind) → rank c s InTableText ns ≤ 13 + length ns
    in_table TextTurns = omega arith
    in_table EofTurns = saved EofTurns
    in_table c = saved c
rank_bound c s Initial ns f = usual_bound c s Initial ns refl (λ h. none_early ns f.place.0)
rank_bound c s BeforeHtml ns f = usual_bound c s BeforeHtml ns refl (λ h. none_early ns f.place.0)
rank_bound c s m ns f = usual_bound c s m ns refl (λ h. placed_early (is_whole s.context) s m ns h f.place)

-- so it is by names
pub names_rank_bound : (c : TurnKind) (s : Situation) (m : InsertionMode) (ns : List QualName) → NamesFit s m ns → rank c s m (roles ns) ≤ 16 + length ns
names_rank_bound c s m ns f = let b = rank_bound c s m (roles ns) f.fits in let e = roles_length ns in omega (arith, b, e)

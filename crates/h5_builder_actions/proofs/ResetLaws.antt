-- The walk of a reset of the insertion mode.
use Rattle.std.proofs.Common.{◌≡◌, ◌<◌, ◌≤◌, ◌+◌, ◌&&◌, ◌||◌, Bool, codes, cond, not, true, false, ℕ, List, [], ◌∷◌, ◌++◌, length, length-append, Some, None, refl, ap, sym, ◌∙◌, arith}
use Rattle.h5_names.specs.AttributeText.{is_same_text}
use Rattle.h5_names.specs.declared.qualified.QualName.{QualName}
use Rattle.h5_tables.specs.TagSets.{html_namespace, is_one_of}
use Rattle.h5_tables.specs.declared.modes.InsertionMode.{InsertionMode}
use Rattle.h5_builder_spec.specs.stack.Closing.{is_html_among}
use Rattle.h5_builder_state.specs.Newest.{newest_where}
use Rattle.h5_builder_state.proofs.NewestLaws.{newest_le, same_text-sym}
use Rattle.h5_builder_spec.specs.reset.Situation.{Situation}
use Rattle.h5_builder_spec.specs.reset.ResetByRoles.{context_or, decide, decide_root, reset}
use Rattle.h5_builder_spec.specs.reset.Roles.{BodyRole, CaptionRole, CellRole, ColgroupRole, FramesetRole, HeadRole, HtmlRole, PlainRole, Role, RowRole, SectionRole, TableRole, TemplateRole, is_cell_role, is_head, is_plain, role_of, role_of_local, roles}
use Rattle.h5_tables.specs.declared.modes.InsertionMode.TheVariants.{InBody}

-- at the root the others decide as elsewhere
pub root_decides : (s : Situation) (r : Role) → (is_cell_role r || is_head r) ≡ false → decide_root s r ≡ decide s r InBody
root_decides s PlainRole e = refl
root_decides s HtmlRole e = refl
root_decides s HeadRole e = absurd (cc)
root_decides s BodyRole e = refl
root_decides s FramesetRole e = refl
root_decides s TableRole e = refl
root_decides s TemplateRole e = refl
root_decides s CaptionRole e = refl
root_decides s ColgroupRole e = refl
root_decides s SectionRole e = refl
root_decides s RowRole e = refl
root_decides s CellRole e = absurd (cc)

-- the root alone is left
pub reset_root : (s : Situation) (r : Role) → s.context ≡ None → reset s (r ∷ []) ≡ decide_root s r
reset_root s r e = ap (λ o. decide_root s (context_or r o)) e

-- the root alone is left, and the context element stands in for it
pub reset_context : (s : Situation) (rs : List Role) (c : Role) → length rs ≡ 1 → s.context ≡ Some c → reset s rs ≡ decide_root s c
reset_context s [] c h e = absurd (omega arith)
reset_context s (r ∷ []) c h e = ap (λ o. decide_root s (context_or r o)) e
reset_context s (r ∷ q ∷ rs) c h e = absurd (omega arith)

-- whether a name decides
abbrev pub decides : QualName → Bool
decides n = not (is_plain (role_of n))

abbrev pub deciding_names : List (List ℕ)
deciding_names =
    codes "html" ∷ codes "head" ∷ codes "body" ∷ codes "frameset" ∷ codes "table" ∷ codes "template" ∷ codes "caption" ∷ codes "colgroup" ∷ codes "tbody" ∷ codes "tfoot" ∷ codes "thead" ∷ codes "tr" ∷ codes "td" ∷ codes "th" ∷ []

local_decides : (l : List ℕ) → not (is_plain (role_of_local l)) ≡ is_one_of deciding_names l
unfolding role_of_local
local_decides l =
    rw (same_text-sym l (codes "html"), same_text-sym l (codes "head"), same_text-sym l (codes "body"), same_text-sym l (codes "frameset"), same_text-sym l (codes "table"), same_text-sym l (codes "template"), same_text-sym l (codes "caption"), same_text-sym l (codes "colgroup"), same_text-sym l (codes "tbody"), same_text-sym l (codes "tfoot"), same_text-sym l (codes "thead"), same_text-sym l (codes "tr"), same_text-sym l (codes "td"), same_text-sym l (codes "th"))
    (at (is_same_text (codes "html") l) (is_same_text (codes "head") l) (is_same_text (codes "body") l) (is_same_text (codes "frameset") l) (is_same_text (codes "table") l) (is_same_text (codes "template") l) (is_same_text (codes "caption") l) (is_same_text (codes "colgroup") l) (is_same_text (codes "tbody") l) (is_same_text (codes "tfoot") l) (is_same_text (codes "thead") l) (is_same_text (codes "tr") l) (is_same_text (codes "td") l) (is_same_text (codes "th") l))
  where
    at : (a b c d e f g h i j k l m n : Bool) → not (is_plain (cond a HtmlRole (cond b HeadRole (cond c BodyRole (cond d FramesetRole (cond e TableRole (cond f TemplateRole (cond g CaptionRole (cond h ColgroupRole (cond i SectionRole (cond j SectionRole (cond k SectionRole (cond l RowRole (cond m CellRole (cond n CellRole (PlainRole)))))))))))))))) ≡ (a || (b || (c || (d || (e || (f || (g || (h || (i || (j || (k || (l || (m || (n || false))))))))))))))
    at true b c d e f g h i j k l m n = refl
    at false true c d e f g h i j k l m n = refl
    at false false true d e f g h i j k l m n = refl
    at false false false true e f g h i j k l m n = refl
    at false false false false true f g h i j k l m n = refl
    at false false false false false true g h i j k l m n = refl
    at false false false false false false true h i j k l m n = refl
    at false false false false false false false true i j k l m n = refl
    at false false false false false false false false true j k l m n = refl
    at false false false false false false false false false true k l m n = refl
    at false false false false false false false false false false true l m n = refl
    at false false false false false false false false false false false true m n = refl
    at false false false false false false false false false false false false true n = refl
    at false false false false false false false false false false false false false true = refl
    at false false false false false false false false false false false false false false = refl

pub among_decides : (n : QualName) → is_html_among deciding_names n ≡ decides n
unfolding role_of
among_decides n = at (is_same_text n.ns html_namespace)
  where
    at : (b : Bool) → (b && is_one_of deciding_names n.local) ≡ not (is_plain (cond b (role_of_local n.local) PlainRole))
    at true = sym (local_decides n.local)
    at false = refl

-- one that decides does so whatever is below it, and a plain one leaves it to that
pub decided_alone : (s : Situation) (r : Role) (a b : InsertionMode) → not (is_plain r) ≡ true → decide s r a ≡ decide s r b
decided_alone s PlainRole a b e = absurd (cc)
decided_alone s HtmlRole a b e = refl
decided_alone s HeadRole a b e = refl
decided_alone s BodyRole a b e = refl
decided_alone s FramesetRole a b e = refl
decided_alone s TableRole a b e = refl
decided_alone s TemplateRole a b e = refl
decided_alone s CaptionRole a b e = refl
decided_alone s ColgroupRole a b e = refl
decided_alone s SectionRole a b e = refl
decided_alone s RowRole a b e = refl
decided_alone s CellRole a b e = refl

plain_leaves : (s : Situation) (r : Role) (a : InsertionMode) → not (is_plain r) ≡ false → decide s r a ≡ a
plain_leaves s PlainRole a e = refl
plain_leaves s HtmlRole a e = absurd (cc)
plain_leaves s HeadRole a e = absurd (cc)
plain_leaves s BodyRole a e = absurd (cc)
plain_leaves s FramesetRole a e = absurd (cc)
plain_leaves s TableRole a e = absurd (cc)
plain_leaves s TemplateRole a e = absurd (cc)
plain_leaves s CaptionRole a e = absurd (cc)
plain_leaves s ColgroupRole a e = absurd (cc)
plain_leaves s SectionRole a e = absurd (cc)
plain_leaves s RowRole a e = absurd (cc)
plain_leaves s CellRole a e = absurd (cc)

-- the mode is that of the newest that decides
reset_more : (s : Situation) (n : QualName) (ns : List QualName) → 0 < length ns → reset s (roles (n ∷ ns)) ≡ decide s (role_of n) (reset s (roles ns))
reset_more s n [] h = absurd (omega arith)
reset_more s n (m ∷ ns) h = refl

pub reset_some : (s : Situation) (names newer older : List QualName) (n : QualName) (a : InsertionMode) → names ≡ newer ++ n ∷ older → newest_where decides names ≡ length older + 1 → 0 < length older → reset s (roles names) ≡ decide s (role_of n) a
reset_some s [] newer older n a e h k = absurd (omega (arith, h))
reset_some s (m ∷ ns) [] older n a e h k =
    let here : m ≡ n = cc in
    let rest : ns ≡ older = cc in
    at (decides m) refl (h ∙ ap (λ (z : List QualName). length z + 1) (sym rest)) here (omega (arith, k, ap (λ (z : List QualName). length z) rest))
  where
    at : (b : Bool) → decides m ≡ b → cond b (length ns + 1) (newest_where decides ns) ≡ length ns + 1 → m ≡ n → 0 < length ns → reset s (roles (m ∷ ns)) ≡ decide s (role_of n) a
    at true i j same some = reset_more s m ns some ∙ decided_alone s (role_of m) (reset s (roles ns)) a i ∙ ap (λ z. decide s (role_of z) a) same
    at false i j same some = absurd (omega (arith, j, newest_le decides ns))
reset_some s (m ∷ ns) (q ∷ newer) older n a e h k =
    let rest : ns ≡ newer ++ n ∷ older = cc in
    let count = ap (λ (z : List QualName). length z) rest in
    at (decides m) refl h (omega (arith, count, length-append newer (n ∷ older))) (reset_some s ns newer older n a rest)
  where
    at : (b : Bool) → decides m ≡ b → cond b (length ns + 1) (newest_where decides ns) ≡ length older + 1 → length older + 1 ≤ length ns
        → (newest_where decides ns ≡ length older + 1 → 0 < length older → reset s (roles ns) ≡ decide s (role_of n) a) → reset s (roles (m ∷ ns)) ≡ decide s (role_of n) a
    at true i j le f = absurd (omega (arith, j, le))
    at false i j le f = reset_more s m ns (omega (arith, le)) ∙ plain_leaves s (role_of m) (reset s (roles ns)) i ∙ f j k

-- or that of the root
pub reset_none : (s : Situation) (names newer : List QualName) (r : QualName) → names ≡ newer ++ r ∷ [] → newest_where decides names ≤ 1 → reset s (roles names) ≡ reset s (roles (r ∷ []))
reset_none s names [] r e h = ap (λ z. reset s (roles z)) e
reset_none s [] (q ∷ newer) r e h = absurd (cc)
reset_none s (m ∷ ns) (q ∷ newer) r e h =
    let rest : ns ≡ newer ++ r ∷ [] = cc in
    at (decides m) refl h (omega (arith, ap (λ (z : List QualName). length z) rest, length-append newer (r ∷ []))) (reset_none s ns newer r rest)
  where
    at : (b : Bool) → decides m ≡ b → cond b (length ns + 1) (newest_where decides ns) ≤ 1 → 0 < length ns → (newest_where decides ns ≤ 1 → reset s (roles ns) ≡ reset s (roles (r ∷ []))) → reset s (roles (m ∷ ns)) ≡ reset s (roles (r ∷ []))
    at true i j some f = absurd (omega (arith, j, some))
    at false i j some f = reset_more s m ns some ∙ plain_leaves s (role_of m) (reset s (roles ns)) i ∙ f j

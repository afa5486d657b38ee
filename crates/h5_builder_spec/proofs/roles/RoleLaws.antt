-- Names and what the facts see of them.
use Rattle.std.proofs.Common.{◌≡◌, ◌⊎◌, inl, inr, ℕ, Bool, true, false, cond, ◌&&◌, List, codes, refl, ap, ◌∙◌}
use Rattle.std.proofs.lemmas.Slice.Eq.{bytes_eq-Decides}
use Rattle.h5_names.specs.AttributeText.{is_same_text}
use Rattle.h5_names.specs.declared.qualified.QualName.{QualName}
use Rattle.h5_tables.specs.TagSets.{html_namespace, is_html_named}
use Rattle.h5_builder_spec.specs.formatting.FormattingNames.{html_name}
use Rattle.h5_builder_spec.specs.reset.Roles.{BodyRole, CaptionRole, CellRole, ColgroupRole, FramesetRole, HeadRole, HtmlRole, PlainRole, Role, RowRole, SectionRole, TableRole, TemplateRole, role_of, role_of_local}
use Rattle.h5_builder_spec.proofs.BoolLaws.{and_both}

-- the local names of a role
abbrev pub Origin : Role → List ℕ → Type 0
Origin PlainRole l = Unit {0}
Origin HtmlRole l = l ≡ codes "html"
Origin HeadRole l = l ≡ codes "head"
Origin BodyRole l = l ≡ codes "body"
Origin FramesetRole l = l ≡ codes "frameset"
Origin TableRole l = l ≡ codes "table"
Origin TemplateRole l = l ≡ codes "template"
Origin CaptionRole l = l ≡ codes "caption"
Origin ColgroupRole l = l ≡ codes "colgroup"
Origin SectionRole l = (l ≡ codes "tbody") ⊎ ((l ≡ codes "tfoot") ⊎ (l ≡ codes "thead"))
Origin RowRole l = l ≡ codes "tr"
Origin CellRole l = (l ≡ codes "td") ⊎ (l ≡ codes "th")

either : (l t : List ℕ) (x rest : Role) → (l ≡ t → Origin x l) → Origin rest l → Origin (cond (is_same_text l t) x rest) l
either l t x rest f g = at (is_same_text l t) refl
  where
    at : (b : Bool) → is_same_text l t ≡ b → Origin (cond b x rest) l
    at true e = f ((bytes_eq-Decides l t).0 e)
    at false e = g

pub origin : (l : List ℕ) → Origin (role_of_local l) l
unfolding role_of_local
origin l =
    either l (codes "html") HtmlRole _ (λ e. e)
    (either l (codes "head") HeadRole _ (λ e. e)
    (either l (codes "body") BodyRole _ (λ e. e)
    (either l (codes "frameset") FramesetRole _ (λ e. e)
    (either l (codes "table") TableRole _ (λ e. e)
    (either l (codes "template") TemplateRole _ (λ e. e)
    (either l (codes "caption") CaptionRole _ (λ e. e)
    (either l (codes "colgroup") ColgroupRole _ (λ e. e)
    (either l (codes "tbody") SectionRole _ (λ e. inl e)
    (either l (codes "tfoot") SectionRole _ (λ e. inr (inl e))
    (either l (codes "thead") SectionRole _ (λ e. inr (inr e))
    (either l (codes "tr") RowRole _ (λ e. e)
    (either l (codes "td") CellRole _ (λ e. inl e)
    (either l (codes "th") CellRole PlainRole (λ e. inr e) tt)))))))))))))

-- an HTML element of this name has this role
pub role_named : (local : List ℕ) (n : QualName) → is_html_named local n ≡ true → role_of n ≡ role_of_local local
unfolding role_of is_html_named
role_named local n h =
    let both = and_both (is_same_text n.ns html_namespace) (is_same_text n.local local) h in
    ap (λ b. cond b (role_of_local n.local) PlainRole) both.0 ∙ ap role_of_local ((bytes_eq-Decides n.local local).0 both.1)

pub role_made : (local : List ℕ) → role_of (html_name local) ≡ role_of_local local
unfolding role_of html_namespace
role_made local = refl

-- and where the role is not plain, it is an HTML element of one of its names
abbrev pub Names : Role → QualName → Type 0
Names PlainRole n = Unit {0}
Names HtmlRole n = is_html_named (codes "html") n ≡ true
Names HeadRole n = is_html_named (codes "head") n ≡ true
Names BodyRole n = is_html_named (codes "body") n ≡ true
Names FramesetRole n = is_html_named (codes "frameset") n ≡ true
Names TableRole n = is_html_named (codes "table") n ≡ true
Names TemplateRole n = is_html_named (codes "template") n ≡ true
Names CaptionRole n = is_html_named (codes "caption") n ≡ true
Names ColgroupRole n = is_html_named (codes "colgroup") n ≡ true
Names SectionRole n = (is_html_named (codes "tbody") n ≡ true) ⊎ ((is_html_named (codes "tfoot") n ≡ true) ⊎ (is_html_named (codes "thead") n ≡ true))
Names RowRole n = is_html_named (codes "tr") n ≡ true
Names CellRole n = (is_html_named (codes "td") n ≡ true) ⊎ (is_html_named (codes "th") n ≡ true)

named : (t : List ℕ) (n : QualName) → is_same_text n.ns html_namespace ≡ true → n.local ≡ t → is_html_named t n ≡ true
unfolding is_html_named
named t n h e = ap (λ b. b && is_same_text n.local t) h ∙ (bytes_eq-Decides n.local t).1 e

origin_names : (x : Role) (n : QualName) → is_same_text n.ns html_namespace ≡ true → Origin x n.local → Names x n
origin_names PlainRole n h o = tt
origin_names SectionRole n h o = elim o [ inl e ↦ inl (named (codes "tbody") n h e) | inr (inl e) ↦ inr (inl (named (codes "tfoot") n h e)) | inr (inr e) ↦ inr (inr (named (codes "thead") n h e)) ]
origin_names CellRole n h o = elim o [ inl e ↦ inl (named (codes "td") n h e) | inr e ↦ inr (named (codes "th") n h e) ]
origin_names HtmlRole n h o = named (codes "html") n h o
origin_names HeadRole n h o = named (codes "head") n h o
origin_names BodyRole n h o = named (codes "body") n h o
origin_names FramesetRole n h o = named (codes "frameset") n h o
origin_names TableRole n h o = named (codes "table") n h o
origin_names TemplateRole n h o = named (codes "template") n h o
origin_names CaptionRole n h o = named (codes "caption") n h o
origin_names ColgroupRole n h o = named (codes "colgroup") n h o
origin_names RowRole n h o = named (codes "tr") n h o

pub names_of_role : (n : QualName) → Names (role_of n) n
unfolding role_of
names_of_role n = at (is_same_text n.ns html_namespace) refl
  where
    at : (b : Bool) → is_same_text n.ns html_namespace ≡ b → Names (cond b (role_of_local n.local) PlainRole) n
    at true e = origin_names (role_of_local n.local) n e (origin n.local)
    at false e = tt

-- what a concrete name is
pub local_html : role_of_local (codes "html") ≡ HtmlRole
unfolding role_of_local
local_html = refl

pub local_p : role_of_local (codes "p") ≡ PlainRole
unfolding role_of_local
local_p = refl

pub named_ns : (local : List ℕ) (n : QualName) → is_html_named local n ≡ true → is_same_text n.ns html_namespace ≡ true
unfolding is_html_named
named_ns local n h = (and_both (is_same_text n.ns html_namespace) (is_same_text n.local local) h).0

pub named_local : (local : List ℕ) (n : QualName) → is_html_named local n ≡ true → n.local ≡ local
unfolding is_html_named
named_local local n h = (bytes_eq-Decides n.local local).0 (and_both (is_same_text n.ns html_namespace) (is_same_text n.local local) h).1

-- an element that is made has the name
pub made_named : (local : List ℕ) → is_html_named local (html_name local) ≡ true
unfolding is_html_named html_namespace
made_named local = (bytes_eq-Decides local local).1 refl

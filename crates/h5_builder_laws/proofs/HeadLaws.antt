-- What the head of a plain document holds, in a forest and after a change of it.
use Rattle.std.proofs.Common.{◌≡◌, ◌≢◌, ◌∙◌, ℕ, true, false, List, [], ◌∷◌, codes, refl, ap, subst, sym}
use Rattle.h5_names.specs.AttributeText.{AttributeText}
use Rattle.h5_names.specs.declared.qualified.QualName.{QualName}
use Rattle.h5_interface.specs.Forest.{Child, ChildNode, ChildText, ElementNode, Forest, Kind}
use Rattle.h5_tables.specs.TagSets.{html_namespace, is_html_named}
use Rattle.h5_builder_spec.specs.formatting.FormattingNames.{html_name}
use Rattle.h5_builder_spec.specs.World.{name_of_kind}
use Rattle.h5_builder_laws.specs.Plain.{ElementThen, End, Nodes, TextThen}
use Rattle.h5_builder_laws.specs.Rebuilding.{Looks, Stands}
use Rattle.h5_builder_laws.proofs.FilledLaws.{own}
use Rattle.h5_builder_laws.proofs.GrowthLaws.{body, head, html}

abbrev pub title : QualName
title = html_name (codes "title")

-- nothing, or a title of one text
pub data HeadHolds (f : Forest) : List Child → Nodes → Type 0 where
  HoldsNothing : HeadHolds f [] End
  HoldsTitle : {n : ℕ} {attrs : List AttributeText} {text : List ℕ} → Looks f n (ElementNode title) attrs (ChildText text ∷ [])
      → HeadHolds f (ChildNode n ∷ []) (ElementThen (codes "title") attrs (TextThen text End) End)

-- for no nodes, nothing
pub nothing_held : {f : Forest} {cs : List Child} → HeadHolds f cs End → cs ≡ []
nothing_held HoldsNothing = refl

-- it stands
pub head_stands : {f : Forest} {cs : List Child} {nodes : Nodes} → HeadHolds f cs nodes → Stands f cs nodes
head_stands HoldsNothing = tt
head_stands {f} (HoldsTitle {text = text} l) = (own l, (subst (λ cs. Stands f cs (TextThen text End)) (sym l.has_children) (refl, tt), tt))

-- and it stays where every title looks as it did
pub head_kept : {f : Forest} (g : Forest) {cs : List Child} {nodes : Nodes} → ((n : ℕ) (a : List AttributeText) (ds : List Child) → Looks f n (ElementNode title) a ds → Looks g n (ElementNode title) a ds)
    → HeadHolds f cs nodes → HeadHolds g cs nodes
head_kept g k HoldsNothing = HoldsNothing
head_kept g k (HoldsTitle {n} {attrs} {text} l) = HoldsTitle (k n attrs (ChildText text ∷ []) l)

-- elements of different names are different
names_apart : (local : List ℕ) (name other : QualName) → is_html_named local name ≡ true → is_html_named local other ≡ false → ElementNode name ≢ ElementNode other
names_apart local name other h k e = let w : true ≡ false = sym h ∙ ap (λ (x : Kind). is_html_named local (name_of_kind x)) e ∙ k in cc

pub html_not_head : ElementNode html ≢ ElementNode head
unfolding is_html_named html_namespace
html_not_head = names_apart (codes "html") html head refl refl

pub html_not_body : ElementNode html ≢ ElementNode body
unfolding is_html_named html_namespace
html_not_body = names_apart (codes "html") html body refl refl

pub html_not_title : ElementNode html ≢ ElementNode title
unfolding is_html_named html_namespace
html_not_title = names_apart (codes "html") html title refl refl

pub head_not_body : ElementNode head ≢ ElementNode body
unfolding is_html_named html_namespace
head_not_body = names_apart (codes "head") head body refl refl

pub head_not_html : ElementNode head ≢ ElementNode html
unfolding is_html_named html_namespace
head_not_html = names_apart (codes "head") head html refl refl

pub head_not_title : ElementNode head ≢ ElementNode title
unfolding is_html_named html_namespace
head_not_title = names_apart (codes "head") head title refl refl

pub title_not_html : ElementNode title ≢ ElementNode html
unfolding is_html_named html_namespace
title_not_html = names_apart (codes "title") title html refl refl

pub title_not_body : ElementNode title ≢ ElementNode body
unfolding is_html_named html_namespace
title_not_body = names_apart (codes "title") title body refl refl

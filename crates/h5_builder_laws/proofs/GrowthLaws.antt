-- The forest of a document, as it grows.
use Rattle.std.proofs.Common.{◌≡◌, ◌≢◌, ◌∙◌, ℕ, Bool, false, List, [], ◌∷◌, ◌++◌, None, Some, codes, refl, ap, sym, subst}
use Rattle.h5_names.specs.AttributeText.{AttributeText}
use Rattle.h5_names.specs.declared.qualified.QualName.{QualName}
use Rattle.h5_interface.specs.Changes.{append_node, mark}
use Rattle.h5_interface.specs.Forest.{Child, ChildNode, DoctypeNode, DocumentNode, ElementNode, Forest, IsForest, IsNode, Marks, kind_of}
use Rattle.h5_interface.specs.NewElement.{flags_of, is_html_template}
use Rattle.h5_interface.specs.Seen.{append_doctype, element, make, make_element, plain, with_contents}
use Rattle.h5_interface.specs.SinkChoices.{SinkChoices}
use Rattle.h5_interface.proofs.ForestLaws.{document_is_node}
use Rattle.h5_interface.proofs.MakingLaws.{append_doctype_rearranges, element_lone, mark_rearranges, plain_lone}
use Rattle.h5_builder_spec.specs.insertion.Place.{LastChild}
use Rattle.h5_builder_spec.specs.World.{name_in, name_of_found}
use Rattle.h5_builder_spec.specs.formatting.FormattingNames.{html_name}
use Rattle.h5_builder_spec.proofs.changes.PlaceLaws.{new_element_rearranges}
use Rattle.h5_builder_laws.specs.Rebuilding.{HoldsDocument, Looks}
use Rattle.h5_builder_laws.proofs.LooksLaws.{hung, looks_marked, looks_new, looks_node, looks_other, looks_parent}

abbrev pub html : QualName
html = html_name (codes "html")

abbrev pub head : QualName
head = html_name (codes "head")

abbrev pub body : QualName
body = html_name (codes "body")

-- the document holds the doctype and what comes after it
pub record Begun (f : Forest) (doctype : ℕ) (more : List Child) : Type 0 where
  pub is_forest : IsForest f
  pub document : Looks f f.document DocumentNode [] (ChildNode doctype ∷ more)
  pub is_doctype : Looks f doctype (DoctypeNode (codes "html") [] []) [] []

-- and then a root with these children
pub record Rooted (f : Forest) (doctype root : ℕ) (attrs : List AttributeText) (children : List Child) : Type 0 where
  pub begun : Begun f doctype (ChildNode root ∷ [])
  pub is_root : Looks f root (ElementNode html) attrs children

-- nodes of different kinds
pub kinds_apart : (f : Forest) (n m : ℕ) (k j : _) (a b : List AttributeText) (cs ds : List Child) → Looks f n k a cs → Looks f m j b ds → k ≢ j → n ≢ m
kinds_apart f n m k j a b cs ds l r h e =
    let w : Some k ≡ Some j = sym l.is_kind ∙ ap (kind_of f) e ∙ r.is_kind in h (cc)

-- the name of an element
pub name_of : (f : Forest) (n : ℕ) (name : QualName) (a : List AttributeText) (cs : List Child) → Looks f n (ElementNode name) a cs → name_in f n ≡ name
name_of f n name a cs l = ap name_of_found l.is_kind

-- an element that isn't a template is created without contents
made_plain : (choices : SinkChoices) (name : QualName) (attrs : List AttributeText) (duplicates : Bool) (f : Forest) → is_html_template name ≡ false → make_element choices name attrs (flags_of name attrs duplicates) f ≡ make choices (element name attrs (flags_of name attrs duplicates)) f
made_plain choices name attrs duplicates f e =
    ap (λ b. with_contents b choices (choices.fresh f) (make choices (element name attrs (flags_of name attrs duplicates)) f)) e

abbrev pub with_element : SinkChoices → ℕ → QualName → List AttributeText → Forest → Forest
with_element choices p name attrs f = append_node p (choices.fresh f) (make_element choices name attrs (flags_of name attrs false) f)

-- a new element below another: what the forest is then
pub record Below (choices : SinkChoices) (f : Forest) (p : ℕ) (name : QualName) (attrs : List AttributeText) : Type 0 where
  pub is_forest : IsForest (with_element choices p name attrs f)
  pub same_document : (with_element choices p name attrs f).document ≡ f.document
  pub same_kind : (n : ℕ) → IsNode f n → kind_of (with_element choices p name attrs f) n ≡ kind_of f n
  pub new : Looks (with_element choices p name attrs f) (choices.fresh f) (ElementNode name) attrs []
  pub parent : (k : _) (a : List AttributeText) (cs : List Child) → Looks f p k a cs → Looks (with_element choices p name attrs f) p k a (cs ++ ChildNode (choices.fresh f) ∷ [])
  pub other : (m : ℕ) (k : _) (a : List AttributeText) (cs : List Child) → m ≢ p → Looks f m k a cs → Looks (with_element choices p name attrs f) m k a cs

pub element_below : (choices : SinkChoices) (f : Forest) (p : ℕ) (name : QualName) (attrs : List AttributeText) → IsForest f → IsNode f p → is_html_template name ≡ false → Below choices f p name attrs
element_below choices f p name attrs forest there e =
    let n = choices.fresh f in
    let d = element name attrs (flags_of name attrs false) in
    let new = choices.fresh_is_new f forest in
    let same : hung p n d f ≡ with_element choices p name attrs f = ap (append_node p n) (sym (made_plain choices name attrs false f e)) in
    record {
      is_forest = (new_element_rearranges choices f (LastChild p) name attrs false None forest there).is_forest;
      same_document = sym (ap (λ (g : Forest). g.document) same);
      same_kind = (new_element_rearranges choices f (LastChild p) name attrs false None forest there).same_kind;
      new = subst (λ g. Looks g n (ElementNode name) attrs []) same (looks_new f p n d new there (element_lone name attrs (flags_of name attrs false)));
      parent = λ k a cs l. subst (λ g. Looks g p k a (cs ++ ChildNode n ∷ [])) same (looks_parent f p n d k a cs forest new l);
      other = λ m k a cs h l. subst (λ g. Looks g m k a cs) same (looks_other f p n m d k a cs new h l);
    }

-- the doctype comes first
pub begun_first : (choices : SinkChoices) (f : Forest) → HoldsDocument f → Begun (append_doctype choices (codes "html") [] [] f) (choices.fresh f) []
begun_first choices f h =
    let n = choices.fresh f in
    let d = plain (DoctypeNode (codes "html") [] []) in
    let new = choices.fresh_is_new f h.is_forest in
    record {
      is_forest = (append_doctype_rearranges choices f (codes "html") [] [] h.is_forest).is_forest;
      document = looks_parent f f.document n d DocumentNode [] [] h.is_forest new h.document;
      is_doctype = looks_new f f.document n d new (document_is_node f h.is_forest) (plain_lone (DoctypeNode (codes "html") [] []));
    }

-- then the root
pub rooted_first : (choices : SinkChoices) (f : Forest) (x : ℕ) (attrs : List AttributeText) → Begun f x [] → Rooted (with_element choices f.document html attrs f) x (choices.fresh f) attrs []
rooted_first choices f x attrs b =
    let below = element_below choices f f.document html attrs b.is_forest (document_is_node f b.is_forest) refl in
    record {
      begun = record {
        is_forest = below.is_forest;
        document = below.parent DocumentNode [] (ChildNode x ∷ []) b.document;
        is_doctype = below.other x (DoctypeNode (codes "html") [] []) [] []
            (kinds_apart f x f.document (DoctypeNode (codes "html") [] []) DocumentNode [] [] [] (ChildNode x ∷ []) b.is_doctype b.document (λ e. cc)) b.is_doctype;
      };
      is_root = below.new;
    }

-- an element below the root
pub rooted_grown : (choices : SinkChoices) (f : Forest) (x h : ℕ) (a : List AttributeText) (cs : List Child) (name : QualName) (attrs : List AttributeText) → Rooted f x h a cs → Below choices f h name attrs → Rooted (with_element choices h name attrs f) x h a (cs ++ ChildNode (choices.fresh f) ∷ [])
rooted_grown choices f x h a cs name attrs r below =
    let b = r.begun in
    record {
      begun = record {
        is_forest = below.is_forest;
        document = subst (λ n. Looks (with_element choices h name attrs f) n DocumentNode [] (ChildNode x ∷ ChildNode h ∷ [])) (sym below.same_document)
            (below.other f.document DocumentNode [] (ChildNode x ∷ ChildNode h ∷ [])
            (kinds_apart f f.document h DocumentNode (ElementNode html) [] a (ChildNode x ∷ ChildNode h ∷ []) cs b.document r.is_root (λ e. cc)) b.document);
        is_doctype = below.other x (DoctypeNode (codes "html") [] []) [] []
            (kinds_apart f x h (DoctypeNode (codes "html") [] []) (ElementNode html) [] a [] cs b.is_doctype r.is_root (λ e. cc)) b.is_doctype;
      };
      is_root = below.parent (ElementNode html) a cs r.is_root;
    }

pub root_below : (choices : SinkChoices) (f : Forest) (x h : ℕ) (a : List AttributeText) (cs : List Child) (name : QualName) (attrs : List AttributeText) → Rooted f x h a cs → is_html_template name ≡ false → Below choices f h name attrs
root_below choices f x h a cs name attrs r e = element_below choices f h name attrs r.begun.is_forest (looks_node f h (ElementNode html) a cs r.is_root) e

-- marks change nothing of it
pub rooted_marked : (f : Forest) (marks : ℕ → Marks) (x h : ℕ) (a : List AttributeText) (cs : List Child) → Rooted f x h a cs → Rooted (mark marks f) x h a cs
rooted_marked f marks x h a cs r =
    let b = r.begun in
    record {
      begun = record {
        is_forest = (mark_rearranges f marks b.is_forest).is_forest;
        document = looks_marked f f.document marks DocumentNode [] (ChildNode x ∷ ChildNode h ∷ []) b.document;
        is_doctype = looks_marked f x marks (DoctypeNode (codes "html") [] []) [] [] b.is_doctype;
      };
      is_root = looks_marked f h marks (ElementNode html) a cs r.is_root;
    }

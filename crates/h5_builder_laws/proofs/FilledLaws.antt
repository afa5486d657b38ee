-- The forest after a list of nodes is added: new nodes below one node, whose children are the list.
use Rattle.std.proofs.Common.{◌≡◌, ◌≢◌, ◌∙◌, ℕ, false, List, [], ◌∷◌, ◌++◌, append_assoc, append-nil, codes, Option, Some, None, ap, refl, sym, subst}
use Rattle.h5_names.specs.AttributeText.{AttributeText}
use Rattle.h5_names.specs.declared.qualified.QualName.{QualName}
use Rattle.h5_interface.specs.Changes.{append_text}
use Rattle.h5_interface.specs.Forest.{Child, ChildNode, ChildText, DoctypeNode, DocumentNode, ElementNode, Forest, IsForest, IsNode, Kind, Node, children_of, kind_of}
use Rattle.h5_interface.specs.SinkChoices.{SinkChoices}
use Rattle.h5_interface.proofs.ForestLaws.{there_alike}
use Rattle.h5_builder_spec.specs.insertion.Place.{LastChild}
use Rattle.h5_builder_spec.proofs.changes.PlaceLaws.{text_put_rearranges}
use Rattle.h5_builder_spec.specs.formatting.FormattingNames.{html_name}
use Rattle.h5_builder_laws.specs.Plain.{ElementThen, End, Nodes, TextThen}
use Rattle.h5_builder_laws.specs.Rebuilding.{Looks, Stands}
use Rattle.h5_builder_laws.proofs.GrowthLaws.{Below, Rooted, html, kinds_apart, with_element}
use Rattle.h5_builder_laws.proofs.LooksLaws.{apart_from, ends_in_text, looks_beside_text, looks_node, looks_texted}

-- a node, except for its parent and its marks
pub record Face : Type 0 where
  pub kind : Kind
  pub attrs : List AttributeText
  pub children : List Child

abbrev pub Shows : Forest → ℕ → Face → Type 0
Shows f n d = Looks f n d.kind d.attrs d.children

-- with more children
abbrev pub more : Face → List Child → Face
more d cs = record d { children = d.children ++ cs }

-- a new element
abbrev pub face : List ℕ → List AttributeText → Face
face name attrs = record { kind = ElementNode (html_name name); attrs = attrs; children = [] }

-- nothing but the children of p has changed, and those are more
pub record Frame (f g : Forest) (p : ℕ) (d : Face) (added : List Child) : Type 0 where
  pub is_forest : IsForest g
  pub document : g.document ≡ f.document
  pub kinds : (n : ℕ) → IsNode f n → kind_of g n ≡ kind_of f n
  pub others : (n : ℕ) (e : Face) → n ≢ p → Shows f n e → Shows g n e
  pub here : Shows g p (more d added)

-- nothing has changed but marks
pub record SameFaces (f g : Forest) : Type 0 where
  pub is_forest : IsForest g
  pub document : g.document ≡ f.document
  pub kinds : (n : ℕ) → IsNode f n → kind_of g n ≡ kind_of f n
  pub all : (n : ℕ) (e : Face) → Shows f n e → Shows g n e

-- or not even marks
pub same_faces : (f : Forest) → IsForest f → SameFaces f f
same_faces f k = record { is_forest = k; document = refl; kinds = λ n i. refl; all = λ n e l. l }

-- children for which a list of nodes stands, by nodes that were not in the old forest
pub data StandsNew (g old : Forest) : List Child → Nodes → Type 0 where
  NowhereNew : StandsNew g old [] End
  WrittenNew : {t : List ℕ} {cs : List Child} {rest : Nodes} → StandsNew g old cs rest → StandsNew g old (ChildText t ∷ cs) (TextThen t rest)
  PlacedNew : {name : List ℕ} {attrs : List AttributeText} {inner rest : Nodes} {n : ℕ} {ds cs : List Child}
      → old.node n ≡ None → Looks g n (ElementNode (html_name name)) attrs ds → StandsNew g old ds inner → StandsNew g old cs rest
      → StandsNew g old (ChildNode n ∷ cs) (ElementThen name attrs inner rest)

-- a node's own children
pub own : {f : Forest} {n : ℕ} {k : Kind} {a : List AttributeText} {cs : List Child} → Looks f n k a cs → Looks f n k a (children_of f n)
own l = record { is_kind = l.is_kind; has_attrs = l.has_attrs; has_children = refl; no_contents = l.no_contents }

-- so it stands
pub stands_from_new : {g old : Forest} {cs : List Child} {nodes : Nodes} → StandsNew g old cs nodes → Stands g cs nodes
stands_from_new NowhereNew = tt
stands_from_new (WrittenNew r) = (refl, stands_from_new r)
stands_from_new {g} (PlacedNew {inner = inner} o l i r) = (own l, (subst (λ cs. Stands g cs inner) (sym l.has_children) (stands_from_new i), stands_from_new r))

-- it stays where the nodes that are new since the old forest look as they did
pub stands_kept : {g old : Forest} (h : Forest) {cs : List Child} {nodes : Nodes} → ((n : ℕ) (e : Face) → old.node n ≡ None → Shows g n e → Shows h n e) → StandsNew g old cs nodes → StandsNew h old cs nodes
stands_kept h k NowhereNew = NowhereNew
stands_kept h k (WrittenNew r) = WrittenNew (stands_kept h k r)
stands_kept h k (PlacedNew {name = name} {attrs = attrs} {n = n} {ds = ds} o l i r) =
    PlacedNew o (k n (record { kind = ElementNode (html_name name); attrs = attrs; children = ds }) o l) (stands_kept h k i) (stands_kept h k r)

-- and what is new since a forest is new since an older one
pub stands_older : {g new : Forest} (old : Forest) {cs : List Child} {nodes : Nodes} → ((n : ℕ) → new.node n ≡ None → old.node n ≡ None) → StandsNew g new cs nodes → StandsNew g old cs nodes
stands_older old k NowhereNew = NowhereNew
stands_older old k (WrittenNew r) = WrittenNew (stands_older old k r)
stands_older old k (PlacedNew {n = n} o l i r) = PlacedNew (k n o) l (stands_older old k i) (stands_older old k r)

-- where a node isn't in the new forest it was not in the old one
pub gone_before : (f g : Forest) → ((n : ℕ) → IsNode f n → kind_of g n ≡ kind_of f n) → (n : ℕ) → g.node n ≡ None → f.node n ≡ None
gone_before f g kinds n none = at (f.node n) refl
  where
    at : (o : Option Node) → f.node n ≡ o → f.node n ≡ None
    at None e = e
    at (Some d) e =
        let there : IsNode f n = λ z. let w : Some d ≡ None = sym e ∙ z in cc in
        absurd (there_alike f g n (kinds n there) there none)

kinds_then : (f g h : Forest) → ((n : ℕ) → IsNode f n → kind_of g n ≡ kind_of f n) → ((n : ℕ) → IsNode g n → kind_of h n ≡ kind_of g n) → (n : ℕ) → IsNode f n → kind_of h n ≡ kind_of f n
kinds_then f g h a b n i = b n (there_alike f g n (a n i) i) ∙ a n i

-- no change
pub frame_nothing : (f : Forest) (p : ℕ) (d : Face) → IsForest f → Shows f p d → Frame f f p d []
frame_nothing f p d k l = record {
  is_forest = k;
  document = refl;
  kinds = λ n i. refl;
  others = λ n e h w. w;
  here = subst (λ cs. Looks f p d.kind d.attrs cs) (sym (append-nil d.children)) l;
}

-- one change after the other
pub frame_then : {f g h : Forest} (p : ℕ) (d : Face) {xs ys : List Child} → Frame f g p d xs → Frame g h p (more d xs) ys → Frame f h p d (xs ++ ys)
frame_then {f} {g} {h} p d {xs} {ys} r s = record {
  is_forest = s.is_forest;
  document = s.document ∙ r.document;
  kinds = kinds_then f g h r.kinds s.kinds;
  others = λ n e w l. s.others n e w (r.others n e w l);
  here = subst (λ cs. Looks h p d.kind d.attrs cs) (append_assoc d.children xs ys) s.here;
}

-- what happens below a new node leaves the frame
pub frame_below : {f m g : Forest} (p n : ℕ) (d dn : Face) {xs ys : List Child} → f.node n ≡ None → Shows f p d → Frame f m p d xs → Frame m g n dn ys → Frame f g p d xs
frame_below {f} {m} {g} p n d dn {xs} new l r s = record {
  is_forest = s.is_forest;
  document = s.document ∙ r.document;
  kinds = kinds_then f m g r.kinds s.kinds;
  others = λ x e w v. s.others x e (apart_from f n x new (looks_node f x e.kind e.attrs e.children v)) (r.others x e w v);
  here = s.others p (more d xs) (apart_from f n p new (looks_node f p d.kind d.attrs d.children l)) r.here;
}

-- and so do marks
pub frame_same : {f g h : Forest} (p : ℕ) (d : Face) {xs : List Child} → Frame f g p d xs → SameFaces g h → Frame f h p d xs
frame_same {f} {g} {h} p d {xs} r s = record {
  is_forest = s.is_forest;
  document = s.document ∙ r.document;
  kinds = kinds_then f g h r.kinds s.kinds;
  others = λ n e w l. s.all n e (r.others n e w l);
  here = s.all p (more d xs) r.here;
}

-- a text
pub frame_text : (f : Forest) (p : ℕ) (t : List ℕ) (d : Face) → IsForest f → t ≢ [] → ends_in_text d.children ≡ false → Shows f p d → Frame f (append_text p t f) p d (ChildText t ∷ [])
frame_text f p t d k some end l =
    let r = text_put_rearranges f (LastChild p) t k some (looks_node f p d.kind d.attrs d.children l) in
    record {
      is_forest = r.is_forest;
      document = r.same_document;
      kinds = r.same_kind;
      others = λ n e w v. looks_beside_text f p n t e.kind e.attrs e.children w v;
      here = looks_texted f p t d.kind d.attrs d.children k end l;
    }

-- a new element
pub frame_inserted : (choices : SinkChoices) (f : Forest) (p : ℕ) (d : Face) (name : QualName) (attrs : List AttributeText) → Below choices f p name attrs → Shows f p d → Frame f (with_element choices p name attrs f) p d (ChildNode (choices.fresh f) ∷ [])
frame_inserted choices f p d name attrs below l = record {
  is_forest = below.is_forest;
  document = below.same_document;
  kinds = below.same_kind;
  others = λ n e w v. below.other n e.kind e.attrs e.children w v;
  here = below.parent d.kind d.attrs d.children l;
}

-- what changes below another element leaves the document, the doctype and the root
pub rooted_framed : (f g : Forest) (doctype root p : ℕ) (a : List AttributeText) (cs : List Child) (d : Face) (added : List Child) → Rooted f doctype root a cs → Shows f p d
    → DocumentNode ≢ d.kind → DoctypeNode (codes "html") [] [] ≢ d.kind → ElementNode html ≢ d.kind → Frame f g p d added → Rooted g doctype root a cs
rooted_framed f g doctype root p a cs d added r l no_document no_doctype no_root frame =
    let b = r.begun in
    record {
      begun = record {
        is_forest = frame.is_forest;
        document = subst (λ n. Looks g n DocumentNode [] (ChildNode doctype ∷ ChildNode root ∷ [])) (sym frame.document)
            (frame.others f.document (record { kind = DocumentNode; attrs = []; children = ChildNode doctype ∷ ChildNode root ∷ [] })
            (kinds_apart f f.document p DocumentNode d.kind [] d.attrs (ChildNode doctype ∷ ChildNode root ∷ []) d.children b.document l no_document) b.document);
        is_doctype = frame.others doctype (record { kind = DoctypeNode (codes "html") [] []; attrs = []; children = [] })
            (kinds_apart f doctype p (DoctypeNode (codes "html") [] []) d.kind [] d.attrs [] d.children b.is_doctype l no_doctype) b.is_doctype;
      };
      is_root = frame.others root (record { kind = ElementNode html; attrs = a; children = cs })
          (kinds_apart f root p (ElementNode html) d.kind a d.attrs cs d.children r.is_root l no_root) r.is_root;
    }

-- what a list of nodes makes
pub record Filled (f g : Forest) (p : ℕ) (d : Face) (nodes : Nodes) : Type 0 where
  pub added : List Child
  pub frame : Frame f g p d added
  pub stands : StandsNew g f added nodes

-- no nodes
pub filled_nothing : (f : Forest) (p : ℕ) (d : Face) → IsForest f → Shows f p d → Filled f f p d End
filled_nothing f p d k l = record { added = []; frame = frame_nothing f p d k l; stands = NowhereNew }

-- a text, and the rest
pub filled_text : (f m g : Forest) (p : ℕ) (d : Face) (t : List ℕ) (rest : Nodes) → Frame f m p d (ChildText t ∷ []) → Filled m g p (more d (ChildText t ∷ [])) rest → Filled f g p d (TextThen t rest)
filled_text f m g p d t rest a r = record {
  added = ChildText t ∷ r.added;
  frame = frame_then p d a r.frame;
  stands = WrittenNew (stands_older f (gone_before f m a.kinds) r.stands);
}

-- an element is put below p and filled, marks may change, and the rest follows
module _ (choices : SinkChoices) (f : Forest) (p : ℕ) (d : Face) (name : List ℕ) (attrs : List AttributeText) (below : Below choices f p (html_name name) attrs) (k : IsForest f) (l : Shows f p d) where
  abbrev pub n : ℕ
  n = choices.fresh f

  abbrev pub put_in : Forest
  put_in = with_element choices p (html_name name) attrs f

  new : f.node n ≡ None
  new = choices.fresh_is_new f k

  -- seen from p
  pub frame_element : (g h : Forest) (inner : Nodes) → Filled put_in g n (face name attrs) inner → SameFaces g h → Frame f h p d (ChildNode n ∷ [])
  frame_element g h inner i same = frame_same p d (frame_below p n d (face name attrs) new l (frame_inserted choices f p d (html_name name) attrs below l) i.frame) same

  -- and with the rest
  pub filled_element : (g h j : Forest) (inner rest : Nodes) → Filled put_in g n (face name attrs) inner → SameFaces g h → Filled h j p (more d (ChildNode n ∷ [])) rest → Filled f j p d (ElementThen name attrs inner rest)
  filled_element g h j inner rest i same r =
      let b = frame_element g h inner i same in
      let not_p : (x : ℕ) → f.node x ≡ None → x ≢ p = λ x o e. looks_node f p d.kind d.attrs d.children l (ap f.node (sym e) ∙ o) in
      record {
        added = ChildNode n ∷ r.added;
        frame = frame_then p d b r.frame;
        stands = PlacedNew new
            (r.frame.others n (more (face name attrs) i.added) (not_p n new) (same.all n (more (face name attrs) i.added) i.frame.here))
            (stands_kept j (λ x e o v. r.frame.others x e (not_p x o) (same.all x e v)) (stands_older f (gone_before f put_in below.same_kind) i.stands))
            (stands_older f (gone_before f h b.kinds) r.stands);
      }

-- What nodes look like after a change of the forest.
use Rattle.std.proofs.Common.{◌≡◌, ◌≢◌, ◌∙◌, ℕ, Bool, true, false, List, [], ◌∷◌, ◌++◌, Option, Some, None, ap, refl, sym}
use Rattle.std.specs.Prelude.{◌==◌}
use Rattle.std.proofs.lemmas.Bool.{eq-eqb, eqb-true}
use Rattle.h5_names.specs.AttributeText.{AttributeText}
use Rattle.h5_interface.specs.Changes.{add_node, append_node, append_text, joined, mark}
use Rattle.h5_interface.specs.Forest.{AreParted, Child, ChildNode, ChildText, Forest, IsForest, IsNode, Kind, Marks, Node}
use Rattle.h5_interface.proofs.ChildLaws.{joined-append_node}
use Rattle.h5_interface.proofs.ForestLaws.{node_of_kind}
use Rattle.h5_interface.proofs.MakingLaws.{IsLone}
use Rattle.h5_builder_laws.specs.Rebuilding.{Looks}

pub looks_node : (f : Forest) (n : ℕ) (k : Kind) (a : List AttributeText) (cs : List Child) → Looks f n k a cs → IsNode f n
looks_node f n k a cs l = node_of_kind f n k l.is_kind

-- a number that is a node, and one that isn't
pub apart_from : (f : Forest) (n m : ℕ) → f.node n ≡ None → IsNode f m → m ≢ n
apart_from f n m new there e = there (ap f.node e ∙ new)

pub unlike : (n m : ℕ) → n ≢ m → (n == m) ≡ false
unlike n m h = at (n == m) refl
  where
    at : (b : Bool) → (n == m) ≡ b → (n == m) ≡ false
    at true w = absurd (h (eqb-true n m w))
    at false w = w

-- a new node below another
abbrev pub hung : ℕ → ℕ → Node → Forest → Forest
hung p n d f = append_node p n (add_node n d f)

pub looks_new : (f : Forest) (p n : ℕ) (d : Node) → f.node n ≡ None → IsNode f p → IsLone d → Looks (hung p n d f) n d.kind d.attrs []
looks_new f p n d new there lone = record {
  is_kind = rw (eq-eqb n n refl) refl;
  has_attrs = rw (eq-eqb n n refl) refl;
  has_children = rw (eq-eqb n n refl, n_p) lone.children;
  no_contents = rw (eq-eqb n n refl) lone.contents;
}
  where
    n_p : (n == p) ≡ false
    n_p = unlike n p (λ e. apart_from f n p new there (sym e))

pub looks_parent : (f : Forest) (p n : ℕ) (d : Node) (k : Kind) (a : List AttributeText) (cs : List Child) → IsForest f → f.node n ≡ None → Looks f p k a cs → Looks (hung p n d f) p k a (cs ++ ChildNode n ∷ [])
looks_parent f p n d k a cs forest new l = at (f.node p) refl
  where
    p_n : (p == n) ≡ false
    p_n = unlike p n (apart_from f n p new (looks_node f p k a cs l))

    at : (o : Option Node) → f.node p ≡ o → Looks (hung p n d f) p k a (cs ++ ChildNode n ∷ [])
    at None w = absurd (looks_node f p k a cs l w)
    at (Some x) w = record {
      is_kind = rw (p_n, eq-eqb p p refl, w) (rw w at l.is_kind);
      has_attrs = rw (p_n, eq-eqb p p refl, w) (rw w at l.has_attrs);
      has_children = rw (p_n, eq-eqb p p refl, w) (joined-append_node x.children n (rw w at (forest.parted p)) ∙ ap (λ z. z ++ ChildNode n ∷ []) (rw w at l.has_children));
      no_contents = rw (p_n, eq-eqb p p refl, w) (rw w at l.no_contents);
    }

pub looks_other : (f : Forest) (p n m : ℕ) (d : Node) (k : Kind) (a : List AttributeText) (cs : List Child) → f.node n ≡ None → m ≢ p → Looks f m k a cs → Looks (hung p n d f) m k a cs
looks_other f p n m d k a cs new other l = at (f.node m) refl
  where
    m_n : (m == n) ≡ false
    m_n = unlike m n (apart_from f n m new (looks_node f m k a cs l))

    m_p : (m == p) ≡ false
    m_p = unlike m p other

    at : (o : Option Node) → f.node m ≡ o → Looks (hung p n d f) m k a cs
    at None w = absurd (looks_node f m k a cs l w)
    at (Some x) w = record {
      is_kind = rw (m_n, m_p, w) (rw w at l.is_kind);
      has_attrs = rw (m_n, m_p, w) (rw w at l.has_attrs);
      has_children = rw (m_n, m_p, w) (rw w at l.has_children);
      no_contents = rw (m_n, m_p, w) (rw w at l.no_contents);
    }

pub looks_marked : (f : Forest) (n : ℕ) (marks : ℕ → Marks) (k : Kind) (a : List AttributeText) (cs : List Child) → Looks f n k a cs → Looks (mark marks f) n k a cs
looks_marked f n marks k a cs l = at (f.node n) refl
  where
    at : (o : Option Node) → f.node n ≡ o → Looks (mark marks f) n k a cs
    at None w = absurd (looks_node f n k a cs l w)
    at (Some x) w = record {
      is_kind = rw w (rw w at l.is_kind);
      has_attrs = rw w (rw w at l.has_attrs);
      has_children = rw w (rw w at l.has_children);
      no_contents = rw w (rw w at l.no_contents);
    }

-- whether the last child is a text
abbrev pub ends_in_text : List Child → Bool
ends_in_text [] = false
ends_in_text (ChildNode n ∷ cs) = ends_in_text cs
ends_in_text (ChildText t ∷ []) = true
ends_in_text (ChildText t ∷ c ∷ cs) = ends_in_text (c ∷ cs)

-- not where a node comes last
pub ends_in_node : (n : ℕ) (cs : List Child) → ends_in_text (cs ++ ChildNode n ∷ []) ≡ false
ends_in_node n [] = refl
ends_in_node n (ChildNode m ∷ cs) = ends_in_node n cs
ends_in_node n (ChildText t ∷ []) = refl
ends_in_node n (ChildText t ∷ ChildNode m ∷ cs) = ends_in_node n (ChildNode m ∷ cs)
ends_in_node n (ChildText t ∷ ChildText u ∷ cs) = ends_in_node n (ChildText u ∷ cs)

-- a text after children that don't end in a text isn't joined
joined-append_text : (cs : List Child) (t : List ℕ) → AreParted cs → ends_in_text cs ≡ false → joined (cs ++ ChildText t ∷ []) ≡ cs ++ ChildText t ∷ []
joined-append_text [] t p e = refl
joined-append_text (ChildNode n ∷ cs) t p e = ap (λ z. ChildNode n ∷ z) (joined-append_text cs t p e)
joined-append_text (ChildText u ∷ []) t p e = absurd (cc)
joined-append_text (ChildText u ∷ ChildNode n ∷ cs) t p e = ap (λ z. ChildText u ∷ ChildNode n ∷ z) (joined-append_text cs t p.1 e)
joined-append_text (ChildText u ∷ ChildText v ∷ cs) t p e = absurd (p)

-- a text becomes the last child
pub looks_texted : (f : Forest) (p : ℕ) (t : List ℕ) (k : Kind) (a : List AttributeText) (cs : List Child) → IsForest f → ends_in_text cs ≡ false → Looks f p k a cs → Looks (append_text p t f) p k a (cs ++ ChildText t ∷ [])
looks_texted f p t k a cs forest end l = at (f.node p) refl
  where
    at : (o : Option Node) → f.node p ≡ o → Looks (append_text p t f) p k a (cs ++ ChildText t ∷ [])
    at None w = absurd (looks_node f p k a cs l w)
    at (Some x) w = record {
      is_kind = rw w (rw w at l.is_kind);
      has_attrs = rw w (rw w at l.has_attrs);
      has_children = rw (eq-eqb p p refl, w) (joined-append_text x.children t (rw w at (forest.parted p)) (ap ends_in_text (rw w at l.has_children) ∙ end) ∙ ap (λ z. z ++ ChildText t ∷ []) (rw w at l.has_children));
      no_contents = rw w (rw w at l.no_contents);
    }

-- and no other node changes
pub looks_beside_text : (f : Forest) (p m : ℕ) (t : List ℕ) (k : Kind) (a : List AttributeText) (cs : List Child) → m ≢ p → Looks f m k a cs → Looks (append_text p t f) m k a cs
looks_beside_text f p m t k a cs other l = at (f.node m) refl
  where
    m_p : (m == p) ≡ false
    m_p = unlike m p other

    at : (o : Option Node) → f.node m ≡ o → Looks (append_text p t f) m k a cs
    at None w = absurd (looks_node f m k a cs l w)
    at (Some x) w = record {
      is_kind = rw w (rw w at l.is_kind);
      has_attrs = rw w (rw w at l.has_attrs);
      has_children = rw (m_p, w) (rw w at l.has_children);
      no_contents = rw w (rw w at l.no_contents);
    }

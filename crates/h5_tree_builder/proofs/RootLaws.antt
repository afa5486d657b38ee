-- A root that is made is the document's last child.
use Rattle.std.proofs.Common.{◌≡◌, ◌≢◌, ◌==◌, ℕ, Bool, true, false, cond, [], ◌∷◌, ◌++◌, codes, Option, None, Some, option_map, refl, ap, sym, subst, ◌∙◌}
use Rattle.std.specs.Option.{option_map_or}
use Rattle.std.proofs.lemmas.Bool.{eq-eqb, eqb-true}
use Rattle.h5_interface.specs.Changes.{append_node, joined}
use Rattle.h5_interface.specs.Forest.{AreParted, ChildNode, Forest, IsForest, IsNode, Node, children_of}
use Rattle.h5_interface.specs.NewElement.{flags_of}
use Rattle.h5_interface.specs.Seen.{element, make_element}
use Rattle.h5_interface.specs.SinkChoices.{SinkChoices}
use Rattle.h5_interface.proofs.ChildLaws.{joined-append_node}
use Rattle.h5_interface.proofs.ForestLaws.{document_is_node}
use Rattle.h5_builder_spec.specs.formatting.FormattingNames.{html_name}
use Rattle.h5_builder_spec.specs.Changes.{create_root}
use Rattle.h5_builder_spec.specs.World.{World}

-- what is appended to a node is its last child
appended_last : (f : Forest) (p n : ℕ) → IsNode f p → AreParted (children_of f p) → children_of (append_node p n f) p ≡ children_of f p ++ ChildNode n ∷ []
appended_last f p n k parted = at (f.node p) k parted
  where
    at : (o : Option Node) → o ≢ None → AreParted (option_map_or (λ (d : Node). d.children) o [])
        → option_map_or (λ (d : Node). d.children) (option_map (λ (d : Node). record d { parent = cond (p == n) (Some p) d.parent }) (option_map (λ (d : Node). record d { children = cond (p == p) (joined (d.children ++ ChildNode n ∷ [])) d.children }) o)) []
        ≡ option_map_or (λ (d : Node). d.children) o [] ++ ChildNode n ∷ []
    at None k parted = absurd (k refl)
    at (Some d) k parted = ap (λ b. cond b (joined (d.children ++ ChildNode n ∷ [])) d.children) (eq-eqb p p refl) ∙ joined-append_node d.children n parted

-- a node that is there isn't the one that is made
apart : (f : Forest) (p n : ℕ) → IsNode f p → f.node n ≡ None → (p == n) ≡ false
apart f p n k new = at (p == n) refl
  where
    at : (b : Bool) → (p == n) ≡ b → b ≡ false
    at false e = refl
    at true e = absurd (k (ap f.node (eqb-true p n e) ∙ new))

module _ (choices : SinkChoices) (f : Forest) (k : IsForest f) where
  abbrev with_root : Forest
  with_root = make_element choices (html_name (codes "html")) [] (flags_of (html_name (codes "html")) [] false) f

  abbrev root : Node
  root = element (html_name (codes "html")) [] (flags_of (html_name (codes "html")) [] false)

  at_document : with_root.node f.document ≡ f.node f.document
  at_document = ap (λ b. cond b (Some root) (f.node f.document)) (apart f f.document (choices.fresh f) (document_is_node f k) (choices.fresh_is_new f k))

  made_last : children_of (append_node f.document (choices.fresh f) with_root) f.document ≡ children_of f f.document ++ ChildNode (choices.fresh f) ∷ []
  made_last =
      let same : children_of with_root f.document ≡ children_of f f.document = ap (λ o. option_map_or (λ (d : Node). d.children) o []) at_document in
      appended_last with_root f.document (choices.fresh f) (λ e. document_is_node f k (sym at_document ∙ e)) (subst AreParted (sym same) (k.parted f.document)) ∙ ap (λ cs. cs ++ ChildNode (choices.fresh f) ∷ []) same

pub root_is_last : (choices : SinkChoices) (w : World) → IsForest w.forest
    → children_of (create_root choices [] w).forest w.forest.document ≡ children_of w.forest w.forest.document ++ ChildNode (choices.fresh w.forest) ∷ []
unfolding create_root
root_is_last choices w k = made_last choices w.forest k

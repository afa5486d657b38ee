-- Nodes that are made one by one in a growing forest are new; and a rearranged forest keeps what is listed.
use Rattle.std.proofs.Common.{◌≡◌, inl, inr, ℕ, Bool, Some, List, [], ◌∷◌, ◌++◌, sym, subst, ◌∙◌}
use Rattle.h5_interface.specs.Forest.{ElementNode, Forest, IsNode, kind_of}
use Rattle.h5_interface.proofs.ForestLaws.{node_of_kind}
use Rattle.h5_builder_spec.specs.formatting.Adoption.{FormattingElement, IsCloneOf, adopted, clones_wanted, newest_named}
use Rattle.h5_builder_spec.proofs.entries.PassLaws.{each_adopted}
use Rattle.h5_builder_spec.specs.formatting.FormattingList.{ElementEntry, Entry, MarkerEntry, nodes_of}
use Rattle.h5_builder_spec.specs.formatting.FormattingNames.{AllOfTags, IsOfTag, html_name}
use Rattle.h5_builder_spec.specs.formatting.Fresh.{AreFresh, Makes, one_more}
use Rattle.h5_builder_spec.specs.stack.Order.{Distinct, IsIn}
use Rattle.h5_builder_spec.proofs.entries.PairLaws.{before_across, before_left, in_left, in_right}

-- what is listed is a node
pub each_listed : (f : Forest) (l : List Entry) (n : ℕ) → AllOfTags f l → IsIn n (nodes_of l) → IsNode f n
each_listed f [] n k h = absurd h
each_listed f (MarkerEntry ∷ l) n k h = each_listed f l n k h
each_listed f (ElementEntry m t ∷ l) n k (inl e) = subst (IsNode f) (sym e) (node_of_kind f m (ElementNode (html_name t.name)) k.0)
each_listed f (ElementEntry m t ∷ l) n k (inr h) = each_listed f l n k.1 h

-- nodes that are made from a forest on are none of its nodes, and distinct
pub made_new : (f : Forest) (ns : List ℕ) (x : ℕ) → Makes f ns → IsIn x ns → ¬ (IsNode f x)
made_new f [] x k h there = h
made_new f (n ∷ ns) x (one_more g new keeps here k) (inl e) there = new (subst (IsNode f) e there)
made_new f (n ∷ ns) x (one_more g new keeps here k) (inr h) there = made_new g ns x k h (keeps x there)

pub made_apart : (f : Forest) (ns : List ℕ) → Makes f ns → Distinct ns
made_apart f [] k x h = h
made_apart f (n ∷ ns) (one_more g new keeps here k) x (inl h) = made_new g ns x k h.1 (subst (IsNode g) (sym h.0) here)
made_apart f (n ∷ ns) (one_more g new keeps here k) x (inr h) = made_apart g ns k x h

-- the clones of a round, c the last
pub fresh_round : (f : Forest) (clones : List ℕ) (c : ℕ) (s : List ℕ) (l : List Entry) → Makes f (clones ++ c ∷ []) → ((n : ℕ) → IsIn n s → IsNode f n) → AllOfTags f l → AreFresh (c ∷ clones) s l
fresh_round f clones c s l k stack listed = record {
  distinct = distinct;
  unopened = λ x h i. made_new f (clones ++ c ∷ []) x k (turned x h) (stack x i);
  unlisted = λ x h i. made_new f (clones ++ c ∷ []) x k (turned x h) (each_listed f l x listed i);
}
  where
    turned : (x : ℕ) → IsIn x (c ∷ clones) → IsIn x (clones ++ c ∷ [])
    turned x (inl e) = in_right x clones (c ∷ []) (inl e)
    turned x (inr h) = in_left x clones (c ∷ []) h

    distinct : Distinct (c ∷ clones)
    distinct x (inl h) = made_apart f (clones ++ c ∷ []) k x (before_across x x clones (c ∷ []) h.1 (inl h.0))
    distinct x (inr h) = made_apart f (clones ++ c ∷ []) k x (before_left x x clones (c ∷ []) h)

-- a pass of the adoption agency keeps what is listed, where nodes stay what they are, and clones are what their
-- originals are
pub listed_adopted : (special : ℕ → Bool) (name : List ℕ) (e : FormattingElement) (clones : List ℕ) (c : ℕ) (s : List ℕ) (l : List Entry) (f g : Forest)
    → newest_named name l ≡ Some e → ((n : ℕ) → IsNode f n → kind_of g n ≡ kind_of f n) → ((y x : ℕ) → IsCloneOf (clones_wanted special e s l) clones y x → kind_of g y ≡ kind_of f x) → kind_of g c ≡ kind_of f e.node
    → AllOfTags f l → AllOfTags g (adopted special e clones c s l).formatting
listed_adopted special name e clones c s l f g found same cloned own h =
    each_adopted (IsOfTag f) (IsOfTag g) special name e clones c s l found
    (λ n t k. same n (node_of_kind f n (ElementNode (html_name t.name)) k) ∙ k)
    (λ y x t i k. cloned y x i ∙ k)
    (λ k. own ∙ k)
    h

-- The ancestors of a node are its parent and the parent's ancestors.
use Rattle.std.proofs.Common.{◌≡◌, ◌∙◌, ℕ, ◌+◌, ◌≤◌, List, [], ◌∷◌, Option, None, Some, ap, arith, length, refl, sym}
use Rattle.std.specs.Option.{option_and_then, option_map_or}
use Prim.Native.Nat.{zero, suc}
use Rattle.h5_interface.specs.Forest.{CommentNode, DoctypeNode, DocumentNode, ElementNode, Forest, FragmentNode, InstructionNode, Kind, Node, parent_of}
use Rattle.h5_arena.specs.ArenaModel.{child_parent, child_parent_of_kind}
use Rattle.h5_arena.specs.Kin.{ancestors, ancestors_within, tree_parent}
use Rattle.h5_arena.proofs.ClimbLaws.{AreUnder, none_under}
use Rattle.h5_tree.specs.Shape.{IsShaped}
use Rattle.h5_tree.proofs.ShapedLaws.{few_under, one_more_under}

-- the node whose child a node is, is its parent
kept : (kind : Kind) (o : Option ℕ) (p : ℕ) → child_parent_of_kind kind o ≡ Some p → o ≡ Some p
kept DocumentNode o p e = e
kept (DoctypeNode name public_id system_id) o p e = e
kept (ElementNode name) o p e = e
kept (CommentNode text) o p e = e
kept (InstructionNode target text) o p e = e
kept FragmentNode o p e = cc

parent_of_child : (f : Forest) (n p : ℕ) → tree_parent f n ≡ Some p → parent_of f n ≡ Some p
parent_of_child f n p = at (f.node n)
  where
    at : (o : Option Node) → option_and_then child_parent o ≡ Some p → option_and_then (λ (d : Node). d.parent) o ≡ Some p
    at None e = cc
    at (Some d) e = kept d.kind d.parent p e

-- more levels change nothing
settled : (f : Forest) (levels n : ℕ) (under : List ℕ) → IsShaped f → AreUnder f n under → f.bound ≤ length under + levels
    → ancestors_within (suc levels) f n ≡ ancestors_within levels f n
settled f zero n under k h le = at (tree_parent f n) refl
  where
    at : (o : Option ℕ) → tree_parent f n ≡ o → option_map_or (λ p. p ∷ []) o [] ≡ []
    at None e = refl
    at (Some p) e =
        let up = parent_of_child f n p e in
        let few = few_under f p (n ∷ under) k (k.inside p n up) (one_more_under f n p under k h up) in
        absurd (omega arith)
settled f (suc levels) n under k h le = at (tree_parent f n) refl (λ p up. settled f levels p (n ∷ under) k (one_more_under f n p under k h up) (omega arith))
  where
    at : (o : Option ℕ) → tree_parent f n ≡ o → ((p : ℕ) → parent_of f n ≡ Some p → ancestors_within (suc levels) f p ≡ ancestors_within levels f p)
        → option_map_or (λ p. p ∷ ancestors_within (suc levels) f p) o [] ≡ option_map_or (λ p. p ∷ ancestors_within levels f p) o []
    at None e further = refl
    at (Some p) e further = ap (λ l. p ∷ l) (further p (parent_of_child f n p e))

pub ancestors_step : (f : Forest) (n p : ℕ) → IsShaped f → tree_parent f n ≡ Some p → ancestors f n ≡ p ∷ ancestors f p
ancestors_step f n p k e =
    sym (settled f f.bound n [] k (none_under f n) (omega arith))
    ∙ ap (λ o. option_map_or (λ q. q ∷ ancestors_within f.bound f q) o []) e

-- The choices of a sink that reports every shadow root as attached.
use Rattle.std.specs.Prelude.{◌≡◌, ◌≢◌, ℕ, Bool, true, false, Option, None, Some, refl}
use Rattle.std.specs.Option.{option_and_then}
use Rattle.h5_interface.specs.Changes.{detach_from}
use Rattle.h5_interface.specs.Forest.{CommentNode, DoctypeNode, DocumentNode, ElementNode, Forest, FragmentNode, InstructionNode, IsForest, IsNode, Kind, Node}
use Rattle.h5_interface.specs.SinkChoices.{Rearranges, SinkChoices}
use Rattle.h5_interface.proofs.HangingLaws.{detach_rearranges}
use Rattle.h5_arena.specs.ArenaModel.{arena_choices, child_parent, child_parent_of_kind, same_forest}

-- a node is removed from its parent; nothing changes if it isn't a child
abbrev pub detach_child : ℕ → Forest → Forest
detach_child c f = detach_from (option_and_then child_parent (f.node c)) c f

-- removing a child rearranges a forest
pub detach_child_rearranges : (f : Forest) (c : ℕ) → IsForest f → IsNode f c → Rearranges f (detach_child c f)
detach_child_rearranges f c k there = at (f.node c) refl
  where
    detached : (d : Node) → f.node c ≡ Some d → d.kind ≢ FragmentNode → Rearranges f (detach_from d.parent c f)
    detached d e h =
        let moved = detach_rearranges f c k (record { is_node = there; no_fragment = λ v. h (let w = (rw e at v) in cc) }) in
        rw e at moved

    by_kind : (kind : Kind) (d : Node) → f.node c ≡ Some d → d.kind ≡ kind → Rearranges f (detach_from (child_parent_of_kind kind d.parent) c f)
    by_kind DocumentNode d e w = detached d e (λ v. cc)
    by_kind (DoctypeNode name public_id system_id) d e w = detached d e (λ v. cc)
    by_kind (ElementNode name) d e w = detached d e (λ v. cc)
    by_kind (CommentNode text) d e w = detached d e (λ v. cc)
    by_kind (InstructionNode target text) d e w = detached d e (λ v. cc)
    by_kind FragmentNode d e w = same_forest f k

    at : (o : Option Node) → f.node c ≡ o → Rearranges f (detach_child c f)
    at None e = absurd (there e)
    at (Some d) e = rw e (by_kind d.kind d e refl)

-- a template that is a child is removed from its parent, or nothing changes
abbrev pub attached_in : (detaches : Bool) → ℕ → Forest → Forest
attached_in true template f = detach_child template f
attached_in false template f = f

pub attached_rearranges : (detaches : Bool) (f : Forest) (template : ℕ) → IsForest f → IsNode f template → Rearranges f (attached_in detaches template f)
attached_rearranges true f template k there = detach_child_rearranges f template k there
attached_rearranges false f template k there = same_forest f k

-- the choices of an arena, except that every shadow root is reported as attached
abbrev pub attaching_choices : (detaches : Bool) → SinkChoices
attaching_choices detaches = record arena_choices {
  attaches = λ f host template attrs. true;
  after_attach = λ f host template attrs. attached_in detaches template f;
  attach_rearranges = λ f host template attrs k a b attached. attached_rearranges detaches f template k b;
}

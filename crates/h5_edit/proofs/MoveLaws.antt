-- Laws of children that are passed.
use Rattle.std.proofs.Common.{◌≡◌, ◌∙◌, ℕ, All, Bool, List, [], ◌∷◌, ◌++◌, ap, append_assoc, cond, false, length, refl, sym, true}
use Rattle.std.specs.Prelude.{◌==◌}
use Rattle.std.proofs.lemmas.List.Elements.{All-append, All-cons, All-head, All-nil, All-tail}
use Rattle.std.proofs.lemmas.List.{map-append}
use Rattle.h5_interface.specs.Seen.{child_of}
use Rattle.h5_interface.specs.declared.sink.NodeOrText.{NodeOrText}
use Rattle.h5_arena.specs.ArenaModel.{ArenaView, IsChildHeld, child_view, child_views, place}
use Rattle.h5_arena.specs.declared.nodes.NodeId.{NodeId}
use Rattle.h5_arena.specs.declared.nodes.Child.{Child}
use Rattle.h5_arena.specs.declared.nodes.Child.TheVariants as child_is
use Rattle.h5_interface.specs.Forest as forest
use Rattle.h5_edit.specs.Editing.{inserted_after}
use Rattle.h5_edit.specs.Moving.{IsWithin, is_node, passed}

one_within : (a : ArenaView) (c : Child) → IsChildHeld a c → IsWithin (length a.nodes) (child_view c)
one_within a (child_is.Node id) h = h
one_within a (child_is.Text text) h = tt

-- held children are nodes of the arena
pub all_within : (a : ArenaView) (cs : List Child) → All (IsChildHeld a) cs → All (IsWithin (length a.nodes)) (child_views cs)
all_within a [] h = All-nil (IsWithin (length a.nodes))
all_within a (c ∷ cs) h =
    All-cons (IsWithin (length a.nodes)) (child_view c) (child_views cs) (one_within a c (All-head (IsChildHeld a) c cs h)) (all_within a cs (All-tail (IsChildHeld a) c cs h))

-- nothing is inserted
pub none_inserted : (n : ℕ) (xs : List forest.Child) → inserted_after n [] xs ≡ xs
none_inserted n [] = refl
none_inserted n (forest.ChildNode c ∷ xs) = found (c == n) (none_inserted n xs)
  where
    found : (b : Bool) → inserted_after n [] xs ≡ xs → cond b (forest.ChildNode c ∷ xs) (forest.ChildNode c ∷ inserted_after n [] xs) ≡ forest.ChildNode c ∷ xs
    found true e = refl
    found false e = ap (λ ys. forest.ChildNode c ∷ ys) e
none_inserted n (forest.ChildText t ∷ xs) = ap (λ ys. forest.ChildText t ∷ ys) (none_inserted n xs)

-- one more child, which is the node: the others come after it
pub node_found : (n : ℕ) (all more xs : List forest.Child) (x : forest.Child) → is_node n x ≡ true → ((all ++ x ∷ []) ++ more) ++ inserted_after n [] xs ≡ all ++ inserted_after n more (x ∷ xs)
node_found n all more xs (forest.ChildNode c) e =
    ap (λ ys. ((all ++ forest.ChildNode c ∷ []) ++ more) ++ ys) (none_inserted n xs)
    ∙ append_assoc (all ++ forest.ChildNode c ∷ []) more xs
    ∙ append_assoc all (forest.ChildNode c ∷ []) (more ++ xs)
    ∙ sym (ap (λ b. all ++ cond b (forest.ChildNode c ∷ more ++ xs) (forest.ChildNode c ∷ inserted_after n more xs)) e)
node_found n all more xs (forest.ChildText t) e = cc

-- one more child, which is not the node
pub other_found : (n : ℕ) (all more xs : List forest.Child) (x : forest.Child) → is_node n x ≡ false → (all ++ x ∷ []) ++ inserted_after n more xs ≡ all ++ inserted_after n more (x ∷ xs)
other_found n all more xs (forest.ChildNode c) e =
    append_assoc all (forest.ChildNode c ∷ []) (inserted_after n more xs)
    ∙ sym (ap (λ b. all ++ cond b (forest.ChildNode c ∷ more ++ xs) (forest.ChildNode c ∷ inserted_after n more xs)) e)
other_found n all more xs (forest.ChildText t) e = append_assoc all (forest.ChildText t ∷ []) (inserted_after n more xs)

-- children with others inserted are nodes of the arena if all of them are
pub inserted_within : (count n : ℕ) (more xs : List forest.Child) → All (IsWithin count) more → All (IsWithin count) xs → All (IsWithin count) (inserted_after n more xs)
inserted_within count n more [] m h = h
inserted_within count n more (forest.ChildNode c ∷ xs) m h =
    found (c == n) (All-head (IsWithin count) (forest.ChildNode c) xs h) (All-append (IsWithin count) more xs m (All-tail (IsWithin count) (forest.ChildNode c) xs h))
    (inserted_within count n more xs m (All-tail (IsWithin count) (forest.ChildNode c) xs h))
  where
    found : (b : Bool) → IsWithin count (forest.ChildNode c) → All (IsWithin count) (more ++ xs) → All (IsWithin count) (inserted_after n more xs)
        → All (IsWithin count) (cond b (forest.ChildNode c ∷ more ++ xs) (forest.ChildNode c ∷ inserted_after n more xs))
    found true first here later = All-cons (IsWithin count) (forest.ChildNode c) (more ++ xs) first here
    found false first here later = All-cons (IsWithin count) (forest.ChildNode c) (inserted_after n more xs) first later
inserted_within count n more (forest.ChildText t ∷ xs) m h =
    All-cons (IsWithin count) (forest.ChildText t) (inserted_after n more xs) tt (inserted_within count n more xs m (All-tail (IsWithin count) (forest.ChildText t) xs h))

-- the step of a loop over children, at the node, and at another child
pub after_node : (n : ℕ) (all more left rest : List (NodeOrText NodeId)) (x : NodeOrText NodeId) (whole : List forest.Child) → is_node n (child_of place x) ≡ true → left ≡ x ∷ rest
    → passed all ++ inserted_after n (passed more) (passed left) ≡ whole → passed ((all ++ x ∷ []) ++ more) ++ inserted_after n [] (passed rest) ≡ whole
after_node n all more left rest x whole e cut h =
    ap (λ ys. ys ++ inserted_after n [] (passed rest)) (map-append (child_of place) (all ++ x ∷ []) more ∙ ap (λ ys. ys ++ passed more) (map-append (child_of place) all (x ∷ [])))
    ∙ node_found n (passed all) (passed more) (passed rest) (child_of place x) e
    ∙ sym (ap (λ xs. passed all ++ inserted_after n (passed more) (passed xs)) cut) ∙ h

pub after_other : (n : ℕ) (all more left rest : List (NodeOrText NodeId)) (x : NodeOrText NodeId) (whole : List forest.Child) → is_node n (child_of place x) ≡ false → left ≡ x ∷ rest
    → passed all ++ inserted_after n (passed more) (passed left) ≡ whole → passed (all ++ x ∷ []) ++ inserted_after n (passed more) (passed rest) ≡ whole
after_other n all more left rest x whole e cut h =
    ap (λ ys. ys ++ inserted_after n (passed more) (passed rest)) (map-append (child_of place) all (x ∷ []))
    ∙ other_found n (passed all) (passed more) (passed rest) (child_of place x) e
    ∙ sym (ap (λ xs. passed all ++ inserted_after n (passed more) (passed xs)) cut) ∙ h

-- A walk over a node closes what it opens, so each call has a parent.
use Rattle.std.proofs.Common.{◌≡◌, ◌∙◌, ℕ, Bool, true, false, ◌||◌, List, [], ◌∷◌, ◌++◌, Option, ap, refl}
use Rattle.std.specs.Prelude.{None, Some}
use Rattle.std.specs.List.{flat_map}
use Rattle.std.specs.Option.{option_map_or}
use Prim.Native.Nat.{zero, suc}
use Rattle.h5_names.specs.AttributeText.{AttributeText}
use Rattle.h5_names.specs.declared.qualified.QualName.{QualName}
use Rattle.h5_interface.specs.Forest.{Child, ChildNode, ChildText, CommentNode, DoctypeNode, DocumentNode, ElementNode, Forest, FragmentNode, InstructionNode, Kind, Node}
use Rattle.h5_serialize.specs.Call.{Call, CommentOf, DoctypeOf, EndOf, InstructionOf, StartOf, TextOf}
use Rattle.h5_serialize.specs.Openers.{base_of, start_of}
use Rattle.h5_serialize.specs.Standing.{Standing, Working, has_orphan, new_standing, standing_after}
use Rattle.h5_serialize.specs.declared.openers.Opener.{Opener}
use Rattle.h5_serialize.specs.declared.options.SerializeOpts.{SerializeOpts}
use Rattle.h5_serialize.specs.declared.options.TraversalScope.{TraversalScope}
use Rattle.h5_serialize.specs.declared.options.TraversalScope.TheVariants.{ChildrenOnly, IncludeNode}
use Rattle.h5_serialize.proofs.WalkLemmas.{after_all, orphan_split}
use Rattle.h5_arena.specs.NodeCalls.{calls_around, calls_within, child_calls, shown_children, walk_of}

-- if something is open, these calls have parents, and leave open what was open
record IsBalanced (calls : List Call) : Type 0 where
  parents : (scripting create : Bool) (opener : Opener) (openers : List Opener) → has_orphan (Working scripting create (opener ∷ openers)) calls ≡ false
  leaves : (scripting create : Bool) (opener : Opener) (openers : List Opener) → after_all (Working scripting create (opener ∷ openers)) calls ≡ Working scripting create (opener ∷ openers)

balanced_none : IsBalanced []
balanced_none = record { parents = λ s c o os. refl; leaves = λ s c o os. refl }

after_append : (m : Standing) (xs ys : List Call) → after_all m (xs ++ ys) ≡ after_all (after_all m xs) ys
after_append m [] ys = refl
after_append m (x ∷ xs) ys = after_append (standing_after m x) xs ys

neither : (a b : Bool) → a ≡ false → b ≡ false → (a || b) ≡ false
neither true b h k = h
neither false b h k = k

orphans_append : (m n : Standing) (xs ys : List Call) → has_orphan m xs ≡ false → after_all m xs ≡ n → has_orphan n ys ≡ false → has_orphan m (xs ++ ys) ≡ false
orphans_append m n xs ys h e k = orphan_split m xs ys ∙ neither _ _ h (ap (λ s. has_orphan s ys) e ∙ k)

balanced_append : (xs ys : List Call) → IsBalanced xs → IsBalanced ys → IsBalanced (xs ++ ys)
balanced_append xs ys h k = record {
  parents = λ s c o os. orphans_append (Working s c (o ∷ os)) _ xs ys (h.parents s c o os) (h.leaves s c o os) (k.parents s c o os);
  leaves = λ s c o os. after_append (Working s c (o ∷ os)) xs ys ∙ ap (λ m. after_all m ys) (h.leaves s c o os) ∙ k.leaves s c o os;
}

-- calls that neither open nor close
no_orphan : (call : Call) (scripting create : Bool) (opener : Opener) (openers : List Opener) → has_orphan (Working scripting create (opener ∷ openers)) (call ∷ []) ≡ false
no_orphan call s true o os = refl
no_orphan call s false o os = refl

text_leaves : (t : List ℕ) (scripting create : Bool) (opener : Opener) (openers : List Opener) → after_all (Working scripting create (opener ∷ openers)) (TextOf t ∷ []) ≡ Working scripting create (opener ∷ openers)
text_leaves t s true o os = refl
text_leaves t s false o os = refl

comment_leaves : (t : List ℕ) (scripting create : Bool) (opener : Opener) (openers : List Opener) → after_all (Working scripting create (opener ∷ openers)) (CommentOf t ∷ []) ≡ Working scripting create (opener ∷ openers)
comment_leaves t s true o os = refl
comment_leaves t s false o os = refl

doctype_leaves : (t : List ℕ) (scripting create : Bool) (opener : Opener) (openers : List Opener) → after_all (Working scripting create (opener ∷ openers)) (DoctypeOf t ∷ []) ≡ Working scripting create (opener ∷ openers)
doctype_leaves t s true o os = refl
doctype_leaves t s false o os = refl

instruction_leaves : (t u : List ℕ) (scripting create : Bool) (opener : Opener) (openers : List Opener) → after_all (Working scripting create (opener ∷ openers)) (InstructionOf t u ∷ []) ≡ Working scripting create (opener ∷ openers)
instruction_leaves t u s true o os = refl
instruction_leaves t u s false o os = refl

-- a start and an end
started : (name : QualName) (attrs : List AttributeText) (scripting create : Bool) (opener : Opener) (openers : List Opener) → after_all (Working scripting create (opener ∷ openers)) (StartOf name attrs ∷ []) ≡ Working scripting create (start_of scripting name ∷ opener ∷ openers)
started name attrs s true o os = refl
started name attrs s false o os = refl

ended : (name : QualName) (scripting create : Bool) (opener : Opener) (openers : List Opener) → after_all (Working scripting create (start_of scripting name ∷ opener ∷ openers)) (EndOf name ∷ []) ≡ Working scripting create (opener ∷ openers)
ended name s true o os = refl
ended name s false o os = refl

balanced_element : (name : QualName) (attrs : List AttributeText) (below : List Call) → IsBalanced below → IsBalanced (StartOf name attrs ∷ below ++ EndOf name ∷ [])
balanced_element name attrs below h = record {
  parents = λ s c o os.
      orphans_append (Working s c (o ∷ os)) _ (StartOf name attrs ∷ []) (below ++ EndOf name ∷ []) (no_orphan (StartOf name attrs) s c o os) (started name attrs s c o os)
      (orphans_append (Working s c (start_of s name ∷ o ∷ os)) _ below (EndOf name ∷ []) (h.parents s c (start_of s name) (o ∷ os)) (h.leaves s c (start_of s name) (o ∷ os)) (no_orphan (EndOf name) s c (start_of s name) (o ∷ os)));
  leaves = λ s c o os.
      after_append (Working s c (o ∷ os)) (StartOf name attrs ∷ []) (below ++ EndOf name ∷ [])
      ∙ ap (λ m. after_all m (below ++ EndOf name ∷ [])) (started name attrs s c o os)
      ∙ after_append (Working s c (start_of s name ∷ o ∷ os)) below (EndOf name ∷ [])
      ∙ ap (λ m. after_all m (EndOf name ∷ [])) (h.leaves s c (start_of s name) (o ∷ os))
      ∙ ended name s c o os;
}

balanced_around : (kind : Kind) (attrs : List AttributeText) (below : List Call) → IsBalanced below → IsBalanced (calls_around kind attrs below)
balanced_around DocumentNode attrs below h = h
balanced_around (DoctypeNode name public_id system_id) attrs below h = record { parents = no_orphan (DoctypeOf name); leaves = doctype_leaves name }
balanced_around (ElementNode name) attrs below h = balanced_element name attrs below h
balanced_around (CommentNode text) attrs below h = record { parents = no_orphan (CommentOf text); leaves = comment_leaves text }
balanced_around (InstructionNode target text) attrs below h = record { parents = no_orphan (InstructionOf target text); leaves = instruction_leaves target text }
balanced_around FragmentNode attrs below h = h

balanced_node : (o : Option Node) (below : List Call) → IsBalanced below → IsBalanced (option_map_or (λ (d : Node). calls_around d.kind d.attrs below) o [])
balanced_node None below h = balanced_none
balanced_node (Some d) below h = balanced_around d.kind d.attrs below h

balanced_children : (node_calls : ℕ → List Call) → ((n : ℕ) → IsBalanced (node_calls n)) → (cs : List Child) → IsBalanced (flat_map (child_calls node_calls) cs)
balanced_children node_calls h [] = balanced_none
balanced_children node_calls h (ChildNode n ∷ cs) = balanced_append (node_calls n) (flat_map (child_calls node_calls) cs) (h n) (balanced_children node_calls h cs)
balanced_children node_calls h (ChildText t ∷ cs) =
    balanced_append (TextOf t ∷ []) (flat_map (child_calls node_calls) cs) (record { parents = no_orphan (TextOf t); leaves = text_leaves t }) (balanced_children node_calls h cs)

balanced_within : (levels : ℕ) (f : Forest) (n : ℕ) → IsBalanced (calls_within levels f n)
unfolding calls_within
balanced_within zero f n = balanced_none
balanced_within (suc levels) f n =
    balanced_node (f.node n) (flat_map (child_calls (calls_within levels f)) (shown_children f n)) (balanced_children (calls_within levels f) (balanced_within levels f) (shown_children f n))

balanced_walk : (f : Forest) (n : ℕ) (scope : TraversalScope) → IsBalanced (walk_of f n scope)
balanced_walk f n IncludeNode = balanced_within f.bound f n
balanced_walk f n (ChildrenOnly name) = balanced_children (calls_within f.bound f) (balanced_within f.bound f) (shown_children f n)

pub no_orphan_in_walk : (f : Forest) (n : ℕ) (scope : TraversalScope) (opts : SerializeOpts) → has_orphan (new_standing opts) (walk_of f n scope) ≡ false
no_orphan_in_walk f n scope opts = (balanced_walk f n scope).parents opts.scripting_enabled opts.create_missing_parent (base_of opts.scripting_enabled opts.traversal_scope) []

-- Nodes that are pushed are made in the forest.
use Rattle.std.proofs.Common.{◌≡◌, ◌∙◌, ℕ, ◌+◌, ◌-◌, Bool, true, false, cond, List, [], ◌∷◌, ◌++◌, ap, arith, length, max, refl, sym, take}
use Rattle.std.specs.Prelude.{◌==◌, Option, None, Some, slice_get}
use Rattle.std.proofs.Math.Dec.{eqb-suc-zero, eqb-zero-suc, eqb-suc-suc}
use Rattle.std.proofs.lemmas.Bool.{eqb-true}
use Rattle.std.proofs.lemmas.List.{length-append, length-map, map-append, take-map}
use Prim.Native.Nat.{zero, suc}
use Rattle.h5_interface.specs.Changes.{add_node, host}
use Rattle.h5_interface.specs.Forest.{Forest, FragmentNode, Node}
use Rattle.h5_interface.specs.Seen.{element, make, make_contents, make_element, plain, with_contents}
use Rattle.h5_interface.specs.SinkChoices.{SinkChoices}
use Rattle.h5_interface.specs.declared.marks.ElementFlags.{ElementFlags}
use Rattle.h5_names.specs.declared.qualified.QualName.{QualName}
use Rattle.h5_names.specs.AttributeText.{AttributeText}
use Rattle.h5_interface.proofs.ForestLaws.{same_forest}
use Rattle.h5_arena.specs.declared.nodes.NodeData.{NodeData}
use Rattle.h5_arena.specs.ArenaModel.{arena_choices, forest_in, forest_of, node_view, node_views}

get-push : (xs : List Node) (v : Node) (m : ℕ) → slice_get (xs ++ v ∷ []) m ≡ cond (m == length xs) (Some v) (slice_get xs m)
get-push [] v zero = refl
get-push [] v (suc m) = rw (eqb-suc-zero m) refl
get-push (x ∷ xs) v zero = rw (eqb-zero-suc (length xs)) refl
get-push (x ∷ xs) v (suc m) = get-push xs v m ∙ ap (λ b. cond b (Some v) (slice_get xs m)) (sym (eqb-suc-suc m (length xs)))

pushed : (xs : List Node) (v : Node) → forest_of (xs ++ v ∷ []) ≡ add_node (length xs) v (forest_of xs)
pushed xs v = same_forest _ (add_node (length xs) v (forest_of xs)) refl (omega (arith, length-append xs (v ∷ []))) (get-push xs v)

pub views_pushed : (ns : List NodeData) (d : NodeData) → node_views (ns ++ d ∷ []) ≡ node_views ns ++ node_view d ∷ []
views_pushed ns d = map-append node_view ns (d ∷ [])

-- a node at the end of the vector is the node that is made next
pub push_is : (ns : List NodeData) (d : NodeData) (v : Node) → node_view d ≡ v → forest_in (ns ++ d ∷ []) ≡ make arena_choices v (forest_in ns)
push_is ns d v e = ap forest_of (views_pushed ns d ∙ ap (λ x. node_views ns ++ x ∷ []) e) ∙ pushed (node_views ns) v

take-front : (xs : List Node) (v : Node) (k : ℕ) → k ≡ length xs → take k (xs ++ v ∷ []) ≡ xs
take-front [] v zero e = refl
take-front [] v (suc k) e = absurd (omega arith)
take-front (x ∷ xs) v zero e = absurd (omega arith)
take-front (x ∷ xs) v (suc k) e = ap (λ ys. x ∷ ys) (take-front xs v k (omega arith))

-- a node that was pushed is taken off
pub popped : (ns ps qs zs : List NodeData) (v : Node) → node_views ps ≡ node_views ns ++ v ∷ [] → node_views qs ≡ node_views ps → zs ≡ take (length qs - 1) qs → node_views zs ≡ node_views ns
popped ns ps qs zs v e w h =
    let long : length (node_views qs) ≡ length (node_views ns ++ v ∷ []) = ap length (w ∙ e) in
    let long' : length qs ≡ length (node_views ns) + 1 = sym (length-map qs node_view) ∙ long ∙ length-append (node_views ns) (v ∷ []) in
    ap node_views h ∙ sym (take-map node_view (length qs - 1) qs) ∙ ap (take (length qs - 1)) (w ∙ e) ∙ take-front (node_views ns) v (length qs - 1) (omega (arith, long'))

apart_before : (n m k : ℕ) (b : Bool) → m ≡ n + 1 → (k == m) ≡ true → (k == n) ≡ b → (k == n) ≡ false
apart_before n m k true e w v = absurd (let x : k ≡ m = eqb-true k m w in let y : k ≡ n = eqb-true k n v in omega arith)
apart_before n m k false e w v = v

-- a template and its contents
hosted : (f : Forest) (n m : ℕ) (v : Node) → m ≡ n + 1 → add_node m (record (plain FragmentNode) { parent = Some n }) (add_node n (record v { contents = Some m }) f) ≡ host n m (add_node m (plain FragmentNode) (add_node n v f))
hosted f n m v e = same_forest _ (host n m (add_node m (plain FragmentNode) (add_node n v f))) refl refl (λ k. at k (k == m) refl (k == n) refl (f.node k) refl)
  where
    at : (k : ℕ) (a : Bool) → (k == m) ≡ a → (b : Bool) → (k == n) ≡ b → (o : Option Node) → f.node k ≡ o
        → (add_node m (record (plain FragmentNode) { parent = Some n }) (add_node n (record v { contents = Some m }) f)).node k ≡ (host n m (add_node m (plain FragmentNode) (add_node n v f))).node k
    at k true w b u o g = rw (w, apart_before n m k (k == n) e w refl) refl
    at k false w true u o g = rw (w, u) refl
    at k false w false u None g = rw (w, u, g) refl
    at k false w false u (Some d) g = rw (w, u, g) refl

template_forest : (f : Forest) (bound n : ℕ) (v : Node) → bound ≡ n
    → add_node (max bound (bound + 1)) (record (plain FragmentNode) { parent = Some n }) (add_node bound (record v { contents = Some (n + 1) }) f) ≡ host n (max bound (bound + 1)) (add_node (max bound (bound + 1)) (plain FragmentNode) (add_node bound v f))
template_forest f bound n v e = let next : max n (n + 1) ≡ n + 1 = omega arith in rw (e, next) (hosted f n (n + 1) v refl)

pub template_is : (ns : List NodeData) (t c : NodeData) (v : Node) (n : ℕ) → n ≡ length ns → node_view t ≡ record v { contents = Some (n + 1) } → node_view c ≡ record (plain FragmentNode) { parent = Some n }
    → forest_in ((ns ++ t ∷ []) ++ c ∷ []) ≡ make_contents arena_choices n (make arena_choices v (forest_in ns))
template_is ns t c v n e wt wc =
    let len : length (node_views ns) ≡ n = length-map ns node_view ∙ sym e in
    push_is (ns ++ t ∷ []) c (record (plain FragmentNode) { parent = Some n }) wc
    ∙ ap (make arena_choices (record (plain FragmentNode) { parent = Some n })) (push_is ns t (record v { contents = Some (n + 1) }) wt)
    ∙ template_forest (forest_in ns) (length (node_views ns)) n v len

-- an element that isn't a template is made alone
pub made_alone : (choices : SinkChoices) (name : QualName) (attrs : List AttributeText) (flags : ElementFlags) (f g : Forest) → flags.template ≡ false → g ≡ make choices (element name attrs flags) f → g ≡ make_element choices name attrs flags f
made_alone choices name attrs flags f g w e = e ∙ sym (ap (λ b. with_contents b choices (choices.fresh f) (make choices (element name attrs flags) f)) w)

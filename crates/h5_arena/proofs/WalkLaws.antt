-- Steps of a walk over the nodes of an arena, over any serializer.
use Rattle.std.proofs.Common.{◌≡◌, ◌∙◌, ℕ, ◌+◌, ◌<◌, Bor, List, [], ◌∷◌, ◌++◌, Option, Result, Ok, Err, ap, append-nil, append_assoc, arith, length, refl, subst, sym}
use Rattle.std.specs.Prelude.{None, Some, option_copied}
use Rattle.std.proofs.lemmas.List.{nil_from_length}
use Rattle.std.specs.Result.{IsErrAnd}
use Rattle.h5_serialize.specs.Call.{Call}
use Rattle.h5_serialize.specs.Walk.{AreMade, IsStopped, Makes, NoCall, OneMore, Refused, Starved}
use Rattle.h5_serialize.specs.declared.fault.SerializeFault.{SerializeFault}
use Rattle.h5_serialize.specs.declared.fault.SerializeFault.TheVariants.{Memory}
use Rattle.h5_serialize.proofs.WalkSteps.{made_join, stopped_early, stopped_join}
use Rattle.h5_interface.specs.Forest.{Forest, IsForest}
use Rattle.h5_arena.specs.ArenaModel.{child_view, child_views}
use Rattle.h5_arena.specs.NodeCalls.{calls_of, calls_of_children, child_calls, shown_children}
use Rattle.h5_arena.specs.OpenNodes.{AreNodes, Begins, OpensChild, calls_left, end_calls}
use Rattle.h5_arena.specs.declared.nodes.Child.{Child}
use Rattle.h5_arena.specs.declared.nodes.Child.TheVariants.{Node, Text}
use Rattle.h5_arena.specs.declared.walk.OpenNode.{OpenNode}
use Rattle.h5_arena.proofs.NodeCallLaws.{shown_are_nodes, weight_of, weight_of_children, weight_of_node}

-- the calls of the waiting open nodes, the innermost last
abbrev pub calls_waiting : Forest → List OpenNode → List Call
calls_waiting f [] = []
calls_waiting f (node ∷ around) = calls_waiting f around ++ calls_left f node

-- what is left of them are nodes and texts
abbrev pub AreWaiting : Forest → List OpenNode → Type 0
AreWaiting f [] = Unit {0}
AreWaiting f (node ∷ around) = AreNodes f (child_views node.rest.now) × AreWaiting f around

-- a measure of the remainder of an open node, and of all that wait
abbrev pub weight_left : Forest → OpenNode → ℕ
weight_left f node = 1 + weight_of_children (weight_of f) (child_views node.rest.now)

abbrev pub weight_waiting : Forest → List OpenNode → ℕ
weight_waiting f [] = 0
weight_waiting f (node ∷ around) = weight_left f node + weight_waiting f around

pub calls_waiting_more : (f : Forest) (around : List OpenNode) (node : OpenNode) → calls_waiting f (around ++ node ∷ []) ≡ calls_left f node ++ calls_waiting f around
calls_waiting_more f [] node = sym (append-nil (calls_left f node))
calls_waiting_more f (outer ∷ around) node = ap (λ l. l ++ calls_left f outer) (calls_waiting_more f around node) ∙ append_assoc (calls_left f node) (calls_waiting f around) (calls_left f outer)

pub weight_waiting_more : (f : Forest) (around : List OpenNode) (node : OpenNode) → weight_waiting f (around ++ node ∷ []) ≡ weight_left f node + weight_waiting f around
weight_waiting_more f [] node = refl
weight_waiting_more f (outer ∷ around) node = let h = weight_waiting_more f around node in omega arith

pub waiting_more : (f : Forest) (around : List OpenNode) (node : OpenNode) → AreWaiting f around → AreNodes f (child_views node.rest.now) → AreWaiting f (around ++ node ∷ [])
waiting_more f [] node h k = (k, tt)
waiting_more f (outer ∷ around) node h k = (h.0, waiting_more f around node h.1 k)

pub waiting_fewer : (f : Forest) (around : List OpenNode) (node : OpenNode) → AreWaiting f (around ++ node ∷ []) → AreWaiting f around × AreNodes f (child_views node.rest.now)
waiting_fewer f [] node h = (tt, h.0)
waiting_fewer f (outer ∷ around) node h = let k = waiting_fewer f around node h.1 in ((h.0, k.0), k.1)

module _ {M : Type 0} (answer : M → Call → Result (Unit {0}) SerializeFault) (after : M → Call → M) (writes : M → Call → List ℕ) (breaks : M → Option (List ℕ) → Call → SerializeFault → M → Option (List ℕ) → Type 0) (f : Forest) where
  -- an error that is returned unchanged
  pub begins_stopped : {m n : M} {t u : Option (List ℕ)} {calls : List Call} {fault : SerializeFault} (result : Result (Option OpenNode) SerializeFault) → IsErrAnd result (λ answered. answered ≡ fault) → IsStopped answer after writes breaks calls m t fault n u → Begins answer after writes breaks f calls m t result n u
  begins_stopped (Ok opened) is h = absurd is
  begins_stopped {m} {n} {t} {u} {calls} (Err answered) is h = let P : SerializeFault → Type 0 = λ x. IsStopped answer after writes breaks calls m t x n u in subst P (sym is) h

  -- the first call failed
  pub begins_refused : {m n : M} {t u : Option (List ℕ)} {calls : List Call} {fault : SerializeFault} (call : Call) (left : List Call) (result : Result (Option OpenNode) SerializeFault) → calls ≡ call ∷ left → IsErrAnd result (λ answered. answered ≡ fault) → Makes answer after writes breaks call m t (Err fault) n u → Begins answer after writes breaks f calls m t result n u
  begins_refused call left result e is made = begins_stopped result is (Refused [] call left e NoCall made)

  -- the first call failed, or an allocation for it
  pub begins_not : {m n : M} {t u : Option (List ℕ)} {calls : List Call} {fault : SerializeFault} (call : Call) (left : List Call) (result : Result (Option OpenNode) SerializeFault) → calls ≡ call ∷ left → IsErrAnd result (λ answered. answered ≡ fault) → IsStopped answer after writes breaks (call ∷ []) m t fault n u → Begins answer after writes breaks f calls m t result n u
  begins_not {m} {n} {t} {u} {calls} {fault} call left result e is stopped =
      begins_stopped result is (subst (λ l. IsStopped answer after writes breaks l m t fault n u) (sym e) (stopped_early answer after writes breaks left stopped))

  -- one call was all
  pub begins_one : {m n : M} {t u : Option (List ℕ)} {calls : List Call} (call : Call) → calls ≡ call ∷ [] → Makes answer after writes breaks call m t (Ok tt) n u → Begins answer after writes breaks f calls m t (Ok None) n u
  begins_one {m} {n} {t} {u} call e made = (call ∷ [], e, OneMore call n u NoCall made)

  -- a node was opened without a call, or by its start
  pub begins_silent : {m : M} {t : Option (List ℕ)} {calls : List Call} (opened : OpenNode) → calls ≡ calls_left f opened → Begins answer after writes breaks f calls m t (Ok (Some opened)) m t
  begins_silent opened e = ([], e, NoCall)

  pub begins_open : {m n : M} {t u : Option (List ℕ)} {calls : List Call} (call : Call) (opened : OpenNode) → calls ≡ call ∷ calls_left f opened → AreMade answer after writes breaks m t (call ∷ []) n u → Begins answer after writes breaks f calls m t (Ok (Some opened)) n u
  begins_open call opened e made = (call ∷ [], e, made)

-- a walk in its middle: some calls were made, and those of the open nodes are left
module _ {M : Type 0} (answer : M → Call → Result (Unit {0}) SerializeFault) (after : M → Call → M) (writes : M → Call → List ℕ) (breaks : M → Option (List ℕ) → Call → SerializeFault → M → Option (List ℕ) → Type 0) where
  pub record IsUnderWay (f : Forest) (calls : List Call) (m : M) (t : Option (List ℕ)) (current : OpenNode) (around : List OpenNode) (n : M) (u : Option (List ℕ)) : Type 0 where
    pub made : List Call
    pub split : calls ≡ made ++ (calls_left f current ++ calls_waiting f around)
    pub are_made : AreMade answer after writes breaks m t made n u
    pub held : AreNodes f (child_views current.rest.now)
    pub waiting : AreWaiting f around

  -- an error among the calls that come next
  pub under_way_stopped : {f : Forest} {calls : List Call} {m n k : M} {t u v : Option (List ℕ)} {current : OpenNode} {around : List OpenNode} {fault : SerializeFault} (next later : List Call) → IsUnderWay f calls m t current around n u
      → calls_left f current ++ calls_waiting f around ≡ next ++ later → IsStopped answer after writes breaks next n u fault k v → IsStopped answer after writes breaks calls m t fault k v
  under_way_stopped {m} {k} {t} {v} {fault} next later way e stopped =
      let whole = way.split ∙ ap (λ l. way.made ++ l) e in
      subst (λ l. IsStopped answer after writes breaks l m t fault k v) (sym whole) (stopped_join answer after writes breaks way.are_made (stopped_early answer after writes breaks later stopped))

  -- an allocation that fails after the calls that came next
  pub under_way_starved : {f : Forest} {calls : List Call} {m n k : M} {t u v : Option (List ℕ)} {current : OpenNode} {around : List OpenNode} (next later : List Call) → IsUnderWay f calls m t current around n u
      → calls_left f current ++ calls_waiting f around ≡ next ++ later → AreMade answer after writes breaks n u next k v → IsStopped answer after writes breaks calls m t Memory k v
  under_way_starved next later way e made =
      Starved (way.made ++ next) later (way.split ∙ ap (λ l. way.made ++ l) e ∙ sym (append_assoc way.made next later)) (made_join answer after writes breaks way.are_made made)

  -- the calls that come next are made
  pub under_way_further : {f : Forest} {calls : List Call} {m n k : M} {t u v : Option (List ℕ)} {current : OpenNode} {around : List OpenNode} (next : List Call) (inner : OpenNode) (outer : List OpenNode) → IsUnderWay f calls m t current around n u
      → calls_left f current ++ calls_waiting f around ≡ next ++ (calls_left f inner ++ calls_waiting f outer) → AreMade answer after writes breaks n u next k v → AreNodes f (child_views inner.rest.now) → AreWaiting f outer
      → IsUnderWay f calls m t inner outer k v
  under_way_further {f} next inner outer way e made held waiting = record {
    made = way.made ++ next;
    split = way.split ∙ ap (λ l. way.made ++ l) e ∙ sym (append_assoc way.made next (calls_left f inner ++ calls_waiting f outer));
    are_made = made_join answer after writes breaks way.are_made made;
    held = held;
    waiting = waiting;
  }

  -- the calls that come next were the last
  pub under_way_done : {f : Forest} {calls : List Call} {m n k : M} {t u v : Option (List ℕ)} {current : OpenNode} {around : List OpenNode} (next : List Call) → IsUnderWay f calls m t current around n u
      → calls_left f current ++ calls_waiting f around ≡ next → AreMade answer after writes breaks n u next k v → AreMade answer after writes breaks m t calls k v
  under_way_done {m} {k} {t} {v} next way e made =
      subst (λ l. AreMade answer after writes breaks m t l k v) (sym (way.split ∙ ap (λ l. way.made ++ l) e)) (made_join answer after writes breaks way.are_made made)

-- an open node without its first child
abbrev pub behind : OpenNode → Bor (List Child) → OpenNode
behind current rest = record { rest = rest; name = current.name }

-- the calls of the first child come next
pub first_child : (f : Forest) (current : OpenNode) (around : List OpenNode) (x : Child) (rest : Bor (List Child)) → current.rest.now ≡ x ∷ rest.now
    → calls_left f current ++ calls_waiting f around ≡ child_calls (calls_of f) (child_view x) ++ (calls_left f (behind current rest) ++ calls_waiting f around)
first_child f current around x rest e =
    let ends = end_calls (option_copied current.name) in
    let own = child_calls (calls_of f) (child_view x) in
    let later = calls_of_children f (child_views rest.now) in
    ap (λ xs. (calls_of_children f (child_views xs) ++ ends) ++ calls_waiting f around) e
    ∙ ap (λ l. l ++ calls_waiting f around) (append_assoc own later ends)
    ∙ append_assoc own (later ++ ends) (calls_waiting f around)

-- if the child was opened, its calls continue with those that are left of it
pub child_opened : (f : Forest) (current opened : OpenNode) (around : List OpenNode) (x : Child) (rest : Bor (List Child)) (made : List Call) → current.rest.now ≡ x ∷ rest.now
    → child_calls (calls_of f) (child_view x) ≡ made ++ calls_left f opened
    → calls_left f current ++ calls_waiting f around ≡ made ++ (calls_left f opened ++ calls_waiting f (around ++ behind current rest ∷ []))
child_opened f current opened around x rest made e split =
    let later = calls_left f (behind current rest) ++ calls_waiting f around in
    first_child f current around x rest e
    ∙ ap (λ l. l ++ later) split
    ∙ append_assoc made (calls_left f opened) later
    ∙ ap (λ l. made ++ (calls_left f opened ++ l)) (sym (calls_waiting_more f around (behind current rest)))

pub child_done : (f : Forest) (current : OpenNode) (around : List OpenNode) (x : Child) (rest : Bor (List Child)) (made : List Call) → current.rest.now ≡ x ∷ rest.now
    → child_calls (calls_of f) (child_view x) ≡ made ++ [] → calls_left f current ++ calls_waiting f around ≡ made ++ (calls_left f (behind current rest) ++ calls_waiting f around)
child_done f current around x rest made e split =
    first_child f current around x rest e ∙ ap (λ l. l ++ (calls_left f (behind current rest) ++ calls_waiting f around)) (split ∙ append-nil made)

-- if no child is left, the end comes next
pub no_child : (f : Forest) (current : OpenNode) (around : List OpenNode) → length current.rest.now ≡ 0
    → calls_left f current ++ calls_waiting f around ≡ end_calls (option_copied current.name) ++ calls_waiting f around
no_child f current around e = ap (λ xs. (calls_of_children f (child_views xs) ++ end_calls (option_copied current.name)) ++ calls_waiting f around) (nil_from_length current.rest.now e)

-- the first child, and those after it, are nodes or texts
pub first_held : (f : Forest) (current : OpenNode) (x : Child) (rest : Bor (List Child)) → current.rest.now ≡ x ∷ rest.now → AreNodes f (child_views current.rest.now) → AreNodes f (child_view x ∷ []) × AreNodes f (child_views rest.now)
first_held f current x rest e h = at x (subst (λ xs. AreNodes f (child_views xs)) e h)
  where
    at : (x : Child) → AreNodes f (child_view x ∷ child_views rest.now) → AreNodes f (child_view x ∷ []) × AreNodes f (child_views rest.now)
    at (Node id) h = ((h.0, tt), h.1)
    at (Text text) h = (tt, h)

-- less is left if a child was opened
pub less_opened : (f : Forest) (current opened : OpenNode) (around : List OpenNode) (x : Child) (rest : Bor (List Child)) → IsForest f → current.rest.now ≡ x ∷ rest.now → OpensChild f (child_view x) (Ok (Some opened))
    → weight_left f opened + weight_waiting f (around ++ behind current rest ∷ []) < weight_left f current + weight_waiting f around
less_opened f current opened around x rest k e h = at x e h
  where
    at : (x : Child) → current.rest.now ≡ x ∷ rest.now → OpensChild f (child_view x) (Ok (Some opened)) → weight_left f opened + weight_waiting f (around ++ behind current rest ∷ []) < weight_left f current + weight_waiting f around
    at (Text text) e h = absurd h
    at (Node id) e h =
        let more = weight_waiting_more f around (behind current rest) in
        let own = weight_of_node f id.index k in
        let shown : weight_of_children (weight_of f) (child_views opened.rest.now) ≡ weight_of_children (weight_of f) (shown_children f id.index) = ap (weight_of_children (weight_of f)) h in
        let left : weight_of_children (weight_of f) (child_views current.rest.now) ≡ 1 + weight_of f id.index + weight_of_children (weight_of f) (child_views rest.now) = ap (λ xs. weight_of_children (weight_of f) (child_views xs)) e in
        omega arith

-- what is left of a child that was opened are nodes or texts
pub opened_held : (f : Forest) (x : Child) (opened : OpenNode) → IsForest f → OpensChild f (child_view x) (Ok (Some opened)) → AreNodes f (child_views opened.rest.now)
opened_held f (Text text) opened k h = absurd h
opened_held f (Node id) opened k h = subst (AreNodes f) (sym h) (shown_are_nodes f id.index k)

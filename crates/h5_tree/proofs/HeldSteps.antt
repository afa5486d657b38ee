-- The data of columns after the calls of a walk: runs of nodes, and columns that grow.
use Rattle.std.proofs.Common.{◌≡◌, ◌∙◌, ◌⊎◌, ℕ, ◌+◌, ◌*◌, ◌<◌, ◌≤◌, Bool, true, false, cond, List, [], ◌∷◌, ◌++◌, ap, arith, inl, inr, length, refl, subst, sym}
use Rattle.std.specs.Prelude.{◌%◌, ◌/◌, Option, Some, nat_lt, not, slice_get, slice_set}
use Rattle.std.specs.Option.{option_map_or}
use Rattle.std.proofs.lemmas.Bool.{cases_lt, cond-false, cond-true, le-ltb, lt-ltb}
use Rattle.std.proofs.lemmas.List.{append-nil, append_assoc, get_or_at, length-append, set_at}
use Rattle.std.proofs.lemmas.List.Sums.{prefix_len-le-length}
use Rattle.std.proofs.lemmas.Option.{slice_get-get_or}
use Rattle.h5_names.specs.AttributeText.{AttributeText, is_same_name}
use Rattle.h5_names.specs.declared.qualified.QualName.{QualName}
use Rattle.h5_serialize.specs.Call.{Call, CommentOf, DoctypeOf, EndOf, InstructionOf, StartOf, TextOf}
use Rattle.h5_serialize.specs.Walk.{after_each}
use Rattle.h5_tree_block.specs.Block.{nothing}
use Rattle.h5_tree_block.specs.Columns.{DoctypeIds, Held, HeldNames, after_call, closed, columns_of, contents_opened, element_closed, element_opened, is_template, named, no_ids, nothing_held, number_of, opened, with_attribute, with_attributes, with_bytes, with_ids, with_name, with_node, with_row, with_text}
use Rattle.h5_tree_block.specs.declared.columns.FlatNode.{FlatNode}
use Rattle.h5_tree.proofs.BalancedCalls.{AreBalanced, ElementCalls, IsLeafCall, Joined, LeafCall, NoCalls}
use Rattle.h5_tree.proofs.GrowthLaws.{AreGrowing, AreNamed, EndInTurn, grow_append, grow_from, named_append, named_more, one_more_ends}
use Rattle.h5_tree.proofs.NodeRuns.{BothRuns, ContentsRun, ElementRun, IsLeafKind, IsRun, LeafNode, NoNodes}

-- the columns of rows and of names are in order
pub record AreKept (h : Held) : Type 0 where
  pub rows : EndInTurn 0 h.rows.list (length h.rows.bytes)
  pub names : EndInTurn 0 h.names.texts.list (length h.names.texts.bytes)
  pub met : length h.names.met ≡ length h.names.texts.list

-- texts, rows and names are added
pub record IsGrown (h g : Held) : Type 0 where
  pub text : length h.text ≤ length g.text
  pub rows : length h.rows.list ≤ length g.rows.list
  pub names : length h.names.met ≤ length g.names.met
  pub kept : AreKept h → AreKept g

grown_same : (h : Held) → IsGrown h h
grown_same h = record { text = omega arith; rows = omega arith; names = omega arith; kept = λ k. k }

grown_both : (h g i : Held) → IsGrown h g → IsGrown g i → IsGrown h i
grown_both h g i a b = record {
  text = let x = a.text in let y = b.text in omega arith;
  rows = let x = a.rows in let y = b.rows in omega arith;
  names = let x = a.names in let y = b.names in omega arith;
  kept = λ k. b.kept (a.kept k);
}

-- no nodes are added
record HasSameNodes (h g : Held) : Type 0 where
  pub nodes : g.nodes ≡ h.nodes
  pub current : g.current ≡ h.current
  pub grown : IsGrown h g

same_nodes : (h : Held) → HasSameNodes h h
same_nodes h = record { nodes = refl; current = refl; grown = grown_same h }

same_both : (h g i : Held) → HasSameNodes h g → HasSameNodes g i → HasSameNodes h i
same_both h g i a b = record { nodes = b.nodes ∙ a.nodes; current = b.current ∙ a.current; grown = grown_both h g i a.grown b.grown }

row_more : (word : ℕ) (value : List ℕ) (h : Held) → HasSameNodes h (with_row word value h)
unfolding with_row with_text
row_more word value h = record {
  nodes = refl;
  current = refl;
  grown = record {
    text = omega arith;
    rows = omega (arith, length-append h.rows.list (record { word = word; end = length (h.rows.bytes ++ value) } ∷ []));
    names = omega arith;
    kept = λ k. record {
      rows = one_more_ends 0 h.rows.list (length h.rows.bytes) word (length (h.rows.bytes ++ value)) k.rows (omega (arith, length-append h.rows.bytes value));
      names = k.names;
      met = k.met;
    };
  };
}

bytes_more : (text : List ℕ) (h : Held) → HasSameNodes h (with_bytes text h)
unfolding with_bytes
bytes_more text h = record {
  nodes = refl;
  current = refl;
  grown = record {
    text = omega (arith, length-append h.text text);
    rows = omega arith;
    names = omega arith;
    kept = λ k. record { rows = k.rows; names = k.names; met = k.met };
  };
}

ids_dropped : (h : Held) → HasSameNodes h (record h { ids = no_ids })
ids_dropped h = record {
  nodes = refl;
  current = refl;
  grown = record { text = omega arith; rows = omega arith; names = omega arith; kept = λ k. record { rows = k.rows; names = k.names; met = k.met } };
}

ids_more : (h : Held) → HasSameNodes h (with_ids h)
unfolding with_ids
ids_more h =
    let dropped = record h { ids = no_ids } in
    let public = with_row nothing h.ids.public_id dropped in
    same_both h public (with_row nothing h.ids.system_id public) (same_both h dropped public (ids_dropped h) (row_more nothing h.ids.public_id dropped)) (row_more nothing h.ids.system_id public)

-- names: the number of one isn't above their number
pub number_within : (met : List QualName) (name : QualName) → number_of met name ≤ length met
number_within met name = prefix_len-le-length (λ one. not (is_same_name one name)) met

-- what a name adds
record HasName (name : QualName) (n m : HeldNames) : Type 0 where
  pub names : length n.met ≤ length m.met
  pub number : number_of n.met name < length m.met
  pub kept : EndInTurn 0 n.texts.list (length n.texts.bytes) → EndInTurn 0 m.texts.list (length m.texts.bytes)
  pub met : length n.met ≡ length n.texts.list → length m.met ≡ length m.texts.list

name_more : (name : QualName) (word : ℕ) (n : HeldNames) → HasName name n (record { met = n.met ++ name ∷ []; texts = with_text word name.local n.texts })
unfolding with_text
name_more name word n =
    let more = length-append n.met (name ∷ []) in
    let bytes = n.texts.bytes ++ name.local in
    record {
      names = omega (arith, more);
      number = omega (arith, more, number_within n.met name);
      kept = λ k. one_more_ends 0 n.texts.list (length n.texts.bytes) word (length bytes) k (omega (arith, length-append n.texts.bytes name.local));
      met = λ e. omega (arith, more, e, length-append n.texts.list (record { word = word; end = length bytes } ∷ []));
    }

has_name : (name : QualName) (n : HeldNames) → HasName name n (with_name name n)
unfolding with_name
has_name name n = elim (cases_lt (number_of n.met name) (length n.met)) [
  | inl old ↦ subst (HasName name n) (sym (cond-true (nat_lt (number_of n.met name) (length n.met)) n _ (lt-ltb (number_of n.met name) (length n.met) old))) (record {
    names = omega arith;
    number = old;
    kept = λ k. k;
    met = λ e. e;
  })
  | inr new ↦ subst (HasName name n) (sym (cond-false (nat_lt (number_of n.met name) (length n.met)) n _ (le-ltb (number_of n.met name) (length n.met) new))) (name_more name _ n)
]

named_same : (name : QualName) (h : Held) → HasSameNodes h (named name h)
unfolding named
named_same name h =
    let it = has_name name h.names in
    record {
      nodes = refl;
      current = refl;
      grown = record {
        text = omega arith;
        rows = omega arith;
        names = it.names;
        kept = λ k. record { rows = k.rows; names = it.kept k.names; met = it.met k.met };
      };
    }

attribute_more : (h : Held) (a : AttributeText) → HasSameNodes h (with_attribute h a)
unfolding with_attribute
attribute_more h a =
    let it = named a.name h in
    same_both h it (with_row (number_of h.names.met a.name) a.value it) (named_same a.name h) (row_more (number_of h.names.met a.name) a.value it)

attributes_more : (attrs : List AttributeText) (h : Held) → HasSameNodes h (with_attributes h attrs)
unfolding with_attributes
attributes_more [] h = same_nodes h
attributes_more (a ∷ attrs) h = same_both h (with_attribute h a) (with_attributes (with_attribute h a) attrs) (attribute_more h a) (attributes_more attrs (with_attribute h a))

-- the node that is added below the current one
abbrev pub node_below : (kind : ℕ) → Held → FlatNode
node_below kind h = record { kind = kind; parent = h.current; end = length h.nodes + 1; text = length h.text; row = length h.rows.list }

-- calls with which a run of nodes is added below the current node
pub record IsAfter (contents : Bool) (h g : Held) : Type 0 where
  pub new : List FlatNode
  pub nodes : g.nodes ≡ h.nodes ++ new
  pub current : g.current ≡ h.current
  pub run : IsRun contents h.current (length h.nodes) new
  pub texts : AreGrowing (λ n. n.text) (length h.text) new (length g.text)
  pub rows : AreGrowing (λ n. n.row) (length h.rows.list) new (length g.rows.list)
  pub named : AreNamed (length g.names.met) new
  pub grown : IsGrown h g

after_none : (h : Held) → IsAfter false h h
after_none h = record {
  new = [];
  nodes = sym (append-nil h.nodes);
  current = refl;
  run = NoNodes;
  texts = omega arith;
  rows = omega arith;
  named = tt;
  grown = grown_same h;
}

after_both : (h g i : Held) → IsAfter false h g → IsAfter false g i → IsAfter false h i
after_both h g i a b =
    let count : length g.nodes ≡ length h.nodes + length a.new = ap length a.nodes ∙ length-append h.nodes a.new in
    record {
      new = a.new ++ b.new;
      nodes = b.nodes ∙ ap (λ xs. xs ++ b.new) a.nodes ∙ append_assoc h.nodes a.new b.new;
      current = b.current ∙ a.current;
      run = BothRuns a.run (subst (λ p. IsRun false p (length h.nodes + length a.new) b.new) a.current (subst (λ from. IsRun false g.current from b.new) count b.run));
      texts = grow_append (λ n. n.text) (length h.text) a.new (length g.text) b.new (length i.text) a.texts b.texts;
      rows = grow_append (λ n. n.row) (length h.rows.list) a.new (length g.rows.list) b.new (length i.rows.list) a.rows b.rows;
      named = named_append (length i.names.met) a.new b.new (named_more (length g.names.met) (length i.names.met) a.new b.grown.names a.named) b.named;
      grown = grown_both h g i a.grown b.grown;
    }

node_grown : (kind : ℕ) (h : Held) → IsGrown h (with_node kind h)
unfolding with_node
node_grown kind h = record { text = omega arith; rows = omega arith; names = omega arith; kept = λ k. record { rows = k.rows; names = k.names; met = k.met } }

not_element : (k : ℕ) → IsLeafKind k → k % 256 ≡ 1 → ⊥
not_element k (inl e) w = let v = ap (λ n. n % 256) e in omega (arith, v, w)
not_element k (inr (inl e)) w = let v = ap (λ n. n % 256) e in omega (arith, v, w)
not_element k (inr (inr (inl e))) w = let v = ap (λ n. n % 256) e in omega (arith, v, w)
not_element k (inr (inr (inr e))) w = let v = ap (λ n. n % 256) e in omega (arith, v, w)

-- a node without children, with its text or its rows
after_leaf : (h g : Held) (kind : ℕ) → IsLeafKind kind → HasSameNodes (with_node kind h) g → IsAfter false h g
unfolding with_node
after_leaf h g kind leaf s = record {
  new = node_below kind h ∷ [];
  nodes = s.nodes;
  current = s.current;
  run = LeafNode (node_below kind h) leaf refl refl;
  texts = (omega arith, s.grown.text);
  rows = (omega arith, s.grown.rows);
  named = (λ w. absurd (not_element kind leaf w), tt);
  grown = grown_both h (with_node kind h) g (node_grown kind h) s.grown;
}

-- a node that becomes the parent of the next ones
pub record IsOpened (h g : Held) (node : FlatNode) : Type 0 where
  pub nodes : g.nodes ≡ h.nodes ++ node ∷ []
  pub current : g.current ≡ length h.nodes
  pub parent : node.parent ≡ h.current
  pub text : (length h.text ≤ node.text) × (node.text ≤ length g.text)
  pub row : (length h.rows.list ≤ node.row) × (node.row ≤ length g.rows.list)
  pub grown : IsGrown h g

pub opened_is : (kind : ℕ) (h : Held) → IsOpened h (opened kind h) (node_below kind h)
unfolding opened with_node
opened_is kind h = record {
  nodes = refl;
  current = refl;
  parent = refl;
  text = (omega arith, omega arith);
  row = (omega arith, omega arith);
  grown = record { text = omega arith; rows = omega arith; names = omega arith; kept = λ k. record { rows = k.rows; names = k.names; met = k.met } };
}

opened_before : (h g i : Held) (node : FlatNode) → HasSameNodes h g → IsOpened g i node → IsOpened h i node
opened_before h g i node s o =
    let x = s.grown in
    record {
      nodes = o.nodes ∙ ap (λ xs. xs ++ node ∷ []) s.nodes;
      current = o.current ∙ ap length s.nodes;
      parent = o.parent ∙ s.current;
      text = let y = x.text in (omega (arith, o.text), o.text.1);
      row = let y = x.rows in (omega (arith, o.row), o.row.1);
      grown = grown_both h g i x o.grown;
    }

opened_after : (h g i : Held) (node : FlatNode) → IsOpened h g node → HasSameNodes g i → IsOpened h i node
opened_after h g i node o s =
    let x = s.grown in
    record {
      nodes = s.nodes ∙ o.nodes;
      current = s.current ∙ o.current;
      parent = o.parent;
      text = let y = x.text in (o.text.0, omega (arith, o.text));
      row = let y = x.rows in (o.row.0, omega (arith, o.row));
      grown = grown_both h g i o.grown x;
    }

-- the current node ends
abbrev pub ended : Held → FlatNode → FlatNode
ended h node = record { kind = node.kind; parent = node.parent; end = length h.nodes; text = node.text; row = node.row }

pub closed_is : (h : Held) (xs ys : List FlatNode) (node : FlatNode) → h.nodes ≡ xs ++ node ∷ ys → h.current ≡ length xs
    → closed h ≡ record h { nodes = xs ++ ended h node ∷ ys; current = node.parent }
unfolding closed
closed_is h xs ys node e at =
    let same : slice_get h.nodes h.current ≡ Some node =
    ap (λ ns. slice_get ns h.current) e
    ∙ slice_get-get_or (xs ++ node ∷ ys) h.current node (omega (arith, at, length-append xs (node ∷ ys)))
    ∙ ap {B = Option FlatNode} Some (get_or_at xs node ys node h.current (sym at)) in
    let set : slice_set h.nodes h.current (ended h node) ≡ xs ++ ended h node ∷ ys = ap (λ ns. slice_set ns h.current (ended h node)) e ∙ set_at xs node ys (ended h node) h.current (sym at) in
    ap (λ (o : Option FlatNode). option_map_or {U = Held} (λ (n : FlatNode). record h { nodes = slice_set h.nodes h.current (record n { end = length h.nodes }); current = n.parent }) o h) same
    ∙ ap (λ ns. record h { nodes = ns; current = node.parent }) set

-- a node with a run below it
after_over : (inside outside : Bool) (h g i : Held) (node : FlatNode) → IsOpened h g node → IsAfter inside g i
    → ((inner : List FlatNode) (last : FlatNode) → last.kind ≡ node.kind → last.parent ≡ h.current → last.end ≡ (length h.nodes + 1) + length inner → IsRun inside (length h.nodes) (length h.nodes + 1) inner → IsRun outside h.current (length h.nodes) (last ∷ inner))
    → (node.kind % 256 ≡ 1 → node.kind / 256 < length g.names.met) → IsAfter outside h (closed i)
after_over inside outside h g i node o a over name =
    let whole : i.nodes ≡ h.nodes ++ node ∷ a.new = a.nodes ∙ ap (λ xs. xs ++ a.new) o.nodes ∙ append_assoc h.nodes (node ∷ []) a.new in
    let current : i.current ≡ length h.nodes = a.current ∙ o.current in
    let count : length i.nodes ≡ (length h.nodes + 1) + length a.new = omega (arith, ap length whole, length-append h.nodes (node ∷ a.new)) in
    let before : length g.nodes ≡ length h.nodes + 1 = ap length o.nodes ∙ length-append h.nodes (node ∷ []) in
    let inner : IsRun inside (length h.nodes) (length h.nodes + 1) a.new = subst (λ p. IsRun inside p (length h.nodes + 1) a.new) o.current (subst (λ from. IsRun inside g.current from a.new) before a.run) in
    let x = a.grown in
    subst (IsAfter outside h) (sym (closed_is i h.nodes a.new node whole current)) (record {
      new = ended i node ∷ a.new;
      nodes = refl;
      current = o.parent;
      run = over a.new (ended i node) refl o.parent count inner;
      texts = (o.text.0, grow_from (λ n. n.text) node.text (length g.text) a.new (length i.text) o.text.1 a.texts);
      rows = (o.row.0, grow_from (λ n. n.row) node.row (length g.rows.list) a.new (length i.rows.list) o.row.1 a.rows);
      named = (λ w. let lt = name w in let le = x.names in omega (arith, lt), a.named);
      grown = record {
        text = let y = o.grown.text in let z = x.text in omega arith;
        rows = let y = o.grown.rows in let z = x.rows in omega arith;
        names = let y = o.grown.names in let z = x.names in omega arith;
        kept = λ k. let last = x.kept (o.grown.kept k) in record { rows = last.rows; names = last.names; met = last.met };
      };
    })

-- an element without template contents
element_over : (inside : Bool) (h g i : Held) (node : FlatNode) → node.kind % 256 ≡ 1 → node.kind / 256 < length g.names.met → IsOpened h g node → IsAfter inside g i → IsAfter false h (closed i)
element_over inside h g i node kind name o a =
    after_over inside false h g i node o a (λ inner last same up end run. ElementRun last (ap (λ k. k % 256) same ∙ kind) up end run) (λ w. name)

pub contents_over : (h i : Held) → IsAfter false (opened 11 h) i → IsAfter true h (closed i)
contents_over h i a =
    after_over false true h (opened 11 h) i (node_below 11 h) (opened_is 11 h) a (λ inner last same up end run. ContentsRun last same up end run) (λ w. absurd (omega (arith, w)))

-- the calls between the start and the end of an element
element_after : (template : Bool) (h g : Held) (node : FlatNode) (calls : Held → Held) → node.kind % 256 ≡ 1 → node.kind / 256 < length g.names.met → IsOpened h g node
    → ((i : Held) → IsAfter false i (calls i)) → IsAfter false h (cond template (closed (closed (calls (cond template (opened 11 g) g)))) (closed (calls (cond template (opened 11 g) g))))
element_after true h g node calls kind name o each = element_over true h g (closed (calls (opened 11 g))) node kind name o (contents_over g (calls (opened 11 g)) (each (opened 11 g)))
element_after false h g node calls kind name o each = element_over false h g (calls g) node kind name o (each g)

pub each_append : {M : Type 0} (after : M → Call → M) (m : M) (xs ys : List Call) → after_each after m (xs ++ ys) ≡ after_each after (after_each after m xs) ys
each_append after m [] ys = refl
each_append after m (x ∷ xs) ys = each_append after (after m x) xs ys

-- the state after the start of an element, before template contents
abbrev pub started : QualName → List AttributeText → Held → Held
started name attrs h = with_attributes (element_opened name h) attrs

abbrev pub element_node : QualName → Held → FlatNode
element_node name h = node_below (number_of h.names.met name * 256 + 1) (named name h)

pub started_is : (name : QualName) (attrs : List AttributeText) (h : Held) → IsOpened h (started name attrs h) (element_node name h)
unfolding element_opened
started_is name attrs h =
    let kind = number_of h.names.met name * 256 + 1 in
    opened_after h (opened kind (named name h)) (started name attrs h) (element_node name h)
    (opened_before h (named name h) (opened kind (named name h)) (element_node name h) (named_same name h) (opened_is kind (named name h)))
    (attributes_more attrs (opened kind (named name h)))

number_fits : (name : QualName) (attrs : List AttributeText) (h : Held) → number_of h.names.met name < length (started name attrs h).names.met
unfolding element_opened named
number_fits name attrs h =
    let kind = number_of h.names.met name * 256 + 1 in
    let it = has_name name h.names in
    let one : length (named name h).names.met ≤ length (opened kind (named name h)).names.met = (opened_is kind (named name h)).grown.names in
    let two = (attributes_more attrs (opened kind (named name h))).grown.names in
    let lt = it.number in
    omega (arith, one, two, lt)

element_calls : (name : QualName) (attrs : List AttributeText) (inner : List Call) (h : Held) → ((i : Held) → IsAfter false i (after_each after_call i inner))
    → IsAfter false h (element_closed name (after_each after_call (contents_opened name (started name attrs h)) inner))
unfolding element_closed contents_opened
element_calls name attrs inner h each =
    let fits = number_fits name attrs h in
    element_after (is_template name) h (started name attrs h) (element_node name h) (λ i. after_each after_call i inner) (omega arith) (omega (arith, fits)) (started_is name attrs h) each

leaf_call : (call : Call) → IsLeafCall call → (h : Held) → IsAfter false h (after_call h call)
leaf_call (StartOf name attrs) leaf h = absurd leaf
leaf_call (EndOf name) leaf h = absurd leaf
leaf_call (TextOf text) leaf h = after_leaf h (with_bytes text (with_node 3 h)) 3 (inl refl) (bytes_more text (with_node 3 h))
leaf_call (CommentOf text) leaf h = after_leaf h (with_row nothing text (with_node 8 h)) 8 (inr (inr (inl refl))) (row_more nothing text (with_node 8 h))
leaf_call (DoctypeOf name) leaf h =
    let node = with_node 10 h in
    let one = with_row nothing name node in
    after_leaf h (with_ids one) 10 (inr (inr (inr refl))) (same_both node one (with_ids one) (row_more nothing name node) (ids_more one))
leaf_call (InstructionOf target content) leaf h =
    let node = with_node 7 h in
    let one = with_row nothing target node in
    after_leaf h (with_row nothing content one) 7 (inr (inl refl)) (same_both node one (with_row nothing content one) (row_more nothing target node) (row_more nothing content one))

-- balanced calls add a run of nodes
pub balanced_after : {calls : List Call} → AreBalanced calls → (h : Held) → IsAfter false h (after_each after_call h calls)
balanced_after NoCalls h = after_none h
balanced_after (LeafCall call leaf) h = leaf_call call leaf h
balanced_after (ElementCalls name attrs {inner = inner} below) h =
    subst (IsAfter false h) (sym (each_append after_call (after_call h (StartOf name attrs)) inner (EndOf name ∷ []))) (element_calls name attrs inner h (balanced_after below))
balanced_after (Joined {xs = xs} {ys = ys} one two) h =
    subst (IsAfter false h) (sym (each_append after_call h xs ys))
    (after_both h (after_each after_call h xs) (after_each after_call (after_each after_call h xs) ys) (balanced_after one h) (balanced_after two (after_each after_call h xs)))

-- the columns of a whole tree: a root, and a run of nodes below it
pub record IsWhole (g : Held) : Type 0 where
  pub root : FlatNode
  pub inner : List FlatNode
  pub nodes : g.nodes ≡ root ∷ inner
  pub kind : (root.kind ≡ 9) ⊎ (root.kind ≡ 11)
  pub parent : root.parent ≡ nothing
  pub end : root.end ≡ 1 + length inner
  pub text : root.text ≡ 0
  pub row : root.row ≡ 0
  pub run : IsRun false 0 1 inner
  pub texts : AreGrowing (λ n. n.text) 0 (root ∷ inner) (length g.text)
  pub rows : AreGrowing (λ n. n.row) 0 (root ∷ inner) (length g.rows.list)
  pub named : AreNamed (length g.names.met) (root ∷ inner)
  pub kept : AreKept g

not_named : (k : ℕ) → (k ≡ 9) ⊎ (k ≡ 11) → k % 256 ≡ 1 → ⊥
not_named k (inl e) w = let v = ap (λ n. n % 256) e in omega (arith, v, w)
not_named k (inr e) w = let v = ap (λ n. n % 256) e in omega (arith, v, w)

pub whole_columns : (kind mode : ℕ) (ids : DoctypeIds) (calls : List Call) → (kind ≡ 9) ⊎ (kind ≡ 11) → AreBalanced calls → IsWhole (columns_of kind mode ids calls)
unfolding opened with_node
whole_columns kind mode ids calls is balanced =
    let h = nothing_held mode ids in
    let g = opened kind h in
    let i = after_each after_call g calls in
    let node = node_below kind h in
    let a = balanced_after balanced g in
    let x = a.grown in
    let count : length i.nodes ≡ 1 + length a.new = omega (arith, ap length a.nodes) in
    subst IsWhole (sym (closed_is i [] a.new node a.nodes a.current)) (record {
      root = ended i node;
      inner = a.new;
      nodes = refl;
      kind = is;
      parent = refl;
      end = count;
      text = refl;
      row = refl;
      run = a.run;
      texts = (omega arith, a.texts);
      rows = (omega arith, a.rows);
      named = (λ w. absurd (not_named kind is w), a.named);
      kept = let k = x.kept (record { rows = refl; names = refl; met = refl }) in record { rows = k.rows; names = k.names; met = k.met };
    })

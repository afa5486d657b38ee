-- The calls of a run of nodes, if the calls that added them are known ones.
use Rattle.std.proofs.Common.{◌≡◌, ◌≢◌, ◌∙◌, ℕ, suc, ◌+◌, ◌-◌, ◌*◌, ◌<◌, ◌≤◌, Bool, true, false, cond, List, [], ◌∷◌, ◌++◌, ap, arith, get_or, length, refl, subst, sym}
use Rattle.std.specs.Prelude.{◌==◌, ◌%◌, ◌/◌, All, min, nat_lt}
use Rattle.std.specs.Str.{IsUtf8}
use Rattle.std.proofs.lemmas.Bool.{cond-true, eq-eqb, lt-ltb}
use Rattle.std.proofs.lemmas.List.{append-nil, append_assoc, get_or-append-add, get_or-append_right, get_or_append_left, get_or_at, length-append}
use Rattle.std.proofs.lemmas.List.Elements.{All-head, All-tail}
use Rattle.h5_names.specs.AttributeText.{AttributeText}
use Rattle.h5_names.specs.declared.qualified.QualName.{QualName}
use Rattle.h5_serialize.specs.Call.{Call, CommentOf, DoctypeOf, EndOf, InstructionOf, StartOf, TextOf}
use Rattle.h5_serialize.specs.Walk.{after_each}
use Rattle.h5_tree_block.specs.Block.{end_in, first_row_in, kind_in, kind_word_in, name_in, nodes_in, nothing, row_count_in, rows_in, texts_at, word_in}
use Rattle.h5_tree_block.specs.Columns.{Held, HeldNames, after_call, closed, contents_opened, element_closed, element_opened, is_template, named, names_held, number_of, name_word, opened, with_attribute, with_attributes, with_bytes, with_ids, with_node, with_row, with_text}
use Rattle.h5_tree_block.specs.Html.{begin_calls, end_calls}
use Rattle.h5_tree_block.specs.Packed.{IsReadAs}
use Rattle.h5_tree_block.specs.Read.{attribute_of, attributes_below, attributes_of, name_of, value_of}
use Rattle.h5_tree_block.proofs.HtmlLaws.{comment_begins, doctype_begins, element_begins, element_ends, instruction_begins, nothing_begins, nothing_ends, text_begins}
use Rattle.h5_tree_block.specs.declared.columns.Columns.{Columns}
use Rattle.h5_tree_block.specs.declared.columns.Ended.{Ended}
use Rattle.h5_tree_block.specs.declared.columns.FlatNode.{FlatNode}
use Rattle.h5_tree.specs.KnownCalls.{AreKnownCalls, IsKnownAttribute, IsKnownCall, IsKnownName}
use Rattle.h5_tree.proofs.BalancedCalls.{AreBalanced, ElementCalls, IsLeafCall, Joined, LeafCall, NoCalls}
use Rattle.h5_tree.proofs.BlockParts.{HasBytes, IsNodeAt, name_read, name_texts_of, node_end, node_kind, node_row, node_text, node_within, row_read, rows_of, text_known}
use Rattle.h5_tree.proofs.CallRuns.{HasCalls, both_calls, none_calls, over_calls}
use Rattle.h5_tree.proofs.HeldSteps.{IsAfter, balanced_after, closed_is, contents_over, each_append, element_node, ended, node_below, opened_is, started, started_is}
use Rattle.h5_tree.proofs.LaterHeld.{AreNamesHeld, HasNumber, IsLater, IsWellHeld, attribute_later, attributes_later, call_later, calls_later, closed_later, has_number, ids_later, later_both, later_same, named_later, opened_later, row_later}
use Rattle.h5_tree.proofs.TextParts.{HasText, IsStart, start_at, start_both, start_length, text_added, text_stays}

-- parts of lists of known calls
known_left : (xs ys : List Call) → AreKnownCalls (xs ++ ys) → AreKnownCalls xs
known_left xs ys h k d lt = subst IsKnownCall (get_or_append_left xs ys d k lt) (h k d (omega (arith, lt, length-append xs ys)))

known_right : (xs ys : List Call) → AreKnownCalls (xs ++ ys) → AreKnownCalls ys
known_right xs ys h k d lt = subst IsKnownCall (get_or-append-add xs ys k d) (h (length xs + k) d (omega (arith, lt, length-append xs ys)))

-- attributes add rows
attribute_count : (h : Held) (a : AttributeText) → length (with_attribute h a).rows.list ≡ length h.rows.list + 1
unfolding with_attribute with_row with_text named
attribute_count h a =
    let it = number_of h.names.met a.name in
    length-append h.rows.list ((record { word = it; end = length (h.rows.bytes ++ a.value) }) ∷ [])

attributes_count : (attrs : List AttributeText) (h : Held) → length (with_attributes h attrs).rows.list ≡ length h.rows.list + length attrs
unfolding with_attributes
attributes_count [] h = omega arith
attributes_count (a ∷ attrs) h = let more = attributes_count attrs (with_attribute h a) in let one = attribute_count h a in omega arith

attribute_text : (h : Held) (a : AttributeText) → IsWellHeld h → HasText (with_attribute h a).rows (length h.rows.list) (number_of h.names.met a.name) a.value
unfolding with_attribute with_row named
attribute_text h a w = text_added (number_of h.names.met a.name) a.value h.rows w.rows

row_text : (word : ℕ) (value : List ℕ) (h : Held) → IsWellHeld h → HasText (with_row word value h).rows (length h.rows.list) word value
unfolding with_row
row_text word value h w = text_added word value h.rows w.rows

named_number : (name : QualName) (h : Held) → HasNumber name h.names (named name h).names
unfolding named
named_number name h = has_number name h.names

-- the data with one more node
node_nodes : (kind : ℕ) (h : Held) → (with_node kind h).nodes ≡ h.nodes ++ node_below kind h ∷ []
unfolding with_node
node_nodes kind h = refl

node_well : (kind : ℕ) (h : Held) → IsWellHeld h → IsWellHeld (with_node kind h)
unfolding with_node
node_well kind h well = record { rows = well.rows; names = well.names }

node_row_text : (kind word : ℕ) (value : List ℕ) (h : Held) → IsWellHeld h → HasText (with_row word value (with_node kind h)).rows (length h.rows.list + 0) word value
unfolding with_node
node_row_text kind word value h well =
    let here : length h.rows.list ≡ length h.rows.list + 0 = omega arith in
    subst (λ k. HasText (with_row word value (with_node kind h)).rows k word value) here (row_text word value (with_node kind h) (node_well kind h well))

node_row_count : (kind word : ℕ) (value : List ℕ) (h : Held) → length (with_row word value (with_node kind h)).rows.list ≡ length h.rows.list + 1
unfolding with_node with_row with_text
node_row_count kind word value h = length-append h.rows.list ((record { word = word; end = length (h.rows.bytes ++ value) }) ∷ [])

row_nodes : (word : ℕ) (value : List ℕ) (h : Held) → (with_row word value h).nodes ≡ h.nodes
unfolding with_row
row_nodes word value h = refl

ids_nodes : (h : Held) → (with_ids h).nodes ≡ h.nodes
unfolding with_ids with_row
ids_nodes h = refl

bytes_nodes : (text : List ℕ) (h : Held) → (with_bytes text h).nodes ≡ h.nodes
unfolding with_bytes
bytes_nodes text h = refl

bytes_text : (text : List ℕ) (kind : ℕ) (h : Held) → (with_bytes text (with_node kind h)).text ≡ h.text ++ text
unfolding with_bytes with_node
bytes_text text kind h = refl

named_text : (name : QualName) (h : Held) → length (named name h).text ≡ length h.text
unfolding named
named_text name h = refl

named_rows : (name : QualName) (h : Held) → length (named name h).rows.list ≡ length h.rows.list
unfolding named
named_rows name h = refl

opened_rows : (name : QualName) (h : Held) → length (element_opened name h).rows.list ≡ length h.rows.list
unfolding element_opened opened with_node named
opened_rows name h = refl

element_opened_later : (name : QualName) (h : Held) → IsLater h (element_opened name h)
unfolding element_opened
element_opened_later name h =
    let kind = number_of h.names.met name * 256 + 1 in
    later_both h (named name h) (opened kind (named name h)) (named_later name h) (opened_later kind (named name h))

after_name : (name : QualName) (attrs : List AttributeText) (h : Held) → IsLater (named name h) (started name attrs h)
unfolding element_opened
after_name name attrs h =
    let kind = number_of h.names.met name * 256 + 1 in
    let it = named name h in
    later_both it (opened kind it) (with_attributes (opened kind it) attrs) (opened_later kind it) (attributes_later attrs (opened kind it))

started_later : (name : QualName) (attrs : List AttributeText) (h : Held) → IsLater h (started name attrs h)
started_later name attrs h = later_both h (named name h) (started name attrs h) (named_later name h) (after_name name attrs h)

-- numbers
kind_parts : (w k : ℕ) → w ≡ k * 256 + 1 → (w % 256 ≡ 1) × (w / 256 ≡ k)
kind_parts w k e = (omega arith, omega arith)

min_less : (next rows row count : ℕ) → next ≤ rows → next ≡ row + count → min next rows - row ≡ count
min_less next rows row count le e = omega arith

other : {k a e : ℕ} → k ≡ a → k ≡ e → (a ≡ e → ⊥) → ⊥
other same is not = not (sym same ∙ is)

lower : (a b n k : ℕ) → b ≡ a + k → b ≤ n → a ≤ n
lower a b n k e le = omega arith

upper : (n b c k : ℕ) → c ≡ b + k → n < b → n < c
upper n b c k e lt = omega arith

-- a node after another one doesn't depend on it
passed : (xs : List FlatNode) (x y : FlatNode) (ys : List FlatNode) (m : ℕ) (d : FlatNode) → length xs < m → get_or (xs ++ x ∷ ys) m d ≡ get_or (xs ++ y ∷ ys) m d
passed xs x y ys m d lt = after x ∙ sym (after y)
  where
    after : (z : FlatNode) → get_or (xs ++ z ∷ ys) m d ≡ get_or ys (m - (length xs + 1)) d
    after z =
        ap (λ l. get_or l m d) (sym (append_assoc xs (z ∷ []) ys))
        ∙ get_or-append_right (xs ++ z ∷ []) ys (length xs + 1) m d (length-append xs (z ∷ [])) (omega arith)

module _ (b : List ℕ) (c : Columns) (bytes : HasBytes b c) (r : IsReadAs b c) (names : AreNamesHeld (names_held c.names)) where
  -- texts, rows and names that the columns begin with
  pub record IsPart (h : Held) : Type 0 where
    pub text : IsStart ℕ h.text c.text.items
    pub rows : IsStart Ended h.rows.list c.rows.items
    pub values : IsStart ℕ h.rows.bytes c.values.items
    pub met : IsStart QualName h.names.met c.names.numbered

  part_back : (h g : Held) → IsLater h g → IsPart g → IsPart h
  part_back h g later p = record {
    text = start_both ℕ h.text g.text c.text.items later.text p.text;
    rows = start_both Ended h.rows.list g.rows.list c.rows.items later.rows p.rows;
    values = start_both ℕ h.rows.bytes g.rows.bytes c.values.items later.values p.values;
    met = start_both QualName h.names.met g.names.met c.names.numbered later.met p.met;
  }

  -- data that the columns were at: the next node begins with its texts and rows
  pub record IsReached (h : Held) : Type 0 where
    pub count : length h.nodes ≤ length c.nodes.items
    pub part : IsPart h
    pub next_text : word_in b (texts_at (nodes_in b) + length h.nodes) ≡ length h.text
    pub next_row : first_row_in b (length h.nodes) ≡ length h.rows.list

  -- the nodes from a number on are in the columns
  abbrev pub HasNodes : (from : ℕ) (g : Held) → Type 0
  HasNodes from g = (n : ℕ) (d : FlatNode) → from ≤ n → n < length g.nodes → get_or c.nodes.items n d ≡ get_or g.nodes n d

  name_known : (name : QualName) (n m : HeldNames) → HasNumber name n m → IsStart QualName m.met c.names.numbered → IsKnownName name → name_of b (number_of n.met name) ≡ name
  name_known name n m has start known =
      let k = number_of n.met name in
      let within = has.within in
      let at : get_or c.names.numbered k name ≡ name = start_at QualName m.met c.names.numbered start k name within ∙ has.is name in
      let le = start_length QualName m.met c.names.numbered start in
      name_read b c bytes r k name (subst (λ (x : QualName). HasText (name_texts_of c) k (name_word x) x.local) at (names.each k name (omega arith))) known

  row_known : (h : Held) (k w : ℕ) (value : List ℕ) → IsPart h → HasText h.rows k w value → HasText (rows_of c) k w value
  row_known h k w value p has = text_stays h.rows (rows_of c) k w value p.rows p.values has

  -- the rows of an element are its attributes
  module _ (n row next : ℕ) (lt : n < nodes_in b) (at : first_row_in b n ≡ row) (after : first_row_in b (n + 1) ≡ next) (most : next ≤ rows_in b) where
    attribute_known : (j : ℕ) (h : Held) (a : AttributeText) → IsWellHeld h → row + j ≡ length h.rows.list → length (with_attribute h a).rows.list ≤ next → IsPart (with_attribute h a) → IsKnownAttribute a
        → attribute_of b n j ≡ a
    unfolding attribute_of with_attribute
    attribute_known j h a well place within part known =
        let number = number_of h.names.met a.name in
        let more = attribute_count h a in
        let it = named a.name h in
        let is : HasText (rows_of c) (row + j) number a.value =
        subst (λ k. HasText (rows_of c) k number a.value) (sym place) (row_known (with_attribute h a) (length h.rows.list) number a.value part (attribute_text h a well)) in
        let read = row_read b c bytes r n j row next number a.value lt at after (omega (arith, place, more, within)) most is in
        let met = part_back it (with_attribute h a) (row_later number a.value it) part in
        let name : name_of b number ≡ a.name = name_known a.name h.names it.names (named_number a.name h) met.met known.0 in
        ap (λ x. record { name = x; value = value_of b n j }) (ap (name_of b) read.name ∙ name)
        ∙ ap (λ v. record { name = a.name; value = v }) (read.value known.1)

    attributes_known : (attrs : List AttributeText) (j : ℕ) (h : Held) → IsWellHeld h → row + j ≡ length h.rows.list → length (with_attributes h attrs).rows.list ≡ next → IsPart (with_attributes h attrs)
        → All IsKnownAttribute attrs → attributes_below b n (j + length attrs) ≡ attributes_below b n j ++ attrs
    unfolding with_attributes
    attributes_known [] j h well place end part known = let same : j + 0 ≡ j = omega arith in ap (attributes_below b n) same ∙ sym (append-nil (attributes_below b n j))
    attributes_known (a ∷ attrs) j h well place end part known =
        let m = with_attribute h a in
        let later = attributes_later attrs m in
        let one = attribute_count h a in
        let le = start_length Ended m.rows.list (with_attributes m attrs).rows.list later.rows in
        let this = attribute_known j h a well place (omega (arith, le, end)) (part_back m (with_attributes m attrs) later part) (All-head IsKnownAttribute a attrs known) in
        let others = attributes_known attrs (j + 1) m ((attribute_later h a).well well) (omega (arith, one, place)) end part (All-tail IsKnownAttribute a attrs known) in
        let next : j + 1 ≡ suc j = omega arith in
        let moved : j + length (a ∷ attrs) ≡ (j + 1) + length attrs = omega arith in
        ap (attributes_below b n) moved
        ∙ others
        ∙ ap (λ k. attributes_below b n k ++ attrs) next
        ∙ ap (λ x. (attributes_below b n j ++ x ∷ []) ++ attrs) this
        ∙ append_assoc (attributes_below b n j) (a ∷ []) attrs

  -- a node without children
  record IsLeafHere (h g : Held) (k : ℕ) : Type 0 where
    pub reached : IsReached h
    pub within : length h.nodes < nodes_in b
    pub kind : kind_in b (length h.nodes) ≡ k
    pub end : end_in b (length h.nodes) ≡ length h.nodes + 1
    pub size : length g.nodes ≡ length h.nodes + 1
    pub row : first_row_in b (length h.nodes) ≡ length h.rows.list
    pub next_row : first_row_in b (length h.nodes + 1) ≡ length g.rows.list
    pub text : word_in b (texts_at (nodes_in b) + length h.nodes) ≡ length h.text
    pub next_text : word_in b (texts_at (nodes_in b) + (length h.nodes + 1)) ≡ length g.text
    pub most : length g.rows.list ≤ rows_in b

  leaf_here : (h g : Held) (kind : ℕ) → kind % 256 ≡ kind → g.nodes ≡ h.nodes ++ node_below kind h ∷ [] → IsLater h g → IsReached g → HasNodes (length h.nodes) g → IsLeafHere h g kind
  leaf_here h g kind small nodes later reached has =
      let n = length h.nodes in
      let node = node_below kind h in
      let size : length g.nodes ≡ n + 1 = ap length nodes ∙ length-append h.nodes (node ∷ []) in
      let count = reached.count in
      let is : IsNodeAt c n node = record {
        within = omega arith;
        is = λ d. has n d (omega arith) (omega arith) ∙ ap (λ ns. get_or ns n d) nodes ∙ get_or_at h.nodes node [] d n refl;
      } in
      let rows = r.rows in
      let le = start_length Ended g.rows.list c.rows.items reached.part.rows in
      record {
        reached = record {
          count = omega arith;
          part = part_back h g later reached.part;
          next_text = node_text b c bytes r n node is;
          next_row = node_row b c bytes r n node is;
        };
        within = node_within b c bytes r n node is;
        kind = ap (λ k. k % 256) (node_kind b c bytes r n node is) ∙ small;
        end = node_end b c bytes r n node is (omega arith) (omega arith);
        size = size;
        row = node_row b c bytes r n node is;
        next_row = ap (first_row_in b) (sym size) ∙ reached.next_row;
        text = node_text b c bytes r n node is;
        next_text = ap (λ m. word_in b (texts_at (nodes_in b) + m)) (sym size) ∙ reached.next_text;
        most = omega arith;
      }

  -- the calls between two states are those of the nodes between them
  abbrev pub AreInside : (calls : List Call) (h g : Held) → Type 0
  AreInside calls h g = IsReached g → HasNodes (length h.nodes) g → IsReached h × HasCalls b calls (length h.nodes) (length g.nodes)

  leaf_calls : (h g : Held) (kind : ℕ) (call : Call) → IsLeafHere h g kind → kind ≢ 1 → begin_calls b (length h.nodes) ≡ call ∷ [] → HasCalls b (call ∷ []) (length h.nodes) (length g.nodes)
  leaf_calls h g kind call here other begins =
      let n = length h.nodes in
      let nothing_left = nothing_ends b n (λ e. other (sym here.kind ∙ e)) in
      over_calls b (call ∷ []) [] [] n (length g.nodes) begins nothing_left (here.end ∙ sym here.size) (subst (λ to. HasCalls b [] (n + 1) to) (sym here.size) (none_calls b (n + 1)))

  -- a row of a node without children
  leaf_row : (h m g : Held) (kind index w : ℕ) (value : List ℕ) → IsLeafHere h g kind → IsPart g → IsLater m g → HasText m.rows (length h.rows.list + index) w value → IsUtf8 value → value_of b (length h.nodes) index ≡ value
  leaf_row h m g kind index w value here part later has utf8 =
      let within = has.within in
      let le = start_length Ended m.rows.list g.rows.list later.rows in
      (row_read b c bytes r (length h.nodes) index (length h.rows.list) (length g.rows.list) w value here.within here.row here.next_row (omega arith) here.most
      (row_known m (length h.rows.list + index) w value (part_back m g later part) has)).value utf8

  leaf_inside : (call : Call) → IsLeafCall call → IsKnownCall call → (h : Held) → IsWellHeld h → AreInside (call ∷ []) h (after_call h call)
  leaf_inside (StartOf name attrs) leaf known h well reached has = absurd leaf
  leaf_inside (EndOf name) leaf known h well reached has = absurd leaf
  leaf_inside (TextOf text) leaf known h well reached has =
      let n = length h.nodes in
      let g = with_bytes text (with_node 3 h) in
      let here = leaf_here h g 3 refl (bytes_nodes text (with_node 3 h) ∙ node_nodes 3 h) (call_later h (TextOf text)) reached has in
      let start = reached.part.text in
      let same = bytes_text text 3 h in
      let is = text_known b c bytes r n text h.text start.rest here.within here.end here.text (here.next_text ∙ ap length same ∙ length-append h.text text)
      (start.is ∙ ap (λ l. l ++ start.rest) same ∙ append_assoc h.text text start.rest) known in
      (here.reached, leaf_calls h g 3 (TextOf text) here (λ e. omega (arith, e)) (text_begins b n here.kind ∙ ap (λ t. TextOf t ∷ []) is))
  leaf_inside (CommentOf text) leaf known h well reached has =
      let n = length h.nodes in
      let g = with_row nothing text (with_node 8 h) in
      let here = leaf_here h g 8 refl (row_nodes nothing text (with_node 8 h) ∙ node_nodes 8 h) (call_later h (CommentOf text)) reached has in
      let is = leaf_row h g g 8 0 nothing text here reached.part (later_same g) (node_row_text 8 nothing text h well) known in
      (here.reached, leaf_calls h g 8 (CommentOf text) here (λ e. omega (arith, e)) (comment_begins b n here.kind ∙ ap (λ t. CommentOf t ∷ []) is))
  leaf_inside (DoctypeOf name) leaf known h well reached has =
      let n = length h.nodes in
      let row = with_row nothing name (with_node 10 h) in
      let g = with_ids row in
      let here = leaf_here h g 10 refl (ids_nodes row ∙ row_nodes nothing name (with_node 10 h) ∙ node_nodes 10 h) (call_later h (DoctypeOf name)) reached has in
      let is = leaf_row h row g 10 0 nothing name here reached.part (ids_later row) (node_row_text 10 nothing name h well) known in
      (here.reached, leaf_calls h g 10 (DoctypeOf name) here (λ e. omega (arith, e)) (doctype_begins b n here.kind ∙ ap (λ t. DoctypeOf t ∷ []) is))
  leaf_inside (InstructionOf target content) leaf known h well reached has =
      let n = length h.nodes in
      let row = with_row nothing target (with_node 7 h) in
      let g = with_row nothing content row in
      let here = leaf_here h g 7 refl (row_nodes nothing content row ∙ row_nodes nothing target (with_node 7 h) ∙ node_nodes 7 h) (call_later h (InstructionOf target content)) reached has in
      let row_well = (row_later nothing target (with_node 7 h)).well (node_well 7 h well) in
      let second = subst (λ k. HasText g.rows k nothing content) (node_row_count 7 nothing target h) (row_text nothing content row row_well) in
      let first_is = leaf_row h row g 7 0 nothing target here reached.part (row_later nothing content row) (node_row_text 7 nothing target h well) known.0 in
      let second_is = leaf_row h g g 7 1 nothing content here reached.part (later_same g) second known.1 in (
        here.reached,
        leaf_calls h g 7 (InstructionOf target content) here (λ e. omega (arith, e))
            (instruction_begins b n here.kind ∙ ap (λ t. InstructionOf t (value_of b n 1) ∷ []) first_is ∙ ap (λ t. InstructionOf target t ∷ []) second_is),
      )

  -- a node with its subtree
  pub record IsOverHere (h g i : Held) (node : FlatNode) : Type 0 where
    pub inner : IsReached i
    pub nodes : HasNodes (length g.nodes) i
    pub size : length (closed i).nodes ≡ length i.nodes
    pub at : IsNodeAt c (length h.nodes) (ended i node)
    pub begin : length g.nodes ≡ length h.nodes + 1
    pub after : length h.nodes < length i.nodes
    pub most : length i.nodes ≤ length c.nodes.items

  pub over_here : (h g i : Held) (node : FlatNode) (new : List FlatNode) → g.nodes ≡ h.nodes ++ node ∷ [] → g.current ≡ length h.nodes → i.nodes ≡ g.nodes ++ new → i.current ≡ g.current
      → IsReached (closed i) → HasNodes (length h.nodes) (closed i) → IsOverHere h g i node
  over_here h g i node new opens current more same reached has =
      let whole : i.nodes ≡ h.nodes ++ node ∷ new = more ∙ ap (λ xs. xs ++ new) opens ∙ append_assoc h.nodes (node ∷ []) new in
      let is = closed_is i h.nodes new node whole (same ∙ current) in
      let nodes : (closed i).nodes ≡ h.nodes ++ ended i node ∷ new = ap (λ (x : Held). x.nodes) is in
      let size : length (closed i).nodes ≡ length i.nodes = ap length nodes ∙ length-append h.nodes (ended i node ∷ new) ∙ sym (length-append h.nodes (node ∷ new)) ∙ sym (ap length whole) in
      let long : length i.nodes ≡ length h.nodes + length (node ∷ new) = ap length whole ∙ length-append h.nodes (node ∷ new) in
      let begin : length g.nodes ≡ length h.nodes + 1 = ap length opens ∙ length-append h.nodes (node ∷ []) in
      let count = reached.count in
      record {
        inner = record {
          count = omega (arith, count, size);
          part = part_back i (closed i) (closed_later i) reached.part;
          next_text = ap (λ m. word_in b (texts_at (nodes_in b) + m)) (sym size) ∙ reached.next_text ∙ ap (λ (x : Held). length x.text) is;
          next_row = ap (first_row_in b) (sym size) ∙ reached.next_row ∙ ap (λ (x : Held). length x.rows.list) is;
        };
        nodes = λ m d low high.
            has m d (omega (arith, begin, low)) (omega (arith, size, high)) ∙ ap (λ ns. get_or ns m d) nodes
            ∙ passed h.nodes (ended i node) node new m d (omega (arith, begin, low)) ∙ ap (λ ns. get_or ns m d) (sym whole);
        size = size;
        at = record {
          within = omega (arith, count, size, long);
          is = λ d.
              has (length h.nodes) d (omega arith) (omega (arith, size, long)) ∙ ap (λ ns. get_or ns (length h.nodes) d) nodes
              ∙ get_or_at h.nodes (ended i node) new d (length h.nodes) refl;
        };
        begin = begin;
        after = omega (arith, long);
        most = omega (arith, count, size);
      }

  pub reached_first : (h g i : Held) → length h.nodes < length i.nodes → length i.nodes ≤ length c.nodes.items → IsLater h g → IsPart g
      → word_in b (texts_at (nodes_in b) + length h.nodes) ≡ length h.text → first_row_in b (length h.nodes) ≡ length h.rows.list → IsReached h
  reached_first h g i lt most later part text row = record { count = omega (arith, lt, most); part = part_back h g later part; next_text = text; next_row = row }

  -- the attributes of an element
  element_attributes : (name : QualName) (attrs : List AttributeText) (h : Held) (n : ℕ) → IsWellHeld h → All IsKnownAttribute attrs → n < nodes_in b → first_row_in b n ≡ length h.rows.list
      → first_row_in b (n + 1) ≡ length (started name attrs h).rows.list → IsPart (started name attrs h) → attributes_of b n ≡ attrs
  element_attributes name attrs h n well all within row next part =
      let e = element_opened name h in
      let g = started name attrs h in
      let rows = r.rows in
      let le = start_length Ended g.rows.list c.rows.items part.rows in
      let most : length g.rows.list ≤ rows_in b = omega (arith, rows, le) in
      let count : length g.rows.list ≡ length h.rows.list + length attrs = attributes_count attrs e ∙ ap (λ m. m + length attrs) (opened_rows name h) in
      let place : length h.rows.list + 0 ≡ length e.rows.list = omega (arith, opened_rows name h) in
      let read = attributes_known n (length h.rows.list) (length g.rows.list) within row next most attrs 0 e ((element_opened_later name h).well well) place refl part all in
      let size : row_count_in b n ≡ length attrs =
      cond-true (nat_lt n (nodes_in b)) (min (first_row_in b (n + 1)) (rows_in b) - first_row_in b n) 0 (lt-ltb n (nodes_in b) within)
      ∙ ap (λ x. min x (rows_in b) - first_row_in b n) next ∙ ap (λ x. min (length g.rows.list) (rows_in b) - x) row
      ∙ min_less (length g.rows.list) (rows_in b) (length h.rows.list) (length attrs) most count in
      let from_none : length attrs ≡ 0 + length attrs = omega arith in
      ap (attributes_below b n) (size ∙ from_none) ∙ read

  -- the contents of a template, which have no calls themselves
  contents_inside : (inner : List Call) (g i : Held) (new : List FlatNode) → i.nodes ≡ (opened 11 g).nodes ++ new → i.current ≡ (opened 11 g).current → AreInside inner (opened 11 g) i → AreInside inner g (closed i)
  contents_inside inner g i new more current inside reached has =
      let o = opened_is 11 g in
      let it = over_here g (opened 11 g) i (node_below 11 g) new o.nodes o.current more current reached has in
      let deeper = inside it.inner it.nodes in
      let n = length g.nodes in
      let node = ended i (node_below 11 g) in
      let kind : kind_in b n ≡ 11 = ap (λ k. k % 256) (node_kind b c bytes r n node it.at) in
      let begins = nothing_begins b n (λ e. other kind e (λ x. omega (arith, x))) (λ e. other kind e (λ x. omega (arith, x))) (λ e. other kind e (λ x. omega (arith, x))) (λ e. other kind e (λ x. omega (arith, x))) (λ e. other kind e (λ x. omega (arith, x))) in
      let ends = nothing_ends b n (λ e. other kind e (λ x. omega (arith, x))) in
      let calls : HasCalls b inner (n + 1) (length i.nodes) = subst (λ m. HasCalls b inner m (length i.nodes)) it.begin deeper.1 in
      let all : HasCalls b (inner ++ []) n (length i.nodes) = over_calls b [] inner [] n (length i.nodes) begins ends (node_end b c bytes r n node it.at it.after it.most) calls in (
        reached_first g (opened 11 g) i it.after it.most (opened_later 11 g) deeper.0.part (node_text b c bytes r n node it.at) (node_row b c bytes r n node it.at),
        subst (λ to. HasCalls b inner n to) (sym it.size) (subst (λ cs. HasCalls b cs n (length i.nodes)) (append-nil inner) all),
      )

  -- an element with its subtree
  element_inside : (name : QualName) (attrs : List AttributeText) (inner : List Call) (h i : Held) (new : List FlatNode) → IsKnownName name → All IsKnownAttribute attrs → IsWellHeld h
      → i.nodes ≡ (started name attrs h).nodes ++ new → i.current ≡ (started name attrs h).current → AreInside inner (started name attrs h) i → AreInside (StartOf name attrs ∷ (inner ++ EndOf name ∷ [])) h (closed i)
  element_inside name attrs inner h i new known all well more current inside reached has =
      let g = started name attrs h in
      let o = started_is name attrs h in
      let it = over_here h g i (element_node name h) new o.nodes o.current more current reached has in
      let deeper = inside it.inner it.nodes in
      let n = length h.nodes in
      let node = ended i (element_node name h) in
      let number = number_of h.names.met name in
      let kind = kind_parts (kind_word_in b n) number (node_kind b c bytes r n node it.at) in
      let named_part = part_back (named name h) g (after_name name attrs h) deeper.0.part in
      let is_name : name_of b (name_in b n) ≡ name =
      ap (name_of b) (cond-true (kind_in b n == 1) (kind_word_in b n / 256) nothing (eq-eqb (kind_in b n) 1 kind.0) ∙ kind.1)
      ∙ name_known name h.names (named name h).names (named_number name h) named_part.met known in
      let row : first_row_in b n ≡ length h.rows.list = node_row b c bytes r n node it.at ∙ named_rows name h in
      let next : first_row_in b (n + 1) ≡ length g.rows.list = ap (first_row_in b) (sym it.begin) ∙ deeper.0.next_row in
      let is_attrs = element_attributes name attrs h n well all (node_within b c bytes r n node it.at) row next deeper.0.part in
      let begins : begin_calls b n ≡ StartOf name attrs ∷ [] = element_begins b n kind.0 ∙ ap (λ x. StartOf x (attributes_of b n) ∷ []) is_name ∙ ap (λ xs. StartOf name xs ∷ []) is_attrs in
      let ends : end_calls b n ≡ EndOf name ∷ [] = element_ends b n kind.0 ∙ ap (λ x. EndOf x ∷ []) is_name in
      let calls : HasCalls b inner (n + 1) (length i.nodes) = subst (λ m. HasCalls b inner m (length i.nodes)) it.begin deeper.1 in (
        reached_first h g i it.after it.most (started_later name attrs h) deeper.0.part (node_text b c bytes r n node it.at ∙ named_text name h) row,
        subst (λ to. HasCalls b (StartOf name attrs ∷ (inner ++ EndOf name ∷ [])) n to) (sym it.size)
            (over_calls b (StartOf name attrs ∷ []) inner (EndOf name ∷ []) n (length i.nodes) begins ends (node_end b c bytes r n node it.at it.after it.most) calls),
      )

  element_both : (template : Bool) (name : QualName) (attrs : List AttributeText) (inner : List Call) (h : Held) (calls : Held → Held) → IsKnownName name → All IsKnownAttribute attrs → IsWellHeld h
      → ((i : Held) → IsWellHeld i → AreInside inner i (calls i)) → ((i : Held) → IsAfter false i (calls i))
      → AreInside (StartOf name attrs ∷ (inner ++ EndOf name ∷ [])) h
      (cond template (closed (closed (calls (cond template (opened 11 (started name attrs h)) (started name attrs h))))) (closed (calls (cond template (opened 11 (started name attrs h)) (started name attrs h)))))
  element_both true name attrs inner h calls known all well each after =
      let g = started name attrs h in
      let o = opened 11 g in
      let a = after o in
      let over = contents_over g (calls o) a in
      element_inside name attrs inner h (closed (calls o)) over.new known all well over.nodes over.current
      (contents_inside inner g (calls o) a.new a.nodes a.current (each o ((opened_later 11 g).well ((started_later name attrs h).well well))))
  element_both false name attrs inner h calls known all well each after =
      let g = started name attrs h in
      let a = after g in
      element_inside name attrs inner h (calls g) a.new known all well a.nodes a.current (each g ((started_later name attrs h).well well))

  element_calls : (name : QualName) (attrs : List AttributeText) (inner : List Call) (h : Held) → IsKnownName name → All IsKnownAttribute attrs → IsWellHeld h
      → ((i : Held) → IsWellHeld i → AreInside inner i (after_each after_call i inner)) → ((i : Held) → IsAfter false i (after_each after_call i inner))
      → AreInside (StartOf name attrs ∷ (inner ++ EndOf name ∷ [])) h (element_closed name (after_each after_call (contents_opened name (started name attrs h)) inner))
  unfolding element_closed contents_opened
  element_calls name attrs inner h known all well each after = element_both (is_template name) name attrs inner h (λ i. after_each after_call i inner) known all well each after

  both_inside : (xs ys : List Call) (h m g : Held) (new newer : List FlatNode) → m.nodes ≡ h.nodes ++ new → g.nodes ≡ m.nodes ++ newer → AreInside xs h m → AreInside ys m g → AreInside (xs ++ ys) h g
  both_inside xs ys h m g new newer one_more two_more first second reached has =
      let one_count = ap length one_more ∙ length-append h.nodes new in
      let two_count = ap length two_more ∙ length-append m.nodes newer in
      let two = second reached (λ n d low high. has n d (lower (length h.nodes) (length m.nodes) n (length new) one_count low) high) in
      let one = first two.0 (λ n d low high.
      has n d low (upper n (length m.nodes) (length g.nodes) (length newer) two_count high) ∙ ap (λ ns. get_or ns n d) two_more ∙ get_or_append_left m.nodes newer d n high) in
      (one.0, both_calls b xs ys (length h.nodes) (length m.nodes) (length g.nodes) one.1 two.1)

  -- known calls that are balanced are those of the nodes that they add
  pub known_inside : {calls : List Call} → AreBalanced calls → AreKnownCalls calls → (h : Held) → IsWellHeld h → AreInside calls h (after_each after_call h calls)
  known_inside NoCalls known h well = λ reached has. (reached, none_calls b (length h.nodes))
  known_inside (LeafCall call leaf) known h well = leaf_inside call leaf (All-head IsKnownCall call [] known) h well
  known_inside (ElementCalls name attrs {inner = inner} below) known h well =
      let start = All-head IsKnownCall (StartOf name attrs) (inner ++ EndOf name ∷ []) known in
      let inner_known = known_left inner (EndOf name ∷ []) (All-tail IsKnownCall (StartOf name attrs) (inner ++ EndOf name ∷ []) known) in
      subst (λ g. AreInside (StartOf name attrs ∷ (inner ++ EndOf name ∷ [])) h g) (sym (each_append after_call (after_call h (StartOf name attrs)) inner (EndOf name ∷ [])))
      (element_calls name attrs inner h start.0 start.1 well (λ i w. known_inside below inner_known i w) (λ i. balanced_after below i))
  known_inside (Joined {xs = xs} {ys = ys} one two) known h well =
      let m = after_each after_call h xs in
      let g = after_each after_call m ys in
      let a = balanced_after one h in
      let e = balanced_after two m in
      subst (λ i. AreInside (xs ++ ys) h i) (sym (each_append after_call h xs ys))
      (both_inside xs ys h m g a.new e.new a.nodes e.nodes (known_inside one (known_left xs ys known) h well) (known_inside two (known_right xs ys known) m ((calls_later xs h).well well)))

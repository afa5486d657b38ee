-- A packed block has the calls of its tree's walk.
use Rattle.std.proofs.Common.{◌≡◌, ◌≢◌, ◌∙◌, ℕ, ◌-◌, Bool, true, false, List, [], ap, arith, length, refl, subst, sym}
use Rattle.std.specs.Prelude.{◌==◌, ◌%◌, None, Some, nat_lt}
use Rattle.std.proofs.lemmas.Bool.{cond-false, cond-true, lt-ltb, ne_eqb}
use Rattle.h5_interface.specs.Forest.{children_of}
use Rattle.h5_interface.specs.declared.marks.QuirksMode.{QuirksMode}
use Rattle.h5_interface.specs.declared.marks.QuirksMode.TheVariants.{LimitedQuirks, NoQuirks, Quirks}
use Rattle.h5_names.specs.declared.qualified.QualName.{QualName}
use Rattle.h5_serialize.specs.Call.{Call}
use Rattle.h5_serialize.specs.Standing.{new_standing, walk_text}
use Rattle.h5_serialize.specs.Walk.{after_each}
use Rattle.h5_serialize.specs.declared.options.TraversalScope.{TraversalScope}
use Rattle.h5_serialize.specs.declared.options.TraversalScope.TheVariants.{ChildrenOnly}
use Rattle.h5_arena.specs.ArenaModel.{ArenaView, forest_seen, fragment_root}
use Rattle.h5_arena.specs.Html.{opts_for}
use Rattle.h5_arena.specs.NodeCalls.{walk_of}
use Rattle.h5_tree_block.specs.Block.{end_in, has_scripting, is_scripting_in, kind_in, mode_in, name_in, nodes_in}
use Rattle.h5_tree_block.specs.Columns.{DoctypeIds, Held, after_call, closed, columns_of, document_columns, fragment_columns, held, ids_among, mode_number, names_held, no_ids, nothing_held, opened}
use Rattle.h5_tree_block.specs.Html.{calls_from, calls_in, html_of, scope_in}
use Rattle.h5_tree_block.specs.Packed.{AreWordsOf, IsReadAs, block_of, words_of}
use Rattle.h5_tree_block.specs.Read.{name_of}
use Rattle.h5_tree_block.specs.declared.columns.Columns.{Columns}
use Rattle.h5_tree_block.specs.declared.columns.Ended.{Ended}
use Rattle.h5_tree.specs.KnownCalls.{AreKnownCalls, fragment_walk}
use Rattle.h5_tree.proofs.BalancedCalls.{AreBalanced, walk_balanced}
use Rattle.h5_tree.proofs.BlockParts.{HasBytes, has_bytes, node_end, node_kind, node_within}
use Rattle.h5_tree.proofs.CallRuns.{HasCalls, all_calls}
use Rattle.h5_tree.proofs.HeldSteps.{balanced_after, ended, node_below, opened_is}
use Rattle.h5_tree.proofs.KnownRuns.{HasNodes, IsReached, known_inside, over_here}
use Rattle.h5_tree.proofs.LaterHeld.{AreNamesHeld, IsLater, IsWellHeld, calls_later, closed_later, later_both, opened_later}
use Rattle.h5_tree.proofs.PackedTrees.{below_root}
use Rattle.h5_tree.proofs.TextParts.{start_same}

nothing_well : (mode : ℕ) (ids : DoctypeIds) → IsWellHeld (nothing_held mode ids)
nothing_well mode ids = record { rows = refl; names = record { order = refl; count = refl; each = λ k d lt. absurd (omega (arith, lt)) } }

-- the data of a whole tree was held later than no data
whole_later : (kind mode : ℕ) (ids : DoctypeIds) (calls : List Call) → IsLater (nothing_held mode ids) (columns_of kind mode ids calls)
whole_later kind mode ids calls =
    let h = nothing_held mode ids in
    let g = opened kind h in
    let i = after_each after_call g calls in
    later_both h i (closed i) (later_both h g i (opened_later kind h) (calls_later calls g)) (closed_later i)

names_are : (c : Columns) (g : Held) → held c ≡ g → g.names ≡ names_held c.names
unfolding held
names_are c g e = sym (ap (λ (x : Held). x.names) e)

mode_is : (c : Columns) (g : Held) → held c ≡ g → c.mode ≡ g.mode
unfolding held
mode_is c g e = ap (λ (x : Held). x.mode) e

module _ (b : List ℕ) (c : Columns) (bytes : HasBytes b c) (r : IsReadAs b c) (names : AreNamesHeld (names_held c.names)) where
  whole_reached : IsReached b c bytes r names (held c)
  unfolding held
  whole_reached = record {
    count = omega arith;
    part = record {
      text = start_same ℕ c.text.items;
      rows = start_same Ended c.rows.items;
      values = start_same ℕ c.values.items;
      met = start_same QualName c.names.numbered;
    };
    next_text = r.last_text;
    next_row = r.last_row;
  }

  whole_nodes : HasNodes b c bytes r names 0 (held c)
  unfolding held
  whole_nodes n d low high = refl

  -- the block of these calls below a root
  record IsRootOf (kind : ℕ) (calls : List Call) : Type 0 where
    pub same : calls_in b 0 false ≡ calls
    pub root : kind_in b 0 ≡ kind % 256

  whole_calls : (kind mode : ℕ) (ids : DoctypeIds) (calls : List Call) → AreBalanced calls → AreKnownCalls calls → held c ≡ columns_of kind mode ids calls → IsRootOf kind calls
  unfolding calls_in
  whole_calls kind mode ids calls balanced known e =
      let h = nothing_held mode ids in
      let g = opened kind h in
      let i = after_each after_call g calls in
      let node = node_below kind h in
      let o = opened_is kind h in
      let a = balanced_after balanced g in
      let reached = subst (IsReached b c bytes r names) e whole_reached in
      let has = subst (λ x. HasNodes b c bytes r names 0 x) e whole_nodes in
      let it = over_here b c bytes r names h g i node a.new o.nodes o.current a.nodes a.current reached has in
      let deeper = known_inside b c bytes r names balanced known g ((opened_later kind h).well (nothing_well mode ids)) it.inner it.nodes in
      let there : HasCalls b calls 1 (length i.nodes) = subst (λ m. HasCalls b calls m (length i.nodes)) it.begin deeper.1 in
      let end = node_end b c bytes r 0 (ended i node) it.at it.after it.most in
      let within = node_within b c bytes r 0 (ended i node) it.at in
      record {
        same =
            cond-true (nat_lt 0 (nodes_in b)) (calls_from b 1 [] (end_in b 0 - 1)) [] (lt-ltb 0 (nodes_in b) within)
            ∙ ap (λ m. calls_from b 1 [] (m - 1)) end
            ∙ all_calls b calls 1 (length i.nodes) there;
        root = ap (λ k. k % 256) (node_kind b c bytes r 0 (ended i node) it.at);
      }

packed_root : (b : List ℕ) (c : Columns) (kind mode : ℕ) (ids : DoctypeIds) (calls : List Call) → held c ≡ columns_of kind mode ids calls → b ≡ block_of c → AreWordsOf b (words_of c) → IsReadAs b c
    → AreBalanced calls → AreKnownCalls calls → (calls_in b 0 false ≡ calls) × (kind_in b 0 ≡ kind % 256) × (mode_in b ≡ mode)
packed_root b c kind mode ids calls e packed words r balanced known =
    let g = columns_of kind mode ids calls in
    let later = whole_later kind mode ids calls in
    let names : AreNamesHeld (names_held c.names) = subst AreNamesHeld (names_are c g e) (later.well (nothing_well mode ids)).names in
    let it = whole_calls b c (has_bytes b c packed r words) r names kind mode ids calls balanced known e in
    (it.same, it.root, r.mode ∙ mode_is c g e ∙ later.mode)

scripting_back : (quirks : QuirksMode) (scripting : Bool) → has_scripting (mode_number quirks scripting) ≡ scripting
scripting_back NoQuirks true = refl
scripting_back NoQuirks false = refl
scripting_back LimitedQuirks true = refl
scripting_back LimitedQuirks false = refl
scripting_back Quirks true = refl
scripting_back Quirks false = refl

-- the HTML of a block whose root isn't an element
html_is : (b : List ℕ) (calls : List Call) (quirks : QuirksMode) (scripting : Bool) → kind_in b 0 ≢ 1 → mode_in b ≡ mode_number quirks scripting → calls_in b 0 false ≡ calls
    → html_of b 0 false ≡ walk_text (new_standing (opts_for (ChildrenOnly None) scripting)) calls
unfolding html_of scope_in
html_is b calls quirks scripting root mode same =
    let scope : scope_in b 0 false ≡ ChildrenOnly None = cond-false (kind_in b 0 == 1) (ChildrenOnly (Some (name_of b (name_in b 0)))) (ChildrenOnly None) (ne_eqb (kind_in b 0) 1 root) in
    ap (λ (it : TraversalScope). walk_text (new_standing (opts_for it (is_scripting_in b))) (calls_in b 0 false)) scope
    ∙ ap (λ (is : Bool). walk_text (new_standing (opts_for (ChildrenOnly None) is)) (calls_in b 0 false)) (ap has_scripting mode ∙ scripting_back quirks scripting)
    ∙ ap (λ (made : List Call). walk_text (new_standing (opts_for (ChildrenOnly None) scripting)) made) same

-- a packed document and a packed fragment
module _ (a : ArenaView) (scripting : Bool) (c : Columns) (b : List ℕ) where
  abbrev document_walk : List Call
  document_walk = walk_of (forest_seen a) 0 (ChildrenOnly None)

  document_packed : held c ≡ document_columns a scripting → b ≡ block_of c → AreWordsOf b (words_of c) → IsReadAs b c → AreKnownCalls document_walk
      → (calls_in b 0 false ≡ document_walk) × (kind_in b 0 ≡ 9) × (mode_in b ≡ mode_number a.quirks scripting)
  unfolding document_columns
  document_packed e packed words r known =
      let f = forest_seen a in
      packed_root b c 9 (mode_number a.quirks scripting) (ids_among f (children_of f 0)) document_walk e packed words r (walk_balanced f 0) known

  pub document_calls : held c ≡ document_columns a scripting → b ≡ block_of c → AreWordsOf b (words_of c) → IsReadAs b c → AreKnownCalls (walk_of (forest_seen a) 0 (ChildrenOnly None))
      → calls_in b 0 false ≡ walk_of (forest_seen a) 0 (ChildrenOnly None)
  document_calls e packed words r known = (document_packed e packed words r known).0

  pub document_html : held c ≡ document_columns a scripting → b ≡ block_of c → AreWordsOf b (words_of c) → IsReadAs b c → AreKnownCalls (walk_of (forest_seen a) 0 (ChildrenOnly None))
      → html_of b 0 false ≡ walk_text (new_standing (opts_for (ChildrenOnly None) scripting)) (walk_of (forest_seen a) 0 (ChildrenOnly None))
  document_html e packed words r known =
      let it = document_packed e packed words r known in
      html_is b document_walk a.quirks scripting (λ same. omega (arith, it.1, same)) it.2 it.0

  fragment_packed : held c ≡ fragment_columns a scripting → b ≡ block_of c → AreWordsOf b (words_of c) → IsReadAs b c → AreKnownCalls (fragment_walk a)
      → (calls_in b 0 false ≡ fragment_walk a) × (kind_in b 0 ≡ 11) × (mode_in b ≡ mode_number a.quirks scripting)
  unfolding fragment_columns
  fragment_packed e packed words r known =
      packed_root b c 11 (mode_number a.quirks scripting) no_ids (fragment_walk a) e packed words r (below_root (forest_seen a) (fragment_root a)) known

  pub fragment_calls : held c ≡ fragment_columns a scripting → b ≡ block_of c → AreWordsOf b (words_of c) → IsReadAs b c → AreKnownCalls (fragment_walk a) → calls_in b 0 false ≡ fragment_walk a
  fragment_calls e packed words r known = (fragment_packed e packed words r known).0

  pub fragment_html : held c ≡ fragment_columns a scripting → b ≡ block_of c → AreWordsOf b (words_of c) → IsReadAs b c → AreKnownCalls (fragment_walk a)
      → html_of b 0 false ≡ walk_text (new_standing (opts_for (ChildrenOnly None) scripting)) (fragment_walk a)
  fragment_html e packed words r known =
      let it = fragment_packed e packed words r known in
      html_is b (fragment_walk a) a.quirks scripting (λ same. omega (arith, it.1, same)) it.2 it.0

-- A command has one output for an input.
use Rattle.std.proofs.Common.{◌≡◌, ℕ, suc, true, List, [], ◌∷◌, ◌++◌, Some, None, Result, Ok, slice_get, refl, sym, ap, subst, ◌∙◌}
use Rattle.h5_interface.specs.Forest.{Child, Forest}
use Rattle.h5_arena.specs.ArenaModel.{ArenaView, arena_choices, forest_seen, new_arena, seen_of}
use Rattle.h5_arena.specs.NodeCalls.{walk_of}
use Rattle.h5_serialize.specs.Standing.{new_standing, walk_text}
use Rattle.h5_serialize.specs.declared.options.TraversalScope.TheVariants.{ChildrenOnly}
use Rattle.h5_print.specs.Items.{ItemText, items_of}
use Rattle.h5_print.specs.Printed.{IsTreeText, NoChild, NodeChild, Printed, TemplateChild, TextChild}
use Rattle.h5_print.specs.Replies.{quirks_line}
use Rattle.h5_print.proofs.OneText.{one_tree_text}
use Rattle.h5_tree_builder.specs.Builder.{ended_view}
use Rattle.h5_driver.specs.Options.{default_options}
use Rattle.h5_driver.specs.PlainReader.{Reads, first}
use Rattle.h5_driver.proofs.OneTree.{one_fragment, one_tree}
use Rattle.h5_commands.specs.Outcome.{Prints}
use Rattle.h5_commands.specs.Printed.{FragmentPrints, HtmlPrints, IsTreeOutput, ItemsPrint, TreePrints, after_items, default_serializing, first_view, html_name, replies_to_items, reply_lines}
use Rattle.h5_commands.specs.Words.{CommandText, Fragment, Html, Tokens, Tree}
use Rattle.h5_arena.proofs.CallConditions.{some_same}

-- a list is determined by its length and its entries
lists_same : {A : Type 0} (xs ys : List A) → ((n : ℕ) → slice_get xs n ≡ slice_get ys n) → xs ≡ ys
lists_same [] [] h = refl
lists_same [] (y ∷ ys) h = absurd (cc (h 0))
lists_same (x ∷ xs) [] h = absurd (cc (h 0))
lists_same (x ∷ xs) (y ∷ ys) h =
    ap (λ z. z ∷ xs) (some_same x y (h 0)) ∙ ap (λ zs. y ∷ zs) (lists_same xs ys (λ n. h (suc n)))

-- nodes of one forest are the same nodes
nodes_same : (a b : ArenaView) → forest_seen a ≡ forest_seen b → a.nodes ≡ b.nodes
nodes_same a b e = lists_same a.nodes b.nodes (λ n. ap (λ (f : Forest). f.node n) e)

-- a text of a tree is one of each arena with these nodes
printed_alike : (a b : ArenaView) → a.nodes ≡ b.nodes → (level : ℕ) (children : List Child) (text : List ℕ) → Printed a level children text → Printed b level children text
printed_alike a b e level _ _ NoChild = NoChild
printed_alike a b e level _ _ (TextChild text rest) = TextChild text (printed_alike a b e level _ _ rest)
printed_alike a b e level _ _ (NodeChild n d at none inner rest) =
    NodeChild n d (ap (λ ds. slice_get ds n) (sym e) ∙ at) none (printed_alike a b e (suc level) _ _ inner) (printed_alike a b e level _ _ rest)
printed_alike a b e level _ _ (TemplateChild n c d f at some there held inner rest) =
    TemplateChild n c d f (ap (λ ds. slice_get ds n) (sym e) ∙ at) some (ap (λ ds. slice_get ds c) (sym e) ∙ there)
    (printed_alike a b e (suc (suc level)) _ _ held) (printed_alike a b e (suc level) _ _ inner) (printed_alike a b e level _ _ rest)

tree_same : (a b : ArenaView) (x y : List ℕ) → a.nodes ≡ b.nodes → IsTreeText a x → IsTreeText b y → x ≡ y
tree_same a b x y e (root, at, printed) t =
    one_tree_text b x y (root, ap (λ ds. slice_get ds 0) (sym e) ∙ at, printed_alike a b e 0 root.children x printed) t

output_same : (a b : ArenaView) (x y : List ℕ) → forest_seen a ≡ forest_seen b → a.quirks ≡ b.quirks → IsTreeOutput a x → IsTreeOutput b y → x ≡ y
output_same a b x y e q t u =
    t.whole ∙ ap (λ z. z ++ quirks_line a.quirks) (tree_same a b t.tree u.tree (nodes_same a b e) t.is_tree u.is_tree) ∙ ap (λ m. u.tree ++ quirks_line m) q ∙ sym u.whole

-- the output of items is unique
items_print : (items : List ItemText) (x y : List ℕ) → ItemsPrint items x → ItemsPrint items y → x ≡ y
items_print items x y p q =
    let v = ended_view arena_choices (after_items items first_view) in
    let tree = output_same p.arena q.arena p.tree q.tree (p.built.forest ∙ sym q.built.forest) (p.built.quirks ∙ sym q.built.quirks) p.is_tree q.is_tree in
    p.whole ∙ ap (λ t. t ++ reply_lines 1 (replies_to_items items first_view)) tree ∙ sym q.whole

-- a parser makes one tree of a text
tree_prints : (text x y : List ℕ) → TreePrints text x → TreePrints text y → x ≡ y
tree_prints text x y p q =
    let same = one_tree arena_choices _ _ text _ _ p.parsed q.parsed in
    output_same p.arena q.arena x y same.0 same.1 p.is_tree q.is_tree

fragment_prints : (context text x y : List ℕ) → FragmentPrints context text x → FragmentPrints context text y → x ≡ y
fragment_prints context text x y p q =
    let same = one_fragment (Reads arena_choices) first arena_choices (seen_of new_arena) default_options (html_name context) [] true text (seen_of p.arena) (seen_of q.arena) p.parsed q.parsed in
    output_same p.arena q.arena x y same.0 same.1 p.is_tree q.is_tree

html_prints : (text x y : List ℕ) → HtmlPrints text x → HtmlPrints text y → x ≡ y
html_prints text x y p q =
    let same = one_tree arena_choices _ _ text _ _ p.parsed q.parsed in
    p.whole ∙ ap (λ f. walk_text (new_standing default_serializing) (walk_of f 0 (ChildrenOnly None))) same.0 ∙ sym q.whole

ok_same : {A B : Type 0} (r : Result A B) (x y : A) → r ≡ Ok x → r ≡ Ok y → x ≡ y
ok_same r x y p q = cc

pub one_output : (command : CommandText) (bytes x y : List ℕ) → Prints command bytes x → Prints command bytes y → x ≡ y
one_output Tokens bytes x y (u, (items, e, p)) (v, (others, f, q)) =
    items_print others x y (subst (λ is. ItemsPrint is x) (ok_same (items_of bytes) items others e f) p) q
one_output Tree bytes x y (u, p) (v, q) = tree_prints bytes x y p q
one_output (Fragment context) bytes x y (u, p) (v, q) = fragment_prints context bytes x y p q
one_output Html bytes x y (u, p) (v, q) = html_prints bytes x y p q

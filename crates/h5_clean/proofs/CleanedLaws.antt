-- What is left of a text is built again, and cleaned again it stays.
use Rattle.std.proofs.Common.{◌≡◌, ◌∙◌, ◌≤◌, ◌-◌, ◌++◌, ℕ, zero, suc, true, List, [], Option, None, Some, length, ap, refl, subst, sym, append-nil, arith, if◌then◌else◌}
use Rattle.std.specs.Prelude.{slice_get, unwrap_or}
use Rattle.std.specs.Option.{option_and_then}
use Rattle.h5_interface.specs.Ancestors.{Further, IsAncestor, Parent}
use Rattle.h5_interface.specs.Forest.{AreParted, Forest, IsForest, Node, below_of, children_of, contents_of, count, is_at, parent_of}
use Rattle.std.specs.Io.KnownBytes.{Appends}
use Rattle.h5_serialize.specs.Walk.{text_of_each}
use Rattle.h5_serialize.specs.declared.options.TraversalScope.TheVariants.{ChildrenOnly}
use Rattle.h5_arena.specs.ArenaModel.{ArenaView, arena_choices, forest_seen, fragment_root, new_arena, node_of, seen_of}
use Rattle.h5_arena.specs.NodeCalls.{calls_around, calls_of, calls_of_children, shown_children, walk_of}
use Rattle.h5_tables.specs.TagSets.{html_namespace, is_html_named}
use Rattle.h5_builder_spec.specs.reset.Roles.{role_of, role_of_local}
use Rattle.h5_tree_builder.specs.Fragment.{rawtext_context_names, rcdata_context_names, state_of_local}
use Rattle.h5_builder_laws.specs.Plain.{Nodes}
use Rattle.h5_builder_laws.specs.Rebuilding.{HoldsDocument}
use Rattle.h5_round_trip.specs.Written.{written_fragment}
use Rattle.h5_driver.specs.Options.{default_options}
use Rattle.h5_driver.specs.PlainFragments.{FragmentStands, FragmentsComeBack, IsBodyContext}
use Rattle.h5_driver.specs.StandardReader.{Reads, first}
use Rattle.h5_driver.proofs.OneTree.{one_fragment}
use Rattle.h5_clean.specs.Calls.{after_call, first_state, text_of}
use Rattle.h5_clean.specs.Cleaned.{Builds, BuildsFragment, IsClean, IsCleaned, IsTreeOf, WritesCleaned, calls_below, div}
use Rattle.h5_clean.specs.Pass.{cleaned}
use Rattle.h5_clean.specs.Policies.{Rules}
use Rattle.h5_clean.specs.Source.{Source, calls_before, source_of}
use Rattle.h5_clean.proofs.CallLaws.{tree_written}
use Rattle.h5_clean.proofs.MarkLaws.{text_unmarked}
use Rattle.h5_clean.proofs.PassLaws.{cleaned_around, cleaned_let, cleaned_plain, cleaned_read, cleaned_same, cleaned_unmarked, cleaned_within}
use Rattle.h5_clean.proofs.SourceLaws.{nodes_told, one_tree, tree_of, tree_told}

-- ---- what a walk writes is what is left

-- what a walk below a node writes
pub writes_walk : (r : Rules) (f : Forest) (n : ℕ) (before after : Option (List ℕ)) → Appends before after (text_of_each after_call text_of (first_state r) (walk_of f n (ChildrenOnly None)))
    → WritesCleaned r (walk_of f n (ChildrenOnly None)) before after
writes_walk r f n before after h =
    let s = tree_of f (shown_children f n) in
    let told = tree_told f (shown_children f n) in
    record { source = s; told = told; written = subst (Appends before after) (ap (text_of_each after_call text_of (first_state r)) (sym told) ∙ tree_written r s) h }

-- and what is written of the tree of a text is what is left of the text
pub is_cleaned : (r : Rules) (html : List ℕ) (a : ArenaView) (before after : Option (List ℕ)) → Builds html a → WritesCleaned r (calls_below (forest_seen a) (fragment_root a)) before after
    → (out : List ℕ) × (IsCleaned r html out × Appends before after out)
is_cleaned r html a before after builds w =
    let ns = cleaned r w.source in
    let plain = cleaned_plain r w.source in
    let readable = cleaned_read r w.source in (
      written_fragment ns,
      (
        record {
          source = w.source;
          is_tree = record { arena = a; builds = builds; told = w.told };
          text = record { plain = plain; readable = readable; written = refl; unmarked = text_unmarked ns plain readable (cleaned_unmarked r w.source) };
          allowed = cleaned_let r w.source;
          within = cleaned_within r w.source;
        },
        w.written,
      ),
    )

-- what is known of memory that held nothing
pub all_written : (before after : Option (List ℕ)) (out all : List ℕ) → before ≡ Some [] → after ≡ Some all → Appends before after out → all ≡ out
all_written None after out all b a h = cc
all_written (Some x) None out all b a h = cc
all_written (Some x) (Some y) out all b a h = let none : x ≡ [] = cc in let it : y ≡ all = cc in sym it ∙ h ∙ ap (λ l. l ++ out) none

-- ---- a text has one tree

root_in : Forest → Option ℕ
root_in f = let children = children_of f 0 in option_and_then node_of (slice_get children (length children - 1))

same_forest : (text : List ℕ) (a b : ArenaView) → Builds text a → Builds text b → forest_seen a ≡ forest_seen b
same_forest text a b h k = (one_fragment (Reads arena_choices) first arena_choices (seen_of new_arena) default_options div [] true text (seen_of a) (seen_of b) h k).0

same_calls : (a b : ArenaView) → forest_seen a ≡ forest_seen b → calls_below (forest_seen a) (fragment_root a) ≡ calls_below (forest_seen b) (fragment_root b)
unfolding root_in
same_calls a b e = ap (λ f. calls_below f (root_in f)) e

same_source : (text : List ℕ) (s t : Source) → IsTreeOf text s → IsTreeOf text t → s ≡ t
same_source text s t h k = one_tree s t (h.told ∙ same_calls h.arena k.arena (same_forest text h.arena k.arena h.builds k.builds) ∙ sym k.told)

pub one_text : (r : Rules) (html x y : List ℕ) → IsCleaned r html x → IsCleaned r html y → x ≡ y
one_text r html x y h k = h.text.written ∙ ap (λ s. written_fragment (cleaned r s)) (same_source html h.source k.source h.is_tree k.is_tree) ∙ sym k.text.written

-- ---- of a fragment of which nothing is to be taken all is left

module _ (around : (f : Forest) → IsForest f → (n : ℕ) (d : Node) → f.node n ≡ Some d → calls_of f n ≡ calls_around d.kind d.attrs (calls_of_children f (shown_children f n))) where
  fragment_told : (a : ArenaView) (nodes : Nodes) → FragmentStands (forest_seen a) nodes → calls_below (forest_seen a) (fragment_root a) ≡ calls_before (source_of nodes) []
  unfolding root_in
  fragment_told a nodes s =
      let f = forest_seen a in
      let children = ap (λ cs. option_and_then node_of (slice_get cs (length cs - 1))) s.document.has_children in
      ap (calls_below f) children
      ∙ ap (λ (o : Option ℕ). calls_of_children f (children_of f (unwrap_or o s.root))) s.is_root.no_contents
      ∙ sym (append-nil (calls_of_children f (children_of f s.root)))
      ∙ nodes_told f (around f s.is_forest) (children_of f s.root) nodes [] s.stands

  pub nothing_taken : (r : Rules) (html out : List ℕ) (nodes : Nodes) → IsClean r nodes → BuildsFragment html nodes → IsCleaned r html out → out ≡ written_fragment nodes
  nothing_taken r html out nodes c b h =
      let same : h.source ≡ source_of nodes =
      one_tree h.source (source_of nodes) (h.is_tree.told ∙ same_calls h.is_tree.arena b.arena (same_forest html h.is_tree.arena b.arena h.is_tree.builds b.builds) ∙ fragment_told b.arena nodes b.stands) in
      h.text.written ∙ ap (λ s. written_fragment (cleaned r s)) same ∙ ap written_fragment (cleaned_same r nodes c.plain c.readable c.allowed c.within c.unmarked)

  -- ---- what is left is built again

  module _ (back : FragmentsComeBack arena_choices) where
    holds : HoldsDocument (forest_seen new_arena)
    holds = record {
      is_forest = record {
        bounded = none;
        root = refl;
        one_parent = alone;
        inside = λ p c e. absurd (orphan c p e);
        acyclic = λ n h. no_ancestor n n h;
        parted = apart;
        hosted = λ n c e. absurd (no_contents n c e);
        top = refl;
      };
      document = record { is_kind = refl; has_attrs = refl; has_children = refl; no_contents = refl };
    }
      where
        none : (n : ℕ) → 1 ≤ n → (forest_seen new_arena).node n ≡ None
        none zero h = absurd (omega (arith, h))
        none (suc n) h = refl

        alone : (p c : ℕ) → count c (below_of (forest_seen new_arena) p) ≡ (if is_at p (parent_of (forest_seen new_arena) c) then 1 else 0)
        alone zero zero = refl
        alone zero (suc c) = refl
        alone (suc p) zero = refl
        alone (suc p) (suc c) = refl

        orphan : (c p : ℕ) → parent_of (forest_seen new_arena) c ≡ Some p → ⊥
        orphan zero p e = absurd (cc)
        orphan (suc c) p e = absurd (cc)

        no_ancestor : (a n : ℕ) → IsAncestor (parent_of (forest_seen new_arena)) a n → ⊥
        no_ancestor a n (Parent e) = orphan n a e
        no_ancestor a n (Further p h e) = orphan n p e

        apart : (n : ℕ) → AreParted (children_of (forest_seen new_arena) n)
        apart zero = tt
        apart (suc n) = tt

        no_contents : (n c : ℕ) → contents_of (forest_seen new_arena) n ≡ Some c → ⊥
        no_contents zero c e = absurd (cc)
        no_contents (suc n) c e = absurd (cc)

    in_div : IsBodyContext div
    unfolding html_namespace is_html_named role_of role_of_local state_of_local rcdata_context_names rawtext_context_names
    in_div = record { of_html = refl; is_ordinary = λ s. refl; is_data = λ b. refl; no_template = refl; no_modes = refl }

    pub comes_back : (r : Rules) (html out : List ℕ) (a : ArenaView) (h : IsCleaned r html out) → Builds out a → FragmentStands (forest_seen a) (cleaned r h.source)
    comes_back r html out a h builds = back (seen_of new_arena) (seen_of a) div [] true true (cleaned r h.source) out holds in_div h.text builds

    pub stays : (r : Rules) (html out again : List ℕ) → IsCleaned r html out → IsCleaned r out again → again ≡ out
    stays r html out again h k =
        nothing_taken r out again (cleaned r h.source)
        (record { plain = cleaned_around r h.source; readable = h.text.readable; allowed = h.allowed; within = h.within; unmarked = cleaned_unmarked r h.source })
        (record { arena = k.is_tree.arena; builds = k.is_tree.builds; stands = comes_back r html out k.is_tree.arena h k.is_tree.builds }) k
        ∙ sym h.text.written

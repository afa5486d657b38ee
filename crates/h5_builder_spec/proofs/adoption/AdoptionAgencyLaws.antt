-- The adoption agency and what calls it leave builder and sink ready (HTML standard, section 13.2.6.4.7, "adoption agency
-- algorithm").
use Rattle.std.proofs.Common.{◌≡◌, ◌≢◌, ℕ, zero, suc, Bool, true, false, not, ◌&&◌, cond, List, [], ◌∷◌, ◌++◌, append_assoc, map, codes, Option, Some, None, IsTrue, refl, ap, sym, subst, ◌∙◌}
use Rattle.std.specs.List.{list_any}
use Rattle.std.proofs.lemmas.Slice.Eq.{bytes_eq-Decides}
use Rattle.h5_names.specs.AttributeText.{is_same_text}
use Rattle.h5_names.specs.declared.qualified.QualName.{QualName}
use Rattle.h5_interface.specs.Changes.{mark}
use Rattle.h5_interface.specs.Forest.{ElementNode, Forest, parent_of}
use Rattle.h5_interface.specs.SinkChoices.{SinkChoices}
use Rattle.h5_interface.proofs.ForestLaws.{node_of_kind}
use Rattle.h5_tables.specs.TagSets.{formatting_names, is_default_scope, is_html_named, is_one_of, is_special}
use Rattle.h5_builder_spec.specs.formatting.Adoption.{FormattingElement, FurthestBlock, furthest_block, newer_than, newest_named, older_than, without_node}
use Rattle.h5_builder_spec.specs.formatting.FormattingList.{Entry, nodes_of, without_entry}
use Rattle.h5_builder_spec.specs.formatting.FormattingNames.{IsOfTag, html_name}
use Rattle.h5_builder_spec.specs.stack.Order.{Distinct, IsIn, is_in}
use Rattle.h5_builder_spec.specs.stack.Scope.{comes_before_special, cut_names, cut_through, first_passes, in_scope, is_implied_but, later_names}
use Rattle.h5_builder_spec.proofs.entries.EachLaws.{each_without_entry}
use Rattle.h5_builder_spec.proofs.entries.KeptListsLaws.{lists_without_entry}
use Rattle.h5_builder_spec.proofs.entries.PairLaws.{before_one_more, in_one_more, is_in_true}
use Rattle.h5_builder_spec.proofs.entries.PassLaws.{lists_but_first, lists_closed, lists_cut_through, lists_removed, ordered_distinct, stack_split, without_node_split}
use Rattle.h5_builder_spec.specs.stack.Root.{IsRootOpen}
use Rattle.h5_builder_spec.proofs.fitting.OpenLaws.{not_html, open_ended, open_pop}
use Rattle.h5_builder_spec.specs.formatting.AdoptionAgency.{MayAdopt, adopt, adopt_at, adopt_by, adopt_within, adoption_agency, close_misnested_a, handle_misnested_a_tags, handle_misnested_nobr_tags, remove_from_stack, unlist_and_remove, KeepsKinds}
use Rattle.h5_builder_spec.specs.Changes.{generate_implied_end_except, pop, pop_until_named, pop_while}
use Rattle.h5_builder_spec.specs.stack.Closing.{close_named}
use Rattle.h5_builder_spec.specs.formatting.Formatting.{reconstruct_active_formatting_elements}
use Rattle.h5_builder_spec.specs.Sound.{AllStand, Sound}
use Rattle.h5_builder_spec.specs.inner.Kept.{HasLists, HasHtmlRoot}
use Rattle.h5_builder_spec.specs.World.{World, current, name_in, name_of_found, names_of}
use Rattle.h5_builder_spec.proofs.adoption.AdoptionForest.{kinds_refl, kinds_trans, marked_all, marked_kind, marked_kinds}
use Rattle.h5_builder_spec.proofs.adoption.AdoptionPlace.{newest_is_plain, newest_of_tag, not_oldest, plain_not_html}
use Rattle.h5_builder_spec.proofs.adoption.AdoptionRound.{adopt_ready, map_same, map_some, open_after, open_before, open_behind, round_kinds, top_after, top_before, top_behind}
use Rattle.h5_builder_spec.proofs.changes.ClosingLaws.{pop_sound, while_holds}
use Rattle.h5_builder_spec.proofs.changes.FormattingLaws.{AllListedOpen, reconstruct_opens}
use Rattle.h5_builder_spec.proofs.changes.NameLaws.{names-cut, names-implied}
use Rattle.h5_builder_spec.proofs.changes.PopLaws.{all_cut, names-pop}
use Rattle.h5_builder_spec.proofs.changes.SoundLaws.{all_tail}
use Rattle.h5_builder_spec.specs.inner.Lists.{Lists}

-- the world is sound, the list agrees with the stack, and nodes stayed what they were
pub record Keeps (w v : World) : Type 0 where
  pub sound : Sound v
  pub lists : HasLists v
  pub kinds : KeepsKinds w.forest v.forest

pub keeps_then : (u v w : World) → Keeps u v → Keeps v w → Keeps u w
keeps_then u v w a b = record { sound = b.sound; lists = b.lists; kinds = kinds_trans u.forest v.forest w.forest a.kinds b.kinds }

-- besides the root is still open
pub record LeavesReady (w v : World) : Type 0 where
  pub ready : HasHtmlRoot v
  pub kinds : KeepsKinds w.forest v.forest

pub leaves_refl : (w : World) → HasHtmlRoot w → LeavesReady w w
leaves_refl w ready = record { ready = ready; kinds = kinds_refl w.forest }

pub leaves_trans : (u v w : World) → LeavesReady u v → LeavesReady v w → LeavesReady u w
leaves_trans u v w a b = record { ready = b.ready; kinds = kinds_trans u.forest v.forest w.forest a.kinds b.kinds }

distinct_stack : (w : World) → Sound w → Distinct w.stack
distinct_stack w k = ordered_distinct (parent_of w.forest) w.stack k.stands.ordered

-- a formatting element's name isn't `html`
pub formatting_not_html : (name : List ℕ) → IsTrue (is_one_of formatting_names name) → is_same_text name (codes "html") ≡ false
unfolding formatting_names
formatting_not_html name h = at (is_same_text name (codes "html")) refl
  where
    none : is_one_of formatting_names (codes "html") ≡ false
    none = refl

    at : (b : Bool) → is_same_text name (codes "html") ≡ b → b ≡ false
    at false e = refl
    at true e =
        let same = (bytes_eq-Decides name (codes "html")).0 e in
        absurd (let clash : true ≡ false = sym h ∙ ap (is_one_of formatting_names) same ∙ none in cc)

-- Pops and cuts.

-- the current node is popped
pub pop_keeps : (choices : SinkChoices) (w : World) → Sound w → HasLists w → Keeps w (pop choices w)
unfolding pop
pop_keeps choices w k h = record {
  sound = pop_sound choices w k;
  lists = lists_but_first w.stack w.formatting (distinct_stack w k) h;
  kinds = marked_kinds (choices.marks_after_pop w.forest (current w)) w.forest;
}

-- the current node is popped, where it isn't the root
pub pop_ready : (choices : SinkChoices) (w : World) → HasHtmlRoot w → IsRootOpen (later_names (names_of w)) → LeavesReady w (pop choices w)
pop_ready choices w ready open_root =
    let k = pop_keeps choices w ready.sound ready.lists in
    record { ready = record { sound = k.sound; lists = k.lists; root = subst IsRootOpen (sym (names-pop choices w)) open_root }; kinds = k.kinds }

-- it is popped while it passes
pub while_keeps : (choices : SinkChoices) (popped : QualName → Bool) (ns : List QualName) (w : World) → Sound w → HasLists w → Keeps w (pop_while choices popped ns w)
while_keeps choices popped ns w k h =
    while_holds (Keeps w) choices popped (λ v one. keeps_then w v (pop choices v) one (pop_keeps choices v one.sound one.lists)) ns w (record { sound = k; lists = h; kinds = kinds_refl w.forest })

-- implied ends
pub implied_keeps : (choices : SinkChoices) (name : List ℕ) (w : World) → Sound w → HasLists w → Keeps w (generate_implied_end_except choices name w)
unfolding generate_implied_end_except
implied_keeps choices name w k h = while_keeps choices (is_implied_but name) (names_of w) w k h

-- the stack is cut at the first element that passes
pub cut_keeps : (is : QualName → Bool) (w : World) → Sound w → HasLists w → Keeps w (record w { stack = cut_through is (names_of w) w.stack })
cut_keeps is w k h = record {
  sound = all_cut w.forest is (names_of w) w.stack k;
  lists = lists_cut_through is (names_of w) w.stack w.formatting (distinct_stack w k) h;
  kinds = kinds_refl w.forest;
}

-- up to and including the first of a name
pub until_named_keeps : (name : List ℕ) (w : World) → Sound w → HasLists w → Keeps w (pop_until_named name w)
unfolding pop_until_named
until_named_keeps name w k h = cut_keeps (is_html_named name) w k h

-- "any other end tag"
pub close_named_ready : (choices : SinkChoices) (name : List ℕ) (w : World) → is_same_text name (codes "html") ≡ false → HasHtmlRoot w → LeavesReady w (close_named choices name w)
unfolding close_named
close_named_ready choices name w other ready = at (comes_before_special name (names_of w)) refl
  where
    v : World
    v = generate_implied_end_except choices name w

    one : Keeps w v
    one = implied_keeps choices name w ready.sound ready.lists

    two : Keeps v (pop_until_named name v)
    two = until_named_keeps name v one.sound one.lists

    at : (b : Bool) → comes_before_special name (names_of w) ≡ b → LeavesReady w (cond b (pop_until_named name v) w)
    at false e = leaves_refl w ready
    at true e = record {
      ready = record {
        sound = two.sound;
        lists = two.lists;
        root = subst IsRootOpen (sym (names-cut name v ∙ ap (cut_names (is_html_named name)) (names-implied choices name w))) (open_ended name (names_of w) other e ready.root);
      };
      kinds = kinds_trans w.forest v.forest (pop_until_named name v).forest one.kinds two.kinds;
    }

-- Entries and elements that go.

all_unlisted : {head form context : Option ℕ} (f : Forest) (s : List ℕ) (l : List Entry) (n : ℕ) → AllStand f s l head form context → AllStand f s (without_entry n l) head form context
all_unlisted f s l n k = record {
  stands = k.stands;
  root_top = k.root_top;
  head_node = k.head_node;
  form_node = k.form_node;
  form_name = k.form_name;
  apart = k.apart;
  context_node = k.context_node;
  context_out = k.context_out;
  context_no_head = k.context_no_head;
  listed = each_without_entry (IsOfTag f) n l k.listed;
  formatting = each_without_entry (λ m t. IsTrue (is_one_of formatting_names t.name)) n l k.formatting;
}

-- an entry is removed
pub entry_gone_ready : (n : ℕ) (w : World) → HasHtmlRoot w → LeavesReady w (record w { formatting = without_entry n w.formatting })
unfolding names_of
entry_gone_ready n w ready = record {
  ready = record { sound = all_unlisted w.forest w.stack w.formatting n ready.sound; lists = lists_without_entry n w.stack w.formatting ready.lists; root = ready.root };
  kinds = kinds_refl w.forest;
}

all_behind : {l : List Entry} {head form context : Option ℕ} (f : Forest) (a s : List ℕ) → AllStand f (a ++ s) l head form context → AllStand f s l head form context
all_behind f [] s k = k
all_behind f (n ∷ a) s k = all_behind f a s (all_tail f n (a ++ s) k)

-- elements are popped up to and including one that isn't the root, and its entry is removed
pub closed_ready : (n : ℕ) (w : World) → HasHtmlRoot w → IsIn n w.stack → is_html_named (codes "html") (name_in w.forest n) ≡ false
    → LeavesReady w (record w { stack = older_than n w.stack; formatting = without_entry n w.formatting })
unfolding names_of
closed_ready n w ready i other = record {
  ready = record {
    sound = all_unlisted w.forest (older_than n w.stack) w.formatting n
        (all_behind w.forest (newer_than n w.stack ++ n ∷ []) (older_than n w.stack) (subst (λ s. AllStand w.forest s w.formatting w.head w.form w.context) cut ready.sound));
    lists = lists_closed n w.stack w.formatting i (distinct_stack w ready.sound) ready.lists;
    root = open_behind (name_in w.forest) (newer_than n w.stack ++ n ∷ []) (older_than n w.stack) (not_oldest w n i other ready.root) (subst (λ s. IsRootOpen (map (name_in w.forest) s)) cut ready.root);
  };
  kinds = kinds_refl w.forest;
}
  where
    cut : w.stack ≡ (newer_than n w.stack ++ n ∷ []) ++ older_than n w.stack
    cut = stack_split n w.stack i ∙ sym (append_assoc (newer_than n w.stack) (n ∷ []) (older_than n w.stack))

-- one that isn't the root leaves the stack
all_left : {l : List Entry} {head form context : Option ℕ} (f : Forest) (a r : List ℕ) (n : ℕ) → r ≢ [] → AllStand f (a ++ n ∷ r) l head form context → AllStand f (a ++ r) l head form context
all_left f a r n some k = record {
  stands = record {
    is_forest = k.stands.is_forest;
    elements = λ m i. k.stands.elements m (in_one_more m n a r i);
    ordered = record { newer = λ x y h. k.stands.ordered.newer x y (before_one_more x y n a r h) };
    templates = λ m i. k.stands.templates m (in_one_more m n a r i);
  };
  root_top = top_before f a r some (top_after f n r some (top_behind f a (n ∷ r) (λ e. cc) k.root_top));
  head_node = k.head_node;
  form_node = k.form_node;
  form_name = λ m e i. k.form_name m e (in_one_more m n a r i);
  apart = k.apart;
  context_node = k.context_node;
  context_out = λ m e i. k.context_out m e (in_one_more m n a r i);
  context_no_head = k.context_no_head;
  listed = k.listed;
  formatting = k.formatting;
}

-- and the sink is notified
pub taken_ready : (choices : SinkChoices) (n : ℕ) (w : World) → HasHtmlRoot w → is_html_named (codes "html") (name_in w.forest n) ≡ false → Lists (without_node n w.stack) w.formatting → LeavesReady w (remove_from_stack choices n w)
unfolding remove_from_stack names_of
taken_ready choices n w ready other lists = at (is_in n w.stack) refl
  where
    marked : Forest
    marked = mark (choices.marks_after_pop w.forest n) w.forest

    out : IsIn n w.stack → LeavesReady w (record w { forest = marked; stack = without_node n w.stack })
    out i = record {
      ready = record {
        sound = marked_all (choices.marks_after_pop w.forest n) w.forest (without_node n w.stack)
            (subst (λ s. AllStand w.forest s w.formatting w.head w.form w.context) (sym (without_node_split n w.stack i))
            (all_left w.forest (newer_than n w.stack) (older_than n w.stack) n (not_oldest w n i other ready.root)
            (subst (λ s. AllStand w.forest s w.formatting w.head w.form w.context) (stack_split n w.stack i) ready.sound)));
        lists = lists;
        root = subst (λ s. IsRootOpen (map (name_in marked) s)) (sym (without_node_split n w.stack i))
            (open_before (name_in marked) (newer_than n w.stack) (older_than n w.stack) (older_open i));
      };
      kinds = marked_kinds (choices.marks_after_pop w.forest n) w.forest;
    }
      where
        older_open : IsIn n w.stack → IsRootOpen (map (name_in marked) (older_than n w.stack))
        older_open i =
            let some = not_oldest w n i other ready.root in
            subst IsRootOpen (map_same (name_in w.forest) (name_in marked) (older_than n w.stack) (λ m j. ap name_of_found (sym (marked_kind (choices.marks_after_pop w.forest n) w.forest m))))
            (open_after (name_in w.forest n) (map (name_in w.forest) (older_than n w.stack)) (map_some (name_in w.forest) (older_than n w.stack) some)
            (open_behind (name_in w.forest) (newer_than n w.stack) (n ∷ older_than n w.stack) (λ e. cc) (subst (λ s. IsRootOpen (map (name_in w.forest) s)) (stack_split n w.stack i) ready.root)))

    at : (b : Bool) → is_in n w.stack ≡ b → LeavesReady w (cond b (record w { forest = marked; stack = without_node n w.stack }) w)
    at true e = out (is_in_true n w.stack e)
    at false e = leaves_refl w ready

-- one that isn't the root leaves list and stack
pub removed_ready : (choices : SinkChoices) (n : ℕ) (w : World) → HasHtmlRoot w → is_html_named (codes "html") (name_in w.forest n) ≡ false → LeavesReady w (unlist_and_remove choices n w)
removed_ready choices n w ready other =
    let gone = (entry_gone_ready n w ready).ready in
    let taken = taken_ready choices n (record w { formatting = without_entry n w.formatting }) gone other (lists_removed n w.stack w.formatting ready.lists) in
    record { ready = taken.ready; kinds = taken.kinds }

-- Rounds.

adopt_leaves : {name : List ℕ} {f : FormattingElement} {k : FurthestBlock} (choices : SinkChoices) (w : World) → HasHtmlRoot w → MayAdopt name f k w → LeavesReady w (adopt choices f k w)
adopt_leaves choices w ready may = record { ready = adopt_ready choices w ready may; kinds = round_kinds choices w ready may }

-- a round, if what comes after it keeps builder and sink ready
pub round_ready : (again : World → World) → ((v : World) → HasHtmlRoot v → LeavesReady v (again v)) → (choices : SinkChoices) (name : List ℕ) (w : World) → is_same_text name (codes "html") ≡ false → HasHtmlRoot w
    → LeavesReady w (adopt_by again choices name (newest_named name w.formatting) w)
round_ready again go choices name w other ready = at (newest_named name w.formatting) refl
  where
    block_of : FormattingElement → Option FurthestBlock
    block_of f = furthest_block (λ n. is_special (name_in w.forest n)) (newer_than f.node w.stack)

    scope_ends : FormattingElement → Bool
    scope_ends f = list_any (λ n. is_default_scope (name_in w.forest n)) (newer_than f.node w.stack)

    by_block : (f : FormattingElement) → newest_named name w.formatting ≡ Some f → IsIn f.node w.stack → scope_ends f ≡ false → (o : Option FurthestBlock) → block_of f ≡ o → LeavesReady w (adopt_at again choices f o w)
    by_block f newest i scope None e = closed_ready f.node w ready i (plain_not_html (name_in w.forest f.node) (newest_is_plain name w newest ready.sound))
    by_block f newest i scope (Some k) e =
        let may : MayAdopt name f k w = record { newest = newest; is_open = i; in_scope = scope; block = e } in
        let one = adopt_leaves choices w ready may in
        leaves_trans w (adopt choices f k w) (again (adopt choices f k w)) one (go (adopt choices f k w) one.ready)

    by_place : (f : FormattingElement) → newest_named name w.formatting ≡ Some f → (b : Bool) → is_in f.node w.stack ≡ b → (c : Bool) → scope_ends f ≡ c
        → LeavesReady w (cond (not b) (record w { formatting = without_entry f.node w.formatting }) (cond c w (adopt_at again choices f (block_of f) w)))
    by_place f newest false e c v = entry_gone_ready f.node w ready
    by_place f newest true e true v = leaves_refl w ready
    by_place f newest true e false v = by_block f newest (is_in_true f.node w.stack e) v (block_of f) refl

    at : (o : Option FormattingElement) → newest_named name w.formatting ≡ o → LeavesReady w (adopt_by again choices name o w)
    at None e = close_named_ready choices name w other ready
    at (Some f) e = by_place f e (is_in f.node w.stack) refl (scope_ends f) refl

pub within_ready : (n : ℕ) (choices : SinkChoices) (name : List ℕ) (w : World) → is_same_text name (codes "html") ≡ false → HasHtmlRoot w → LeavesReady w (adopt_within n choices name w)
within_ready zero choices name w other ready = leaves_refl w ready
within_ready (suc n) choices name w other ready = round_ready (adopt_within n choices name) (λ v r. within_ready n choices name v other r) choices name w other ready

-- The agency.

open_popped : (name : List ℕ) → is_same_text name (codes "html") ≡ false → (ns : List QualName) → first_passes (is_html_named name) ns ≡ true → IsRootOpen ns → IsRootOpen (later_names ns)
open_popped name other [] h k = k
open_popped name other (n ∷ ns) h k = open_pop n ns (not_html name other n h) k

pub agency_leaves : (choices : SinkChoices) (name : List ℕ) (w : World) → is_same_text name (codes "html") ≡ false → HasHtmlRoot w → LeavesReady w (adoption_agency choices name w)
unfolding adoption_agency
agency_leaves choices name w other ready = at (first_passes (is_html_named name) (names_of w)) refl (not (is_in (current w) (nodes_of w.formatting)))
  where
    at : (b : Bool) → first_passes (is_html_named name) (names_of w) ≡ b → (c : Bool) → LeavesReady w (cond (b && c) (pop choices w) (adopt_within 8 choices name w))
    at true e true = pop_ready choices w ready (open_popped name other (names_of w) e ready.root)
    at true e false = within_ready 8 choices name w other ready
    at false e c = within_ready 8 choices name w other ready

-- the adoption agency for a name that isn't `html`
pub agency_ready : (choices : SinkChoices) (name : List ℕ) (w : World) → is_same_text name (codes "html") ≡ false → HasHtmlRoot w → HasHtmlRoot (adoption_agency choices name w)
agency_ready choices name w other ready = (agency_leaves choices name w other ready).ready

-- an `a` that is listed is closed
pub misnested_a_leaves : (choices : SinkChoices) (w : World) → HasHtmlRoot w → LeavesReady w (handle_misnested_a_tags choices w)
unfolding handle_misnested_a_tags
misnested_a_leaves choices w ready = at (newest_named (codes "a") w.formatting) refl
  where
    v : World
    v = adoption_agency choices (codes "a") w

    one : LeavesReady w v
    one = agency_leaves choices (codes "a") w refl ready

    at : (o : Option FormattingElement) → newest_named (codes "a") w.formatting ≡ o → LeavesReady w (close_misnested_a choices o w)
    at None e = leaves_refl w ready
    at (Some f) e =
        let kind = newest_of_tag (codes "a") w e ready.sound in
        let kept : name_in v.forest f.node ≡ name_in w.forest f.node = ap name_of_found (one.kinds f.node (node_of_kind w.forest f.node (ElementNode (html_name f.tag.name)) kind)) in
        let plain = plain_not_html (name_in w.forest f.node) (newest_is_plain (codes "a") w e ready.sound) in
        leaves_trans w v (unlist_and_remove choices f.node v) one (removed_ready choices f.node v one.ready (ap (is_html_named (codes "html")) kept ∙ plain))

-- a `nobr` in scope is closed: where all that is listed after the last marker was open, it still is
pub misnested_nobr_open : (choices : SinkChoices) (w : World) → HasHtmlRoot w → AllListedOpen w → AllListedOpen (handle_misnested_nobr_tags choices w)
unfolding handle_misnested_nobr_tags
misnested_nobr_open choices w ready all =
    elim (in_scope (is_html_named (codes "nobr")) is_default_scope (names_of w)) as (λ b. AllListedOpen (cond b (reconstruct_active_formatting_elements choices (adoption_agency choices (codes "nobr") w)) w)) [
      | true ↦ reconstruct_opens choices (adoption_agency choices (codes "nobr") w) (agency_ready choices (codes "nobr") w refl ready).lists
      | false ↦ all
    ]

-- What a round of the adoption agency finds, and what rounds leave.
use Rattle.std.proofs.Common.{◌<◌, ◌≢◌, arith, ◌≡◌, ℕ, suc, Bool, true, false, cond, not, List, [], ◌∷◌, length, map, codes, Option, Some, None, is_some, Result, Ok, Err, IfOk, inl, refl, ap, sym, subst, ◌∙◌}
use Rattle.std.specs.List.{list_any}
use Rattle.h5_interface.specs.SinkChoices.{SinkChoices}
use Rattle.h5_tables.specs.TagSets.{is_default_scope, is_special, is_html_named}
use Rattle.h5_builder_spec.specs.formatting.Adoption.{FormattingElement, FurthestBlock, furthest_block, newer_than, newest_named}
use Rattle.h5_builder_spec.specs.formatting.FormattingList.{ElementEntry, nodes_of, without_entry}
use Rattle.h5_builder_spec.specs.stack.Order.{Before, is_in, last_or}
use Rattle.h5_builder_spec.proofs.entries.EntryLaws.{nodes_of-append}
use Rattle.h5_builder_spec.proofs.entries.PairLaws.{distinct_apart}
use Rattle.h5_names.specs.AttributeText.{is_same_text}
use Rattle.h5_builder_spec.specs.formatting.AdoptionAgency.{adopt_at, adopt_by, adopt_within, adoption_agency, KeepsKinds}
use Rattle.h5_names.specs.declared.qualified.QualName.{QualName}
use Rattle.h5_interface.specs.Forest.{ElementNode, IsElement}
use Rattle.h5_interface.proofs.ForestLaws.{node_of_kind}
use Rattle.h5_builder_spec.specs.stack.Root.{IsRootOpen}
use Rattle.h5_builder_spec.specs.formatting.FormattingNames.{html_name}
use Rattle.h5_builder_spec.specs.Sound.{Sound}
use Rattle.h5_builder_spec.specs.World.{name_of_found, names_of, root, World, name_in}
use Rattle.h5_builder_spec.proofs.adoption.AdoptionAgencyLaws.{LeavesReady, agency_leaves, leaves_refl, round_ready}
use Rattle.h5_builder_spec.proofs.adoption.AdoptionPlace.{newest_is_plain, newest_of_tag, plain_not_html}
use Rattle.h5_builder_spec.specs.inner.Kept.{HasHtmlRoot}
use Rattle.h5_builder_state.specs.OpenPlaces.{IsOpenAt}
use Rattle.h5_builder_actions.specs.FormattingPlaces.{IsBlockAt, IsEntryAt, IsListedAt}
use Rattle.h5_builder_actions.specs.Rounds.{IsElementEntry, IsFound, IsRound, adopt_open, then_again}

module _ {name : List ℕ} {f : FormattingElement} {at : ℕ} (w : World) (found : IsFound name f at w) where
  pub found_entry : IsEntryAt f.node at w
  found_entry = record {
    tag = f.tag;
    newer = found.newer;
    older = found.older;
    cut = found.cut;
    first = λ i. distinct_apart f.node (nodes_of found.newer) (f.node ∷ nodes_of found.older)
        (λ x h. found.ready.lists.agrees.once x (subst (λ s. Before s x x) (sym (ap nodes_of found.cut ∙ nodes_of-append found.newer (ElementEntry f.node f.tag ∷ found.older))) h)) i (inl refl);
    here = found.listed_at;
  }

  -- the round that is made where it is open and in scope, and has a furthest block
  pub found_round : (place block : ℕ) (o : IsOpenAt f.node place w) (b : IsBlockAt f.node place block w) → list_any (λ n. is_default_scope (name_in w.forest n)) (newer_than f.node w.stack) ≡ false → IsRound name f b.furthest place at block w
  found_round place block o b in_scope = record {
    may = record { newest = found.newest; is_open = o.is_open; in_scope = in_scope; block = b.found };
    ready = found.ready;
    open_at = o.here;
    newer = found.newer;
    older = found.older;
    cut = found.cut;
    listed_at = found.listed_at;
    block_at = b.here;
  }

-- the same entry, where the stack changed
pub entry_still : (n at : ℕ) (w : World) (s : List ℕ) → IsEntryAt n at w → IsEntryAt n at (record w { stack = s })
entry_still n at w s k = record { tag = k.tag; newer = k.newer; older = k.older; cut = k.cut; first = k.first; here = k.here }

pub in_scope_at : (again : World → World) (choices : SinkChoices) (f : FormattingElement) (o : Option FurthestBlock) (w : World) → list_any (λ n. is_default_scope (name_in w.forest n)) (newer_than f.node w.stack) ≡ false
    → furthest_block (λ n. is_special (name_in w.forest n)) (newer_than f.node w.stack) ≡ o → adopt_open again choices f w ≡ adopt_at again choices f o w
in_scope_at again choices f o w h e =
    ap (λ b. cond b w (adopt_at again choices f (furthest_block (λ n. is_special (name_in w.forest n)) (newer_than f.node w.stack)) w)) h ∙ ap (λ k. adopt_at again choices f k w) e

pub is_open_round : (again : World → World) (choices : SinkChoices) (name : List ℕ) (f : FormattingElement) (w : World) → is_in f.node w.stack ≡ true → adopt_by again choices name (Some f) w ≡ adopt_open again choices f w
is_open_round again choices name f w h = ap (λ b. cond (not b) (record w { formatting = without_entry f.node w.formatting }) (adopt_open again choices f w)) h

pub is_closed_round : (again : World → World) (choices : SinkChoices) (name : List ℕ) (f : FormattingElement) (w : World) → is_in f.node w.stack ≡ false → adopt_by again choices name (Some f) w ≡ record w { formatting = without_entry f.node w.formatting }
is_closed_round again choices name f w h = ap (λ b. cond (not b) (record w { formatting = without_entry f.node w.formatting }) (adopt_open again choices f w)) h

-- the statement about a round for an element that is open
pub open_told : {E : Type 0} (r : Result Bool E) (choices : SinkChoices) (n at place : ℕ) (w new : World) → is_in n w.stack ≡ true → IsOpenAt n place w
    → IfOk r (λ more. (name : List ℕ) (f : FormattingElement) → IsFound name f at w → IsOpenAt f.node place w → (again : World → World) → adopt_open again choices f w ≡ then_again more again new)
    → IfOk r (λ more. (name : List ℕ) (f : FormattingElement) → IsFound name f at w → f.node ≡ n → (again : World → World) → adopt_by again choices name (Some f) w ≡ then_again more again new)
open_told (Err x) choices n at place w new h o told = tt
open_told (Ok more) choices n at place w new h o told = λ name f found same again.
    is_open_round again choices name f w (ap (λ m. is_in m w.stack) same ∙ h) ∙ told name f found (subst (λ m. IsOpenAt m place w) (sym same) o) again

-- and for the element that is found
pub found_told : {E : Type 0} (r : Result Bool E) (choices : SinkChoices) (name : List ℕ) (f : FormattingElement) (at n : ℕ) (w new : World) → IsFound name f at w → f.node ≡ n
    → IfOk r (λ more. (name : List ℕ) (f : FormattingElement) → IsFound name f at w → f.node ≡ n → (again : World → World) → adopt_by again choices name (Some f) w ≡ then_again more again new)
    → IfOk r (λ more. (again : World → World) → adopt_by again choices name (newest_named name w.formatting) w ≡ then_again more again new)
found_told (Err x) choices name f at n w new found same told = tt
found_told (Ok more) choices name f at n w new found same told = λ again.
    ap (λ o. adopt_by again choices name o w) found.newest ∙ told name f found same again

-- the formatting element of a name at the place where it is listed
pub found_at : (name : List ℕ) (at : ℕ) (w : World) → HasHtmlRoot w → (l : IsListedAt name at w) → IsFound name l.element at w
found_at name at w ready l = record { newest = l.newest; ready = ready; newer = l.newer; older = l.older; cut = l.cut; listed_at = l.here }

pub listed_element : (name : List ℕ) (at : ℕ) (w : World) → IsListedAt name at w → IsElementEntry at w
listed_element name at w l = record { node = l.element.node; tag = l.element.tag; newer = l.newer; older = l.older; cut = l.cut; here = l.here }

pub none_named : (o : Option FormattingElement) → false ≡ is_some o → o ≡ None
none_named None e = refl
none_named (Some f) e = absurd (cc)

-- if no round follows, and if one does
pub stops : (more : Bool) (again : World → World) (v : World) → more ≡ false → then_again more again v ≡ v
stops true again v h = absurd (cc)
stops false again v h = refl

pub goes_on : (more : Bool) (again : World → World) (v : World) → more ≡ true → then_again more again v ≡ again v
goes_on true again v h = refl
goes_on false again v h = absurd (cc)

same_again : (more : Bool) (v : World) → then_again more (λ u. u) v ≡ v
same_again true v = refl
same_again false v = refl

-- after a round all is ready
pub round_leaves_ready : (choices : SinkChoices) (name : List ℕ) (w v : World) (more : Bool) → is_same_text name (codes "html") ≡ false → HasHtmlRoot w
    → ((again : World → World) → adopt_by again choices name (newest_named name w.formatting) w ≡ then_again more again v) → HasHtmlRoot v
round_leaves_ready choices name w v more other ready told =
    subst HasHtmlRoot (told (λ u. u) ∙ same_again more v) (round_ready (λ u. u) (λ u k. leaves_refl u k) choices name w other ready).ready

-- one round more
pub within_more : (choices : SinkChoices) (name : List ℕ) (n m : ℕ) (w v : World) (more : Bool) → suc m ≡ n → more ≡ true
    → ((again : World → World) → adopt_by again choices name (newest_named name w.formatting) w ≡ then_again more again v) → adopt_within m choices name v ≡ adopt_within n choices name w
within_more choices name n m w v more e h told =
    sym (goes_on more (adopt_within m choices name) v h) ∙ sym (told (adopt_within m choices name)) ∙ ap (λ k. adopt_within k choices name w) e

pub within_last : (choices : SinkChoices) (name : List ℕ) (n m : ℕ) (w v : World) (more : Bool) → suc m ≡ n → more ≡ false
    → ((again : World → World) → adopt_by again choices name (newest_named name w.formatting) w ≡ then_again more again v) → v ≡ adopt_within n choices name w
within_last choices name n m w v more e h told =
    sym (stops more (adopt_within m choices name) v h) ∙ sym (told (adopt_within m choices name)) ∙ ap (λ k. adopt_within k choices name w) e

-- in the body an element is open, and the root is an `html`
pub some_open : (w : World) → IsRootOpen (names_of w) → 0 < length w.stack
unfolding names_of
some_open w h = at w.stack h
  where
    at : (s : List ℕ) → IsRootOpen (map (name_in w.forest) s) → 0 < length s
    at [] k = absurd k
    at (n ∷ s) k = omega arith

root_named : (named : ℕ → QualName) (d : ℕ) (s : List ℕ) → IsRootOpen (map named s) → is_html_named (codes "html") (named (last_or d s)) ≡ true
root_named named d [] h = absurd h
root_named named d (n ∷ []) h = h
root_named named d (n ∷ m ∷ s) h = root_named named n (m ∷ s) h

pub root_is_html : (w : World) → IsRootOpen (names_of w) → is_html_named (codes "html") (name_in w.forest (root w)) ≡ true
unfolding names_of
root_is_html w h = root_named (name_in w.forest) w.forest.document w.stack h

-- so a formatting element isn't the root, nor does it become it
pub never_root : (name : List ℕ) (f : FormattingElement) (w v : World) → newest_named name w.formatting ≡ Some f → Sound w → KeepsKinds w.forest v.forest → IsRootOpen (names_of v) → f.node ≢ root v
never_root name f w v newest sound kinds open_root e =
    let there = node_of_kind w.forest f.node (ElementNode (html_name f.tag.name)) (newest_of_tag name w newest sound) in
    let same : name_in v.forest f.node ≡ name_in w.forest f.node = ap name_of_found (kinds f.node there) in
    let html : is_html_named (codes "html") (name_in v.forest f.node) ≡ true = ap (λ n. is_html_named (codes "html") (name_in v.forest n)) e ∙ root_is_html v open_root in
    let other : is_html_named (codes "html") (name_in v.forest f.node) ≡ false = ap (is_html_named (codes "html")) same ∙ plain_not_html (name_in w.forest f.node) (newest_is_plain name w newest sound) in
    let absurdity : true ≡ false = sym html ∙ other in
    cc

pub never_root_after : (choices : SinkChoices) (name : List ℕ) (f : FormattingElement) (n : ℕ) (w u : World) → newest_named name w.formatting ≡ Some f → is_same_text name (codes "html") ≡ false → HasHtmlRoot w
    → u ≡ adoption_agency choices name w → n ≡ f.node → n ≢ root u
never_root_after choices name f n w u newest other ready after same e =
    let leaves = subst (LeavesReady w) (sym after) (agency_leaves choices name w other ready) in
    never_root name f w u newest ready.sound leaves.kinds leaves.ready.root (sym same ∙ e)

-- the formatting element that is listed is an element
pub found_is_element : {name : List ℕ} {f : FormattingElement} {at : ℕ} (n : ℕ) (w : World) → IsFound name f at w → f.node ≡ n → IsElement w.forest n
found_is_element {name} {f} n w found same = subst (IsElement w.forest) same (html_name f.tag.name, newest_of_tag name w found.newest found.ready.sound)

-- and it stays one
pub still_element : (choices : SinkChoices) (name : List ℕ) (f : FormattingElement) (n : ℕ) (w u : World) → newest_named name w.formatting ≡ Some f → is_same_text name (codes "html") ≡ false → HasHtmlRoot w
    → u ≡ adoption_agency choices name w → n ≡ f.node → IsElement u.forest n
still_element choices name f n w u newest other ready after same =
    let leaves = subst (LeavesReady w) (sym after) (agency_leaves choices name w other ready) in
    let kind = newest_of_tag name w newest ready.sound in
    let there = node_of_kind w.forest f.node (ElementNode (html_name f.tag.name)) kind in
    subst (IsElement u.forest) (sym same) (html_name f.tag.name, leaves.kinds f.node there ∙ kind)

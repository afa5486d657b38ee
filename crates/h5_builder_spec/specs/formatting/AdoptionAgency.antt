-- The adoption agency in a world, and the rules that call it (HTML standard, section 13.2.6.4.7, "adoption agency
-- algorithm").
use Rattle.std.specs.Prelude.{◌≡◌, ◌≢◌, ◌⊎◌, ℕ, zero, suc, ◌==◌, Bool, false, not, ◌&&◌, ◌||◌, is_some, if◌then◌else◌, List, [], ◌∷◌, codes, Option, Some, None}
use Rattle.std.specs.List.{list_any}
use Rattle.h5_token.specs.TokenText.{TagText}
use Rattle.h5_interface.specs.Ancestors.{AtOrAbove}
use Rattle.h5_interface.specs.Changes.{detach, mark, reparent}
use Rattle.h5_interface.specs.Forest.{ChildNode, DocumentNode, Forest, FragmentNode, IsNode, kind_of, parent_of}
use Rattle.h5_interface.specs.NewElement.{flags_of}
use Rattle.h5_interface.specs.Seen.{make_element, with_last_child}
use Rattle.h5_interface.specs.SinkChoices.{SinkChoices}
use Rattle.h5_tables.specs.TagSets.{is_default_scope, is_html_named, is_special}
use Rattle.h5_builder_spec.specs.formatting.Adoption.{FormattingElement, FurthestBlock, adopted_at, furthest_block, newer_than, newest_named, older_than, to_clone, without_node}
use Rattle.h5_builder_spec.specs.formatting.FormattingList.{Entry, ElementEntry, MarkerEntry, nodes_of, without_entry}
use Rattle.h5_builder_spec.specs.formatting.FormattingNames.{html_name}
use Rattle.h5_builder_spec.specs.stack.Order.{Before, IsIn, first_or, is_in}
use Rattle.h5_builder_spec.specs.stack.Scope.{first_passes, in_scope}
use Rattle.h5_builder_spec.specs.Changes.{pop, with_forest}
use Rattle.h5_builder_spec.specs.stack.Closing.{close_named}
use Rattle.h5_builder_spec.specs.formatting.Formatting.{reconstruct_active_formatting_elements}
use Rattle.h5_builder_spec.specs.insertion.Place.{appropriate_place, put}
use Rattle.h5_builder_spec.specs.World.{World, current, name_in, names_of, root}

-- a new element for a tag, without a parent
abbrev pub make_for : SinkChoices → TagText → Forest → Forest
make_for choices tag f = make_element choices (html_name tag.name) tag.attrs (flags_of (html_name tag.name) tag.attrs tag.had_duplicate_attributes) f

-- the tag of an element that is listed
abbrev pub tag_in : List Entry → ℕ → Option TagText
tag_in [] n = None
tag_in (MarkerEntry ∷ l) n = tag_in l n
tag_in (ElementEntry m t ∷ l) n = if m == n then Some t else tag_in l n

-- a clone of an element that was created for this tag, put around a node
abbrev pub wrapped : SinkChoices → Option TagText → ℕ → Forest → Forest
wrapped choices None last f = f
wrapped choices (Some tag) last f = with_last_child (choices.fresh f) (ChildNode last) (detach last (make_for choices tag f))

-- clones of some elements around a node, that of the first one innermost: the forest, the clones, and the outermost one
pub record Nest : Type 0 where
  pub forest : Forest
  pub clones : List ℕ
  pub outermost : ℕ

abbrev pub nest : SinkChoices → List Entry → List ℕ → ℕ → Forest → Nest
nest choices l [] last f = record { forest = f; clones = []; outermost = last }
nest choices l (n ∷ ns) last f =
    let outer = nest choices l ns (choices.fresh f) (wrapped choices (tag_in l n) last f) in
    record { forest = outer.forest; clones = choices.fresh f ∷ outer.clones; outermost = outer.outermost }

-- the common ancestor: the element that is next older than the formatting element, into which the furthest block goes
abbrev pub common_ancestor : FormattingElement → World → ℕ
common_ancestor f w = first_or (root w) (older_than f.node w.stack)

-- the furthest block with the clones around it, at the place of insertion in the common ancestor
abbrev pub placed : FormattingElement → Nest → World → Forest
placed f n w =
    put (appropriate_place (with_forest n.forest w) (common_ancestor f w)) (ChildNode n.outermost) (detach n.outermost n.forest)

-- the block's children move into a clone of the formatting element, which becomes the block's child; and the sink is
-- notified that the formatting element is popped
abbrev pub refilled : SinkChoices → FormattingElement → (block : ℕ) → Forest → Forest
refilled choices f block g =
    let c = choices.fresh g in
    let filled = with_last_child block (ChildNode c) (reparent block c (make_for choices f.tag g)) in
    mark (choices.marks_after_pop filled f.node) filled

-- a round with a furthest block
abbrev pub adopt : SinkChoices → FormattingElement → FurthestBlock → World → World
adopt choices f k w =
    let n = nest choices w.formatting (to_clone w.formatting k.between) k.block w.forest in
    let g = placed f n w in
    let after = adopted_at f n.clones (choices.fresh g) (Some k) (older_than f.node w.stack) w.formatting in
    record w { forest = refilled choices f k.block g; stack = after.stack; formatting = after.formatting }

-- the effect without a furthest block: the elements up to and including the formatting element are popped, and its
-- entry is removed
abbrev pub adopt_at : (World → World) → SinkChoices → FormattingElement → Option FurthestBlock → World → World
adopt_at again choices f None w = record w { stack = older_than f.node w.stack; formatting = without_entry f.node w.formatting }
adopt_at again choices f (Some k) w = again (adopt choices f k w)

-- a round. Without a formatting element it is "any other end tag"; if the formatting element isn't open, its entry is
-- removed; if it isn't in scope, nothing changes
abbrev pub adopt_by : (World → World) → SinkChoices → List ℕ → Option FormattingElement → World → World
adopt_by again choices name None w = close_named choices name w
adopt_by again choices name (Some f) w =
    let newer = newer_than f.node w.stack in
    if not (is_in f.node w.stack) then record w { formatting = without_entry f.node w.formatting }
    else (if list_any (λ n. is_default_scope (name_in w.forest n)) newer then w
    else adopt_at again choices f (furthest_block (λ n. is_special (name_in w.forest n)) newer) w)

-- at most n rounds
abbrev pub adopt_within : ℕ → SinkChoices → List ℕ → World → World
adopt_within zero choices name w = w
adopt_within (suc n) choices name w = adopt_by (adopt_within n choices name) choices name (newest_named name w.formatting) w

-- the current node has the name and isn't listed
abbrev pub is_current_unlisted : List ℕ → World → Bool
is_current_unlisted name w = first_passes (is_html_named name) (names_of w) && not (is_in (current w) (nodes_of w.formatting))

-- if so, it is popped; otherwise there are at most eight rounds
unfoldable pub adoption_agency : SinkChoices → List ℕ → World → World
adoption_agency choices name w = if is_current_unlisted name w then pop choices w else adopt_within 8 choices name w

-- the node is the formatting element; if it is the current node, closing it isn't a parse error
abbrev pub is_formatting_element : ℕ → Option FormattingElement → Bool
is_formatting_element n None = false
is_formatting_element n (Some f) = n == f.node

abbrev pub closes_current : List ℕ → World → Bool
closes_current name w = is_formatting_element (current w) (newest_named name w.formatting)

-- only the current node is closed
abbrev pub closes_one : List ℕ → World → Bool
closes_one name w = is_current_unlisted name w || closes_current name w

-- a formatting element of this name is listed after the last marker
abbrev pub is_named_listed : List ℕ → World → Bool
is_named_listed name w = is_some (newest_named name w.formatting)

-- an element is removed from the stack, and the sink is notified, if it is open
unfoldable pub remove_from_stack : SinkChoices → ℕ → World → World
remove_from_stack choices n w =
    if is_in n w.stack then record w { forest = mark (choices.marks_after_pop w.forest n) w.forest; stack = without_node n w.stack } else w

-- an element is removed from the list and from the stack
abbrev pub unlist_and_remove : SinkChoices → ℕ → World → World
unlist_and_remove choices n w = remove_from_stack choices n (record w { formatting = without_entry n w.formatting })

-- if an `a` is listed after the last marker: the adoption agency runs for `a`, and then the element is removed from
-- list and stack
abbrev pub close_misnested_a : SinkChoices → Option FormattingElement → World → World
close_misnested_a choices None w = w
close_misnested_a choices (Some f) w = unlist_and_remove choices f.node (adoption_agency choices (codes "a") w)

unfoldable pub handle_misnested_a_tags : SinkChoices → World → World
handle_misnested_a_tags choices w = close_misnested_a choices (newest_named (codes "a") w.formatting) w

-- if a `nobr` is in scope: the adoption agency runs for it, and active formatting elements are reconstructed again
unfoldable pub handle_misnested_nobr_tags : SinkChoices → World → World
handle_misnested_nobr_tags choices w =
    if in_scope (is_html_named (codes "nobr")) is_default_scope (names_of w)
    then reconstruct_active_formatting_elements choices (adoption_agency choices (codes "nobr") w) else w

-- the premises of a round with a furthest block: the formatting element is the newest one of the name after the last
-- marker, it is open and in scope, and this is its furthest block
pub record MayAdopt (name : List ℕ) (f : FormattingElement) (k : FurthestBlock) (w : World) : Type 0 where
  pub newest : newest_named name w.formatting ≡ Some f
  pub is_open : IsIn f.node w.stack
  pub in_scope : list_any (λ n. is_default_scope (name_in w.forest n)) (newer_than f.node w.stack) ≡ false
  pub block : furthest_block (λ n. is_special (name_in w.forest n)) (newer_than f.node w.stack) ≡ Some k

-- nodes of the old forest keep their kinds
abbrev pub KeepsKinds : Forest → Forest → Type 0
KeepsKinds f g = (n : ℕ) → IsNode f n → kind_of g n ≡ kind_of f n

-- in the middle of a round: the furthest block, or the outermost of the clones around it, may be moved; of the open
-- elements only the block and newer ones are it or below it
pub record IsLoose (g : Forest) (s : List ℕ) (block last : ℕ) : Type 0 where
  pub is_node : IsNode g last
  pub no_document : kind_of g last ≢ Some DocumentNode
  pub no_fragment : kind_of g last ≢ Some FragmentNode
  pub below : (y : ℕ) → IsIn y s → AtOrAbove (parent_of g) last y → (y ≡ block) ⊎ Before s y block

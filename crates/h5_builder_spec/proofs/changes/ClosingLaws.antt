-- Closing elements (HTML standard, sections 13.2.6.3 and 13.2.6.4.7): which names are left, and that the root stays.
use Rattle.std.proofs.Common.{◌≡◌, ℕ, Bool, true, false, cond, ◌&&◌, ◌||◌, List, [], ◌∷◌, codes, refl, ap, sym, ◌∙◌}
use Rattle.std.specs.List.{list_any}
use Rattle.std.proofs.lemmas.Slice.Eq.{bytes_eq-Decides}
use Rattle.h5_names.specs.AttributeText.{is_same_text}
use Rattle.h5_names.specs.declared.qualified.QualName.{QualName}
use Rattle.h5_interface.specs.Changes.{mark}
use Rattle.h5_interface.specs.SinkChoices.{SinkChoices}
use Rattle.h5_interface.proofs.MakingLaws.{mark_rearranges}
use Rattle.h5_tables.specs.TagSets.{block_end_names, heading_names, html_namespace, implied_names, is_button_scope, is_heading, is_html_named, is_implied, is_one_of, is_thorough_implied, thorough_implied_names}
use Rattle.h5_builder_spec.specs.formatting.FormattingNames.{html_name}
use Rattle.h5_builder_spec.specs.stack.Order.{but_first}
use Rattle.h5_builder_spec.specs.stack.Scope.{cut_names, drop_while, first_passes, in_scope, is_implied_but, later_names}
use Rattle.h5_builder_spec.proofs.BoolLaws.{and_both, or_neither}
use Rattle.h5_builder_spec.proofs.roles.RoleLaws.{made_named}
use Rattle.h5_builder_spec.proofs.roles.SetLaws.{in_set}
use Rattle.h5_builder_spec.specs.Changes.{generate_implied_end_except, pop, pop_while}
use Rattle.h5_builder_spec.specs.stack.Closing.{close_p_element, generate_implied_end_tags, generate_implied_end_thoroughly, pop_heading, pop_until_heading}
use Rattle.h5_builder_spec.specs.Sound.{Sound}
use Rattle.h5_builder_spec.specs.World.{World, current, names_of}
use Rattle.h5_builder_spec.proofs.changes.NameLaws.{cut_map, names-cut, names-implied, names_while}
use Rattle.h5_builder_spec.proofs.changes.PopLaws.{names-pop}
use Rattle.h5_builder_spec.proofs.changes.SoundLaws.{all_but_first, all_rearranged}

-- lists of names with none in common
names_apart : (set other : List (List ℕ)) (l : List ℕ) → list_any (is_one_of other) set ≡ false → is_one_of set l ≡ true → is_one_of other l ≡ false
names_apart [] other l h e = absurd (cc)
names_apart (s ∷ set) other l h e =
    let both = or_neither (is_one_of other s) (list_any (is_one_of other) set) h in
    at both.0 (is_same_text s l) refl e (names_apart set other l both.1)
  where
    at : is_one_of other s ≡ false → (b : Bool) → is_same_text s l ≡ b → (b || is_one_of set l) ≡ true → (is_one_of set l ≡ true → is_one_of other l ≡ false) → is_one_of other l ≡ false
    at none true k o f = ap (is_one_of other) (sym ((bytes_eq-Decides s l).0 k)) ∙ none
    at none false k o f = f o

-- so an element of one of them is none of the other
pub sets_apart : (set other : List (List ℕ)) (n : QualName) → list_any (is_one_of other) set ≡ false → (is_same_text n.ns html_namespace && is_one_of other n.local) ≡ true → (is_same_text n.ns html_namespace && is_one_of set n.local) ≡ false
sets_apart set other n h e = at (is_same_text n.ns html_namespace) (is_one_of set n.local) refl
  where
    at : (a b : Bool) → is_one_of set n.local ≡ b → (a && b) ≡ false
    at true true k = absurd (let out = names_apart set other n.local h k in let inside = (and_both (is_same_text n.ns html_namespace) (is_one_of other n.local) e).1 in cc)
    at true false k = refl
    at false b k = refl

-- no heading, and no block that an end tag closes, has an implied end tag
pub heading_not_implied : (n : QualName) → is_implied n ≡ true → is_heading n ≡ false
unfolding is_implied is_heading implied_names heading_names
heading_not_implied n h = sets_apart heading_names implied_names n refl h

pub named_not_implied : (set : List (List ℕ)) (local : List ℕ) (n : QualName) → list_any (is_one_of implied_names) set ≡ false → is_one_of set local ≡ true → is_implied n ≡ true → is_html_named local n ≡ false
unfolding is_implied
named_not_implied set local n none is_in h = at (is_html_named local n) refl
  where
    at : (b : Bool) → is_html_named local n ≡ b → b ≡ false
    at false e = refl
    at true e = absurd (let out = sets_apart set implied_names n none h in let inside = in_set set local n is_in e in cc)

pub block_not_implied : (local : List ℕ) → is_one_of block_end_names local ≡ true → (n : QualName) → is_implied n ≡ true → is_html_named local n ≡ false
unfolding implied_names block_end_names
block_not_implied local is_block n h = named_not_implied block_end_names local n refl is_block h

-- neither a template nor the root has an implied end tag, however thoroughly they are generated
named_not_thorough : (local : List ℕ) (n : QualName) → list_any (is_one_of thorough_implied_names) (local ∷ []) ≡ false → is_thorough_implied n ≡ true → is_html_named local n ≡ false
unfolding is_thorough_implied
named_not_thorough local n none h = at (is_html_named local n) refl
  where
    at : (b : Bool) → is_html_named local n ≡ b → b ≡ false
    at false e = refl
    at true e =
        absurd (let out = sets_apart (local ∷ []) thorough_implied_names n none h in
        let inside = in_set (local ∷ []) local n (ap (λ b. b || false) ((bytes_eq-Decides local local).1 refl)) e in cc)

pub template_not_thorough : (n : QualName) → is_thorough_implied n ≡ true → is_html_named (codes "template") n ≡ false
unfolding thorough_implied_names implied_names
template_not_thorough n h = named_not_thorough (codes "template") n refl h

-- popped elements aren't among those that names are cut at, so cutting there has the same result
pub cut_dropped : (is popped : QualName → Bool) → ((n : QualName) → popped n ≡ true → is n ≡ false) → (ns : List QualName) → cut_names is (drop_while popped ns) ≡ cut_names is ns
cut_dropped is popped apart [] = refl
cut_dropped is popped apart (n ∷ ns) = at (popped n) refl (cut_dropped is popped apart ns)
  where
    at : (b : Bool) → popped n ≡ b → cut_names is (drop_while popped ns) ≡ cut_names is ns → cut_names is (cond b (drop_while popped ns) (n ∷ ns)) ≡ cut_names is (n ∷ ns)
    at true e later = later ∙ ap (λ b. cond b ns (cut_names is ns)) (sym (apart n e))
    at false e later = refl

-- names after closing
pub names-all_implied : (choices : SinkChoices) (w : World) → names_of (generate_implied_end_tags choices w) ≡ drop_while is_implied (names_of w)
unfolding generate_implied_end_tags
names-all_implied choices w = names_while choices is_implied (names_of w) w refl

pub names-thorough_implied : (choices : SinkChoices) (w : World) → names_of (generate_implied_end_thoroughly choices w) ≡ drop_while is_thorough_implied (names_of w)
unfolding generate_implied_end_thoroughly
names-thorough_implied choices w = names_while choices is_thorough_implied (names_of w) w refl

pub names-until_heading : (w : World) → names_of (pop_until_heading w) ≡ cut_names is_heading (names_of w)
unfolding names_of pop_until_heading
names-until_heading w = cut_map w.forest is_heading w.stack

pub names-close_p : (choices : SinkChoices) (w : World) → names_of (close_p_element choices w) ≡ cut_names (is_html_named (codes "p")) (drop_while (is_implied_but (codes "p")) (names_of w))
unfolding close_p_element
names-close_p choices w =
    names-cut (codes "p") (generate_implied_end_except choices (codes "p") w) ∙ ap (cut_names (is_html_named (codes "p"))) (names-implied choices (codes "p") w)

pub names-pop_heading : (choices : SinkChoices) (w : World) → names_of (pop_heading choices w) ≡ cond (first_passes is_heading (names_of w)) (later_names (names_of w)) (names_of w)
unfolding pop_heading
names-pop_heading choices w = at (first_passes is_heading (names_of w))
  where
    at : (b : Bool) → names_of (cond b (pop choices w) w) ≡ cond b (later_names (names_of w)) (names_of w)
    at true = names-pop choices w
    at false = refl

-- what is in scope stays there, where only others are popped
pub still_in_scope : (is stop popped : QualName → Bool) → ((n : QualName) → popped n ≡ true → is n ≡ false) → (ns : List QualName) → in_scope is stop ns ≡ true → in_scope is stop (drop_while popped ns) ≡ true
still_in_scope is stop popped apart [] h = h
still_in_scope is stop popped apart (n ∷ ns) h = at (popped n) refl (still_in_scope is stop popped apart ns)
  where
    past : (b s : Bool) → b ≡ false → cond b true (cond s false (in_scope is stop ns)) ≡ true → in_scope is stop ns ≡ true
    past true s e k = absurd (cc)
    past false true e k = absurd (cc)
    past false false e k = k

    at : (b : Bool) → popped n ≡ b → (in_scope is stop ns ≡ true → in_scope is stop (drop_while popped ns) ≡ true) → in_scope is stop (cond b (drop_while popped ns) (n ∷ ns)) ≡ true
    at false e f = h
    at true e f = f (past (is n) (stop n) (apart n e) h)

-- a `p` that was just made is in scope
pub new_p_in_scope : (ns : List QualName) → in_scope (is_html_named (codes "p")) is_button_scope (html_name (codes "p") ∷ ns) ≡ true
new_p_in_scope ns = ap (λ b. cond b true (cond (is_button_scope (html_name (codes "p"))) false (in_scope (is_html_named (codes "p")) is_button_scope ns))) (made_named (codes "p"))

-- what holds at every moment still holds
pub pop_sound : (choices : SinkChoices) (w : World) → Sound w → Sound (pop choices w)
unfolding pop
pop_sound choices w k =
    let less = all_but_first w.forest w.stack k in
    let marks = choices.marks_after_pop w.forest (current w) in
    all_rearranged w.forest (mark marks w.forest) (but_first w.stack) less (mark_rearranges w.forest marks less.stands.is_forest)

-- what each pop keeps, all keep
pub while_holds : (P : World → Type 0) (choices : SinkChoices) (popped : QualName → Bool) → ((v : World) → P v → P (pop choices v)) → (ns : List QualName) (w : World) → P w → P (pop_while choices popped ns w)
while_holds P choices popped one [] w k = k
while_holds P choices popped one (n ∷ ns) w k =
    elim (popped n) as (λ b. P (cond b (pop_while choices popped ns (pop choices w)) w)) [
      | true ↦ while_holds P choices popped one ns (pop choices w) (one w k)
      | false ↦ k
    ]

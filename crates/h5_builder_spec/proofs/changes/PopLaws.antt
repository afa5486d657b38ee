-- What popping and cutting leave.
use Rattle.std.proofs.Common.{◌≡◌, ◌<◌, ℕ, Bool, true, false, cond, List, [], ◌∷◌, length, map, Option, Some, None, refl, ap, sym, ◌∙◌, arith}
use Rattle.std.proofs.lemmas.List.{length-map}
use Rattle.h5_names.specs.declared.qualified.QualName.{QualName}
use Rattle.h5_interface.specs.Changes.{mark}
use Rattle.h5_interface.specs.Forest.{Forest, Marks, Node, kind_of}
use Rattle.h5_interface.specs.SinkChoices.{SinkChoices}
use Rattle.h5_tables.specs.TagSets.{is_implied}
use Rattle.h5_builder_spec.specs.Changes.{generate_implied_end_except, mark_started, pop, pop_while}
use Rattle.h5_builder_spec.specs.stack.Closing.{generate_implied_end_tags}
use Rattle.h5_builder_spec.specs.stack.Scope.{cut_above, cut_through, first_passes, is_implied_but, later_names}
use Rattle.h5_builder_spec.specs.Sound.{AllStand}
use Rattle.h5_builder_spec.specs.World.{World, current, name_in, name_of_found, names_of}
use Rattle.h5_builder_spec.specs.formatting.FormattingList.{Entry}
use Rattle.h5_builder_spec.specs.stack.Order.{but_first}
use Rattle.h5_builder_spec.proofs.changes.SoundLaws.{all_but_first}

-- as many names as open elements
pub names_length : (w : World) → length w.stack ≡ length (names_of w)
unfolding names_of
names_length w = sym (length-map w.stack (name_in w.forest))

-- marks change no names
marked_name : (marks : ℕ → Marks) (f : Forest) (n : ℕ) → name_in (mark marks f) n ≡ name_in f n
marked_name marks f n = ap name_of_found (at (f.node n) refl)
  where
    at : (o : Option Node) → f.node n ≡ o → kind_of (mark marks f) n ≡ kind_of f n
    at None e = rw e refl
    at (Some d) e = rw e refl

marked_names : (marks : ℕ → Marks) (f : Forest) (s : List ℕ) → map (name_in (mark marks f)) s ≡ map (name_in f) s
marked_names marks f [] = refl
marked_names marks f (n ∷ s) = ap (λ x. x ∷ map (name_in (mark marks f)) s) (marked_name marks f n) ∙ ap (λ xs. name_in f n ∷ xs) (marked_names marks f s)

pub names-pop : (choices : SinkChoices) (w : World) → names_of (pop choices w) ≡ later_names (names_of w)
unfolding names_of pop
names-pop choices w = at w.stack refl
  where
    at : (s : List ℕ) → w.stack ≡ s → map (name_in (mark (choices.marks_after_pop w.forest (current w)) w.forest)) (but_first s) ≡ later_names (map (name_in w.forest) s)
    at [] e = refl
    at (n ∷ s) e = marked_names (choices.marks_after_pop w.forest (current w)) w.forest s

pub names-mark_started : (choices : SinkChoices) (w : World) → names_of (mark_started choices w) ≡ names_of w
unfolding names_of mark_started
names-mark_started choices w = marked_names (choices.marks_after_started w.forest (current w)) w.forest w.stack

while_step : (choices : SinkChoices) (p : QualName → Bool) (ns : List QualName) (w : World) → first_passes p ns ≡ true → pop_while choices p ns w ≡ pop_while choices p (later_names ns) (pop choices w)
while_step choices p [] w h = absurd (cc)
while_step choices p (n ∷ ns) w h = ap (λ b. cond b (pop_while choices p ns (pop choices w)) w) h

pub while_none : (choices : SinkChoices) (p : QualName → Bool) (ns : List QualName) (w : World) → first_passes p ns ≡ false → pop_while choices p ns w ≡ w
while_none choices p [] w h = refl
while_none choices p (n ∷ ns) w h = ap (λ b. cond b (pop_while choices p ns (pop choices w)) w) h

-- one element more is popped
pub while_popped : (choices : SinkChoices) (p : QualName → Bool) (w : World) → first_passes p (names_of w) ≡ true → pop_while choices p (names_of (pop choices w)) (pop choices w) ≡ pop_while choices p (names_of w) w
while_popped choices p w h =
    ap (λ ns. pop_while choices p ns (pop choices w)) (names-pop choices w)
    ∙ sym (while_step choices p (names_of w) w h)

pub implied_none : (choices : SinkChoices) (local : List ℕ) (w : World) → first_passes (is_implied_but local) (names_of w) ≡ false → generate_implied_end_except choices local w ≡ w
unfolding generate_implied_end_except
implied_none choices local w h = while_none choices (is_implied_but local) (names_of w) w h

pub all_implied_none : (choices : SinkChoices) (w : World) → first_passes is_implied (names_of w) ≡ false → generate_implied_end_tags choices w ≡ w
unfolding generate_implied_end_tags
all_implied_none choices w h = while_none choices is_implied (names_of w) w h

pub first_is_open : (p : QualName → Bool) (w : World) → first_passes p (names_of w) ≡ true → 0 < length w.stack
unfolding names_of
first_is_open p w h = at w.stack h
  where
    at : (s : List ℕ) → first_passes p (map (name_in w.forest) s) ≡ true → 0 < length s
    at [] e = absurd (cc)
    at (n ∷ s) e = omega arith

pub pop_shorter : (choices : SinkChoices) (w : World) → 0 < length w.stack → length (pop choices w).stack < length w.stack
unfolding pop
pop_shorter choices w h = at w.stack h
  where
    at : (s : List ℕ) → 0 < length s → length (but_first s) < length s
    at [] k = absurd (omega arith)
    at (n ∷ s) k = omega arith

-- a stack that is cut
pub all_cut : {l : List Entry} {head form context : Option ℕ} (f : Forest) (is : QualName → Bool) (ns : List QualName) (s : List ℕ) → AllStand f s l head form context → AllStand f (cut_through is ns s) l head form context
all_cut f is [] s k = k
all_cut {l} {head} {form} {context} f is (n ∷ ns) s k =
    elim (is n) as (λ b. AllStand f (cond b (but_first s) (cut_through is ns (but_first s))) l head form context) [
      | true ↦ all_but_first f s k
      | false ↦ all_cut f is ns (but_first s) (all_but_first f s k)
    ]

-- down to an element
pub all_cut_above : {l : List Entry} {head form context : Option ℕ} (f : Forest) (is : QualName → Bool) (ns : List QualName) (s : List ℕ) → AllStand f s l head form context → AllStand f (cut_above is ns s) l head form context
all_cut_above f is [] s k = k
all_cut_above {l} {head} {form} {context} f is (n ∷ ns) s k =
    elim (is n) as (λ b. AllStand f (cond b s (cut_above is ns (but_first s))) l head form context) [
      | true ↦ k
      | false ↦ all_cut_above f is ns (but_first s) (all_but_first f s k)
    ]

pub pop_stack : (choices : SinkChoices) (w : World) → (pop choices w).stack ≡ but_first w.stack
unfolding pop
pop_stack choices w = refl

-- popped elements aren't among those that a stack is cut at, so cutting there has the same result
pub cut_popped : (choices : SinkChoices) (popped is : QualName → Bool) → ((n : QualName) → popped n ≡ true → is n ≡ false) → (ns : List QualName) (w : World) → names_of w ≡ ns
    → let v = pop_while choices popped ns w in cut_through is (names_of v) v.stack ≡ cut_through is ns w.stack
cut_popped choices popped is apart [] w e = ap (λ ns. cut_through is ns w.stack) e
cut_popped choices popped is apart (n ∷ ns) w e =
    at (popped n) refl (cut_popped choices popped is apart ns (pop choices w) (names-pop choices w ∙ ap later_names e) ∙ ap (cut_through is ns) (pop_stack choices w))
  where
    at : (b : Bool) → popped n ≡ b
        → (let v = pop_while choices popped ns (pop choices w) in cut_through is (names_of v) v.stack ≡ cut_through is ns (but_first w.stack))
        → let v = cond b (pop_while choices popped ns (pop choices w)) w in cut_through is (names_of v) v.stack ≡ cut_through is (n ∷ ns) w.stack
    at true h later = later ∙ ap (λ c. cond c (but_first w.stack) (cut_through is ns (but_first w.stack))) (sym (apart n h))
    at false h later = ap (λ ms. cut_through is ms w.stack) e

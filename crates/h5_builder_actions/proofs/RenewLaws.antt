-- New elements for entries, one by one, each at the place of its entry.
use Rattle.std.proofs.Common.{◌≡◌, ◌+◌, ◌<◌, ◌≤◌, ℕ, suc, Result, Ok, Err, OnOk, OnErr, List, [], ◌∷◌, ◌++◌, get_or, length, length-append, IsTrue, refl, ap, sym, subst, ◌∙◌, arith}
use Rattle.std.proofs.lemmas.List.{append-nil, append_assoc}
use Rattle.h5_token.specs.TokenText.{TagText, tag_text}
use Rattle.h5_token.specs.declared.tag.Tag.{Tag}
use Rattle.h5_interface.specs.SinkChoices.{SinkChoices}
use Rattle.h5_interface.specs.declared.sink.TreeSink.{Ghosts}
use Rattle.h5_tables.specs.TagSets.{formatting_names, is_one_of}
use Rattle.h5_builder_spec.specs.formatting.FormattingList.{ElementEntry, Entry, MarkerEntry, closed_front, made_anew, open_rest}
use Rattle.h5_builder_spec.specs.formatting.FormattingNames.{AllFormatting, AllOfTags, IsOfTag}
use Rattle.h5_builder_spec.specs.formatting.Places.{NoMarker}
use Rattle.h5_builder_spec.proofs.entries.ReconstructLaws.{front_split, rewinds_to}
use Rattle.h5_builder_spec.specs.Changes.{insert_element}
use Rattle.h5_builder_spec.specs.insertion.FormOwner.{form_owner}
use Rattle.h5_builder_spec.specs.formatting.Formatting.{insert_anew, insert_for, reconstruct_active_formatting_elements}
use Rattle.h5_builder_spec.specs.insertion.Place.{appropriate_place}
use Rattle.h5_builder_spec.specs.Sound.{Sound}
use Rattle.h5_builder_spec.specs.World.{World, current, names_of}
use Rattle.h5_builder_spec.proofs.changes.FormattingLaws.{all_listed, kind-insert_for, made_nodes, reconstruct_as_made, sound_insert_for}
use Rattle.h5_tables.specs.declared.entry.FormatEntry.{FormatEntry}
use Rattle.h5_tables.specs.declared.entry.FormatEntry.TheVariants.{Element}
use Rattle.h5_builder_state.specs.Listed.{IsHandedOver, entries_of, with_handle}
use Rattle.h5_builder_state.specs.Stamps.{AreStamped, IsAbove, IsStamped, stamps_of}
use Rattle.h5_builder_state.specs.Steps.{IsSound, world_of}
use Rattle.h5_builder_state.specs.Summaries.{IsKept}
use Rattle.h5_builder_state.specs.View.{listed_node, world}
use Rattle.h5_builder_state.specs.declared.open_element.Listed.{Listed}
use Rattle.h5_builder_state.specs.declared.state.State.{State}
use Rattle.h5_builder_state.proofs.StampLaws.{is_stamped}
use Rattle.h5_builder_actions.specs.EntryPlaces.{entry_at, entry_for, renewed, renewed_by, with_node_at}
use Rattle.h5_builder_actions.proofs.EntryStampLaws.{stamped_entry_set, stamped_handed}
use Rattle.h5_builder_actions.proofs.ListLaws.{each_entry_at, each_with_node, entry_alike, entry_at_cut, entry_handed, entry_known, entry_there, length_entries, with_node_at_cut}
use Rattle.h5_builder_spec.proofs.entries.WholeRoundLaws.{no_marker_back}

-- a world with another list
abbrev pub with_list : List Entry → World → World
with_list l w = record w { formatting = l }

pub sound_with_list : {S H O : Type 0} (law : Ghosts S H O) (sink : S) (old new : State H) (l : List Entry) → world_of law sink new ≡ with_list l (world_of law sink old) → new.open_elems ≡ old.open_elems
    → AllOfTags (world_of law sink old).forest l → AllFormatting l → AreStamped law.node old.open_elems new.active_formatting → IsSound law sink old → IsSound law sink new
unfolding names_of
sound_with_list law sink old new l e h listed formatting stamped k =
    let w = world_of law sink old in
    record {
      sound = subst Sound (sym e) (all_listed w.forest w.stack w.formatting l k.sound listed formatting);
      kept = subst (λ open_elems. IsKept open_elems (names_of (world_of law sink new))) (sym h) (subst (λ (v : World). IsKept old.open_elems (names_of v)) (sym e) k.kept);
      stamped = subst (λ open_elems. AreStamped law.node open_elems new.active_formatting) (sym h) stamped;
    }

-- the entry at a place becomes that of the same element
module _ {S H O : Type 0} (law : Ghosts S H O) (sink : S) (old : State H) (place : ℕ) (listed given : Listed H) (tag : Tag) (inside : place < length (world_of law sink old).formatting)
    (was : FormatEntry (Listed H)) (found : was ≡ get_or old.active_formatting place was) (is : was ≡ Element listed tag) (same : law.node given.handle ≡ law.node listed.handle)
    (entries : List (FormatEntry (Listed H))) (over : IsHandedOver given place old.active_formatting entries) where
  -- the list is seen as it was
  pub relisted_seen : entries_of (listed_node law.node) entries ≡ (world_of law sink old).formatting
  unfolding world
  relisted_seen =
      let seen = listed_node law.node in
      let items = old.active_formatting in
      let here : place < length items = omega (arith, inside, length_entries seen items) in
      let known = sym (entry_there seen items place over.entry here over.was) ∙ entry_known seen items place was (Element listed tag) inside found is in
      entry_alike seen items entries place over.entry (with_handle given over.entry) here over.was over.is
      (entry_handed seen given over.entry ∙ ap (entry_for (law.node given.handle)) known ∙ ap (λ m. ElementEntry m (tag_text tag)) same ∙ sym known)

  -- with the same stamp it is right
  pub relisted_stamped : given.stamp ≡ listed.stamp → AreStamped law.node old.open_elems old.active_formatting → AreStamped law.node old.open_elems entries
  unfolding world
  relisted_stamped stamp stamped =
      let opens = stamps_of law.node old.open_elems in
      let last = old.open_elems.last in
      let items = old.active_formatting in
      let here : place < length items = omega (arith, inside, length_entries (listed_node law.node) items) in
      let entry : IsStamped law.node opens last (Element listed tag) = subst (λ e. IsStamped law.node opens last e) (sym found ∙ is) (is_stamped law.node old.open_elems items place was here stamped) in
      let above = subst (λ n. IsAbove n given.stamp opens) (sym same) (subst (λ m. IsAbove (law.node listed.handle) m opens) (sym stamp) entry.1) in
      subst (AreStamped law.node old.open_elems) (sym over.is)
      (stamped_entry_set law.node old.open_elems items place (with_handle given over.entry) (stamped_handed law.node old.open_elems given over.entry (subst (λ m. m ≤ last) (sym stamp) entry.0) above) stamped)

-- the entry at a place gets a new element: the one that became the current node
abbrev pub with_current_at : ℕ → World → World
with_current_at i v = with_list (with_node_at i (current v) v.formatting) v

module _ (choices : SinkChoices) (t : TagText) (w : World) where
  abbrev open_more : World
  open_more = insert_for choices t w

  listed_with_current : (i n : ℕ) → entry_at i w.formatting ≡ ElementEntry n t → Sound w → AllOfTags open_more.forest (with_current_at i open_more).formatting
  unfolding insert_element
  listed_with_current i n e k =
      each_with_node (IsOfTag open_more.forest) i (choices.fresh w.forest) w.formatting
      (λ m u h. let same : ElementEntry n t ≡ ElementEntry m u = sym e ∙ h in let tag : t ≡ u = cc in subst (IsOfTag open_more.forest (choices.fresh w.forest)) tag (kind-insert_for choices t w k))
      (sound_insert_for choices t w k).listed

  formatting_with_current : (i : ℕ) → Sound w → AllFormatting (with_current_at i open_more).formatting
  unfolding insert_element
  formatting_with_current i k =
      each_with_node (λ n t. IsTrue (is_one_of formatting_names t.name)) i (choices.fresh w.forest) w.formatting
      (λ m u h. each_entry_at (λ n t. IsTrue (is_one_of formatting_names t.name)) i w.formatting m u k.formatting h)
      k.formatting

  -- a sink and a state that mean this are sound
  pub sound_with_current : {S H O : Type 0} (law : Ghosts S H O) (sink : S) (old new : State H) (i n : ℕ) → entry_at i w.formatting ≡ ElementEntry n t → Sound w → world_of law sink old ≡ open_more
      → world_of law sink new ≡ with_current_at i (world_of law sink old) → new.open_elems ≡ old.open_elems → AreStamped law.node old.open_elems new.active_formatting → IsSound law sink old → IsSound law sink new
  sound_with_current law sink old new i n e k was is kept stamped sound =
      sound_with_list law sink old new (with_current_at i (world_of law sink old)).formatting is kept
      (subst (λ (v : World). AllOfTags v.forest (with_current_at i v).formatting) (sym was) (listed_with_current i n e k))
      (subst (λ (v : World). AllFormatting (with_current_at i v).formatting) (sym was) (formatting_with_current i k))
      stamped sound

-- WHILE new elements are created, from the oldest entry on: `done` are the entries that have new elements, `todo` the
-- newer ones
abbrev pub partly : SinkChoices → List Entry → List Entry → World → World
partly choices todo done w = with_list (todo ++ (made_anew (made_nodes choices done w) done ++ open_rest w.stack w.formatting)) (insert_anew choices done w)

pub record IsPartly (choices : SinkChoices) (w : World) (i : ℕ) (v : World) : Type 0 where
  pub todo : List Entry
  pub done : List Entry
  pub front : closed_front w.stack w.formatting ≡ todo ++ done
  pub older : length (done ++ open_rest w.stack w.formatting) ≡ i
  pub is : v ≡ partly choices todo done w

-- nothing was made yet
pub partly_none : (choices : SinkChoices) (w : World) → IsPartly choices w (length (open_rest w.stack w.formatting)) w
partly_none choices w = record {
  todo = closed_front w.stack w.formatting;
  done = [];
  front = sym (append-nil (closed_front w.stack w.formatting));
  older = refl;
  is = ap (λ l. with_list l w) (front_split w.stack w.formatting);
}

-- all were made
no_more : (todo r : List Entry) → length r ≡ length (todo ++ r) → todo ≡ []
no_more [] r h = refl
no_more (e ∷ todo) r h = absurd (omega (arith, h, length-append todo r))

pub partly_all : (choices : SinkChoices) (w v : World) → IsPartly choices w (length w.formatting) v → v ≡ reconstruct_active_formatting_elements choices w
partly_all choices w v k =
    let rest = open_rest w.stack w.formatting in
    let list : w.formatting ≡ k.todo ++ (k.done ++ rest) = front_split w.stack w.formatting ∙ ap (λ l. l ++ rest) k.front ∙ append_assoc k.todo k.done rest in
    let none : k.todo ≡ [] = no_more k.todo (k.done ++ rest) (k.older ∙ ap length list) in
    let all : k.done ≡ closed_front w.stack w.formatting = sym (k.front ∙ ap (λ l. l ++ k.done) none) in
    k.is ∙ ap (λ l. partly choices l k.done w) none ∙ ap (λ l. partly choices [] l w) all ∙ sym (reconstruct_as_made choices w)

-- a list that isn't empty has an oldest entry
record Oldest (l : List Entry) : Type 0 where
  newer : List Entry
  entry : Entry
  cut : l ≡ newer ++ entry ∷ []

oldest : (e : Entry) (l : List Entry) → Oldest (e ∷ l)
oldest e [] = record { newer = []; entry = e; cut = refl }
oldest e (d ∷ l) = let o = oldest d l in record { newer = e ∷ o.newer; entry = o.entry; cut = ap (λ z. e ∷ z) o.cut }

-- as many are made as there are entries
anew_many : (choices : SinkChoices) (w : World) (l : List Entry) → NoMarker l → length (made_anew (made_nodes choices l w) l) ≡ length l
anew_many choices w [] h = refl
anew_many choices w (MarkerEntry ∷ l) h = elim h [ ]
anew_many choices w (ElementEntry n t ∷ l) h = ap suc (anew_many choices w l h)

-- one more
module _ (choices : SinkChoices) (w : World) (todo : List Entry) (n : ℕ) (t : TagText) (done : List Entry) (unmarked : NoMarker done) where
  abbrev rest : List Entry
  rest = open_rest w.stack w.formatting

  abbrev entry : Entry
  entry = ElementEntry n t

  abbrev older : List Entry
  older = made_anew (made_nodes choices done w) done ++ rest

  abbrev here : ℕ
  here = length (done ++ rest)

  abbrev before : World
  before = partly choices (todo ++ entry ∷ []) done w

  older_many : length older ≡ here
  older_many =
      let all = anew_many choices w done unmarked in
      let made = length-append (made_anew (made_nodes choices done w) done) rest in
      let both = length-append done rest in
      omega (arith, all, made, both)

  cut : before.formatting ≡ todo ++ entry ∷ older
  cut = append_assoc todo (entry ∷ []) older

  renewed_partly : renewed choices here before ≡ partly choices todo (entry ∷ done) w
  unfolding insert_element appropriate_place form_owner names_of
  renewed_partly =
      let m = choices.fresh (insert_anew choices done w).forest in
      ap (λ e. renewed_by choices here e before) (ap (entry_at here) cut ∙ entry_at_cut here todo entry older older_many)
      ∙ ap (λ l. with_list l (insert_for choices t (insert_anew choices done w))) (ap (with_node_at here m) cut ∙ with_node_at_cut here m todo entry older older_many)

pub partly_more : (choices : SinkChoices) (w v : World) (i : ℕ) → i < length w.formatting → IsPartly choices w i v → IsPartly choices w (i + 1) (renewed choices i v)
partly_more choices w v i h k = at k.todo refl
  where
    rest : List Entry
    rest = open_rest w.stack w.formatting

    whole : w.formatting ≡ k.todo ++ (k.done ++ open_rest w.stack w.formatting)
    whole = front_split w.stack w.formatting ∙ ap (λ l. l ++ open_rest w.stack w.formatting) k.front ∙ append_assoc k.todo k.done (open_rest w.stack w.formatting)

    step : (newer : List Entry) (e : Entry) → k.todo ≡ newer ++ e ∷ [] → NoMarker (e ∷ k.done) → IsPartly choices w (i + 1) (renewed choices i v)
    step newer MarkerEntry c unmarked = elim unmarked [ ]
    step newer (ElementEntry n t) c unmarked = record {
      todo = newer;
      done = ElementEntry n t ∷ k.done;
      front = k.front ∙ ap (λ l. l ++ k.done) c ∙ append_assoc newer (ElementEntry n t ∷ []) k.done;
      older = let many = k.older in omega (arith, many);
      is = ap (renewed choices i) (k.is ∙ ap (λ l. partly choices l k.done w) c)
          ∙ ap (λ j. renewed choices j (partly choices (newer ++ ElementEntry n t ∷ []) k.done w)) (sym k.older)
          ∙ renewed_partly choices w newer n t k.done unmarked;
    }

    at : (todo : List Entry) → k.todo ≡ todo → IsPartly choices w (i + 1) (renewed choices i v)
    at [] e =
        let list = ap length whole in
        let none = ap (λ l. length (l ++ (k.done ++ open_rest w.stack w.formatting))) e in
        let many = k.older in
        absurd (omega (arith, h, list, none, many))
    at (d ∷ todo) e =
        let o = oldest d todo in
        let c : k.todo ≡ o.newer ++ o.entry ∷ [] = e ∙ o.cut in
        step o.newer o.entry c
        (no_marker_back o.newer (o.entry ∷ k.done)
        (subst NoMarker (k.front ∙ ap (λ l. l ++ k.done) c ∙ append_assoc o.newer (o.entry ∷ []) k.done) (rewinds_to w.stack w.formatting).unmarked))

-- as many entries as before
pub partly_many : (choices : SinkChoices) (w v : World) (i : ℕ) → IsPartly choices w i v → length v.formatting ≡ length w.formatting
partly_many choices w v i k =
    let rest = open_rest w.stack w.formatting in
    let whole = ap length (front_split w.stack w.formatting ∙ ap (λ l. l ++ rest) k.front ∙ append_assoc k.todo k.done rest) in
    let all = anew_many choices w k.done (no_marker_back k.todo k.done (subst NoMarker k.front (rewinds_to w.stack w.formatting).unmarked)) in
    let a = length-append k.todo (k.done ++ rest) in
    let b = length-append k.done rest in
    let c = length-append k.todo (made_anew (made_nodes choices k.done w) k.done ++ rest) in
    let d = length-append (made_anew (made_nodes choices k.done w) k.done) rest in
    let is = ap (λ (u : World). length u.formatting) k.is in
    omega (arith, whole, all, a, b, c, d, is)

-- a place that was reached
pub partly_within : (choices : SinkChoices) (w v : World) (i : ℕ) → IsPartly choices w i v → i ≤ length w.formatting
partly_within choices w v i k =
    let rest = open_rest w.stack w.formatting in
    let whole = ap length (front_split w.stack w.formatting ∙ ap (λ l. l ++ rest) k.front ∙ append_assoc k.todo k.done rest) in
    let a = length-append k.todo (k.done ++ rest) in
    let here = k.older in
    omega (arith, whole, a, here)

-- what follows of a result
pub ok_then : {T E A B : Type 0} (r : Result T E) → (A → B) → OnOk r A → OnOk r B
ok_then (Ok x) f a = f a
ok_then (Err e) f a = tt

pub ok_or_err : {T E A B C : Type 0} (r : Result T E) → OnOk r A → OnErr r B → (A → C) → (B → C) → C
ok_or_err (Ok x) a b f g = f a
ok_or_err (Err e) a b f g = g b

pub both_ok : {T E : Type 0} (A B : Type 0) (r : Result T E) → OnOk r A → OnOk r B → OnOk r (A × B)
both_ok A B (Ok x) a b = (a, b)
both_ok A B (Err e) a b = tt

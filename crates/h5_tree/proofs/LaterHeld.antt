-- The data of columns after calls: it begins with the data before them, and each name keeps its number and its text.
use Rattle.std.proofs.Common.{◌≡◌, ◌∙◌, ℕ, ◌+◌, ◌*◌, ◌<◌, ◌≤◌, Bool, true, false, cond, List, [], ◌∷◌, ◌++◌, ◌↔◌, IsTrue, arith, get_or, inl, inr, length, refl, rules, subst, sym}
use Rattle.std.specs.Prelude.{Option, Some, None, nat_lt, slice_get, slice_set}
use Rattle.std.specs.Option.{option_map_or}
use Rattle.std.proofs.lemmas.Bool.{cases_lt, cond-false, cond-true, le-ltb, lt-ltb}
use Rattle.std.proofs.lemmas.List.{get_or_push, length-append}
use Rattle.std.proofs.lemmas.List.Sums.{passes_at_first}
use Rattle.h5_names.specs.AttributeText.{AttributeText, is_same_name}
use Rattle.h5_names.specs.declared.qualified.QualName.{QualName}
use Rattle.h5_serialize.specs.Call.{Call, CommentOf, DoctypeOf, EndOf, InstructionOf, StartOf, TextOf}
use Rattle.h5_serialize.specs.Walk.{after_each}
use Rattle.h5_tree_block.specs.Block.{nothing}
use Rattle.h5_tree_block.specs.Columns.{Held, HeldNames, after_call, closed, contents_opened, element_closed, element_opened, is_template, name_word, named, no_ids, number_of, opened, with_attribute, with_attributes, with_bytes, with_ids, with_name, with_node, with_row, with_text}
use Rattle.h5_tree_block.specs.declared.columns.Ended.{Ended}
use Rattle.h5_tree_block.specs.declared.columns.FlatNode.{FlatNode}
use Rattle.h5_tree.proofs.GrowthLaws.{EndInTurn, one_more_ends}
use Rattle.h5_tree.proofs.HeldSteps.{number_within}
use Rattle.h5_tree.proofs.TextParts.{HasText, IsStart, start_at, start_both, start_more, start_same, text_added, text_stays}

-- the names so far have their words and texts
pub record AreNamesHeld (n : HeldNames) : Type 0 where
  pub order : EndInTurn 0 n.texts.list (length n.texts.bytes)
  pub count : length n.met ≡ length n.texts.list
  pub each : (k : ℕ) (d : QualName) → k < length n.met → HasText n.texts k (name_word (get_or n.met k d)) (get_or n.met k d).local

pub record IsWellHeld (h : Held) : Type 0 where
  pub rows : EndInTurn 0 h.rows.list (length h.rows.bytes)
  pub names : AreNamesHeld h.names

pub record AreLaterNames (n m : HeldNames) : Type 0 where
  pub met : IsStart QualName n.met m.met
  pub well : AreNamesHeld n → AreNamesHeld m

-- data that was held later
pub record IsLater (h g : Held) : Type 0 where
  pub mode : g.mode ≡ h.mode
  pub text : IsStart ℕ h.text g.text
  pub rows : IsStart Ended h.rows.list g.rows.list
  pub values : IsStart ℕ h.rows.bytes g.rows.bytes
  pub met : IsStart QualName h.names.met g.names.met
  pub well : IsWellHeld h → IsWellHeld g

pub later_same : (h : Held) → IsLater h h
later_same h = record {
  mode = refl;
  text = start_same ℕ h.text;
  rows = start_same Ended h.rows.list;
  values = start_same ℕ h.rows.bytes;
  met = start_same QualName h.names.met;
  well = λ w. w;
}

pub later_both : (h g i : Held) → IsLater h g → IsLater g i → IsLater h i
later_both h g i a b = record {
  mode = b.mode ∙ a.mode;
  text = start_both ℕ h.text g.text i.text a.text b.text;
  rows = start_both Ended h.rows.list g.rows.list i.rows.list a.rows b.rows;
  values = start_both ℕ h.rows.bytes g.rows.bytes i.rows.bytes a.values b.values;
  met = start_both QualName h.names.met g.names.met i.names.met a.met b.met;
  well = λ w. b.well (a.well w);
}

pub row_later : (word : ℕ) (value : List ℕ) (h : Held) → IsLater h (with_row word value h)
unfolding with_row with_text
row_later word value h =
    let bytes = h.rows.bytes ++ value in
    let last : Ended = record { word = word; end = length bytes } in
    record {
      mode = refl;
      text = start_same ℕ h.text;
      rows = start_more Ended h.rows.list (last ∷ []);
      values = start_more ℕ h.rows.bytes value;
      met = start_same QualName h.names.met;
      well = λ w. record {
        rows = one_more_ends 0 h.rows.list (length h.rows.bytes) word (length bytes) w.rows (omega (arith, length-append h.rows.bytes value));
        names = w.names;
      };
    }

pub bytes_later : (text : List ℕ) (h : Held) → IsLater h (with_bytes text h)
unfolding with_bytes
bytes_later text h = record {
  mode = refl;
  text = start_more ℕ h.text text;
  rows = start_same Ended h.rows.list;
  values = start_same ℕ h.rows.bytes;
  met = start_same QualName h.names.met;
  well = λ w. record { rows = w.rows; names = w.names };
}

dropped_later : (h : Held) → IsLater h (record h { ids = no_ids })
dropped_later h = record {
  mode = refl;
  text = start_same ℕ h.text;
  rows = start_same Ended h.rows.list;
  values = start_same ℕ h.rows.bytes;
  met = start_same QualName h.names.met;
  well = λ w. record { rows = w.rows; names = w.names };
}

pub ids_later : (h : Held) → IsLater h (with_ids h)
unfolding with_ids
ids_later h =
    let dropped = record h { ids = no_ids } in
    let public = with_row nothing h.ids.public_id dropped in
    let system = with_row nothing h.ids.system_id public in
    later_both h public system (later_both h dropped public (dropped_later h) (row_later nothing h.ids.public_id dropped)) (row_later nothing h.ids.system_id public)

node_later : (kind : ℕ) (h : Held) → IsLater h (with_node kind h)
unfolding with_node
node_later kind h = record {
  mode = refl;
  text = start_same ℕ h.text;
  rows = start_same Ended h.rows.list;
  values = start_same ℕ h.rows.bytes;
  met = start_same QualName h.names.met;
  well = λ w. record { rows = w.rows; names = w.names };
}

pub opened_later : (kind : ℕ) (h : Held) → IsLater h (opened kind h)
unfolding opened with_node
opened_later kind h = record {
  mode = refl;
  text = start_same ℕ h.text;
  rows = start_same Ended h.rows.list;
  values = start_same ℕ h.rows.bytes;
  met = start_same QualName h.names.met;
  well = λ w. record { rows = w.rows; names = w.names };
}

closed_at : (h : Held) (o : Option FlatNode)
    → IsLater h (option_map_or {U = Held} (λ (n : FlatNode). record h { nodes = slice_set h.nodes h.current (record n { end = length h.nodes }); current = n.parent }) o h)
closed_at h None = later_same h
closed_at h (Some n) = record {
  mode = refl;
  text = start_same ℕ h.text;
  rows = start_same Ended h.rows.list;
  values = start_same ℕ h.rows.bytes;
  met = start_same QualName h.names.met;
  well = λ w. record { rows = w.rows; names = w.names };
}

pub closed_later : (h : Held) → IsLater h (closed h)
unfolding closed
closed_later h = closed_at h (slice_get h.nodes h.current)

-- names
same_name : (x y : QualName) → IsTrue (is_same_name x y) ↔ (x ≡ y)
same_name x y = search rules

-- a name that occurs has a number
pub record HasNumber (name : QualName) (n m : HeldNames) : Type 0 where
  pub within : number_of n.met name < length m.met
  pub is : (d : QualName) → get_or m.met (number_of n.met name) d ≡ name
  pub later : IsStart QualName n.met m.met
  pub well : AreNamesHeld n → AreNamesHeld m

old_name : (name : QualName) (n : HeldNames) → number_of n.met name < length n.met → HasNumber name n n
old_name name n lt = record {
  within = lt;
  is = λ d. (same_name (get_or n.met (number_of n.met name) d) name).0 (passes_at_first (λ one. is_same_name one name) n.met d lt);
  later = start_same QualName n.met;
  well = λ w. w;
}

abbrev one_name_more : QualName → HeldNames → HeldNames
one_name_more name n = record { met = n.met ++ name ∷ []; texts = with_text (name_word name) name.local n.texts }

added_order : (name : QualName) (n : HeldNames) → AreNamesHeld n → EndInTurn 0 (one_name_more name n).texts.list (length (one_name_more name n).texts.bytes)
unfolding with_text
added_order name n w =
    one_more_ends 0 n.texts.list (length n.texts.bytes) (name_word name) (length (n.texts.bytes ++ name.local)) w.order (omega (arith, length-append n.texts.bytes name.local))

added_count : (name : QualName) (n : HeldNames) → AreNamesHeld n → length (one_name_more name n).met ≡ length (one_name_more name n).texts.list
unfolding with_text
added_count name n w =
    let last : Ended = record { word = name_word name; end = length (n.texts.bytes ++ name.local) } in
    let same = w.count in
    omega (arith, length-append n.met (name ∷ []), length-append n.texts.list (last ∷ []))

added_list : (name : QualName) (n : HeldNames) → IsStart Ended n.texts.list (one_name_more name n).texts.list
unfolding with_text
added_list name n = start_more Ended n.texts.list ((record { word = name_word name; end = length (n.texts.bytes ++ name.local) }) ∷ [])

added_bytes : (name : QualName) (n : HeldNames) → IsStart ℕ n.texts.bytes (one_name_more name n).texts.bytes
unfolding with_text
added_bytes name n = start_more ℕ n.texts.bytes name.local

added_each : (name : QualName) (n : HeldNames) → AreNamesHeld n → (k : ℕ) (d : QualName) → k < length (n.met ++ name ∷ [])
    → HasText (with_text (name_word name) name.local n.texts) k (name_word (get_or (n.met ++ name ∷ []) k d)) (get_or (n.met ++ name ∷ []) k d).local
added_each name n w k d lt = elim (cases_lt k (length n.met)) [
  | inl before ↦
      let same = sym (start_at QualName n.met (n.met ++ name ∷ []) (start_more QualName n.met (name ∷ [])) k d before) in
      subst (λ (x : QualName). HasText (with_text (name_word name) name.local n.texts) k (name_word x) x.local) same
      (text_stays n.texts (with_text (name_word name) name.local n.texts) k (name_word (get_or n.met k d)) (get_or n.met k d).local (added_list name n) (added_bytes name n) (w.each k d before))
  | inr after ↦
      let last : length n.met ≡ k = omega (arith, length-append n.met (name ∷ []), lt) in
      let same = sym (get_or_push n.met name d k last) in
      let place : length n.texts.list ≡ k = sym w.count ∙ last in
      subst (λ (x : QualName). HasText (with_text (name_word name) name.local n.texts) k (name_word x) x.local) same
      (subst (λ i. HasText (with_text (name_word name) name.local n.texts) i (name_word name) name.local) place (text_added (name_word name) name.local n.texts w.order))
]

new_name : (name : QualName) (n : HeldNames) → length n.met ≤ number_of n.met name → HasNumber name n (one_name_more name n)
new_name name n le =
    let within = number_within n.met name in
    let last : length n.met ≡ number_of n.met name = omega arith in
    record {
      within = omega (arith, length-append n.met (name ∷ []));
      is = λ d. get_or_push n.met name d (number_of n.met name) last;
      later = start_more QualName n.met (name ∷ []);
      well = λ w. record { order = added_order name n w; count = added_count name n w; each = added_each name n w };
    }

pub has_number : (name : QualName) (n : HeldNames) → HasNumber name n (with_name name n)
unfolding with_name
has_number name n = elim (cases_lt (number_of n.met name) (length n.met)) [
  | inl old ↦
      subst (HasNumber name n) (sym (cond-true (nat_lt (number_of n.met name) (length n.met)) n (one_name_more name n) (lt-ltb (number_of n.met name) (length n.met) old))) (old_name name n old)
  | inr new ↦
      subst (HasNumber name n) (sym (cond-false (nat_lt (number_of n.met name) (length n.met)) n (one_name_more name n) (le-ltb (number_of n.met name) (length n.met) new))) (new_name name n new)
]

pub named_later : (name : QualName) (h : Held) → IsLater h (named name h)
unfolding named
named_later name h =
    let it = has_number name h.names in
    record {
      mode = refl;
      text = start_same ℕ h.text;
      rows = start_same Ended h.rows.list;
      values = start_same ℕ h.rows.bytes;
      met = it.later;
      well = λ w. record { rows = w.rows; names = it.well w.names };
    }

pub attribute_later : (h : Held) (a : AttributeText) → IsLater h (with_attribute h a)
unfolding with_attribute
attribute_later h a =
    let it = named a.name h in
    later_both h it (with_row (number_of h.names.met a.name) a.value it) (named_later a.name h) (row_later (number_of h.names.met a.name) a.value it)

pub attributes_later : (attrs : List AttributeText) (h : Held) → IsLater h (with_attributes h attrs)
unfolding with_attributes
attributes_later [] h = later_same h
attributes_later (a ∷ attrs) h = later_both h (with_attribute h a) (with_attributes (with_attribute h a) attrs) (attribute_later h a) (attributes_later attrs (with_attribute h a))

-- calls
contents_later : (template : Bool) (h : Held) → IsLater h (cond template (opened 11 h) h)
contents_later true h = opened_later 11 h
contents_later false h = later_same h

element_later : (template : Bool) (h : Held) → IsLater h (cond template (closed (closed h)) (closed h))
element_later true h = later_both h (closed h) (closed (closed h)) (closed_later h) (closed_later (closed h))
element_later false h = closed_later h

start_later : (name : QualName) (attrs : List AttributeText) (h : Held) → IsLater h (contents_opened name (with_attributes (element_opened name h) attrs))
unfolding contents_opened element_opened
start_later name attrs h =
    let kind = number_of h.names.met name * 256 + 1 in
    let one = named name h in
    let two = opened kind one in
    let three = with_attributes two attrs in
    later_both h three (cond (is_template name) (opened 11 three) three)
    (later_both h two three (later_both h one two (named_later name h) (opened_later kind one)) (attributes_later attrs two)) (contents_later (is_template name) three)

end_later : (name : QualName) (h : Held) → IsLater h (element_closed name h)
unfolding element_closed
end_later name h = element_later (is_template name) h

pub call_later : (h : Held) (call : Call) → IsLater h (after_call h call)
call_later h (StartOf name attrs) = start_later name attrs h
call_later h (EndOf name) = end_later name h
call_later h (TextOf text) = later_both h (with_node 3 h) (with_bytes text (with_node 3 h)) (node_later 3 h) (bytes_later text (with_node 3 h))
call_later h (CommentOf text) = later_both h (with_node 8 h) (with_row nothing text (with_node 8 h)) (node_later 8 h) (row_later nothing text (with_node 8 h))
call_later h (DoctypeOf name) =
    let node = with_node 10 h in
    let row = with_row nothing name node in
    later_both h row (with_ids row) (later_both h node row (node_later 10 h) (row_later nothing name node)) (ids_later row)
call_later h (InstructionOf target content) =
    let node = with_node 7 h in
    let row = with_row nothing target node in
    later_both h row (with_row nothing content row) (later_both h node row (node_later 7 h) (row_later nothing target node)) (row_later nothing content row)

pub calls_later : (calls : List Call) (h : Held) → IsLater h (after_each after_call h calls)
calls_later [] h = later_same h
calls_later (call ∷ calls) h = later_both h (after_call h call) (after_each after_call (after_call h call) calls) (call_later h call) (calls_later calls (after_call h call))

-- The parts of a block are those of its columns: nodes, rows with their values, names, and texts.
use Rattle.std.proofs.Common.{◌≡◌, ◌∙◌, ℕ, ◌+◌, ◌-◌, ◌<◌, ◌≤◌, List, [], ◌∷◌, ◌++◌, ap, arith, get_or, length, refl, subst, sym}
use Rattle.std.specs.Prelude.{◌==◌, ◌&&◌, ◌%◌, ◌/◌, None, Option, Some, codes, min, nat_le, nat_lt}
use Rattle.std.specs.Option.{option_map_or}
use Rattle.std.specs.Str.{IsUtf8}
use Rattle.std.proofs.lemmas.Bool.{and_from, and_parts, cond-true, eqb-true, le-leb, lt-ltb}
use Rattle.std.proofs.lemmas.List.{append_assoc, length-append}
use Rattle.std.proofs.lemmas.List.Elements.{All-cons, All-contains, All-nil}
use Rattle.h5_names.specs.Urls.{html_text, mathml_text, svg_text, xlink_text, xml_text, xmlns_text}
use Rattle.h5_names.specs.declared.qualified.QualName.{QualName}
use Rattle.h5_tree_block.specs.Block.{between, end_before, end_in, end_or_next, ends_at, first_row_in, kind_word_in, name_ends_at, name_text_in, names_begin, names_in, namespace_in, nodes_in, nothing, prefix_in, row_count_in, row_ends_at, row_in, row_names_at, rows_in, space_word_in, text_in, texts_at, texts_begin, value_in, values_begin, with_name, word_in}
use Rattle.h5_tree_block.specs.Columns.{Texts, name_word, namespace_number, prefix_number}
use Rattle.h5_tree_block.specs.Packed.{AreWordsOf, IsReadAs, block_of, bytes_of_words, length_of, words_of}
use Rattle.h5_tree_block.specs.Read.{local_of, name_of, namespace_named, prefix_named, row_name_of, str_in, text_of, value_of}
use Rattle.h5_tree_block.specs.declared.columns.Columns.{Columns}
use Rattle.h5_tree_block.specs.declared.columns.Ended.{Ended}
use Rattle.h5_tree_block.specs.declared.columns.FlatNode.{FlatNode}
use Rattle.h5_tree_block.specs.declared.view.Row.{Row}
use Rattle.h5_tree_block.specs.declared.view.Span.{Span}
use Rattle.h5_tree.specs.KnownCalls.{IsKnownName, IsKnownNamespace, IsKnownPrefix}
use Rattle.h5_tree.proofs.TextParts.{HasText, IsReadFrom, between_read, str_read, text_read}

-- a known namespace and a known prefix are read as they were
namespace_back : (ns : List ℕ) → IsKnownNamespace ns → namespace_named (namespace_number ns) ≡ ns
unfolding namespace_named namespace_number
namespace_back ns known =
    let Back = λ (x : List ℕ). namespace_named (namespace_number x) ≡ x in
    All-contains Back (html_text ∷ mathml_text ∷ svg_text ∷ xlink_text ∷ xml_text ∷ xmlns_text ∷ [] ∷ []) ns
    (All-cons Back html_text (mathml_text ∷ svg_text ∷ xlink_text ∷ xml_text ∷ xmlns_text ∷ [] ∷ []) refl
    (All-cons Back mathml_text (svg_text ∷ xlink_text ∷ xml_text ∷ xmlns_text ∷ [] ∷ []) refl
    (All-cons Back svg_text (xlink_text ∷ xml_text ∷ xmlns_text ∷ [] ∷ []) refl
    (All-cons Back xlink_text (xml_text ∷ xmlns_text ∷ [] ∷ []) refl
    (All-cons Back xml_text (xmlns_text ∷ [] ∷ []) refl
    (All-cons Back xmlns_text ([] ∷ []) refl
    (All-cons Back [] [] refl (All-nil Back)))))))) known

prefix_back : (prefix : Option (List ℕ)) → IsKnownPrefix prefix → prefix_named (option_map_or prefix_number prefix 0) ≡ prefix
unfolding prefix_named prefix_number
prefix_back prefix known =
    let Back = λ (x : Option (List ℕ)). prefix_named (option_map_or prefix_number x 0) ≡ x in
    All-contains Back (None ∷ Some (codes "xlink") ∷ Some (codes "xml") ∷ Some (codes "xmlns") ∷ []) prefix
    (All-cons Back None (Some (codes "xlink") ∷ Some (codes "xml") ∷ Some (codes "xmlns") ∷ []) refl
    (All-cons Back (Some (codes "xlink")) (Some (codes "xml") ∷ Some (codes "xmlns") ∷ []) refl
    (All-cons Back (Some (codes "xml")) (Some (codes "xmlns") ∷ []) refl
    (All-cons Back (Some (codes "xmlns")) [] refl (All-nil Back))))) known

namespace_small : (ns : List ℕ) → IsKnownNamespace ns → namespace_number ns < 256
unfolding namespace_number
namespace_small ns known =
    let Small = λ (x : List ℕ). namespace_number x < 256 in
    All-contains Small (html_text ∷ mathml_text ∷ svg_text ∷ xlink_text ∷ xml_text ∷ xmlns_text ∷ [] ∷ []) ns
    (All-cons Small html_text (mathml_text ∷ svg_text ∷ xlink_text ∷ xml_text ∷ xmlns_text ∷ [] ∷ []) (omega arith)
    (All-cons Small mathml_text (svg_text ∷ xlink_text ∷ xml_text ∷ xmlns_text ∷ [] ∷ []) (omega arith)
    (All-cons Small svg_text (xlink_text ∷ xml_text ∷ xmlns_text ∷ [] ∷ []) (omega arith)
    (All-cons Small xlink_text (xml_text ∷ xmlns_text ∷ [] ∷ []) (omega arith)
    (All-cons Small xml_text (xmlns_text ∷ [] ∷ []) (omega arith)
    (All-cons Small xmlns_text ([] ∷ []) (omega arith)
    (All-cons Small [] [] (omega arith) (All-nil Small)))))))) known

word_parts : (name : QualName) → IsKnownName name → (name_word name % 256 ≡ namespace_number name.ns) × (name_word name / 256 ≡ option_map_or prefix_number name.prefix 0)
unfolding name_word
word_parts name known = let small = namespace_small name.ns known.namespace in (omega arith, omega arith)

abbrev pub rows_of : Columns → Texts
rows_of c = record { list = c.rows.items; bytes = c.values.items }

abbrev pub name_texts_of : Columns → Texts
name_texts_of c = record { list = c.names.list.items; bytes = c.names.text.items }

-- the bytes of names, of values and of texts
pub record HasBytes (b : List ℕ) (c : Columns) : Type 0 where
  pub front : List ℕ
  pub is : b ≡ front ++ (c.names.text.items ++ (c.values.items ++ c.text.items))
  pub names : length front ≡ names_begin b
  pub values : length front + length c.names.text.items ≡ values_begin b
  pub texts : length front + length c.names.text.items + length c.values.items ≡ texts_begin b

parted : (b front names values text : List ℕ) → b ≡ front ++ (names ++ values ++ text) → b ≡ front ++ (names ++ (values ++ text))
parted b front names values text e = e ∙ ap (λ l. front ++ l) (append_assoc names values text)

lengths : (b front names values text : List ℕ) → b ≡ front ++ (names ++ (values ++ text)) → length b ≡ length front + (length names + (length values + length text))
lengths b front names values text e =
    ap length e ∙ length-append front (names ++ (values ++ text))
    ∙ ap (λ n. length front + n) (length-append names (values ++ text) ∙ ap (λ n. length names + n) (length-append values text))

sized : (b : List ℕ) (c : Columns) → IsReadAs b c → AreWordsOf b (words_of c) → length b ≡ length_of c
sized b c r words =
    let parts = and_parts (word_in b 0 == 0x31544748) (word_in b 1 == length b && texts_begin b + word_in b 8 == length b) r.is in
    let same = and_parts (word_in b 1 == length b) (texts_begin b + word_in b 8 == length b) parts.1 in
    sym (eqb-true (word_in b 1) (length b) same.0) ∙ words 1 (omega arith)

pub has_bytes : (b : List ℕ) (c : Columns) → b ≡ block_of c → IsReadAs b c → AreWordsOf b (words_of c) → HasBytes b c
has_bytes b c packed r words =
    let front = bytes_of_words (words_of c) in
    bytes_from b c front (parted b front c.names.text.items c.values.items c.text.items packed) (sized b c r words) r (words 6 (omega arith)) (words 7 (omega arith))
  where
    bytes_from : (b : List ℕ) (c : Columns) (front : List ℕ) → b ≡ front ++ (c.names.text.items ++ (c.values.items ++ c.text.items)) → length b ≡ length_of c → IsReadAs b c
        → word_in b 6 ≡ length c.names.text.items → word_in b 7 ≡ length c.values.items → HasBytes b c
    bytes_from b c front is long r names values =
        let all = lengths b front c.names.text.items c.values.items c.text.items is in
        let nodes = r.nodes in
        let rows = r.rows in
        let count = r.names in
        let begin : length front ≡ names_begin b = omega (arith, all, long, nodes, rows, count) in
        record { front = front; is = is; names = begin; values = omega (arith, begin, names); texts = omega (arith, begin, names, values) }

-- a node of the columns
pub record IsNodeAt (c : Columns) (n : ℕ) (node : FlatNode) : Type 0 where
  pub within : n < length c.nodes.items
  pub is : (d : FlatNode) → get_or c.nodes.items n d ≡ node

module _ (b : List ℕ) (c : Columns) (bytes : HasBytes b c) (r : IsReadAs b c) where
  value_at : (k w : ℕ) (text : List ℕ) → HasText (rows_of c) k w text → IsReadFrom b (value_in b k) text
  value_at k w text h =
      text_read b (values_begin b) (row_ends_at (nodes_in b) (rows_in b)) (rows_of c) (bytes.front ++ c.names.text.items) c.text.items
      (bytes.is ∙ sym (append_assoc bytes.front c.names.text.items (c.values.items ++ c.text.items)))
      (length-append bytes.front c.names.text.items ∙ bytes.values) r.row_end w text k h

  name_text_at : (k w : ℕ) (text : List ℕ) → HasText (name_texts_of c) k w text → IsReadFrom b (name_text_in b k) text
  name_text_at k w text h =
      let all = r.names in
      let within = h.within in
      subst (λ o. IsReadFrom b o text)
      (sym (cond-true (nat_lt k (names_in b)) (between b (names_begin b) (end_before b (name_ends_at b) k) (word_in b (name_ends_at b + k))) None (lt-ltb k (names_in b) (omega arith))))
      (text_read b (names_begin b) (name_ends_at b) (name_texts_of c) bytes.front (c.values.items ++ c.text.items) bytes.is bytes.names r.name_end w text k h)

  -- a name with its number
  pub name_read : (k : ℕ) (name : QualName) → HasText (name_texts_of c) k (name_word name) name.local → IsKnownName name → name_of b k ≡ name
  unfolding name_of
  name_read k name h known =
      let d : Ended = record { word = 0; end = 0 } in
      let word : space_word_in b k ≡ name_word name = r.space k d h.within ∙ h.word d in
      let parts = word_parts name known in
      let ns : namespace_named (namespace_in b k) ≡ name.ns = ap (λ w. namespace_named (w % 256)) word ∙ ap namespace_named parts.0 ∙ namespace_back name.ns known.namespace in
      let prefix : prefix_named (prefix_in b k) ≡ name.prefix = ap (λ w. prefix_named (w / 256)) word ∙ ap prefix_named parts.1 ∙ prefix_back name.prefix known.prefix in
      let local : local_of b k ≡ name.local = str_read b (name_text_in b k) name.local (name_text_at k (name_word name) name.local h) known.local in
      ap (λ p. record { prefix = p; ns = namespace_named (namespace_in b k); local = local_of b k }) prefix
      ∙ ap (λ s. record { prefix = name.prefix; ns = s; local = local_of b k }) ns
      ∙ ap (λ l. record { prefix = name.prefix; ns = name.ns; local = l }) local

  -- a row of a node: the index of its first row, and of the next node's
  pub record IsRowAt (n index w : ℕ) (text : List ℕ) : Type 0 where
    pub name : row_name_of b n index ≡ w
    pub value : IsUtf8 text → value_of b n index ≡ text

  pub row_read : (n index row next w : ℕ) (text : List ℕ) → n < nodes_in b → first_row_in b n ≡ row → first_row_in b (n + 1) ≡ next → row + index < next → next ≤ rows_in b
      → HasText (rows_of c) (row + index) w text → IsRowAt n index w text
  unfolding value_of
  row_read n index row next w text lt at after within most h =
      let d : Ended = record { word = 0; end = 0 } in
      let count : row_count_in b n ≡ next - row =
      cond-true (nat_lt n (nodes_in b)) (min (first_row_in b (n + 1)) (rows_in b) - first_row_in b n) 0 (lt-ltb n (nodes_in b) lt) ∙ omega arith in
      let value = value_at (row + index) w text h in
      let word : word_in b (row_names_at (nodes_in b) + (row + index)) ≡ w = r.row_name (row + index) d h.within ∙ h.word d in
      let it : row_in b n index ≡ Some (record { name = w; value = value.at }) =
      cond-true (nat_lt index (row_count_in b n)) (with_name (word_in b (row_names_at (nodes_in b) + (first_row_in b n + index))) (value_in b (first_row_in b n + index))) None (lt-ltb index (row_count_in b n) (omega arith))
      ∙ ap (λ first. with_name (word_in b (row_names_at (nodes_in b) + (first + index))) (value_in b (first + index))) at
      ∙ ap (λ (o : Option Span). with_name (word_in b (row_names_at (nodes_in b) + (row + index))) o) value.is
      ∙ ap (λ n. Some (record { name = n; value = value.at })) word in
      record {
        name = ap (λ (o : Option Row). option_map_or (λ (x : Row). x.name) o nothing) it;
        value = λ utf8.
            ap (λ (o : Option Row). option_map_or (λ (x : Row). str_in b x.value) o []) it
            ∙ str_read b (Some value.at) text (record { at = value.at; is = refl; bytes = value.bytes }) utf8;
      }

  -- the words of a node
  module _ (n : ℕ) (node : FlatNode) (is : IsNodeAt c n node) where
    pub node_within : n < nodes_in b
    node_within = let all = r.nodes in let within = is.within in omega arith

    pub node_kind : kind_word_in b n ≡ node.kind
    node_kind = r.kind n node is.within ∙ ap (λ (x : FlatNode). x.kind) (is.is node)

    pub node_text : word_in b (texts_at (nodes_in b) + n) ≡ node.text
    node_text = r.text n node is.within ∙ ap (λ (x : FlatNode). x.text) (is.is node)

    pub node_row : first_row_in b n ≡ node.row
    node_row = r.row n node is.within ∙ ap (λ (x : FlatNode). x.row) (is.is node)

    pub node_end : n < node.end → node.end ≤ length c.nodes.items → end_in b n ≡ node.end
    node_end after most =
        let all = r.nodes in
        let word : word_in b (ends_at (nodes_in b) + n) ≡ node.end = r.end n node is.within ∙ ap (λ (x : FlatNode). x.end) (is.is node) in
        cond-true (nat_lt n (nodes_in b)) (end_or_next (nodes_in b) (word_in b (ends_at (nodes_in b) + n)) n) nothing (lt-ltb n (nodes_in b) node_within)
        ∙ ap (λ e. end_or_next (nodes_in b) e n) word
        ∙ cond-true (nat_lt n node.end && nat_le node.end (nodes_in b)) node.end (n + 1) (and_from (nat_lt n node.end) (nat_le node.end (nodes_in b)) (lt-ltb n node.end after) (le-leb node.end (nodes_in b) (omega arith)))

  -- the text of a node that has no children
  pub text_known : (n : ℕ) (text before after : List ℕ) → n < nodes_in b → end_in b n ≡ n + 1 → word_in b (texts_at (nodes_in b) + n) ≡ length before
      → word_in b (texts_at (nodes_in b) + (n + 1)) ≡ length before + length text → c.text.items ≡ before ++ (text ++ after) → IsUtf8 text → text_of b n ≡ text
  unfolding text_of
  text_known n text before after lt end from to whole utf8 =
      let here : text_in b n ≡ between b (texts_begin b) (word_in b (texts_at (nodes_in b) + n)) (word_in b (texts_at (nodes_in b) + (n + 1))) =
      cond-true (nat_lt n (nodes_in b)) (between b (texts_begin b) (word_in b (texts_at (nodes_in b) + n)) (word_in b (texts_at (nodes_in b) + end_in b n))) None (lt-ltb n (nodes_in b) lt)
      ∙ ap (λ e. between b (texts_begin b) (word_in b (texts_at (nodes_in b) + n)) (word_in b (texts_at (nodes_in b) + e))) end in
      let front = bytes.front ++ (c.names.text.items ++ c.values.items) in
      let size : length front ≡ texts_begin b =
      length-append bytes.front (c.names.text.items ++ c.values.items) ∙ ap (λ m. length bytes.front + m) (length-append c.names.text.items c.values.items) ∙ omega (arith, bytes.texts) in
      let all : b ≡ (front ++ before) ++ (text ++ after) =
      bytes.is ∙ ap (λ l. bytes.front ++ l) (sym (append_assoc c.names.text.items c.values.items c.text.items)) ∙ sym (append_assoc bytes.front (c.names.text.items ++ c.values.items) c.text.items)
      ∙ ap (λ l. front ++ l) whole ∙ sym (append_assoc front before (text ++ after)) in
      str_read b (text_in b n) text
      (subst (λ o. IsReadFrom b o text) (sym here)
      (between_read b (texts_begin b) (word_in b (texts_at (nodes_in b) + n)) (word_in b (texts_at (nodes_in b) + (n + 1))) (front ++ before) text after all (omega (arith, size, from, length-append front before)) (omega (arith, from, to))))
      utf8

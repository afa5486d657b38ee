-- A block is read as the columns that are packed into it.
use Rattle.std.proofs.Common.{◌≡◌, ◌∙◌, ℕ, ◌+◌, ◌*◌, ◌<◌, Bool, true, ◌&&◌, List, [], ◌∷◌, ◌++◌, ap, arith, get_or, length, length-append, map, sym}
use Rattle.std.specs.Prelude.{if◌then◌else◌}
use Rattle.std.proofs.lemmas.Bool.{eq-eqb, lt-ltb}
use Rattle.std.proofs.lemmas.List.{get_or_append_left, get_or-append-add, get_or-map, length-map}
use Rattle.h5_tree_block.proofs.PackLaws.{length-bytes, word_back}
use Rattle.h5_tree_block.specs.Block.{ends_at, names_in, nodes_in, parents_at, row_ends_at, row_names_at, rows_at, rows_in, spaces_at, texts_at, texts_begin, word_in}
use Rattle.h5_tree_block.specs.Packed.{AreWords, AreWordsOf, IsReadAs, block_of, column, column_bytes, column_words, ends_in, front_words, length_of, name_words, node_words, place_words, row_words, word_of, words_in, words_of}
use Rattle.h5_tree_block.specs.declared.columns.Columns.{Columns}
use Rattle.h5_tree_block.specs.declared.columns.Ended.{Ended}
use Rattle.h5_tree_block.specs.declared.columns.NodeWord.TheVariants.{End, Kind, Parent, Row, Text}

both : (x y : Bool) → x ≡ true → y ≡ true → (x && y) ≡ true
both x y one two = ap (λ z. z && y) one ∙ two

word_if : (t : Bool) (word : ℕ) → t ≡ true → (if t then word else 0) ≡ word
word_if t word e = ap (λ z. if z then word else 0) e

-- words are read from an index on
abbrev StandAt : (block : List ℕ) → (place : ℕ) → (words : List ℕ) → Type 0
StandAt b at words = (i : ℕ) → i < length words → word_in b (at + i) ≡ get_or words i 0

-- where joined words are, the first of them come first, and the others after them
first : (b : List ℕ) (at : ℕ) (xs ys : List ℕ) → StandAt b at (xs ++ ys) → StandAt b at xs
first b at xs ys h = λ i lt. h i (omega (arith, lt, length-append xs ys)) ∙ get_or_append_left xs ys 0 i lt

behind : (b : List ℕ) (at place : ℕ) (xs ys : List ℕ) → place ≡ at + length xs → StandAt b at (xs ++ ys) → StandAt b place ys
behind b at place xs ys same h = λ i lt.
    ap (word_in b) (omega (arith, same))
    ∙ h (length xs + i) (omega (arith, lt, length-append xs ys))
    ∙ get_or-append-add xs ys i 0

-- a column has one word for each entry, and one word can follow it
column_read : {X : Type 0} (f : X → ℕ) (xs : List X) (b : List ℕ) (at : ℕ) → StandAt b at (map f xs)
    → (n : ℕ) (d : X) → n < length xs → word_in b (at + n) ≡ f (get_or xs n d)
column_read f xs b at h n d lt = h n (omega (arith, lt, length-map xs f)) ∙ get_or-map f xs n d 0 lt

alone_read : (w : ℕ) (b : List ℕ) (at : ℕ) → StandAt b at (w ∷ []) → word_in b at ≡ w
alone_read w b at h = ap (word_in b) (omega arith) ∙ h 0 (omega arith)

-- a row or name has two words
word_read : (xs : List Ended) (b : List ℕ) (at : ℕ) → StandAt b at (words_in xs)
    → (k : ℕ) (d : Ended) → k < length xs → word_in b (at + k) ≡ (get_or xs k d).word
word_read xs b at h = column_read {X = Ended} (λ row. row.word) xs b at h

end_read : (xs : List Ended) (b : List ℕ) (at : ℕ) → StandAt b at (ends_in xs)
    → (k : ℕ) (d : Ended) → k < length xs → word_in b (at + k) ≡ (get_or xs k d).end
end_read xs b at h = column_read {X = Ended} (λ row. row.end) xs b at h

-- the number of words of the columns, and of bytes of the block
module _ (c : Columns) where
  abbrev node_count : ℕ
  node_count = length c.nodes.items

  abbrev row_count : ℕ
  row_count = length c.rows.items

  abbrev name_count : ℕ
  name_count = length c.names.list.items

  abbrev kinds : List ℕ
  kinds = column Kind c.nodes.items

  abbrev parents : List ℕ
  parents = column Parent c.nodes.items

  abbrev ends : List ℕ
  ends = column End c.nodes.items

  abbrev texts : List ℕ
  texts = column Text c.nodes.items

  abbrev last_text : List ℕ
  last_text = length c.text.items ∷ []

  abbrev first_rows : List ℕ
  first_rows = column Row c.nodes.items

  abbrev last_row : List ℕ
  last_row = row_count ∷ []

  node_words_length : length (node_words c) ≡ 3 * node_count
  node_words_length =
      omega (
        arith,
        length-append (kinds ++ parents) ends,
        length-append kinds parents,
        length-map c.nodes.items (word_of Kind),
        length-map c.nodes.items (word_of Parent),
        length-map c.nodes.items (word_of End),
      )

  place_words_length : length (place_words c) ≡ 2 * node_count + 2
  place_words_length =
      omega (
        arith,
        length-append (texts ++ last_text ++ first_rows) last_row,
        length-append (texts ++ last_text) first_rows,
        length-append texts last_text,
        length-map c.nodes.items (word_of Text),
        length-map c.nodes.items (word_of Row),
      )

  ended_words_length : (list : List Ended) → length (words_in list ++ ends_in list) ≡ 2 * length list
  ended_words_length list =
      omega (
        arith,
        length-append (words_in list) (ends_in list),
        length-map {A = Ended} list (λ row. row.word),
        length-map {A = Ended} list (λ row. row.end),
      )

  abbrev before_rows : List ℕ
  before_rows = node_words c ++ place_words c

  abbrev before_names : List ℕ
  before_names = before_rows ++ row_words c

  before_rows_length : length before_rows ≡ 5 * node_count + 2
  before_rows_length = omega (arith, node_words_length, place_words_length, length-append (node_words c) (place_words c))

  before_names_length : length before_names ≡ 5 * node_count + 2 + 2 * row_count
  before_names_length = omega (arith, before_rows_length, ended_words_length c.rows.items, length-append before_rows (row_words c))

  block_length : length (block_of c) ≡ length_of c
  block_length =
      length-bytes (words_of c) (column_bytes c)
      ∙ omega (
        arith,
        length-append (front_words c) (column_words c),
        length-append before_names (name_words c),
        before_names_length,
        ended_words_length c.names.list.items,
        length-append (c.names.text.items ++ c.values.items) c.text.items,
        length-append c.names.text.items c.values.items,
      )

-- the indices of the columns
module _ (b : List ℕ) (c : Columns) (h : StandAt b 9 (column_words c)) where
  before_names_stand : StandAt b 9 (before_names c)
  before_names_stand = first b 9 (before_names c) (name_words c) h

  before_rows_stand : StandAt b 9 (before_rows c)
  before_rows_stand = first b 9 (before_rows c) (row_words c) before_names_stand

  nodes_stand : StandAt b 9 (node_words c)
  nodes_stand = first b 9 (node_words c) (place_words c) before_rows_stand

  places_stand : StandAt b (texts_at (node_count c)) (place_words c)
  places_stand =
      behind b 9 (texts_at (node_count c)) (node_words c) (place_words c) (omega (arith, node_words_length c)) before_rows_stand

  rows_stand : StandAt b (row_names_at (node_count c)) (row_words c)
  rows_stand =
      behind b 9 (row_names_at (node_count c)) (before_rows c) (row_words c) (omega (arith, before_rows_length c)) before_names_stand

  names_stand : StandAt b (spaces_at (node_count c) (row_count c)) (name_words c)
  names_stand =
      behind b 9 (spaces_at (node_count c) (row_count c)) (before_names c) (name_words c) (omega (arith, before_names_length c)) h

  kinds_and_parents_stand : StandAt b 9 (kinds c ++ parents c)
  kinds_and_parents_stand = first b 9 (kinds c ++ parents c) (ends c) nodes_stand

  kinds_stand : StandAt b 9 (kinds c)
  kinds_stand = first b 9 (kinds c) (parents c) kinds_and_parents_stand

  parents_stand : StandAt b (parents_at (node_count c)) (parents c)
  parents_stand =
      behind b 9 (parents_at (node_count c)) (kinds c) (parents c)
      (omega (arith, length-map c.nodes.items (word_of Kind)))
      kinds_and_parents_stand

  ends_stand : StandAt b (ends_at (node_count c)) (ends c)
  ends_stand =
      behind b 9 (ends_at (node_count c)) (kinds c ++ parents c) (ends c)
      (omega (
        arith,
        length-append (kinds c) (parents c),
        length-map c.nodes.items (word_of Kind),
        length-map c.nodes.items (word_of Parent),
      ))
      nodes_stand

  texts_and_rows_stand : StandAt b (texts_at (node_count c)) (texts c ++ last_text c ++ first_rows c)
  texts_and_rows_stand = first b (texts_at (node_count c)) (texts c ++ last_text c ++ first_rows c) (last_row c) places_stand

  texts_stand : StandAt b (texts_at (node_count c)) (texts c ++ last_text c)
  texts_stand = first b (texts_at (node_count c)) (texts c ++ last_text c) (first_rows c) texts_and_rows_stand

  text_stands : StandAt b (texts_at (node_count c)) (texts c)
  text_stands = first b (texts_at (node_count c)) (texts c) (last_text c) texts_stand

  last_text_stands : StandAt b (texts_at (node_count c) + node_count c) (last_text c)
  last_text_stands =
      behind b (texts_at (node_count c)) (texts_at (node_count c) + node_count c) (texts c) (last_text c)
      (omega (arith, length-map c.nodes.items (word_of Text)))
      texts_stand

  first_rows_stand : StandAt b (rows_at (node_count c)) (first_rows c)
  first_rows_stand =
      behind b (texts_at (node_count c)) (rows_at (node_count c)) (texts c ++ last_text c) (first_rows c)
      (omega (arith, length-append (texts c) (last_text c), length-map c.nodes.items (word_of Text)))
      texts_and_rows_stand

  last_row_stands : StandAt b (rows_at (node_count c) + node_count c) (last_row c)
  last_row_stands =
      behind b (texts_at (node_count c)) (rows_at (node_count c) + node_count c) (texts c ++ last_text c ++ first_rows c) (last_row c)
      (omega (
        arith,
        length-append (texts c ++ last_text c) (first_rows c),
        length-append (texts c) (last_text c),
        length-map c.nodes.items (word_of Text),
        length-map c.nodes.items (word_of Row),
      ))
      places_stand

  row_names_stand : StandAt b (row_names_at (node_count c)) (words_in c.rows.items)
  row_names_stand = first b (row_names_at (node_count c)) (words_in c.rows.items) (ends_in c.rows.items) rows_stand

  row_ends_stand : StandAt b (row_ends_at (node_count c) (row_count c)) (ends_in c.rows.items)
  row_ends_stand =
      behind b (row_names_at (node_count c)) (row_ends_at (node_count c) (row_count c)) (words_in c.rows.items) (ends_in c.rows.items)
      (omega (arith, length-map {A = Ended} c.rows.items (λ row. row.word)))
      rows_stand

  spaces_stand : StandAt b (spaces_at (node_count c) (row_count c)) (words_in c.names.list.items)
  spaces_stand =
      first b (spaces_at (node_count c) (row_count c)) (words_in c.names.list.items) (ends_in c.names.list.items) names_stand

  name_ends_stand : StandAt b (spaces_at (node_count c) (row_count c) + name_count c) (ends_in c.names.list.items)
  name_ends_stand =
      behind b (spaces_at (node_count c) (row_count c)) (spaces_at (node_count c) (row_count c) + name_count c)
      (words_in c.names.list.items) (ends_in c.names.list.items)
      (omega (arith, length-map {A = Ended} c.names.list.items (λ row. row.word)))
      names_stand

-- the parts of a block of these words and of this length
module _ (b : List ℕ) (c : Columns) (reads : AreWordsOf b (words_of c)) (long : length b ≡ length_of c) where
  front_read : (i : ℕ) → i < 9 → word_in b i ≡ get_or (front_words c) i 0
  front_read i lt =
      reads i (omega (arith, lt, length-append (front_words c) (column_words c)))
      ∙ get_or_append_left (front_words c) (column_words c) 0 i lt

  columns_stand : StandAt b 9 (column_words c)
  columns_stand = behind b 0 9 (front_words c) (column_words c) (omega arith) (λ i lt. ap (word_in b) (omega arith) ∙ reads i lt)

  nodes_read : nodes_in b ≡ node_count c
  nodes_read = front_read 3 (omega arith)

  rows_read : rows_in b ≡ row_count c
  rows_read = front_read 4 (omega arith)

  names_read : names_in b ≡ name_count c
  names_read = front_read 5 (omega arith)

  length_read : texts_begin b + word_in b 8 ≡ length b
  length_read =
      omega (
        arith,
        long,
        nodes_read,
        rows_read,
        names_read,
        front_read 6 (omega arith),
        front_read 7 (omega arith),
        front_read 8 (omega arith),
      )

  read_as_columns : IsReadAs b c
  read_as_columns =
      let name_ends = name_ends_stand b c columns_stand in
      record {
        is =
            both _ _ (eq-eqb _ _ (front_read 0 (omega arith)))
            (both _ _ (eq-eqb _ _ (front_read 1 (omega arith) ∙ sym long)) (eq-eqb _ _ length_read));
        mode = front_read 2 (omega arith);
        nodes = nodes_read;
        rows = rows_read;
        names = names_read;
        kind = λ n d lt.
            word_if _ _ (lt-ltb n (nodes_in b) (rw nodes_read lt))
            ∙ column_read (word_of Kind) c.nodes.items b 9 (kinds_stand b c columns_stand) n d lt;
        parent = λ n d lt.
            ap (λ m. word_in b (parents_at m + n)) nodes_read
            ∙ column_read (word_of Parent) c.nodes.items b (parents_at (node_count c)) (parents_stand b c columns_stand) n d lt;
        end = λ n d lt.
            ap (λ m. word_in b (ends_at m + n)) nodes_read
            ∙ column_read (word_of End) c.nodes.items b (ends_at (node_count c)) (ends_stand b c columns_stand) n d lt;
        text = λ n d lt.
            ap (λ m. word_in b (texts_at m + n)) nodes_read
            ∙ column_read (word_of Text) c.nodes.items b (texts_at (node_count c)) (text_stands b c columns_stand) n d lt;
        last_text =
            ap (λ m. word_in b (texts_at m + node_count c)) nodes_read
            ∙ alone_read (length c.text.items) b (texts_at (node_count c) + node_count c) (last_text_stands b c columns_stand);
        row = λ n d lt.
            ap (λ m. word_in b (rows_at m + n)) nodes_read
            ∙ column_read (word_of Row) c.nodes.items b (rows_at (node_count c)) (first_rows_stand b c columns_stand) n d lt;
        last_row =
            ap (λ m. word_in b (rows_at m + node_count c)) nodes_read
            ∙ alone_read (row_count c) b (rows_at (node_count c) + node_count c) (last_row_stands b c columns_stand);
        row_name = λ k d lt.
            ap (λ m. word_in b (row_names_at m + k)) nodes_read
            ∙ word_read c.rows.items b (row_names_at (node_count c)) (row_names_stand b c columns_stand) k d lt;
        row_end = λ k d lt.
            ap (λ m. word_in b (row_ends_at m (rows_in b) + k)) nodes_read
            ∙ ap (λ m. word_in b (row_ends_at (node_count c) m + k)) rows_read
            ∙ end_read c.rows.items b (row_ends_at (node_count c) (row_count c)) (row_ends_stand b c columns_stand) k d lt;
        space = λ k d lt.
            word_if _ _ (lt-ltb k (names_in b) (rw names_read lt))
            ∙ ap (λ m. word_in b (spaces_at m (rows_in b) + k)) nodes_read
            ∙ ap (λ m. word_in b (spaces_at (node_count c) m + k)) rows_read
            ∙ word_read c.names.list.items b (spaces_at (node_count c) (row_count c)) (spaces_stand b c columns_stand) k d lt;
        name_end = λ k d lt.
            ap (λ m. word_in b (spaces_at m (rows_in b) + names_in b + k)) nodes_read
            ∙ ap (λ m. word_in b (spaces_at (node_count c) m + names_in b + k)) rows_read
            ∙ ap (λ m. word_in b (spaces_at (node_count c) (row_count c) + m + k)) names_read
            ∙ end_read c.names.list.items b (spaces_at (node_count c) (row_count c) + name_count c) name_ends k d lt;
      }

-- the block of columns is read as these columns
pub read_as : (c : Columns) (b : List ℕ) → b ≡ block_of c → AreWords (words_of c) → IsReadAs b c
read_as c b packed all =
    read_as_columns b c
    (λ i lt. ap (λ bytes. word_in bytes i) packed ∙ word_back (words_of c) (column_bytes c) i all lt)
    (ap length packed ∙ block_length c)

-- The block that columns are packed into.
use Rattle.std.specs.Prelude.{◌≡◌, ℕ, ◌+◌, ◌*◌, ◌<◌, ◌^◌, All, List, [], ◌∷◌, ◌++◌, get_or, length, map, true}
use Rattle.std.specs.Int.{w32, to_le_bytes}
use Rattle.std.specs.List.{flat_map}
use Rattle.h5_tree_block.specs.Block.{ends_at, first_row_in, is_block, kind_word_in, mode_in, name_ends_at, names_in, nodes_in, parents_at, row_ends_at, row_names_at, rows_in, space_word_in, texts_at, word_in}
use Rattle.h5_tree_block.specs.declared.columns.Columns.{Columns}
use Rattle.h5_tree_block.specs.declared.columns.Ended.{Ended}
use Rattle.h5_tree_block.specs.declared.columns.EndedWord.{EndedWord}
use Rattle.h5_tree_block.specs.declared.columns.EndedWord.TheVariants as ended
use Rattle.h5_tree_block.specs.declared.columns.EndedWord.TheVariants.{About}
use Rattle.h5_tree_block.specs.declared.columns.FlatNode.{FlatNode}
use Rattle.h5_tree_block.specs.declared.columns.NodeWord.{NodeWord}
use Rattle.h5_tree_block.specs.declared.columns.NodeWord.TheVariants.{End, Kind, Parent, Row, Text}

-- words as bytes, in little-endian order
abbrev pub bytes_of_words : (words : List ℕ) → List ℕ
bytes_of_words = flat_map (to_le_bytes w32)

abbrev pub AreWords : List ℕ → Type 0
AreWords = All (λ w. w < 2 ^ 32)

-- columns: one word of each node
abbrev pub word_of : NodeWord → FlatNode → ℕ
word_of Kind node = node.kind
word_of Parent node = node.parent
word_of End node = node.end
word_of Text node = node.text
word_of Row node = node.row

abbrev pub column : NodeWord → List FlatNode → List ℕ
column which = map (word_of which)

-- and one word of each row or name, and the end of its bytes
abbrev pub ended_word : EndedWord → Ended → ℕ
ended_word About row = row.word
ended_word ended.End row = row.end

abbrev pub ended_column : EndedWord → List Ended → List ℕ
ended_column which = map (ended_word which)

abbrev pub words_in : List Ended → List ℕ
words_in = ended_column About

abbrev pub ends_in : List Ended → List ℕ
ends_in = ended_column ended.End

-- the columns of nodes (those of texts and of rows have one word more), those of rows, and those of names
abbrev pub node_words : Columns → List ℕ
node_words c = column Kind c.nodes.items ++ column Parent c.nodes.items ++ column End c.nodes.items

abbrev pub place_words : Columns → List ℕ
place_words c = column Text c.nodes.items ++ (length c.text.items ∷ []) ++ column Row c.nodes.items ++ (length c.rows.items ∷ [])

abbrev pub row_words : Columns → List ℕ
row_words c = words_in c.rows.items ++ ends_in c.rows.items

abbrev pub name_words : Columns → List ℕ
name_words c = words_in c.names.list.items ++ ends_in c.names.list.items

-- the columns, one after the other, and the bytes after them
abbrev pub column_words : Columns → List ℕ
column_words c = node_words c ++ place_words c ++ row_words c ++ name_words c

abbrev pub column_bytes : Columns → List ℕ
column_bytes c = c.names.text.items ++ c.values.items ++ c.text.items

-- the number of bytes of all that, with the first nine words
abbrev pub length_of : Columns → ℕ
length_of c = (11 + 5 * length c.nodes.items + 2 * length c.rows.items + 2 * length c.names.list.items) * 4 + length c.names.text.items + length c.values.items + length c.text.items

-- the first nine words
abbrev pub front_words : Columns → List ℕ
front_words c =
    0x31544748 ∷ length_of c ∷ c.mode
    ∷ length c.nodes.items ∷ length c.rows.items ∷ length c.names.list.items
    ∷ length c.names.text.items ∷ length c.values.items ∷ length c.text.items ∷ []

abbrev pub words_of : Columns → List ℕ
words_of c = front_words c ++ column_words c

abbrev pub block_of : Columns → List ℕ
block_of c = bytes_of_words (words_of c) ++ column_bytes c

-- a block is read as these words
abbrev pub AreWordsOf : (block words : List ℕ) → Type 0
AreWordsOf b words = (i : ℕ) → i < length words → word_in b i ≡ get_or words i 0

-- a block is read as these columns: each node, each row and each name has its words
pub record IsReadAs (b : List ℕ) (c : Columns) : Type 0 where
  pub is : is_block b ≡ true
  pub mode : mode_in b ≡ c.mode
  pub nodes : nodes_in b ≡ length c.nodes.items
  pub rows : rows_in b ≡ length c.rows.items
  pub names : names_in b ≡ length c.names.list.items
  pub kind : (n : ℕ) (d : FlatNode) → n < length c.nodes.items → kind_word_in b n ≡ (get_or c.nodes.items n d).kind
  pub parent : (n : ℕ) (d : FlatNode) → n < length c.nodes.items → word_in b (parents_at (nodes_in b) + n) ≡ (get_or c.nodes.items n d).parent
  pub end : (n : ℕ) (d : FlatNode) → n < length c.nodes.items → word_in b (ends_at (nodes_in b) + n) ≡ (get_or c.nodes.items n d).end
  pub text : (n : ℕ) (d : FlatNode) → n < length c.nodes.items → word_in b (texts_at (nodes_in b) + n) ≡ (get_or c.nodes.items n d).text
  pub last_text : word_in b (texts_at (nodes_in b) + length c.nodes.items) ≡ length c.text.items
  pub row : (n : ℕ) (d : FlatNode) → n < length c.nodes.items → first_row_in b n ≡ (get_or c.nodes.items n d).row
  pub last_row : first_row_in b (length c.nodes.items) ≡ length c.rows.items
  pub row_name : (k : ℕ) (d : Ended) → k < length c.rows.items → word_in b (row_names_at (nodes_in b) + k) ≡ (get_or c.rows.items k d).word
  pub row_end : (k : ℕ) (d : Ended) → k < length c.rows.items → word_in b (row_ends_at (nodes_in b) (rows_in b) + k) ≡ (get_or c.rows.items k d).end
  pub space : (k : ℕ) (d : Ended) → k < length c.names.list.items → space_word_in b k ≡ (get_or c.names.list.items k d).word
  pub name_end : (k : ℕ) (d : Ended) → k < length c.names.list.items → word_in b (name_ends_at b + k) ≡ (get_or c.names.list.items k d).end

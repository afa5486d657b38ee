use Rattle.std.proofs.Common.{◌≡◌, ◌∙◌, ap, rules}
use Rattle.h5_tree_block.specs.Block.{word_in}
use Rattle.h5_tree_block.specs.Packed.{block_of, column_bytes, column_words, front_words, words_of}
use Rattle.h5_tree_block.proofs.PackLaws.{word_back, words_append}
use Rattle.h5_tree_block.proofs.ReadLaws.{read_as}
use Rattle.h5_tree_block.proofs.columns.Columns.pack.Goals as goal

pub returns-clause-words : goal.returns-clause-words
returns-clause-words c = λ i lt.
    let s = c.args.self.now in
    let packed : c.put_bytes.new.block.items ≡ block_of s = search rules in
    ap (λ b. word_in b i) packed ∙ word_back (words_of s) (column_bytes s) i (words_append (front_words s) (column_words s) (search rules) (search rules)) lt

pub returns-clause-read : goal.returns-clause-read
returns-clause-read c =
    let s = c.args.self.now in
    let packed : c.put_bytes.new.block.items ≡ block_of s = search rules in
    read_as s c.put_bytes.new.block.items packed (words_append (front_words s) (column_words s) (search rules) (search rules))

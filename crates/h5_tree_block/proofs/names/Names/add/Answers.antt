use Rattle.std.proofs.Common.{◌++◌, ◌∙◌, ap, arith}
use Rattle.h5_tree_block.specs.Columns.{names_held}
use Rattle.h5_tree_block.proofs.NameLaws.{name_more}
use Rattle.h5_tree_block.proofs.names.Names.add.Goals as goal

pub returns-clause-names : goal.returns-clause-names
returns-clause-names c =
    let n = names_held c.args.self.now in
    let bytes = c.in_ok-extend_from_slice.ensures.items ∙ ap (λ t. n.texts.bytes ++ t) (c.as_bytes.ensures.value ∙ c.as_str.ensures) in
    name_more c.args.name.now n c.add.new.self c.push.new.self.items c.extend_from_slice.new.self.items c.name_word-word.result c.in_ok-end.end
    c.requires c.in_ok-number.ensures.names c.name_word-word.ensures bytes (omega (arith, c.in_ok-end.ensures.length, c.len.ensures, c.extend_from_slice.new.self.ok.0)) c.in_ok-push.ensures.items

use Rattle.std.proofs.Common.{arith, sym}
use Rattle.h5_tree_block.specs.Columns.{names_held}
use Rattle.h5_tree_block.proofs.NameLaws.{name_is_known}
use Rattle.h5_tree_block.proofs.names.Names.number_at.Goals as goal

pub returns-then-is-clause-names : goal.returns-then-is-clause-names
returns-then-is-clause-names c =
    sym (name_is_known c.args.name.now (names_held c.args.self.now) (omega (arith, c.is.ensures.number c.if-is.true, c.is.ensures.known c.if-is.true)))

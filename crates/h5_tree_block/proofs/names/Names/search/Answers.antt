use Rattle.std.proofs.Common.{◌≡◌, ◌∙◌, IfOk, subst, sym}
use Rattle.h5_names.specs.AttributeText.{is_same_name}
use Rattle.h5_tree_block.specs.Columns.{names_held}
use Rattle.h5_tree_block.proofs.NameLaws.{is_known, is_new, name_is_known}
use Rattle.h5_tree_block.proofs.names.Names.search.Goals as goal

pub add-requires : goal.add-requires
add-requires c = is_new (λ one. is_same_name one c.args.name.now) c.args.self.now.numbered (sym c.find.ensures ∙ c.in-None.is)

pub returns-in-Some-clause-names : goal.returns-in-Some-clause-names
returns-in-Some-clause-names c =
    let known = is_known (λ one. is_same_name one c.args.name.now) c.args.self.now.numbered c.in-Some.number (sym c.find.ensures ∙ c.in-Some.is) in
    sym (name_is_known c.args.name.now (names_held c.args.self.now) known)

pub returns-in-None-clause-number : goal.returns-in-None-clause-number
returns-in-None-clause-number c =
    let met = c.args.self.now.numbered in
    let new = is_new (λ one. is_same_name one c.args.name.now) met (sym c.find.ensures ∙ c.in-None.is) in
    subst (λ n. IfOk c.add.result (λ number. number ≡ n)) (sym new) c.add.ensures.number

use Rattle.std.proofs.Common.{◌≡◌, arith, length, subst, sym}
use Rattle.h5_tree_block.specs.Columns.{number_of}
use Rattle.h5_tree_block.proofs.NameLaws.{numbered_put}
use Rattle.h5_tree_block.proofs.numbered_names.NumberedNames.add.Goals as goal

pub invariant_of-self-in-Ok : goal.invariant_of-self-in-Ok
invariant_of-self-in-Ok c =
    let names = c.self.inside.names.items in
    let name = c.args.name.now in
    let next : number_of names name ≡ length names = subst (λ ns. number_of ns name ≡ length ns) (sym c.self.view_is) c.requires in
    numbered_put names c.push.new.self.items name c.in_ok-clone.field-0 c.in_ok-key.key c.self.inside.numbers c.insert.new.self c.in_ok-number.number next
    c.in_ok-push.ensures.items c.in_ok-clone.ensures c.in_ok-key.ensures (omega (arith, c.in_ok-number.ensures.length, c.len.ensures, c.self.inside.names.ok.0)) c.in-Ok.ensures.updates c.self.invariant

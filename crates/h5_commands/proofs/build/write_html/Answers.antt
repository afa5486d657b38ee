use Rattle.std.proofs.Common.{◌≡◌, true, false, Err, ap, sym, ◌∙◌}
use Rattle.h5_arena.specs.ArenaModel.{forest_seen}
use Rattle.h5_commands.proofs.build.write_html.Goals as goal

not_both : false ≡ true → ⊥
not_both e = absurd (cc)

pub unreachable-requires : goal.unreachable-requires
unreachable-requires c = not_both (sym (c.no_call_lacks_a_parent.ensures (forest_seen c.at-node.result.arena.now) c.at-node.result.id.index _ _) ∙ c.in-Err-NoParent.ensures.no_parent (ap Err c.in-Err-NoParent.field-0-is))

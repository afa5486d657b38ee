use Rattle.h5_arena.proofs.tree.Arena.siblings_before.Goals as goal

pub returns-clause-held : goal.returns-clause-held
returns-clause-held c = c.before-2.ensures.held c.args.self.now c.siblings_with_self.ensures.held

use Rattle.h5_arena.proofs.tree.Arena.siblings_after.Goals as goal

pub returns-clause-held : goal.returns-clause-held
returns-clause-held c = c.behind.ensures.held c.args.self.now c.siblings_with_self.ensures.held

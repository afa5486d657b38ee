use Rattle.std.proofs.Common.{◌≡◌, drop, map}
use Rattle.h5_selectors.specs.Languages.{first_language}
use Rattle.h5_selectors.proofs.languages.first_language.Given as goal

abbrev pub invariant-loop-id : goal.invariant-loop-id
invariant-loop-id g l = first_language (g.T.Tree.forest l.tree) (map g.T.Tree.number (drop l.id-index l.list)) ≡ first_language (g.T.Tree.forest l.tree) (map g.T.Tree.number l.list)

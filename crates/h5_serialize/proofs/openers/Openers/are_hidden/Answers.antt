use Rattle.std.proofs.Common.{◌∙◌, ap, sym}
use Rattle.h5_serialize.specs.Openers.{are_hidden}
use Rattle.h5_serialize.proofs.EntryLemmas.{last_marked}
use Rattle.h5_serialize.proofs.openers.Openers.are_hidden.Goals as goal

pub returns-in-Some : goal.returns-in-Some
returns-in-Some c = last_marked c.self.inside.entries.items c.in-Some.entry.now (rw c.deref.ensures.value at (sym c.in-Some.ensures.value)) c.self.invariant ∙ ap are_hidden c.self.view_is

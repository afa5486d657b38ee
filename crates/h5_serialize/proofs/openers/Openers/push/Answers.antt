use Rattle.std.proofs.Common.{◌∙◌, ap, sym, ◌||◌}
use Rattle.h5_serialize.specs.Openers.{are_hidden}
use Rattle.h5_serialize.proofs.EntryLemmas.{marked_push}
use Rattle.h5_serialize.proofs.openers.Openers.push.Goals as goal

pub invariant_of-self-2 : goal.invariant_of-self-2
invariant_of-self-2 c =
    let hidden = c.is_hidden_inside-is_hidden.ensures ∙ ap (λ b. c.args.opener.is_void || b) (c.are_hidden.ensures ∙ ap are_hidden (sym c.self.view_is)) in
    rw c.in_ok-push.ensures.items (marked_push c.self.inside.entries.items _ c.self.invariant hidden)

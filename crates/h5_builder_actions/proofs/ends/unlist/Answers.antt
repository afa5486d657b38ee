use Rattle.std.proofs.Common.{[], ap, refl, sym, ◌++◌, ◌∙◌, ◌≡◌}
use Rattle.h5_builder_spec.proofs.changes.RemovalLaws.{all_unlisted}
use Rattle.h5_builder_spec.specs.formatting.FormattingList.{ElementEntry, without_entry}
use Rattle.h5_builder_spec.proofs.entries.RoundLaws.{without_entry_at}
use Rattle.h5_builder_state.specs.Steps.{world_of}
use Rattle.h5_builder_actions.proofs.RelistsLaws.{sound_relisted}
use Rattle.h5_builder_actions.specs.Restacks.{MayRestack}
use Rattle.h5_builder_actions.proofs.EntryStampLaws.{low_unlisted}
use Rattle.h5_builder_actions.proofs.ends.unlist.Goals as goal

pub returns : goal.returns
returns g c = λ n k.
    let state = c.args.state.now in
    let w = world_of g.S.TreeSink c.args.sink.now state in
    let less : k.newer ++ k.older ≡ without_entry n w.formatting = sym (ap (without_entry n) k.cut ∙ without_entry_at n k.tag k.newer k.older k.first) in
    let done = c.drop_entry.ensures.done k.newer k.older (ElementEntry n k.tag) k.cut k.here ∙ ap (λ l. record w { formatting = l }) less in
    let node = g.S.TreeSink.node in
    let items = state.active_formatting in
    let may : MayRestack node state.open_elems 0 [] items = record { stamped = c.requires.sound.stamped; below = low_unlisted node state.open_elems 0 [] items (λ m i. absurd i) } in
    record {
      world = done;
      quiet = refl;
      sound = sound_relisted g.S.TreeSink c.args.sink.now state c.drop_entry.new.state (without_entry n w.formatting) c.drop_entry.ensures.stack done c.requires.sound
          (all_unlisted w.forest w.stack n c.requires.sound.sound)
          (c.drop_entry.ensures.restack 0 [] may).stamped;
    }

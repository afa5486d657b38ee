use Rattle.std.specs.Prelude.{◌≡◌, false}
use Rattle.std.specs.Vec.Iter.{into_iter_items}
use Rattle.h5_builder_spec.specs.inner.Kept.{Fits, HasLists}
use Rattle.h5_builder_spec.specs.Sound.{Sound}
use Rattle.h5_tree_builder.specs.Held.{building}
use Rattle.h5_tree_builder.specs.Replies.{reply_texts, token_texts}
use Rattle.h5_tree_builder.proofs.WholeLaws.{Onward}
use Rattle.h5_tree_builder.proofs.builder.TreeBuilder.process_all.Given as goal

abbrev pub invariant-tokens : goal.invariant-tokens
invariant-tokens g l =
    let now = building g.Sink.TreeSink.sees g.Sink.TreeSink.node l.self in
    let old = building g.Sink.TreeSink.sees g.Sink.TreeSink.node l.fn.self in
    record {
      sound : Sound now.view.world;
      lists : now.view.failed ≡ false → HasLists now.view.world;
      fits : now.view.failed ≡ false → now.view.ended ≡ false → Fits now.view.world;
      ended : l.self.ended ≡ l.fn.self.ended;
      onward : Onward g.Sink.TreeSink.choices (token_texts l.fn.tokens.items) (token_texts (into_iter_items l.token-iterator)) old now (reply_texts g.Sink.TreeSink.node l.replies.items);
    }

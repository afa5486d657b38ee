use Rattle.std.specs.Vec.Iter.{into_iter_items}
use Rattle.h5_arena.specs.ArenaModel.{place, seen_of}
use Rattle.h5_print.specs.Items.{item_texts}
use Rattle.h5_tree_builder.specs.Held.{building}
use Rattle.h5_tree_builder.specs.Replies.{reply_texts, token_texts}
use Rattle.h5_commands.proofs.ItemLaws.{Left}
use Rattle.h5_commands.proofs.build.take_items.Given as goal

abbrev pub invariant-items : goal.invariant-items
invariant-items l =
    Left (item_texts l.fn.items.items) (building seen_of place l.fn.builder).view (building seen_of place l.builder).view
    (reply_texts place l.replies.items) (token_texts l.tokens.items) (item_texts (into_iter_items l.item-iterator))

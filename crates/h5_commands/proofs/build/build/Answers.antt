use Rattle.std.proofs.Common.{◌≡◌, ◌++◌, ℕ, Vec, Global, ap, ◌∙◌, rules, string_bytes}
use Rattle.std.proofs.lemmas.Result.{err_from_is_err_and}
use Rattle.h5_arena.specs.ArenaModel.{arena_choices, place, seen_of}
use Rattle.h5_print.specs.Items.{item_texts}
use Rattle.h5_tree_builder.specs.Builder.{ended_view}
use Rattle.h5_tree_builder.specs.Held.{building}
use Rattle.h5_tree_builder.specs.Replies.{reply_texts}
use Rattle.h5_commands.specs.Printed.{after_items, first_view, replies_to_items, reply_lines}
use Rattle.h5_commands.proofs.ItemLaws.{sink_is_built}
use Rattle.h5_commands.proofs.build.build.Goals as goal

pub returns-clause-prints : goal.returns-clause-prints
returns-clause-prints c =
    let items = item_texts c.args.items.items in
    let held = c.take_items.new.builder in
    let first : (building seen_of place c.new-builder.result).view ≡ first_view = search rules in
    let text = string_bytes c.in_ok-out.out in
    record {
      arena = held.sink;
      built = sink_is_built held.sink held.state held.ended held.failed (ended_view arena_choices (after_items items first_view)) (c.in_ok-replies.ensures.view ∙ ap (λ v. ended_view arena_choices (after_items items v)) first);
      tree = text;
      is_tree = search rules;
      whole = ap (λ (v : Vec ℕ Global). v.items) c.into_bytes.ensures.value
          ∙ c.in_ok-print_replies.ensures.lines
          ∙ ap (λ rs. text ++ reply_lines 1 (reply_texts place rs)) c.as_slice.ensures.value
          ∙ ap (λ rs. text ++ reply_lines 1 rs) (c.in_ok-replies.ensures.told ∙ ap (replies_to_items items) first);
    }

pub returns-in_err-print_replies-clause-memory : goal.returns-in_err-print_replies-clause-memory
returns-in_err-print_replies-clause-memory c =
    let r = err_from_is_err_and c.from_residual-in_err-print_replies.result c.from_residual-in_err-print_replies.ensures.1 in
    rw (r.1, r.2) c.in_err-print_replies.ensures.memory

-- Items of a text in turn: the processed ones, the waiting ones and the remaining ones result in the run of all.
use Rattle.std.proofs.Common.{◌≡◌, ℕ, Bool, List, [], ◌∷◌, ◌++◌, refl, sym, ap, ◌∙◌, append_assoc, append-nil}
use Rattle.h5_token.specs.Reply.{Reply}
use Rattle.h5_token.specs.TokenText.{TokenText}
use Rattle.h5_builder_spec.specs.Run.{View, after_all, after_token, replies, reply_to, run}
use Rattle.h5_arena.specs.ArenaModel.{ArenaView, arena_choices, place, seen_of}
use Rattle.h5_arena.specs.declared.nodes.NodeId.{NodeId}
use Rattle.h5_builder_state.specs.View.{world}
use Rattle.h5_builder_state.specs.declared.state.State.{State}
use Rattle.h5_tree_builder.specs.Builder.{ended_view}
use Rattle.h5_print.specs.Items.{ItemText, TheEnd, TokenAt}
use Rattle.h5_commands.specs.Printed.{IsBuilt, after_items, replies_to_items}

-- a run of some tokens, and one more
after_more : (ts : List TokenText) (t : TokenText) (v : View) → after_all arena_choices (ts ++ t ∷ []) v ≡ after_token arena_choices t (after_all arena_choices ts v)
unfolding run
after_more [] t v = refl
after_more (x ∷ ts) t v = after_more ts t (after_token arena_choices x v)

told_more : (ts : List TokenText) (t : TokenText) (v : View) (rs : List Reply) → replies arena_choices (ts ++ t ∷ []) v ++ rs ≡ replies arena_choices ts v ++ reply_to arena_choices t (after_all arena_choices ts v) ∷ rs
unfolding run
told_more [] t v rs = refl
told_more (x ∷ ts) t v rs = ap (λ z. reply_to arena_choices x v ∷ z) (told_more ts t (after_token arena_choices x v) rs)

-- the builder means `now` and gave these replies, these tokens wait, and these items remain
pub record Left (items : List ItemText) (first now : View) (told : List Reply) (waiting : List TokenText) (left : List ItemText) : Type 0 where
  pub meaning : after_items left (after_all arena_choices waiting now) ≡ after_items items first
  pub replies : told ++ (replies arena_choices waiting now ++ replies_to_items left (after_all arena_choices waiting now)) ≡ replies_to_items items first

pub all_left : (items : List ItemText) (first : View) → Left items first first [] [] items
unfolding run
all_left items first = record { meaning = refl; replies = refl }

-- a token waits with the others
pub token_waits : (items left : List ItemText) (first now : View) (told : List Reply) (waiting : List TokenText) (t : TokenText) (line : ℕ) → Left items first now told waiting (TokenAt t line ∷ left) → Left items first now told (waiting ++ t ∷ []) left
token_waits items left first now told waiting t line l = record {
  meaning = ap (after_items left) (after_more waiting t now) ∙ l.meaning;
  replies = ap (λ v. told ++ (replies arena_choices (waiting ++ t ∷ []) now ++ replies_to_items left v)) (after_more waiting t now)
      ∙ ap (λ rs. told ++ rs) (told_more waiting t now (replies_to_items left (after_token arena_choices t (after_all arena_choices waiting now))))
      ∙ l.replies;
}

-- the waiting tokens are processed, and the end is called
pub end_is_told : (items left : List ItemText) (first now next : View) (told more : List Reply) (waiting : List TokenText) → Left items first now told waiting (TheEnd ∷ left) → next ≡ ended_view arena_choices (after_all arena_choices waiting now) → more ≡ told ++ replies arena_choices waiting now → Left items first next more [] left
unfolding run
end_is_told items left first now next told more waiting l e r = record {
  meaning = ap (after_items left) e ∙ l.meaning;
  replies = ap (λ v. more ++ replies_to_items left v) e
      ∙ ap (λ rs. rs ++ replies_to_items left (ended_view arena_choices (after_all arena_choices waiting now))) r
      ∙ append_assoc told (replies arena_choices waiting now) (replies_to_items left (ended_view arena_choices (after_all arena_choices waiting now)))
      ∙ l.replies;
}

-- the sink of a builder with this meaning is what was built
pub sink_is_built : (sink : ArenaView) (state : State NodeId) (ended failed : Bool) (v : View) → record { world = world seen_of place sink state; ended = ended; failed = failed } ≡ v → IsBuilt v sink
unfolding world
sink_is_built sink state ended failed v h = record { forest = ap (λ (u : View). u.world.forest) h; quirks = ap (λ (u : View). u.world.seen_quirks) h }

use Rattle.std.proofs.Common.{◌≡◌, ℕ, Vec, Global, ◌++◌, [], ◌∷◌, ap, sym, subst, ◌∙◌, rules}
use Rattle.std.proofs.lemmas.List.{map-append}
use Rattle.std.specs.Vec.Iter.{into_iter_items}
use Rattle.h5_arena.specs.ArenaModel.{arena_choices, place, seen_of}
use Rattle.h5_builder_spec.specs.Run.{after_all, replies}
use Rattle.h5_tree_builder.specs.Builder.{ended_view}
use Rattle.h5_print.specs.Items.{item_text, item_texts}
use Rattle.h5_print.specs.declared.items.Item.TheVariants as item
use Rattle.h5_token.specs.TokenText.{token_text}
use Rattle.h5_token.specs.declared.tokens.Token.{Token}
use Rattle.h5_tree_builder.specs.Held.{building}
use Rattle.h5_tree_builder.specs.Replies.{reply_texts, token_of, token_texts}
use Rattle.h5_commands.proofs.ItemLaws.{Left, all_left, end_is_told, token_waits}
use Rattle.h5_commands.proofs.build.take_items.Goals as goal

pub items-init : goal.items-init
items-init c =
    let items = item_texts c.args.items.items in
    let first = (building seen_of place c.args.builder.now).view in
    subst (λ rs. Left items first first (reply_texts place rs) (token_texts c.new-tokens.result.items) (item_texts (into_iter_items c.into_iter-item-iterator.result))) (sym c.new-replies.ensures.items)
    (subst (λ ts. Left items first first [] (token_texts ts) (item_texts (into_iter_items c.into_iter-item-iterator.result))) (sym c.new-tokens.ensures.items)
    (subst (λ z. Left items first first [] [] (item_texts z)) (sym c.into_iter-item-iterator.ensures.into_iter_gives.0) (all_left items first)))

pub items-preserved-in-Continue-1 : goal.items-preserved-in-Continue-1
items-preserved-in-Continue-1 c =
    let items = item_texts c.args.items.items in
    let first = (building seen_of place c.args.builder.now).view in
    let now = (building seen_of place c.items.builder).view in
    let told = reply_texts place c.items.replies.items in
    let waiting = token_texts c.items.tokens.items in
    let rest = into_iter_items c.next.new.self in
    let cut : into_iter_items c.items.item-iterator ≡ c.in-Some.item ∷ rest = c.in-Some.ensures.steps.0 in
    let pushed : c.push.new.self.items ≡ c.items.tokens.items ++ (c.in-Token.token, c.in-Token.line) ∷ [] = search rules in
    let here : Left items first now told waiting (item_text c.in-Some.item ∷ item_texts rest) = subst (λ z. Left items first now told waiting (item_texts z)) cut c.items.invariant in
    let by_token : Left items first now told waiting (item_text (item.Token c.in-Token.token c.in-Token.line) ∷ item_texts rest) = subst (λ z. Left items first now told waiting (item_text z ∷ item_texts rest)) c.in-Token.is here in
    subst (λ ts. Left items first now told ts (item_texts rest)) (sym (ap token_texts pushed ∙ map-append token_of c.items.tokens.items ((c.in-Token.token, c.in-Token.line) ∷ [])))
    (token_waits items (item_texts rest) first now told waiting (token_text c.in-Token.token) c.in-Token.line by_token)

pub items-preserved : goal.items-preserved
items-preserved c =
    let items = item_texts c.args.items.items in
    let first = (building seen_of place c.args.builder.now).view in
    let now = (building seen_of place c.items.builder).view in
    let next = (building seen_of place c.end.new.self).view in
    let told = reply_texts place c.items.replies.items in
    let more = reply_texts place c.take_tokens.new.replies.items in
    let waiting = token_texts c.items.tokens.items in
    let rest = into_iter_items c.next.new.self in
    let cut : into_iter_items c.items.item-iterator ≡ c.in-Some.item ∷ rest = c.in-Some.ensures.steps.0 in
    let none : c.replace-before.new.dest.items ≡ [] = search rules in
    let here : Left items first now told waiting (item_text c.in-Some.item ∷ item_texts rest) = subst (λ z. Left items first now told waiting (item_texts z)) cut c.items.invariant in
    let by_end : Left items first now told waiting (item_text item.End ∷ item_texts rest) = subst (λ z. Left items first now told waiting (item_text z ∷ item_texts rest)) c.in-End.is here in
    let view : next ≡ ended_view arena_choices (after_all arena_choices waiting now) =
    c.end.ensures.view ∙ ap (ended_view arena_choices) (c.in_ok-take_tokens-in-End.ensures.view ∙ ap (λ (ts : Vec (Token × ℕ) Global). after_all arena_choices (token_texts ts.items) now) c.replace-before.ensures.value) in
    let answers : more ≡ told ++ replies arena_choices waiting now =
    c.in_ok-take_tokens-in-End.ensures.told ∙ ap (λ (ts : Vec (Token × ℕ) Global). told ++ replies arena_choices (token_texts ts.items) now) c.replace-before.ensures.value in
    subst (λ ts. Left items first next more (token_texts ts) (item_texts rest)) (sym none) (end_is_told items (item_texts rest) first now next told more waiting by_end view answers)

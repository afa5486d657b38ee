use Rattle.std.proofs.Common.{◌≡◌, ◌++◌, [], ◌∷◌, ap, sym, subst, ◌∙◌, arith, rules}
use Rattle.std.proofs.lemmas.List.{map-append, nil_from_length}
use Rattle.std.specs.Vec.Iter.{into_iter_items}
use Rattle.h5_token.specs.TokenText.{token_text}
use Rattle.h5_tree_builder.specs.Held.{building}
use Rattle.h5_tree_builder.specs.Replies.{reply_text, reply_texts, token_texts}
use Rattle.h5_tree_builder.proofs.WholeLaws.{Onward, onward_last, onward_next, rebuilds_plain}
use Rattle.h5_tree_builder.proofs.builder.TreeBuilder.process_all.Goals as goal

pub tokens-preserved : goal.tokens-preserved
tokens-preserved g c =
    let k = g.Sink.TreeSink.choices in
    let node = g.Sink.TreeSink.node in
    let old = building g.Sink.TreeSink.sees node c.args.self.now in
    let now = building g.Sink.TreeSink.sees node c.tokens.self in
    let new = building g.Sink.TreeSink.sees node c.reply.new.self in
    let all = token_texts c.args.tokens.items in
    let left = into_iter_items c.tokens.token-iterator in
    let rest = into_iter_items c.next.new.self in
    let told = reply_texts node c.tokens.replies.items in
    let answer = reply_text node c.in_ok-reply.reply in
    let cut : left ≡ (c.in-Some.token, c.in-Some.line_number) ∷ rest = c.in-Some.ensures.steps.0 in
    let pushed : c.push.new.self.items ≡ c.tokens.replies.items ++ c.in_ok-reply.reply ∷ [] = search rules in
    let here : Onward k all (token_text c.in-Some.token ∷ token_texts rest) old now told = subst (λ z. Onward k all (token_texts z) old now told) cut c.tokens.invariant.onward in
    record {
      sound = c.reply.ensures.sound;
      lists = c.reply.ensures.lists;
      fits = c.reply.ensures.fits;
      ended = c.reply.ensures.ended ∙ c.tokens.invariant.ended;
      onward = subst (λ x. Onward k all (token_texts rest) old new x) (sym (ap (reply_texts node) pushed ∙ map-append (reply_text node) c.tokens.replies.items (c.in_ok-reply.reply ∷ [])))
          (onward_next k all (token_texts rest) (token_text c.in-Some.token) old now new told answer c.in_ok-reply.ensures.done here);
    }

pub returns-clause-run : goal.returns-clause-run
returns-clause-run g c =
    let k = g.Sink.TreeSink.choices in
    let node = g.Sink.TreeSink.node in
    let old = building g.Sink.TreeSink.sees node c.args.self.now in
    let now = building g.Sink.TreeSink.sees node c.tokens.self in
    let all = token_texts c.args.tokens.items in
    let left = into_iter_items c.tokens.token-iterator in
    let told = reply_texts node c.tokens.replies.items in
    let none : left ≡ [] = nil_from_length left (omega (arith, c.tokens.token-iterator.rest.ok.0, c.in-None.ensures.steps.0)) in
    onward_last k all old now told (record { fitting = λ f e. record { sound = c.has_failed.ensures.sound; fits = c.has_failed.ensures.fits f e } }) (subst (λ z. Onward k all (token_texts z) old now told) none c.tokens.invariant.onward)

pub returns-clause-rebuilds : goal.returns-clause-rebuilds
returns-clause-rebuilds g c = rebuilds_plain g.Sink.TreeSink.choices (token_texts c.args.tokens.items) _ _ _ (returns-clause-run g c)

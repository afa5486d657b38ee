use Rattle.std.proofs.Common.{string_bytes, refl, ap, sym, subst, ◌∙◌}
use Rattle.h5_token.specs.TokenText.{doctype_text, tag_text, token_text}
use Rattle.h5_tables.specs.TurnText.{CommentTurn, EofTurn, NullTurn, TagTurn}
use Rattle.h5_builder_spec.specs.Run.{doctype_in, is_counted, is_empty_text, step, taken, text_step, without_lf}
use Rattle.h5_builder_spec.specs.Settle.{settle}
use Rattle.h5_builder_spec.specs.inner.Kept.{Fits}
use Rattle.h5_builder_spec.specs.World.{World}
use Rattle.h5_builder_state.specs.Steps.{world_of}
use Rattle.h5_tree_builder.specs.Chains.{IsReady, Settles}
use Rattle.h5_tree_builder.proofs.SettledLaws.{settles_as}
use Rattle.h5_tree_builder.proofs.process_token.take_token.Goals as goal

pub returns-in-TagToken-clause-settles : goal.returns-in-TagToken-clause-settles
unfolding step
returns-in-TagToken-clause-settles g c =
    let law = g.S.TreeSink in
    let w = world_of law c.args.sink.now c.args.state.now in
    subst (λ x. Settles law (step law.choices (token_text x)) (is_counted (token_text x) w) c.args.sink.now c.args.state.now c.process_to_completion.new.sink c.process_to_completion.new.state c.process_to_completion.result) (sym c.in-TagToken.is)
    (settles_as law (settle law.choices (TagTurn (tag_text c.in-TagToken.tag))) _ _ _ _ _ _ _ _ _ (ap (settle law.choices (TagTurn (tag_text c.in-TagToken.tag))) c.take_lf-ignore_lf.ensures.done) refl c.process_to_completion.ensures)

pub returns-in-CommentToken-clause-settles : goal.returns-in-CommentToken-clause-settles
unfolding step
returns-in-CommentToken-clause-settles g c =
    let law = g.S.TreeSink in
    let w = world_of law c.args.sink.now c.args.state.now in
    subst (λ x. Settles law (step law.choices (token_text x)) (is_counted (token_text x) w) c.args.sink.now c.args.state.now c.process_to_completion-in-CommentToken.new.sink c.process_to_completion-in-CommentToken.new.state c.process_to_completion-in-CommentToken.result) (sym c.in-CommentToken.is)
    (settles_as law (settle law.choices (CommentTurn (string_bytes c.in-CommentToken.text))) _ _ _ _ _ _ _ _ _ (ap (settle law.choices (CommentTurn (string_bytes c.in-CommentToken.text))) c.take_lf-ignore_lf.ensures.done) refl c.process_to_completion-in-CommentToken.ensures)

pub returns-in-NullCharacterToken-clause-settles : goal.returns-in-NullCharacterToken-clause-settles
unfolding step
returns-in-NullCharacterToken-clause-settles g c =
    let law = g.S.TreeSink in
    let w = world_of law c.args.sink.now c.args.state.now in
    subst (λ x. Settles law (step law.choices (token_text x)) (is_counted (token_text x) w) c.args.sink.now c.args.state.now c.process_to_completion-in-NullCharacterToken.new.sink c.process_to_completion-in-NullCharacterToken.new.state c.process_to_completion-in-NullCharacterToken.result) (sym c.in-NullCharacterToken.is)
    (settles_as law (settle law.choices NullTurn) _ _ _ _ _ _ _ _ _ (ap (settle law.choices NullTurn) c.take_lf-ignore_lf.ensures.done) refl c.process_to_completion-in-NullCharacterToken.ensures)

pub returns-in-EOFToken-clause-settles : goal.returns-in-EOFToken-clause-settles
unfolding step
returns-in-EOFToken-clause-settles g c =
    let law = g.S.TreeSink in
    let w = world_of law c.args.sink.now c.args.state.now in
    subst (λ x. Settles law (step law.choices (token_text x)) (is_counted (token_text x) w) c.args.sink.now c.args.state.now c.process_to_completion-in-EOFToken.new.sink c.process_to_completion-in-EOFToken.new.state c.process_to_completion-in-EOFToken.result) (sym c.in-EOFToken.is)
    (settles_as law (settle law.choices EofTurn) _ _ _ _ _ _ _ _ _ (ap (settle law.choices EofTurn) c.take_lf-ignore_lf.ensures.done) refl c.process_to_completion-in-EOFToken.ensures)

pub returns-in-DoctypeToken-clause-settles : goal.returns-in-DoctypeToken-clause-settles
unfolding step
returns-in-DoctypeToken-clause-settles g c =
    let law = g.S.TreeSink in
    let w = world_of law c.args.sink.now c.args.state.now in
    let d = doctype_text c.in-DoctypeToken.doctype in
    let v = world_of law c.args.sink.now c.take_lf-ignore_lf.new.state in
    subst (λ x. Settles law (step law.choices (token_text x)) (is_counted (token_text x) w) c.args.sink.now c.args.state.now c.take_doctype.new.sink c.take_doctype.new.state c.take_doctype.result) (sym c.in-DoctypeToken.is)
    (settles_as law (doctype_in v.mode law.choices d) _ _ _ _ _ _ _ _ _ (ap (λ (u : World). doctype_in u.mode law.choices d u) c.take_lf-ignore_lf.ensures.done) refl c.take_doctype.ensures)

pub returns-in-CharacterTokens-clause-settles : goal.returns-in-CharacterTokens-clause-settles
unfolding step
returns-in-CharacterTokens-clause-settles g c =
    let law = g.S.TreeSink in
    let w = world_of law c.args.sink.now c.args.state.now in
    let t = string_bytes c.in-CharacterTokens.text in
    let i = c.take_lf-ignore_lf.result in
    subst (λ x. Settles law (step law.choices (token_text x)) (is_counted (token_text x) w) c.args.sink.now c.args.state.now c.take_text.new.sink c.take_text.new.state c.take_text.result) (sym c.in-CharacterTokens.is)
    (settles_as law (text_step law.choices (without_lf i t)) _ _ _ _ _ _ _ _ _ (ap (text_step law.choices (without_lf i t)) c.take_lf-ignore_lf.ensures.done ∙ ap (λ b. text_step law.choices (without_lf b t) (taken w)) c.take_lf-ignore_lf.ensures.flag)
    (ap (λ b. is_empty_text (without_lf b t)) c.take_lf-ignore_lf.ensures.flag) c.take_text.ensures.settles)

pub returns-in-ParseError-clause-settles : goal.returns-in-ParseError-clause-settles
unfolding step
returns-in-ParseError-clause-settles g c =
    let law = g.S.TreeSink in
    let w = world_of law c.args.sink.now c.args.state.now in
    let ready : IsReady law c.args.sink.now c.take_lf-ignore_lf.new.state = c.take_lf-ignore_lf.ensures.ready c.requires in
    subst (λ x. Settles law (step law.choices (token_text x)) (is_counted (token_text x) w) c.args.sink.now c.args.state.now c.tell_message.new.sink c.take_lf-ignore_lf.new.state _) (sym c.in-ParseError.is)
    (record {
      came = record { world = c.tell_message.ensures.told.world ∙ c.take_lf-ignore_lf.ensures.done; turns = λ h. refl; reply = refl; quiet = λ h. absurd (cc); noted = λ h k. c.tell_message.ensures.noted };
      sound = c.tell_message.ensures.told.sound ready.sound;
      fits = subst Fits (sym c.tell_message.ensures.told.world) ready.fits;
    })

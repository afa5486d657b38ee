use Rattle.std.proofs.Common.{None, Some, ap, arith, string_bytes, sym, ◌∙◌}
use Rattle.std.proofs.lemmas.Option.{same_Some}
use Rattle.h5_token.specs.TokenText.{tag_text}
use Rattle.h5_builder_state.specs.Keys.{key_number}
use Rattle.h5_builder_state.proofs.KeyLaws.{same_key_number}
use Rattle.h5_builder_state.proofs.keys.KeyNumbers.find.Goals as goal

pub returns-in-Some : goal.returns-in-Some
returns-in-Some c = record {
  some = λ none. absurd (omega (arith, none, c.in-Some.ensures.above, c.args.self.now.first));
  same = λ other n alike h.
      sym (same_Some c.in-Some.number n (same_key_number c.args.self.now (tag_text c.args.tag.now) (string_bytes c.in_ok-key.key) (Some c.in-Some.number) c.in_ok-key.ensures
      (c.in-Some.ensures.number ∙ ap (λ key. key_number c.args.self.now key) c.as_str.ensures.value) other n alike h));
}

pub returns : goal.returns
returns c = record {
  some = λ none. absurd (omega (arith, none));
  same = λ other n alike h. (
      let found = same_key_number c.args.self.now (tag_text c.args.tag.now) (string_bytes c.in_ok-key.key) None c.in_ok-key.ensures
      (c.in-None.ensures.number ∙ ap (λ key. key_number c.args.self.now key) c.as_str.ensures.value) other n alike h in
      absurd (cc)
      );
}

use Rattle.std.proofs.Common.{[], ap, refl, ◌++◌, ◌∷◌, ◌∙◌}
use Rattle.h5_builder_state.specs.Numbered.{one_of}
use Rattle.h5_builder_state.proofs.IndexLaws.{on_err}
use Rattle.h5_builder_state.proofs.KeyLaws.{kept_still, keyed_more}
use Rattle.h5_builder_state.proofs.NumberedLaws.{numbered_more}
use Rattle.h5_builder_state.proofs.index.Index.push.Goals as goal

pub returns-in_err-key-clause-err : goal.returns-in_err-key-clause-err
returns-in_err-key-clause-err g c = on_err c.from_residual.result (λ items kept.
    kept_still c.args.self.now.key_numbers c.args.self.now.keys items kept.have_keys c.args.self.now.numbers _ _ _ _ kept.have_names c.number.ensures.stay refl refl refl)

pub returns-in_err-push_both-clause-err : goal.returns-in_err-push_both-clause-err
returns-in_err-push_both-clause-err g c = on_err c.from_residual-in_err-push_both.result (λ items kept.
    kept_still c.args.self.now.key_numbers c.args.self.now.keys items kept.have_keys c.args.self.now.numbers _ _ _ _ kept.have_names c.number.ensures.stay
    c.in_err-push_both.ensures.same_numbers c.in_err-push_both.ensures.same_keys refl)

pub returns-clause-ok : goal.returns-clause-ok
returns-clause-ok g c = λ items kept.
    record {
      have_names = numbered_more c.args.self.now.numbers items kept.have_names c.args.entry.now tt _ _
          (c.in_ok-push_both.ensures.numbers ∙ ap (λ n. c.args.self.now.numbers ++ one_of n tt ∷ []) c.entry_number.ensures) refl;
      have_keys = keyed_more c.args.self.now.key_numbers c.args.self.now.keys items kept.have_keys c.number.new.self c.number.ensures.stay c.in_ok-key.key c.args.entry.now tt
          c.in_ok-key.ensures.ok _ _ c.in_ok-push_both.ensures.keys refl;
    }

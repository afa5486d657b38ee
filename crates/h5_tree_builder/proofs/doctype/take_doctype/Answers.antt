use Rattle.std.proofs.Common.{true, refl, subst, sym, ◌∙◌}
use Rattle.h5_token.specs.TokenText.{doctype_text}
use Rattle.h5_token.specs.declared.sink.TokenSinkResult.TheVariants.{Continue}
use Rattle.h5_builder_spec.specs.Run.{doctype_in}
use Rattle.h5_builder_spec.specs.inner.Kept.{Fits}
use Rattle.h5_builder_state.specs.Steps.{errors_of, world_of}
use Rattle.h5_tree_builder.specs.Chains.{CameTo}
use Rattle.h5_builder_laws.proofs.kept.DoctypeLaws.{fits_judged}
use Rattle.h5_tree_builder.proofs.doctype.take_doctype.Goals as goal

pub returns-in_ok-judge_doctype-in-Initial : goal.returns-in_ok-judge_doctype-in-Initial
returns-in_ok-judge_doctype-in-Initial g c =
    let law = g.S.TreeSink in
    let w = world_of law c.args.sink.now c.args.state.now in
    let v = world_of law c.judge_doctype.new.sink c.judge_doctype.new.state in
    let judged = c.in_ok-judge_doctype-in-Initial.ensures in
    record {
      came = subst (λ m. CameTo law.node (doctype_in m law.choices (doctype_text c.args.doctype) w) true v (errors_of law c.args.sink.now) (errors_of law c.judge_doctype.new.sink) (record { turns = 0; answer = Continue }))
          (sym c.in-Initial.is ∙ c.current_mode.ensures) (record { world = judged.done; turns = λ h. refl; reply = refl; quiet = judged.quiet; noted = λ h k. judged.noted k });
      sound = c.judge_doctype.ensures.sound;
      fits = subst Fits (sym judged.done) (fits_judged _ _ _ (sym c.current_mode.ensures ∙ c.in-Initial.is) c.requires.sound.sound c.requires.fits);
    }

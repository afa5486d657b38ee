use Rattle.std.proofs.Common.{[], codes, sym, ◌∙◌}
use Rattle.h5_interface.specs.NewElement.{is_expanded}
use Rattle.h5_interface.proofs.ElementLemmas.{any_of_texts}
use Rattle.h5_builder_actions.proofs.form_owner.names_a_form.Goals as goal

pub returns : goal.returns
returns c = c.any_is_form.ensures ∙ sym (any_of_texts (λ a. is_expanded [] (codes "form") a.name) c.args.attrs.now)

use Rattle.std.proofs.Common.{ap, set, sym, ◌∙◌}
use Rattle.h5_builder_state.specs.Listed.{with_handle}
use Rattle.h5_builder_state.proofs.formatting_list.set_element.Goals as goal

pub returns-in-Element : goal.returns-in-Element
returns-in-Element g c = record {
  entry = c.index_mut.result.now;
  was = c.index_mut.ensures.value;
  is = ap (λ e. set c.args.entries.now.items c.args.place (with_handle c.args.handle e)) (sym c.in-Element.is);
}

pub returns-in_default : goal.returns-in_default
returns-in_default g c = record {
  entry = c.index_mut.result.now;
  was = c.index_mut.ensures.value;
  is = ap (λ e. set c.args.entries.now.items c.args.place e) (c.in_default.is ∙ sym (ap (λ e. with_handle c.args.handle e) c.in_default.is));
}

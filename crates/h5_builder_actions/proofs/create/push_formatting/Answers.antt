use Rattle.std.proofs.Common.{List, ap, arith, length, length-append, [], ◌∷◌, ◌∙◌, inl, inr, sym}
use Rattle.std.specs.List.{remove}
use Rattle.h5_token.specs.TokenText.{tag_text}
use Rattle.h5_tables.specs.declared.entry.FormatEntry.{FormatEntry}
use Rattle.h5_tables.specs.declared.entry.FormatEntry.TheVariants.{Element}
use Rattle.h5_builder_spec.proofs.entries.PushLaws.{push_free}
use Rattle.h5_builder_state.specs.Listed.{entries_of, without_place}
use Rattle.h5_builder_actions.proofs.ListLaws.{entries_pushed, entry_removed, left_parts, length_entries, pushed_full}
use Rattle.h5_builder_actions.proofs.create.push_formatting.Goals as goal

pub remove-requires : goal.remove-requires
remove-requires g c =
    omega (arith, c.in-Some.ensures.within, ap (λ (xs : List (FormatEntry _)). length xs) c.in_ok-push.ensures.ok, length-append c.args.entries.now (Element c.args.handle c.args.tag ∷ []))

pub returns-in-Some-clause-ok : goal.returns-in-Some-clause-ok
returns-in-Some-clause-ok g c = λ node.
    let t = tag_text c.args.tag in
    let items = c.args.entries.now in
    let i = c.in-Some.place in
    let within = c.in-Some.ensures.within in
    let long = ap (λ (xs : List (FormatEntry _)). length xs) c.in_ok-push.ensures.ok ∙ length-append items (Element c.args.handle c.args.tag ∷ []) in
    entry_removed node c.push.new.self c.remove.new.self i c.remove.result (omega (arith, within, long)) c.remove.ensures.value (c.remove.ensures.rest ∙ left_parts c.push.new.self i)
    ∙ ap (without_place i) (entries_pushed node items c.push.new.self (Element c.args.handle c.args.tag) c.in_ok-push.ensures.ok)
    ∙ pushed_full (node c.args.handle) t i (entries_of node items) (omega (arith, within, length_entries node items)) (c.in-Some.ensures.few node) (c.in-Some.ensures.earliest node)

pub returns-in_default-clause-ok : goal.returns-in_default-clause-ok
returns-in_default-clause-ok g c = λ node.
    entries_pushed node c.args.entries.now c.push.new.self (Element c.args.handle c.args.tag) c.in_ok-push.ensures.ok
    ∙ sym (push_free (node c.args.handle) (tag_text c.args.tag) (entries_of node c.args.entries.now) (c.in_default.ensures.few node))

pub returns-in-Some-clause-pushed : goal.returns-in-Some-clause-pushed
returns-in-Some-clause-pushed g c = inr (c.in-Some.place, c.remove.ensures.rest ∙ ap (λ xs. remove xs c.in-Some.place) c.in_ok-push.ensures.ok)

pub returns-in_default-clause-pushed : goal.returns-in_default-clause-pushed
returns-in_default-clause-pushed g c = inl c.in_ok-push.ensures.ok

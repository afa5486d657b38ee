use Rattle.std.proofs.Common.{◌≡◌, arith, subst, sym}
use Rattle.std.proofs.lemmas.Grind.{common_steps}
use Rattle.h5_names.specs.AttributeText.{attribute_texts}
use Rattle.h5_interface.specs.Forest.{IsElement}
use Rattle.h5_interface.specs.Seen.{make_element}
use Rattle.h5_interface.proofs.MakingLaws.{made_kind, make_element_rearranges}
use Rattle.h5_arena.specs.ArenaModel.{arena_choices, forest_in}
use Rattle.h5_arena.proofs.NoteLaws.{notes_element}
use Rattle.h5_arena.proofs.sink.ArenaTreeSink.create_element.Goals as goal

pub invariant_of-self-2 : goal.invariant_of-self-2
invariant_of-self-2 c =
    rw c.in_ok-push_element.ensures.ok (record {
      is_forest = (make_element_rearranges arena_choices (forest_in c.self.inside.nodes.items) c.args.name (attribute_texts c.args.attrs.items) c.args.flags c.self.invariant.is_forest).is_forest;
      notes = notes_element arena_choices (forest_in c.self.inside.nodes.items) c.args.name (attribute_texts c.args.attrs.items) c.args.flags c.self.invariant.is_forest c.self.invariant.notes;
    })

pub returns-clause-element : goal.returns-clause-element
returns-clause-element c =
    let before = forest_in c.self.inside.nodes.items in
    let made = make_element arena_choices c.args.name (attribute_texts c.args.attrs.items) c.args.flags before in
    let at : c.len-index.result ≡ arena_choices.fresh before = grind (arith, common_steps) in
    let is_element : IsElement made (arena_choices.fresh before) =
    (c.args.name, made_kind arena_choices before c.args.name (attribute_texts c.args.attrs.items) c.args.flags c.self.invariant.is_forest) in
    subst (λ f. IsElement f c.len-index.result) (sym c.in_ok-push_element.ensures.ok) (subst (IsElement made) (sym at) is_element)

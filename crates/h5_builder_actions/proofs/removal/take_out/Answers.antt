use Rattle.std.proofs.Common.{List, Some, ap, arith, cond, length, map, refl, reverse, subst, sym, ◌++◌, ◌+◌, ◌<◌, ◌≤◌, ◌∙◌, ◌∷◌, ◌≡◌, ℕ}
use Rattle.std.proofs.lemmas.List.{length-map, map-append}
use Rattle.std.proofs.lemmas.List.Edits.{length-remove}
use Rattle.h5_builder_spec.specs.Sound.{AllStand}
use Rattle.h5_builder_spec.specs.World.{name_in, names_of}
use Rattle.h5_builder_spec.specs.formatting.Adoption.{newer_than, older_than, without_node}
use Rattle.h5_builder_spec.proofs.entries.PassLaws.{stack_split, without_node_split}
use Rattle.h5_builder_state.specs.Numbered.{numbers, values}
use Rattle.h5_builder_state.proofs.ItemLaws.{length-numbers, length-values}
use Rattle.h5_builder_state.specs.Numbers.{name_number}
use Rattle.h5_builder_state.specs.Summaries.{summaries}
use Rattle.h5_builder_state.specs.View.{elements_of, kept_under, names_under, open_node, with_stack, world}
use Rattle.h5_builder_state.proofs.AttributeLaws.{open_length}
use Rattle.h5_builder_state.proofs.SummaryLaws as summary
use Rattle.h5_builder_spec.proofs.changes.RemovalLaws.{all_without}
use Rattle.h5_builder_state.proofs.RenewLaws.{numbers_removed, under_removed, values_removed}
use Rattle.h5_builder_state.proofs.StampLaws.{stamped_removed}
use Rattle.h5_builder_state.proofs.FoundLaws.{left_out}
use Rattle.h5_builder_actions.proofs.removal.take_out.Goals as goal

pub remove-requires : goal.remove-requires
unfolding world
remove-requires g c = omega (arith, c.in-Some.ensures.inside, open_length (open_node g.S.TreeSink.node) (elements_of c.args.state.now), length-values c.args.state.now.open_elems.elements)

pub renew_from-requires-clause-sound : goal.renew_from-requires-clause-sound
unfolding world
renew_from-requires-clause-sound g c =
    let node = g.S.TreeSink.node in
    let n = node c.args.handle.now in
    let w = world g.S.TreeSink.sees node c.args.sink.now c.args.state.now in
    let rest = values_removed c.args.state.now.open_elems.elements c.remove.new.self c.in-Some.place c.remove.ensures.rest in
    let left = left_out (open_node node) (elements_of c.args.state.now) (values c.remove.new.self) n c.in-Some.place w.stack refl c.in-Some.ensures.place.is_open c.in-Some.ensures.place.here rest in
    subst (λ s. AllStand w.forest s w.formatting w.head w.form w.context) (sym left) (all_without w.forest w.forest.document n w.stack c.in-Some.ensures.place.is_open c.requires.root c.requires.sound.sound)

pub renew_from-requires-clause-first : goal.renew_from-requires-clause-first
unfolding world
renew_from-requires-clause-first g c =
    let node = open_node g.S.TreeSink.node in
    let open_elems = c.args.state.now.open_elems in
    let removed : length c.remove.new.self + 1 ≡ length open_elems.elements =
    ap (λ z. length z + 1) c.remove.ensures.rest
    ∙ length-remove open_elems.elements c.in-Some.place (omega (arith, c.in-Some.ensures.inside, open_length node (elements_of c.args.state.now), length-values open_elems.elements)) in
    omega (
      arith,
      c.in-Some.ensures.inside,
      removed,
      open_length node (elements_of c.args.state.now),
      length-values open_elems.elements,
      open_length node (values c.remove.new.self),
      length-values c.remove.new.self,
    )

pub renew_from-requires-clause-kept : goal.renew_from-requires-clause-kept
unfolding world names_of names_under kept_under
renew_from-requires-clause-kept g c =
    let node = g.S.TreeSink.node in
    let f = (g.S.TreeSink.sees c.args.sink.now).forest in
    let items = elements_of c.args.state.now in
    let inside : c.in-Some.place ≤ length items = omega (arith, c.in-Some.ensures.inside, open_length (open_node node) items) in
    let rest = values_removed c.args.state.now.open_elems.elements c.remove.new.self c.in-Some.place c.remove.ensures.rest in
    subst (λ xs. reverse (map (λ element. element.summary) xs) ≡ summaries (map (name_in f) (reverse (map (open_node node) xs)))) (sym (under_removed items (values c.remove.new.self) _ c.in-Some.place rest inside))
    (summary.kept_under node f items c.in-Some.place c.requires.sound.kept.summarized)

pub renew_from-requires-clause-numbered : goal.renew_from-requires-clause-numbered
unfolding world names_of
renew_from-requires-clause-numbered g c =
    let node = g.S.TreeSink.node in
    let n = node c.args.handle.now in
    let w = world g.S.TreeSink.sees node c.args.sink.now c.args.state.now in
    let f = w.forest in
    let open_elems = c.args.state.now.open_elems in
    let is_open = c.in-Some.ensures.place.is_open in
    let newer = newer_than n w.stack in
    let older = older_than n w.stack in
    let inside : c.in-Some.place < length (numbers open_elems.elements) =
    omega (arith, c.in-Some.ensures.inside, open_length (open_node node) (elements_of c.args.state.now), length-values open_elems.elements, length-numbers open_elems.elements) in
    let here : c.in-Some.place ≡ length (map (name_in f) older) = omega (arith, c.in-Some.ensures.place.here, length-map older (name_in f)) in
    let split : names_of w ≡ map (name_in f) newer ++ name_in f n ∷ map (name_in f) older = ap (map (name_in f)) (stack_split n w.stack is_open) ∙ map-append (name_in f) newer (n ∷ older) in
    let rest = values_removed open_elems.elements c.remove.new.self c.in-Some.place c.remove.ensures.rest in
    let left = left_out (open_node node) (elements_of c.args.state.now) (values c.remove.new.self) n c.in-Some.place w.stack refl is_open c.in-Some.ensures.place.here rest in
    let names : map (name_in f) (reverse (map (open_node node) (values c.remove.new.self))) ≡ map (name_in f) newer ++ map (name_in f) older =
    ap (map (name_in f)) (left ∙ without_node_split n w.stack is_open) ∙ map-append (name_in f) newer older in
    ap (λ (z : List ℕ). map Some (reverse z)) (numbers_removed open_elems.elements c.remove.new.self c.in-Some.place c.remove.ensures.rest)
    ∙ summary.number_removed open_elems.numbers (numbers open_elems.elements) c.in-Some.place (map (name_in f) newer) (map (name_in f) older) (name_in f n) inside here
    (c.requires.sound.kept.numbered ∙ ap (map (name_number open_elems.numbers)) split)
    ∙ ap (map (name_number open_elems.numbers)) (sym names)

pub returns-in-Some-clause-world : goal.returns-in-Some-clause-world
unfolding world
returns-in-Some-clause-world g c =
    let node = g.S.TreeSink.node in
    let n = node c.args.handle.now in
    let w = world g.S.TreeSink.sees node c.args.sink.now c.args.state.now in
    let rest = values_removed c.args.state.now.open_elems.elements c.remove.new.self c.in-Some.place c.remove.ensures.rest in
    let left = left_out (open_node node) (elements_of c.args.state.now) (values c.remove.new.self) n c.in-Some.place w.stack refl c.in-Some.ensures.place.is_open c.in-Some.ensures.place.here rest in
    c.renew_from.ensures.world ∙ ap (λ s. with_stack s w) left ∙ ap (λ b. cond b (with_stack (without_node n w.stack) w) w) c.in-Some.ensures.found

pub returns-in-None-clause-world : goal.returns-in-None-clause-world
unfolding world
returns-in-None-clause-world g c =
    let node = g.S.TreeSink.node in
    let n = node c.args.handle.now in
    let w = world g.S.TreeSink.sees node c.args.sink.now c.args.state.now in
    ap (λ b. cond b (with_stack (without_node n w.stack) w) w) c.in-None.ensures.found

pub renew_from-requires-clause-stamped : goal.renew_from-requires-clause-stamped
renew_from-requires-clause-stamped g c =
    stamped_removed g.S.TreeSink.node c.args.state.now.open_elems _ c.args.state.now.active_formatting c.in-Some.place
    (values_removed c.args.state.now.open_elems.elements c.remove.new.self c.in-Some.place c.remove.ensures.rest) refl c.requires.sound.stamped

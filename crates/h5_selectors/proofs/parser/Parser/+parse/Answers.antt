use Rattle.std.proofs.Common.{◌∙◌, ◌+◌, ◌-◌, [], ◌∷◌, ap, arith, length, map, option_map, option_to_list, rules}
use Rattle.std.proofs.lemmas.List.{map-append}
use Rattle.std.proofs.lemmas.Result.{err_from_is_err_and}
use Rattle.h5_selectors.proofs.Repeating.{alone_found, alone_lacks, comma_ends, comma_lacks, comma_goes, link_ends, link_lacks, link_goes, repeated_done, repeated_ends, repeated_lacks, repeated_goes, simple_ends, simple_lacks, simple_goes}
use Rattle.h5_selectors.specs.Asking.{asked}
use Rattle.h5_selectors.specs.Counting.{taken}
use Rattle.h5_selectors.specs.Grammar.{arguments_within, comma_next, forgiven_at, item_at, link_asked, link_next, repeated, selector_at, simple_next}
use Rattle.h5_selectors.specs.declared.combinators.Link.{Link}
use Rattle.h5_selectors.proofs.parser.Parser.+parse.Goals as goal

pub others-returns-then-not-take : goal.others-returns-then-not-take
others-returns-then-not-take t c =
    let item = item_at (arguments_within c.args.nesting.room c.args.nesting.is_in_has) c.args.is_relative in
    repeated_ends (comma_next item) (length c.args.self.now.scan.rest.now) c.loop-step._step (map asked c.loop-step.all.items) c.loop-step.self.parts c.loop-step.self.scan.rest.now c.loop-step.invariant (omega (arith, c.loop-step-test.true))
    (comma_ends item (map asked c.loop-step.all.items) c.loop-step.self.parts c.loop-step.self.scan.rest.now c.take.ensures.rest (search rules))

pub others-returns-in_err-next : goal.others-returns-in_err-next
others-returns-in_err-next t c =
    let one = selector_at (arguments_within c.args.nesting.room c.args.nesting.is_in_has) c.args.is_relative in
    let item = item_at (arguments_within c.args.nesting.room c.args.nesting.is_in_has) c.args.is_relative in
    let r = err_from_is_err_and c.from_residual-in_err-next.result c.from_residual-in_err-next.ensures.1 in
    rw (r.1, r.2) (repeated_lacks (comma_next item) (length c.args.self.now.scan.rest.now) c.loop-step._step (map asked c.loop-step.all.items) c.loop-step.self.parts c.loop-step.self.scan.rest.now c.loop-step.invariant _ (omega (arith, c.loop-step-test.true))
    (comma_lacks item (map asked c.loop-step.all.items) c.loop-step.self.parts c.loop-step.self.scan.rest.now c.take.ensures.rest _ (search rules) (alone_lacks one c.loop-step.self.parts c.take.new.self.rest.now _ c.in_err-next.ensures)))

pub others-loop-step-preserved : goal.others-loop-step-preserved
others-loop-step-preserved t c =
    let one = selector_at (arguments_within c.args.nesting.room c.args.nesting.is_in_has) c.args.is_relative in
    let item = item_at (arguments_within c.args.nesting.room c.args.nesting.is_in_has) c.args.is_relative in
    let end = length c.args.self.now.scan.rest.now in
    let parts = c.selector.new.self.parts in
    let rest = c.selector.new.self.scan.rest.now in
    let items = c.loop-step.all.items in
    ap (λ all. repeated (comma_next item) (end - (c.loop-step._step + 1)) all parts rest) (ap (map asked) c.in_ok-push-2.ensures.items ∙ map-append asked items (c.in_ok-next.next ∷ []))
    ∙ repeated_goes (comma_next item) end c.loop-step._step (map asked items) c.loop-step.self.parts c.loop-step.self.scan.rest.now c.loop-step.invariant (omega (arith, c.loop-step-test.true))
    (comma_goes item (map asked items) c.loop-step.self.parts c.loop-step.self.scan.rest.now c.take.ensures.rest (taken (asked c.in_ok-next.next ∷ []) parts rest) (search rules)
    (alone_found one c.loop-step.self.parts c.take.new.self.rest.now c.in_ok-next.ensures))

pub others-returns : goal.others-returns
others-returns t c =
    let item = item_at (arguments_within c.args.nesting.room c.args.nesting.is_in_has) c.args.is_relative in
    repeated_done (comma_next item) (length c.args.self.now.scan.rest.now) c.loop-step._step (map asked c.loop-step.all.items) c.loop-step.self.parts c.loop-step.self.scan.rest.now c.loop-step.invariant (omega (arith, c.loop-step-test.false))

pub others_forgiven-returns-then-not-take : goal.others_forgiven-returns-then-not-take
others_forgiven-returns-then-not-take t c =
    let item = forgiven_at (arguments_within c.args.nesting.room c.args.nesting.is_in_has) in
    repeated_ends (comma_next item) (length c.args.self.now.scan.rest.now) c.loop-step._step (map asked c.loop-step.all.items) c.loop-step.self.parts c.loop-step.self.scan.rest.now c.loop-step.invariant (omega (arith, c.loop-step-test.true))
    (comma_ends item (map asked c.loop-step.all.items) c.loop-step.self.parts c.loop-step.self.scan.rest.now c.take.ensures.rest (search rules))

pub others_forgiven-returns-in_err-next : goal.others_forgiven-returns-in_err-next
others_forgiven-returns-in_err-next t c =
    let item = forgiven_at (arguments_within c.args.nesting.room c.args.nesting.is_in_has) in
    let r = err_from_is_err_and c.from_residual-in_err-next.result c.from_residual-in_err-next.ensures.1 in
    rw (r.1, r.2) (repeated_lacks (comma_next item) (length c.args.self.now.scan.rest.now) c.loop-step._step (map asked c.loop-step.all.items) c.loop-step.self.parts c.loop-step.self.scan.rest.now c.loop-step.invariant _ (omega (arith, c.loop-step-test.true))
    (comma_lacks item (map asked c.loop-step.all.items) c.loop-step.self.parts c.loop-step.self.scan.rest.now c.take.ensures.rest _ (search rules) c.in_err-next.ensures))

pub others_forgiven-loop-step-preserved : goal.others_forgiven-loop-step-preserved
others_forgiven-loop-step-preserved t c =
    let item = forgiven_at (arguments_within c.args.nesting.room c.args.nesting.is_in_has) in
    let end = length c.args.self.now.scan.rest.now in
    let parts = c.forgiven.new.self.parts in
    let rest = c.forgiven.new.self.scan.rest.now in
    let items = c.loop-step.all.items in
    ap (λ all. repeated (comma_next item) (end - (c.loop-step._step + 1)) all parts rest) c.in_ok-add.ensures
    ∙ repeated_goes (comma_next item) end c.loop-step._step (map asked items) c.loop-step.self.parts c.loop-step.self.scan.rest.now c.loop-step.invariant (omega (arith, c.loop-step-test.true))
    (comma_goes item (map asked items) c.loop-step.self.parts c.loop-step.self.scan.rest.now c.take.ensures.rest (taken (option_to_list (option_map asked c.in_ok-next.next)) parts rest) (search rules) c.in_ok-next.ensures)

pub others_forgiven-returns : goal.others_forgiven-returns
others_forgiven-returns t c =
    let item = forgiven_at (arguments_within c.args.nesting.room c.args.nesting.is_in_has) in
    repeated_done (comma_next item) (length c.args.self.now.scan.rest.now) c.loop-step._step (map asked c.loop-step.all.items) c.loop-step.self.parts c.loop-step.self.scan.rest.now c.loop-step.invariant (omega (arith, c.loop-step-test.false))

pub links-returns-in_default : goal.links-returns-in_default
links-returns-in_default t c =
    let arguments = arguments_within c.args.nesting.room c.args.nesting.is_in_has in
    repeated_ends (link_next arguments) (length c.args.self.now.scan.rest.now) c.loop-step._step (map link_asked c.loop-step.links.items) c.loop-step.self.parts c.loop-step.self.scan.rest.now c.loop-step.invariant (omega (arith, c.loop-step-test.true))
    (link_ends arguments c.loop-step.self.parts (map link_asked c.loop-step.links.items) c.loop-step.self.scan.rest.now c.in_default.ensures.found c.in_default.ensures.none)

pub links-returns-in_err-compound : goal.links-returns-in_err-compound
links-returns-in_err-compound t c =
    let arguments = arguments_within c.args.nesting.room c.args.nesting.is_in_has in
    let r = err_from_is_err_and c.from_residual.result c.from_residual.ensures.1 in
    rw (r.1, r.2) (repeated_lacks (link_next arguments) (length c.args.self.now.scan.rest.now) c.loop-step._step (map link_asked c.loop-step.links.items) c.loop-step.self.parts c.loop-step.self.scan.rest.now c.loop-step.invariant _ (omega (arith, c.loop-step-test.true))
    (link_lacks arguments c.loop-step.self.parts (map link_asked c.loop-step.links.items) c.loop-step.self.scan.rest.now _ c.in-Some.ensures.found c.in_err-compound.ensures))

pub links-loop-step-preserved : goal.links-loop-step-preserved
links-loop-step-preserved t c =
    let arguments = arguments_within c.args.nesting.room c.args.nesting.is_in_has in
    let end = length c.args.self.now.scan.rest.now in
    let parts = c.compound.new.self.parts in
    let rest = c.compound.new.self.scan.rest.now in
    let link : Link = record { combinator = c.in-Some.combinator; compound = c.in_ok-compound.compound } in
    ap (λ links. repeated (link_next arguments) (end - (c.loop-step._step + 1)) (map link_asked links) parts rest) c.in_ok-push.ensures.items
    ∙ repeated_goes (link_next arguments) end c.loop-step._step (map link_asked c.loop-step.links.items) c.loop-step.self.parts c.loop-step.self.scan.rest.now c.loop-step.invariant (omega (arith, c.loop-step-test.true))
    (link_goes arguments c.loop-step.self.parts c.loop-step.links.items c.loop-step.self.scan.rest.now link c.in-Some.ensures.found c.in_ok-compound.ensures)

pub links-returns : goal.links-returns
links-returns t c = repeated_done (link_next (arguments_within c.args.nesting.room c.args.nesting.is_in_has)) (length c.args.self.now.scan.rest.now) c.loop-step._step (map link_asked c.loop-step.links.items) c.loop-step.self.parts c.loop-step.self.scan.rest.now c.loop-step.invariant (omega (arith, c.loop-step-test.false))

pub simples-returns-in_default : goal.simples-returns-in_default
simples-returns-in_default t c =
    let arguments = arguments_within c.args.nesting.room c.args.nesting.is_in_has in
    repeated_ends (simple_next arguments) (length c.args.self.now.scan.rest.now) c.loop-step._step (map asked c.loop-step.all.items) c.loop-step.self.parts c.loop-step.self.scan.rest.now c.loop-step.invariant (omega (arith, c.loop-step-test.true))
    (simple_ends arguments c.loop-step.self.parts (map asked c.loop-step.all.items) c.loop-step.self.scan.rest.now (search rules))

pub simples-returns-in_err-next : goal.simples-returns-in_err-next
simples-returns-in_err-next t c =
    let arguments = arguments_within c.args.nesting.room c.args.nesting.is_in_has in
    let r = err_from_is_err_and c.from_residual-in_err-next.result c.from_residual-in_err-next.ensures.1 in
    rw (r.1, r.2) (repeated_lacks (simple_next arguments) (length c.args.self.now.scan.rest.now) c.loop-step._step (map asked c.loop-step.all.items) c.loop-step.self.parts c.loop-step.self.scan.rest.now c.loop-step.invariant _ (omega (arith, c.loop-step-test.true))
    (simple_lacks arguments c.loop-step.self.parts (map asked c.loop-step.all.items) c.loop-step.self.scan.rest.now _ (search rules)))

pub simples-loop-step-preserved : goal.simples-loop-step-preserved
simples-loop-step-preserved t c =
    let arguments = arguments_within c.args.nesting.room c.args.nesting.is_in_has in
    let end = length c.args.self.now.scan.rest.now in
    let parts = c.simple.new.self.parts in
    let rest = c.simple.new.self.scan.rest.now in
    let items = c.loop-step.all.items in
    ap (λ all. repeated (simple_next arguments) (end - (c.loop-step._step + 1)) (map asked all) parts rest) c.in_ok-push.ensures.items
    ∙ repeated_goes (simple_next arguments) end c.loop-step._step (map asked items) c.loop-step.self.parts c.loop-step.self.scan.rest.now c.loop-step.invariant (omega (arith, c.loop-step-test.true))
    (simple_goes arguments c.loop-step.self.parts items c.loop-step.self.scan.rest.now c.in-Some.next (search rules))

pub simples-returns : goal.simples-returns
simples-returns t c = repeated_done (simple_next (arguments_within c.args.nesting.room c.args.nesting.is_in_has)) (length c.args.self.now.scan.rest.now) c.loop-step._step (map asked c.loop-step.all.items) c.loop-step.self.parts c.loop-step.self.scan.rest.now c.loop-step.invariant (omega (arith, c.loop-step-test.false))

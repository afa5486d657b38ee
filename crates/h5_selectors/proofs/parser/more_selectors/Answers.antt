use Rattle.std.proofs.Common.{◌∙◌, ◌+◌, ◌-◌, [], ◌∷◌, ap, arith, false, length, map, rules}
use Rattle.std.proofs.lemmas.List.{map-append}
use Rattle.std.proofs.lemmas.Result.{err_from_is_err_and}
use Rattle.h5_selectors.proofs.Repeating.{alone_found, alone_lacks, comma_ends, comma_lacks, comma_goes, repeated_done, repeated_ends, repeated_lacks, repeated_goes}
use Rattle.h5_selectors.specs.Asking.{asked}
use Rattle.h5_selectors.specs.Counting.{taken}
use Rattle.h5_selectors.specs.Grammar.{arguments_within, comma_next, complex_at, most_levels, most_parts, repeated, top_at}
use Rattle.h5_selectors.proofs.parser.more_selectors.Goals as goal

pub returns-then-not-take : goal.returns-then-not-take
returns-then-not-take c =
    repeated_ends (comma_next top_at) (length c.args.parser.now.scan.rest.now) c.loop-step._step (map asked c.loop-step.list.items) c.loop-step.parser.parts c.loop-step.parser.scan.rest.now c.loop-step.invariant (omega (arith, c.loop-step-test.true))
    (comma_ends top_at (map asked c.loop-step.list.items) c.loop-step.parser.parts c.loop-step.parser.scan.rest.now c.take.ensures.rest (search rules))

pub returns : goal.returns
returns c =
    repeated_done (comma_next top_at) (length c.args.parser.now.scan.rest.now) c.loop-step._step (map asked c.loop-step.list.items) c.loop-step.parser.parts c.loop-step.parser.scan.rest.now c.loop-step.invariant (omega (arith, c.loop-step-test.false))

pub returns-in_err-complex : goal.returns-in_err-complex
returns-in_err-complex c =
    let r = err_from_is_err_and c.from_residual-in_err-complex.result c.from_residual-in_err-complex.ensures.1 in
    rw (r.1, r.2) (repeated_lacks (comma_next top_at) (length c.args.parser.now.scan.rest.now) c.loop-step._step (map asked c.loop-step.list.items) c.loop-step.parser.parts c.loop-step.parser.scan.rest.now c.loop-step.invariant _ (omega (arith, c.loop-step-test.true))
    (comma_lacks top_at (map asked c.loop-step.list.items) c.loop-step.parser.parts c.loop-step.parser.scan.rest.now c.take.ensures.rest _ (search rules) (alone_lacks (complex_at (arguments_within most_levels false)) most_parts c.take.new.self.rest.now _ c.in_err-complex.ensures)))

pub loop-step-preserved : goal.loop-step-preserved
loop-step-preserved c =
    let end = length c.args.parser.now.scan.rest.now in
    let parts = c.complex.new.self.parts in
    let rest = c.complex.new.self.scan.rest.now in
    let items = c.loop-step.list.items in
    ap (λ all. repeated (comma_next top_at) (end - (c.loop-step._step + 1)) all parts rest) (ap (map asked) c.in_ok-push-2.ensures.items ∙ map-append asked items (c.in_ok-complex.field-0 ∷ []))
    ∙ repeated_goes (comma_next top_at) end c.loop-step._step (map asked items) c.loop-step.parser.parts c.loop-step.parser.scan.rest.now c.loop-step.invariant (omega (arith, c.loop-step-test.true))
    (comma_goes top_at (map asked items) c.loop-step.parser.parts c.loop-step.parser.scan.rest.now c.take.ensures.rest (taken (asked c.in_ok-complex.field-0 ∷ []) parts rest) (search rules)
    (alone_found (complex_at (arguments_within most_levels false)) most_parts c.take.new.self.rest.now c.in_ok-complex.ensures))

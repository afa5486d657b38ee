use Rattle.std.proofs.Common.{◌∙◌, ◌+◌, ◌-◌, [], ◌∷◌, ap, arith, length, map, rules, string_bytes}
use Rattle.std.proofs.lemmas.List.{map-append}
use Rattle.std.proofs.lemmas.Result.{err_from_is_err_and}
use Rattle.h5_selectors.proofs.Repeating.{alone_found, alone_lacks, comma_ends, comma_lacks, comma_goes, repeated_done, repeated_ends, repeated_lacks, repeated_goes}
use Rattle.h5_selectors.specs.Counting.{taken}
use Rattle.h5_selectors.specs.Grammar.{alone, comma_next, range_item, repeated}
use Rattle.h5_selectors.proofs.parser.Parser.more_ranges.Goals as goal

pub returns-then-not-take : goal.returns-then-not-take
returns-then-not-take c =
    repeated_ends (comma_next (alone range_item)) (length c.args.self.now.scan.rest.now) c.loop-step._step (map string_bytes c.loop-step.ranges.items) c.loop-step.self.parts c.loop-step.self.scan.rest.now c.loop-step.invariant (omega (arith, c.loop-step-test.true))
    (comma_ends (alone range_item) (map string_bytes c.loop-step.ranges.items) c.loop-step.self.parts c.loop-step.self.scan.rest.now c.take.ensures.rest (search rules))

pub returns : goal.returns
returns c =
    repeated_done (comma_next (alone range_item)) (length c.args.self.now.scan.rest.now) c.loop-step._step (map string_bytes c.loop-step.ranges.items) c.loop-step.self.parts c.loop-step.self.scan.rest.now c.loop-step.invariant (omega (arith, c.loop-step-test.false))

pub returns-in_err-range : goal.returns-in_err-range
returns-in_err-range c =
    let r = err_from_is_err_and c.from_residual-in_err-range.result c.from_residual-in_err-range.ensures.1 in
    rw (r.1, r.2) (repeated_lacks (comma_next (alone range_item)) (length c.args.self.now.scan.rest.now) c.loop-step._step (map string_bytes c.loop-step.ranges.items) c.loop-step.self.parts c.loop-step.self.scan.rest.now c.loop-step.invariant _ (omega (arith, c.loop-step-test.true))
    (comma_lacks (alone range_item) (map string_bytes c.loop-step.ranges.items) c.loop-step.self.parts c.loop-step.self.scan.rest.now c.take.ensures.rest _ (search rules) (alone_lacks range_item c.loop-step.self.parts c.take.new.self.rest.now _ c.in_err-range.ensures)))

pub loop-step-preserved : goal.loop-step-preserved
loop-step-preserved c =
    let end = length c.args.self.now.scan.rest.now in
    let parts = c.range.new.self.parts in
    let rest = c.range.new.self.scan.rest.now in
    let items = c.loop-step.ranges.items in
    ap (λ all. repeated (comma_next (alone range_item)) (end - (c.loop-step._step + 1)) all parts rest) (ap (map string_bytes) c.in_ok-push-2.ensures.items ∙ map-append string_bytes items (c.in_ok-range.field-0 ∷ []))
    ∙ repeated_goes (comma_next (alone range_item)) end c.loop-step._step (map string_bytes items) c.loop-step.self.parts c.loop-step.self.scan.rest.now c.loop-step.invariant (omega (arith, c.loop-step-test.true))
    (comma_goes (alone range_item) (map string_bytes items) c.loop-step.self.parts c.loop-step.self.scan.rest.now c.take.ensures.rest (taken (string_bytes c.in_ok-range.field-0 ∷ []) parts rest) (search rules)
    (alone_found range_item c.loop-step.self.parts c.take.new.self.rest.now c.in_ok-range.ensures))

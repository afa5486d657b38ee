-- Nested selectors have less room. A function called at the same place is lower in the grammar.
use Rattle.std.proofs.Common.{◌≡◌, ◌+◌, ◌-◌, ◌*◌, [], ◌∷◌, map, option_map, option_to_list}
use Rattle.h5_selectors.specs.Asking.{asked}
use Rattle.h5_selectors.specs.Grammar.{arguments_within, comma_next, commas_at, forgiven_at, item_at, link_asked, link_next, links_at, repeated, simple_next, simples_at}
use Rattle.h5_selectors.proofs.parser.Parser.+parse.Given as goal

abbrev pub decreases-arguments : goal.decreases-arguments
decreases-arguments l = 16 * l.nesting.room + 0

abbrev pub decreases-function : goal.decreases-function
decreases-function l = 16 * l.nesting.room + 1

abbrev pub decreases-pseudo_class : goal.decreases-pseudo_class
decreases-pseudo_class l = 16 * l.nesting.room + 2

abbrev pub decreases-simple : goal.decreases-simple
decreases-simple l = 16 * l.nesting.room + 3

abbrev pub decreases-simples : goal.decreases-simples
decreases-simples l = 16 * l.nesting.room + 4

abbrev pub decreases-compound : goal.decreases-compound
decreases-compound l = 16 * l.nesting.room + 5

abbrev pub decreases-links : goal.decreases-links
decreases-links l = 16 * l.nesting.room + 6

abbrev pub decreases-complex : goal.decreases-complex
decreases-complex l = 16 * l.nesting.room + 7

abbrev pub decreases-relative : goal.decreases-relative
decreases-relative l = 16 * l.nesting.room + 7

abbrev pub decreases-selector : goal.decreases-selector
decreases-selector l = 16 * l.nesting.room + 8

abbrev pub decreases-others : goal.decreases-others
decreases-others l = 16 * l.nesting.room + 9

abbrev pub decreases-list : goal.decreases-list
decreases-list l = 16 * l.nesting.room + 10

abbrev pub decreases-of : goal.decreases-of
decreases-of l = 16 * l.nesting.room + 11

abbrev pub decreases-forgiven : goal.decreases-forgiven
decreases-forgiven l = 16 * l.nesting.room + 8

abbrev pub decreases-others_forgiven : goal.decreases-others_forgiven
decreases-others_forgiven l = 16 * l.nesting.room + 9

abbrev pub decreases-forgiving_list : goal.decreases-forgiving_list
decreases-forgiving_list l = 16 * l.nesting.room + 11

abbrev pub decreases-nth_child : goal.decreases-nth_child
decreases-nth_child l = 16 * l.nesting.room + 12

abbrev pub invariant-simples-loop-step : goal.invariant-simples-loop-step
invariant-simples-loop-step l =
    let arguments = arguments_within l.fn.nesting.room l.fn.nesting.is_in_has in
    repeated (simple_next arguments) (l._step-end - l._step) (map asked l.all.items) l.self.parts l.self.scan.rest.now ≡ simples_at arguments (option_to_list (option_map asked l.fn.begun)) l.fn.self.parts l.fn.self.scan.rest.now

abbrev pub invariant-links-loop-step : goal.invariant-links-loop-step
invariant-links-loop-step l =
    let arguments = arguments_within l.fn.nesting.room l.fn.nesting.is_in_has in
    repeated (link_next arguments) (l._step-end - l._step) (map link_asked l.links.items) l.self.parts l.self.scan.rest.now ≡ links_at arguments l.fn.self.parts l.fn.self.scan.rest.now

abbrev pub invariant-others-loop-step : goal.invariant-others-loop-step
invariant-others-loop-step l =
    let item = item_at (arguments_within l.fn.nesting.room l.fn.nesting.is_in_has) l.fn.is_relative in
    repeated (comma_next item) (l._step-end - l._step) (map asked l.all.items) l.self.parts l.self.scan.rest.now ≡ commas_at item (asked l.fn.first ∷ []) l.fn.self.parts l.fn.self.scan.rest.now

abbrev pub invariant-others_forgiven-loop-step : goal.invariant-others_forgiven-loop-step
invariant-others_forgiven-loop-step l =
    let item = forgiven_at (arguments_within l.fn.nesting.room l.fn.nesting.is_in_has) in
    repeated (comma_next item) (l._step-end - l._step) (map asked l.all.items) l.self.parts l.self.scan.rest.now
    ≡ commas_at item (option_to_list (option_map asked l.fn.first)) l.fn.self.parts l.fn.self.scan.rest.now

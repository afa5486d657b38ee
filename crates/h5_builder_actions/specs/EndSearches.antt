-- The search for the element that an end tag closes, in the form of the code.
use Rattle.std.specs.Prelude.{◌≡◌, ◌<◌, ◌+◌, ◌||◌, ℕ, nat_le, nat_lt, if◌then◌else◌, List, length}
use Rattle.h5_builder_spec.specs.stack.Scope.{cut_through}
use Rattle.h5_builder_spec.specs.insertion.Foreign.{is_named_in_any_case}
use Rattle.h5_builder_spec.specs.modes.ForeignContent.{EndSearch, Finds, ReachesHtml, ReachesRoot}
use Rattle.h5_builder_spec.specs.World.{World, names_of}
use Rattle.h5_builder_actions.specs.declared.leaving_foreign.EndSearch.{EndSearch as Kept}
use Rattle.h5_builder_actions.specs.declared.leaving_foreign.EndSearch.TheVariants as kept

abbrev pub search_of : Kept → EndSearch
search_of kept.ReachesRoot = ReachesRoot
search_of kept.ReachesHtml = ReachesHtml
search_of (kept.Finds place) = Finds

-- the place of the element that was found, which is the number of older elements
abbrev pub IsFoundIn : World → List ℕ → Kept → Type 0
IsFoundIn w local kept.ReachesRoot = Unit {0}
IsFoundIn w local kept.ReachesHtml = Unit {0}
IsFoundIn w local (kept.Finds place) = place ≡ length (cut_through (is_named_in_any_case local) (names_of w) w.stack)

-- the result by the places of the newest element of the name, of MathML or SVG, and of the newest HTML element; both
-- are one more than a place (1 for the root), or 0 if there is none
abbrev pub end_by : ℕ → ℕ → EndSearch
end_by here html = if nat_lt 1 here || nat_lt 1 html then (if nat_le here html then ReachesHtml else Finds) else ReachesRoot

-- the place of the element that was found by them
abbrev pub IsFoundBy : ℕ → ℕ → Kept → Type 0
IsFoundBy here html kept.ReachesRoot = Unit {0}
IsFoundBy here html kept.ReachesHtml = Unit {0}
IsFoundBy here html (kept.Finds place) = (place + 1 ≡ here) × (html < here)

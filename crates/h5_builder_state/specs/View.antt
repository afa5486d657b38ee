-- The world of a builder's state and its sink.
use Rattle.std.specs.Prelude.{◌≡◌, ℕ, List, ◌++◌, drop, map, reverse, take, option_map}
use Rattle.h5_names.specs.declared.qualified.QualName.{QualName}
use Rattle.h5_interface.specs.Forest.{Forest}
use Rattle.h5_interface.specs.Seen.{Seen}
use Rattle.h5_builder_spec.specs.World.{World, name_in}
use Rattle.h5_builder_state.specs.Numbered.{values}
use Rattle.h5_builder_state.specs.Listed.{entries_of}
use Rattle.h5_builder_state.specs.Summaries.{summaries}
use Rattle.h5_builder_state.specs.declared.open_element.Listed.{Listed}
use Rattle.h5_builder_state.specs.declared.open_element.OpenElement.{OpenElement}
use Rattle.h5_builder_state.specs.declared.open_element.Summary.{Summary}
use Rattle.h5_builder_state.specs.declared.state.State.{State}

-- the node of an open element
abbrev pub open_node : {H : Type 0} → (H → ℕ) → OpenElement H → ℕ
open_node node element = node element.handle

-- the node of a listed element
abbrev pub listed_node : {H : Type 0} → (H → ℕ) → Listed H → ℕ
listed_node node listed = node listed.handle

-- the open elements, the oldest first
abbrev pub elements_of : {H : Type 0} → State H → List (OpenElement H)
elements_of state = values state.open_elems.elements

-- the world; lists that grow at their end are seen with the newest first
unfoldable pub world : {S H : Type 0} → (S → Seen) → (H → ℕ) → S → State H → World
world sees node sink state = record {
  forest = (sees sink).forest;
  seen_quirks = (sees sink).quirks;
  options = state.opts;
  mode = state.mode;
  saved_mode = state.orig_mode;
  template_modes = reverse state.template_modes.items;
  pending = state.pending_table_text;
  quirks = state.quirks_mode;
  stack = reverse (map (open_node node) (elements_of state));
  formatting = entries_of (listed_node node) state.active_formatting;
  head = option_map node state.head_elem;
  form = option_map node state.form_elem;
  frameset_ok = state.frameset_ok;
  ignore_lf = state.ignore_lf;
  foster = state.foster_parenting;
  context = option_map node state.context_elem;
}

-- the names of the `count` oldest open elements, the newest first
unfoldable pub names_under : {S H : Type 0} → (S → Seen) → (H → ℕ) → S → State H → ℕ → List QualName
names_under sees node sink state count =
    map (name_in (sees sink).forest) (reverse (map (open_node node) (take count (elements_of state))))

-- the nodes of those elements
unfoldable pub stack_under : {H : Type 0} → (H → ℕ) → State H → ℕ → List ℕ
stack_under node state count = reverse (map (open_node node) (take count (elements_of state)))

-- the nodes of all other elements, which are newer
unfoldable pub stack_over : {H : Type 0} → (H → ℕ) → State H → ℕ → List ℕ
stack_over node state count = reverse (map (open_node node) (drop count (elements_of state)))

-- the summaries of the `count` oldest open elements
unfoldable pub kept_under : {H : Type 0} → State H → ℕ → List Summary
kept_under state count = reverse (map (λ element. element.summary) (take count (elements_of state)))

-- the summaries of open elements, the oldest first, are right over older ones of these names
abbrev pub IsKeptOver : {H : Type 0} → (H → ℕ) → Forest → List (OpenElement H) → List QualName → Type 0
IsKeptOver {H} node f elements older =
    reverse (map (λ (element : OpenElement H). element.summary) elements) ++ summaries older
    ≡ summaries (map (name_in f) (reverse (map (open_node node) elements)) ++ older)

abbrev pub with_stack : List ℕ → World → World
with_stack s w = record w { stack = s }

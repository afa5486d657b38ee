-- Notices to the sink before a new element is inserted, in the form of the code.
use Rattle.std.specs.Prelude.{ℕ, None, Some}
use Rattle.h5_interface.specs.Forest.{Forest, IsNode}
use Rattle.h5_interface.specs.SinkChoices.{SinkChoices}
use Rattle.h5_builder_spec.specs.insertion.FormOwner.{Marking, associates}
use Rattle.h5_builder_spec.specs.insertion.Place.{Place}
use Rattle.h5_builder_actions.specs.declared.put.Notice.{Notice}
use Rattle.h5_builder_actions.specs.declared.put.Notice.TheVariants.{AlreadyStarted, FormOwner, Nothing}

-- the marks that the sink then sets
abbrev pub marking_of : {H : Type 0} → (H → ℕ) → SinkChoices → Notice H → (element : ℕ) → Place → Marking
marking_of node choices Nothing element p = None
marking_of node choices (FormOwner form) element p = associates choices element p (Some (node form))
marking_of node choices AlreadyStarted element p = Some (λ f. choices.marks_after_started f element)

-- the form of a notice is a node
abbrev pub IsNodeIfTold : {H : Type 0} → (H → ℕ) → Forest → Notice H → Type 0
IsNodeIfTold node f Nothing = Unit {0}
IsNodeIfTold node f (FormOwner form) = IsNode f (node form)
IsNodeIfTold node f AlreadyStarted = Unit {0}

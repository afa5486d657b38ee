-- The state of the HTML serializer between two calls, and the effect of each call.
use Rattle.std.specs.Prelude.{◌≡◌, ◌||◌, ℕ, Bool, true, false, List, [], ◌∷◌, Option, Result, Ok, Err, if◌then◌else◌}
use Rattle.h5_serialize.specs.Call.{Call, StartOf, EndOf, TextOf, CommentOf, DoctypeOf, InstructionOf}
use Rattle.h5_serialize.specs.Fronts.{AppendsFront}
use Rattle.h5_serialize.specs.Openers.{base_of, lacks_parent, openers_of, openers_left}
use Rattle.h5_serialize.specs.Walk.{text_of_each}
use Rattle.h5_serialize.specs.Writing.{written}
use Rattle.h5_serialize.specs.declared.fault.SerializeFault.{SerializeFault}
use Rattle.h5_serialize.specs.declared.fault.SerializeFault.TheVariants.{NoParent, Memory, Write, Failed}
use Rattle.h5_serialize.specs.declared.openers.Opener.{Opener}
use Rattle.h5_serialize.specs.declared.options.SerializeOpts.{SerializeOpts}

-- broken after a failed allocation or a failed writer; or working, with its options and its openers
pub data Standing : Type 0 where
  Broken : Standing
  Working : (scripting_enabled create_missing_parent : Bool) (openers : List Opener) → Standing

-- a new serializer has only the base entry of its options
abbrev pub new_standing : SerializeOpts → Standing
new_standing opts = Working opts.scripting_enabled opts.create_missing_parent (base_of opts.scripting_enabled opts.traversal_scope ∷ [])

-- the result of a call
abbrev pub answer_to : Standing → Call → Result (Unit {0}) SerializeFault
answer_to Broken call = Err Failed
answer_to (Working scripting create openers) call = if lacks_parent create call openers then Err NoParent else Ok tt

-- the result of a call that needs a parent
abbrev pub parent_answer : Standing → Result (Unit {0}) SerializeFault
parent_answer Broken = Err Failed
parent_answer (Working scripting create (opener ∷ openers)) = Ok tt
parent_answer (Working scripting true []) = Ok tt
parent_answer (Working scripting false []) = Err NoParent

-- a call that fails changes nothing
abbrev pub standing_after : Standing → Call → Standing
standing_after Broken call = Broken
standing_after (Working scripting create openers) call =
    Working scripting create
    (if lacks_parent create call openers then openers else openers_left scripting call (openers_of create call openers))

-- and writes nothing
abbrev pub text_written : Standing → Call → List ℕ
text_written Broken call = []
text_written (Working scripting create openers) call =
    if lacks_parent create call openers then [] else written (openers_of create call openers) call

-- a call that may allocate
abbrev pub takes_memory : Call → Bool
takes_memory (StartOf name attrs) = true
takes_memory (EndOf name) = false
takes_memory (TextOf text) = true
takes_memory (CommentOf text) = false
takes_memory (DoctypeOf name) = false
takes_memory (InstructionOf target content) = false

-- the state and the text after a failed allocation or a failed writer. An allocation fails only in a call that may allocate, before its
-- first byte; a failed writer has taken a prefix of the call's text, and nothing else. Either happens only in a call whose result had been
-- Ok, and leaves the serializer broken. So after Memory or Write every call fails with Failed and writes nothing; and a call fails with
-- NoParent exactly if it has no parent, independent of memory and writer
abbrev pub IsBrokenBy : Standing → Option (List ℕ) → Call → SerializeFault → Standing → Option (List ℕ) → Type 0
IsBrokenBy m t call NoParent n u = ⊥
IsBrokenBy m t call Memory n u = (answer_to m call ≡ Ok tt) × (takes_memory call ≡ true) × (n ≡ Broken) × (u ≡ t)
IsBrokenBy m t call Write n u = (answer_to m call ≡ Ok tt) × (n ≡ Broken) × AppendsFront t u (text_written m call)
IsBrokenBy m t call Failed n u = ⊥

-- the text of a walk
abbrev pub walk_text : Standing → List Call → List ℕ
walk_text = text_of_each standing_after text_written

-- a call that needs a parent and has none
abbrev pub is_orphan : Standing → Call → Bool
is_orphan Broken call = false
is_orphan (Working scripting create openers) call = lacks_parent create call openers

-- true if a walk has such a call
abbrev pub has_orphan : Standing → List Call → Bool
has_orphan standing [] = false
has_orphan standing (call ∷ calls) = is_orphan standing call || has_orphan (standing_after standing call) calls

-- an HTML serializer: its state, and the contents of its writer, if known
pub record HtmlState : Type 0 where
  pub standing : Standing
  pub contents : Option (List ℕ)

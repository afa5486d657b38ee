-- The references that a serializer writes are read as their characters.
use Rattle.std.proofs.Common.{◌≡◌, ◌++◌, ℕ, List, [], ◌∷◌, Some, codes, refl, subst, append-nil}
use Rattle.h5_tokenizer_spec.specs.declared.kinds.Quote.TheVariants.{Double}
use Rattle.h5_tokenizer_spec.specs.declared.kinds.TextKind.TheVariants.{Data, Rcdata}
use Rattle.h5_tokenizer_spec.specs.Construction.{Tag, value_further}
use Rattle.h5_tokenizer_spec.specs.Lines.{normal}
use Rattle.h5_tokenizer_spec.specs.Machine.{turn}
use Rattle.h5_tokenizer_spec.specs.Reading.{ReaderPlace}
use Rattle.h5_tokenizer_spec.specs.ReferenceTable.{references}
use Rattle.h5_tokenizer_spec.specs.States.{AttributeValue, NamedCharacterReference, Quoted, Return, State, Text, ToData, ToRcdata, ToValue}
use Rattle.h5_tokenizer_spec.specs.Turn.{Reconsumed}
use Rattle.h5_round_trip.proofs.standard.QuietLaws.{quiet}
use Rattle.h5_round_trip.proofs.standard.RunLaws.{IsIn, Moves, again_at, moves_then, rows, rows_move}

-- where a text stands: in data, in the text of a title, or in a value in double quotes, of a tag so far
pub data Where : Type 0 where
  InData : Where
  InTitle : Where
  InValue : (tag : Tag) → Where

abbrev pub state_of : Where → State
state_of InData = Text Data
state_of InTitle = Text Rcdata
state_of (InValue tag) = AttributeValue (Quoted Double) tag

abbrev pub return_of : Where → Return
return_of InData = ToData
return_of InTitle = ToRcdata
return_of (InValue tag) = ToValue (Quoted Double) tag

-- what is emitted of a text there, and the place after it
abbrev pub emitted : Where → List ℕ → List ℕ
emitted (InValue tag) text = []
emitted w text = text

abbrev pub further : Where → List ℕ → Where
further (InValue tag) text = InValue (value_further text tag)
further w text = w

-- a name of the table, which ends in ';', and what it stands for
pub record IsNamed (name text : List ℕ) : Type 0 where
  pub begins : (last : List ℕ) (w : Where) → rows last (38 ∷ name) (Some (state_of w)) ≡ Some (NamedCharacterReference (return_of w) name)
  pub ends : (last : List ℕ) (w : Where) (y : ℕ) → turn references last (NamedCharacterReference (return_of w) name) y ≡ quiet (Reconsumed (emitted w text) (state_of (further w text)))

amp_begins : (last : List ℕ) (w : Where) → rows last (codes "&amp;") (Some (state_of w)) ≡ Some (NamedCharacterReference (return_of w) (codes "amp;"))
unfolding references
amp_begins last InData = refl
amp_begins last InTitle = refl
amp_begins last (InValue tag) = refl

amp_ends : (last : List ℕ) (w : Where) (y : ℕ) → turn references last (NamedCharacterReference (return_of w) (codes "amp;")) y ≡ quiet (Reconsumed (emitted w (38 ∷ [])) (state_of (further w (38 ∷ []))))
unfolding references
amp_ends last InData y = refl
amp_ends last InTitle y = refl
amp_ends last (InValue tag) y = refl

pub amp_is_named : IsNamed (codes "amp;") (38 ∷ [])
amp_is_named = record { begins = amp_begins; ends = amp_ends }

nbsp_begins : (last : List ℕ) (w : Where) → rows last (codes "&nbsp;") (Some (state_of w)) ≡ Some (NamedCharacterReference (return_of w) (codes "nbsp;"))
unfolding references
nbsp_begins last InData = refl
nbsp_begins last InTitle = refl
nbsp_begins last (InValue tag) = refl

nbsp_ends : (last : List ℕ) (w : Where) (y : ℕ) → turn references last (NamedCharacterReference (return_of w) (codes "nbsp;")) y ≡ quiet (Reconsumed (emitted w (0xc2 ∷ 0xa0 ∷ [])) (state_of (further w (0xc2 ∷ 0xa0 ∷ []))))
unfolding references
nbsp_ends last InData y = refl
nbsp_ends last InTitle y = refl
nbsp_ends last (InValue tag) y = refl

pub nbsp_is_named : IsNamed (codes "nbsp;") (0xc2 ∷ 0xa0 ∷ [])
nbsp_is_named = record { begins = nbsp_begins; ends = nbsp_ends }

less_begins : (last : List ℕ) (w : Where) → rows last (codes "&lt;") (Some (state_of w)) ≡ Some (NamedCharacterReference (return_of w) (codes "lt;"))
unfolding references
less_begins last InData = refl
less_begins last InTitle = refl
less_begins last (InValue tag) = refl

less_ends : (last : List ℕ) (w : Where) (y : ℕ) → turn references last (NamedCharacterReference (return_of w) (codes "lt;")) y ≡ quiet (Reconsumed (emitted w (60 ∷ [])) (state_of (further w (60 ∷ []))))
unfolding references
less_ends last InData y = refl
less_ends last InTitle y = refl
less_ends last (InValue tag) y = refl

pub less_is_named : IsNamed (codes "lt;") (60 ∷ [])
less_is_named = record { begins = less_begins; ends = less_ends }

greater_begins : (last : List ℕ) (w : Where) → rows last (codes "&gt;") (Some (state_of w)) ≡ Some (NamedCharacterReference (return_of w) (codes "gt;"))
unfolding references
greater_begins last InData = refl
greater_begins last InTitle = refl
greater_begins last (InValue tag) = refl

greater_ends : (last : List ℕ) (w : Where) (y : ℕ) → turn references last (NamedCharacterReference (return_of w) (codes "gt;")) y ≡ quiet (Reconsumed (emitted w (62 ∷ [])) (state_of (further w (62 ∷ []))))
unfolding references
greater_ends last InData y = refl
greater_ends last InTitle y = refl
greater_ends last (InValue tag) y = refl

pub greater_is_named : IsNamed (codes "gt;") (62 ∷ [])
greater_is_named = record { begins = greater_begins; ends = greater_ends }

quote_begins : (last : List ℕ) (w : Where) → rows last (codes "&quot;") (Some (state_of w)) ≡ Some (NamedCharacterReference (return_of w) (codes "quot;"))
unfolding references
quote_begins last InData = refl
quote_begins last InTitle = refl
quote_begins last (InValue tag) = refl

quote_ends : (last : List ℕ) (w : Where) (y : ℕ) → turn references last (NamedCharacterReference (return_of w) (codes "quot;")) y ≡ quiet (Reconsumed (emitted w (34 ∷ [])) (state_of (further w (34 ∷ []))))
unfolding references
quote_ends last InData y = refl
quote_ends last InTitle y = refl
quote_ends last (InValue tag) y = refl

pub quote_is_named : IsNamed (codes "quot;") (34 ∷ [])
quote_is_named = record { begins = quote_begins; ends = quote_ends }

-- so a reference is read, if something follows it
pub reference_moves : (p : ReaderPlace) (w : Where) (name text : List ℕ) (y : ℕ) (ys : List ℕ) → IsNamed name text → IsIn p (state_of w)
    → Moves p (38 ∷ (name ++ y ∷ ys)) (emitted w text) (state_of (further w text)) (y ∷ ys)
reference_moves p w name text y ys named h =
    let named_at = NamedCharacterReference (return_of w) name in
    subst (λ t. Moves p (38 ∷ (name ++ y ∷ ys)) t (state_of (further w text)) (y ∷ ys)) (append-nil (emitted w text))
    (moves_then (rows_move p (state_of w) named_at (38 ∷ name) (y ∷ ys) h (named.begins p.last w))
    (λ q i l. again_at q named_at (state_of (further w text)) y (emitted w text) ys i (named.ends q.last w (normal y))))

-- In the data state, the rows over one of the most frequent character references emit its text.
use Rattle.std.proofs.Common.{◌≡◌, ◌<◌, ◌==◌, ◌++◌, ◌∙◌, ℕ, List, [], ◌∷◌, length, refl, sym, ap, subst, arith, codes, false}
use Rattle.std.proofs.lemmas.Bool.{and_right}
use Rattle.h5_markup.specs.Matching.{Match, Open, No, Found, literal, or_else}
use Rattle.h5_markup.specs.Text.{gives}
use Rattle.h5_markup.proofs.Finds.{literal_gives}
use Rattle.h5_tokenizer_spec.specs.declared.kinds.TextKind.TheVariants.{Data}
use Rattle.h5_tokenizer_spec.specs.ReferenceTable.{references}
use Rattle.h5_tokenizer_spec.specs.Reading.{ReaderPlace, Passes, passed, goes, again}
use Rattle.h5_tokenizer_spec.specs.States.{Text, CharacterReference, NamedCharacterReference, ToData}
use Rattle.h5_tokenizer_states.specs.Common.{IsCommon}
use Rattle.h5_tokenizer_states.specs.MachineText.{MachineText, place_of, PassesRun}
use Rattle.h5_tokenizer_states.specs.StateOf.{state_of}
use Rattle.h5_tokenizer_states.specs.declared.machine_state.MachineState.TheVariants as at
use Rattle.h5_tokenizer_states.specs.declared.machine_state.TextState.TheVariants as t

-- the place in the data state, and the place after a reference
abbrev in_data : ReaderPlace → ReaderPlace
in_data p = record p { state = Text Data }

abbrev pub behind_common : ReaderPlace → ReaderPlace
behind_common p = record p { state = Text Data; after_return = false; began = p.line }

abbrev Reads : List ℕ → List ℕ → Type 0
Reads name text = (p : ReaderPlace) (y : ℕ) (ys : List ℕ) → Passes references (in_data p) (name ++ y ∷ ys) text (behind_common p) (y ∷ ys)

ampersand_reads : Reads (codes "&amp;") (38 ∷ [])
unfolding references
ampersand_reads p y ys =
    goes [] (CharacterReference ToData) (and_right p.after_return (38 == 10) refl) refl (again [] (NamedCharacterReference ToData []) refl refl
    (goes [] (NamedCharacterReference ToData (97 ∷ [])) refl refl (goes [] (NamedCharacterReference ToData (97 ∷ 109 ∷ [])) refl refl (goes [] (NamedCharacterReference ToData (97 ∷ 109 ∷ 112 ∷ [])) refl refl (goes [] (NamedCharacterReference ToData (97 ∷ 109 ∷ 112 ∷ 59 ∷ [])) refl refl (again (38 ∷ []) (Text Data) refl refl passed))))))

less_reads : Reads (codes "&lt;") (60 ∷ [])
unfolding references
less_reads p y ys =
    goes [] (CharacterReference ToData) (and_right p.after_return (38 == 10) refl) refl (again [] (NamedCharacterReference ToData []) refl refl
    (goes [] (NamedCharacterReference ToData (108 ∷ [])) refl refl (goes [] (NamedCharacterReference ToData (108 ∷ 116 ∷ [])) refl refl (goes [] (NamedCharacterReference ToData (108 ∷ 116 ∷ 59 ∷ [])) refl refl (again (60 ∷ []) (Text Data) refl refl passed)))))

greater_reads : Reads (codes "&gt;") (62 ∷ [])
unfolding references
greater_reads p y ys =
    goes [] (CharacterReference ToData) (and_right p.after_return (38 == 10) refl) refl (again [] (NamedCharacterReference ToData []) refl refl
    (goes [] (NamedCharacterReference ToData (103 ∷ [])) refl refl (goes [] (NamedCharacterReference ToData (103 ∷ 116 ∷ [])) refl refl (goes [] (NamedCharacterReference ToData (103 ∷ 116 ∷ 59 ∷ [])) refl refl (again (62 ∷ []) (Text Data) refl refl passed)))))

quote_reads : Reads (codes "&quot;") (34 ∷ [])
unfolding references
quote_reads p y ys =
    goes [] (CharacterReference ToData) (and_right p.after_return (38 == 10) refl) refl (again [] (NamedCharacterReference ToData []) refl refl
    (goes [] (NamedCharacterReference ToData (113 ∷ [])) refl refl (goes [] (NamedCharacterReference ToData (113 ∷ 117 ∷ [])) refl refl (goes [] (NamedCharacterReference ToData (113 ∷ 117 ∷ 111 ∷ [])) refl refl (goes [] (NamedCharacterReference ToData (113 ∷ 117 ∷ 111 ∷ 116 ∷ [])) refl refl (goes [] (NamedCharacterReference ToData (113 ∷ 117 ∷ 111 ∷ 116 ∷ 59 ∷ [])) refl refl (again (34 ∷ []) (Text Data) refl refl passed)))))))

space_reads : Reads (codes "&nbsp;") (0xc2 ∷ 0xa0 ∷ [])
unfolding references
space_reads p y ys =
    goes [] (CharacterReference ToData) (and_right p.after_return (38 == 10) refl) refl (again [] (NamedCharacterReference ToData []) refl refl
    (goes [] (NamedCharacterReference ToData (110 ∷ [])) refl refl (goes [] (NamedCharacterReference ToData (110 ∷ 98 ∷ [])) refl refl (goes [] (NamedCharacterReference ToData (110 ∷ 98 ∷ 115 ∷ [])) refl refl (goes [] (NamedCharacterReference ToData (110 ∷ 98 ∷ 115 ∷ 112 ∷ [])) refl refl (goes [] (NamedCharacterReference ToData (110 ∷ 98 ∷ 115 ∷ 112 ∷ 59 ∷ [])) refl refl (again (0xc2 ∷ 0xa0 ∷ []) (Text Data) refl refl passed)))))))

-- so it is for one that is found
at_once : (name text : List ℕ) → Reads name text → (p : ReaderPlace) (xs found behind : List ℕ) → literal name xs ≡ Found tt behind → found ≡ text → 0 < length behind
    → Passes references (in_data p) xs found (behind_common p) behind
at_once name text reads p xs found [] e f some = absurd (omega (arith, some))
at_once name text reads p xs found (y ∷ ys) e f some =
    subst (λ l. Passes references (in_data p) l found (behind_common p) (y ∷ ys)) (sym (literal_gives name xs (y ∷ ys) e))
    (subst (λ l. Passes references (in_data p) (name ++ y ∷ ys) l (behind_common p) (y ∷ ys)) (sym f) (reads p y ys))

given : (name bytes xs text behind : List ℕ) (m : Match (Unit {0})) → literal name xs ≡ m → gives bytes m ≡ Found text behind → (literal name xs ≡ Found tt behind) × (text ≡ bytes)
given name bytes xs text behind Open e h = absurd (cc)
given name bytes xs text behind No e h = absurd (cc)
given name bytes xs text behind (Found u rest) e h = let same : rest ≡ behind = cc in (e ∙ ap (λ r. Found u r) same, cc)

this_or : (P : Type 0) (name bytes xs text behind : List ℕ) (m : Match (Unit {0})) (other : Match (List ℕ)) → literal name xs ≡ m
    → (literal name xs ≡ Found tt behind → text ≡ bytes → P) → (other ≡ Found text behind → P) → or_else (gives bytes m) other ≡ Found text behind → P
this_or P name bytes xs text behind Open other e this next h = absurd (cc)
this_or P name bytes xs text behind No other e this next h = next h
this_or P name bytes xs text behind (Found u rest) other e this next h = let g = given name bytes xs text behind (Found u rest) e h in this g.0 g.1

reads_common : (p : ReaderPlace) (xs text behind : List ℕ) → IsCommon xs text behind → Passes references (in_data p) xs text (behind_common p) behind
reads_common p xs text behind h =
    let P = Passes references (in_data p) xs text (behind_common p) behind in
    let this : (name bytes : List ℕ) → Reads name bytes → literal name xs ≡ Found tt behind → text ≡ bytes → P = λ name bytes reads e f. at_once name bytes reads p xs text behind e f h.1 in
    this_or P (codes "&amp;") (38 ∷ []) xs text behind _ _ refl (this (codes "&amp;") (38 ∷ []) ampersand_reads)
    (this_or P (codes "&lt;") (60 ∷ []) xs text behind _ _ refl (this (codes "&lt;") (60 ∷ []) less_reads)
    (this_or P (codes "&gt;") (62 ∷ []) xs text behind _ _ refl (this (codes "&gt;") (62 ∷ []) greater_reads)
    (this_or P (codes "&quot;") (34 ∷ []) xs text behind _ _ refl (this (codes "&quot;") (34 ∷ []) quote_reads)
    (λ e. let g = given (codes "&nbsp;") (0xc2 ∷ 0xa0 ∷ []) xs text behind _ refl e in this (codes "&nbsp;") (0xc2 ∷ 0xa0 ∷ []) space_reads g.0 g.1)))) h.0

-- a machine that passed one
pub took_common : (m n : MachineText) (xs text behind old new : List ℕ) → m.at ≡ at.Text (t.Text Data) → IsCommon xs text behind → new ≡ old ++ text
    → n ≡ record m { after_return = false; began = m.line } → PassesRun m xs old new n behind
took_common m n xs text behind old new e h put others = record {
  text = text;
  passes = subst (λ p. Passes references p xs text (place_of n) behind) (λ i. record (place_of m) { state = state_of (sym e i) m.parts })
      (subst (λ q. Passes references (in_data (place_of m)) xs text q behind) ((λ i. record (behind_common (place_of m)) { state = state_of (sym e i) m.parts }) ∙ ap place_of (sym others))
      (reads_common (place_of m) xs text behind h));
  put = put;
}

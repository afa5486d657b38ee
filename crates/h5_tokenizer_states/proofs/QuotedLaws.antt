-- The rows over a quoted attribute add it to the tag.
use Rattle.std.proofs.Common.{◌≡◌, ℕ, ◌+◌, ◌-◌, ◌^◌, ◌<◌, ◌≤◌, Bool, true, false, ◌==◌, ◌||◌, List, [], ◌∷◌, ◌++◌, length, map, refl, sym, ap, ◌∙◌, subst, arith, if◌then◌else◌}
use Rattle.std.proofs.lemmas.Bool.{and_parts, and_right}
use Rattle.std.proofs.lemmas.Bool.Decides.{nat_tests}
use Rattle.std.proofs.lemmas.List.{append-nil}
use Rattle.std.specs.Char.{to_ascii_lowercase}
use Rattle.std.specs.Io.Iter.{u64_saturate}
use Rattle.h5_tokenizer_input.specs.Lines.{newlines}
use Rattle.h5_tokenizer_input.proofs.LineLaws.{line_none}
use Rattle.h5_tokenizer_spec.specs.declared.kinds.Quote.{Quote}
use Rattle.h5_tokenizer_spec.specs.declared.kinds.Quote.TheVariants.{Double, Single}
use Rattle.h5_tokenizer_spec.specs.Construction.{Tag, with_attribute, attribute_named_further, value_further, nameless}
use Rattle.h5_tokenizer_spec.specs.Machine.{turn}
use Rattle.h5_tokenizer_spec.specs.ReferenceTable.{references}
use Rattle.h5_tokenizer_spec.specs.Reading.{ReaderPlace, Passes, passed, goes, again, outcome, in_state}
use Rattle.h5_tokenizer_spec.specs.Signs.{equals_sign, solidus, greater_than_sign, is_blank, is_name_end, sign_of}
use Rattle.h5_tokenizer_spec.specs.States.{State, BeforeAttributeName, AttributeName, BeforeAttributeValue, AttributeValue, AfterAttributeValueQuoted, Quoted}
use Rattle.h5_tokenizer_spec.specs.Tags.{before_attribute_name_state}
use Rattle.h5_tokenizer_spec.specs.Turn.{Reconsumed}
use Rattle.h5_tokenizer_spec.proofs.ReadLaws.{passes_join}
use Rattle.h5_tokenizer_states.specs.MachineText.{MachineText, place_of, PassesRun}
use Rattle.h5_tokenizer_states.specs.Parts.{Parts}
use Rattle.h5_tokenizer_states.specs.Quoted.{IsQuoted}
use Rattle.h5_tokenizer_states.specs.Runs.{is_in, are_in}
use Rattle.h5_tokenizer_states.specs.StateOf.{state_of}
use Rattle.h5_tokenizer_states.specs.declared.machine_state.MachineState.TheVariants as at
use Rattle.h5_tokenizer_states.specs.declared.machine_state.TagState.TheVariants as g
use Rattle.h5_tokenizer_states.specs.declared.machine_state.ValueKind.TheVariants as v
use Rattle.h5_tokenizer_states.specs.declared.runs.Run.TheVariants as run
use Rattle.h5_tokenizer_states.proofs.PassLaws.{behind_run, run_passed}
use Rattle.h5_tokenizer_states.proofs.RunLaws.{none_of_four, neither}

-- the place in such a state, after a byte other than CARRIAGE RETURN, in this line
abbrev here : ReaderPlace → State → ℕ → ReaderPlace
here p state line = record p { state = state; after_return = false; line = line }

-- properties of a byte of an attribute's name
record AttributeByte (x : ℕ) : Type 0 where
  end : is_name_end x ≡ false
  equals : (x == equals_sign) ≡ false
  return : (x == 13) ≡ false
  feed : (x == 10) ≡ false

no_feed : (x : ℕ) → is_name_end x ≡ false → (x == 10) ≡ false
no_feed x h = grind (arith, nat_tests)

attribute_byte : (x : ℕ) → is_in run.AttributeName x ≡ true → AttributeByte x
attribute_byte x h =
    let n = none_of_four (is_name_end x) (x == equals_sign) (x == 0) (x == 13) h in
    record { end = n.0; equals = n.1; return = n.3; feed = no_feed x n.0 }

first_row : (tag : Tag) (x : ℕ) → AttributeByte x → (before_attribute_name_state tag x).outcome ≡ Reconsumed [] (AttributeName (with_attribute [] tag))
first_row tag x n =
    let no_end = neither (is_blank x) (x == solidus || x == greater_than_sign) n.end in
    let other = neither (x == solidus) (x == greater_than_sign) no_end.1 in
    rw (no_end.0, other.0, other.1, n.equals) refl

-- at the first byte of a name
first_outcome : (p : ReaderPlace) (tag : Tag) (x : ℕ) → p.state ≡ BeforeAttributeName tag → AttributeByte x → outcome references p x ≡ Reconsumed [] (AttributeName (with_attribute [] tag))
first_outcome p tag x e n =
    ap (λ s. (turn references p.last s (if x == 13 then 10 else x)).outcome) e
    ∙ ap (λ (b : Bool). (turn references p.last (BeforeAttributeName tag) (if b then 10 else x)).outcome) n.return
    ∙ first_row tag x n

-- what is being built in a tag
abbrev only : Tag → Parts
only tag = record { tag = tag; comment = []; doctype = nameless; buffer = []; seen = []; code = 0 }

in_line : (xs : List ℕ) → are_in run.AttributeName xs ≡ true → newlines false xs ≡ 0
in_line [] h = refl
in_line (x ∷ xs) h =
    let all = and_parts (is_in run.AttributeName x) (are_in run.AttributeName xs) h in
    let n = attribute_byte x all.0 in
    rw (n.return, n.feed) (in_line xs all.1)

name_passed : (p : ReaderPlace) (tag : Tag) (x : ℕ) (name ys : List ℕ) → p.line ≤ 2 ^ 64 - 1 → are_in run.AttributeName (x ∷ name) ≡ true → AttributeByte x
    → Passes references (in_state (AttributeName tag) p) (x ∷ (name ++ ys)) [] (here p (AttributeName (attribute_named_further (map to_ascii_lowercase (x ∷ name)) tag)) p.line) ys
name_passed p tag x name ys fits h n =
    let q : ReaderPlace = in_state (AttributeName tag) p in
    let there : behind_run q (at.Tag g.AttributeName) (only tag) (x ∷ name) ≡ here p (AttributeName (attribute_named_further (map to_ascii_lowercase (x ∷ name)) tag)) p.line =
    ap (here p (AttributeName (attribute_named_further (map to_ascii_lowercase (x ∷ name)) tag))) (sym (line_none p.line (newlines false (x ∷ name)) fits (in_line (x ∷ name) h))) in
    subst (λ r. Passes references q (x ∷ (name ++ ys)) [] r ys) there
    (run_passed references q (at.Tag g.AttributeName) (only tag) (x ∷ name) ys (x ∷ (name ++ ys)) refl (omega arith) refl fits (and_right p.after_return (x == 10) n.feed) h)

opens : (p : ReaderPlace) (quote : Quote) (tag : Tag) (line : ℕ) (ys : List ℕ)
    → Passes references (here p (AttributeName tag) line) (equals_sign ∷ (sign_of quote ∷ ys)) [] (here p (AttributeValue (Quoted quote) tag) line) ys
opens p Double tag line ys = goes [] (BeforeAttributeValue tag) refl refl (goes [] (AttributeValue (Quoted Double) tag) refl refl passed)
opens p Single tag line ys = goes [] (BeforeAttributeValue tag) refl refl (goes [] (AttributeValue (Quoted Single) tag) refl refl passed)

closes : (p : ReaderPlace) (quote : Quote) (tag : Tag) (line : ℕ) (ys : List ℕ)
    → Passes references (here p (AttributeValue (Quoted quote) tag) line) (sign_of quote ∷ ys) [] (here p (AfterAttributeValueQuoted tag) line) ys
closes p Double tag line ys = goes [] (AfterAttributeValueQuoted tag) refl refl passed
closes p Single tag line ys = goes [] (AfterAttributeValueQuoted tag) refl refl passed

value_passed : (p : ReaderPlace) (quote : Quote) (tag : Tag) (value ys : List ℕ) → p.line ≤ 2 ^ 64 - 1 → value_further [] tag ≡ tag → are_in (run.Quoted quote) value ≡ true
    → Passes references (here p (AttributeValue (Quoted quote) tag) p.line) (value ++ ys) [] (here p (AttributeValue (Quoted quote) (value_further value tag)) (u64_saturate (p.line + newlines false value))) ys
value_passed p quote tag [] ys fits none h =
    subst (λ q. Passes references (here p (AttributeValue (Quoted quote) tag) p.line) ys [] q ys) (λ i. here p (AttributeValue (Quoted quote) (sym none i)) (line_none p.line 0 fits refl i)) passed
value_passed p quote tag (x ∷ value) ys fits none h =
    run_passed references (here p (AttributeValue (Quoted quote) tag) p.line) (at.Tag (g.AttributeValue (v.Quoted quote))) (only tag) (x ∷ value) ys (x ∷ (value ++ ys)) refl (omega arith) refl fits refl h

-- a tag with a new attribute
abbrev pub with_quoted : List ℕ → List ℕ → Tag → Tag
with_quoted name value tag = value_further value (attribute_named_further (map to_ascii_lowercase name) (with_attribute [] tag))

passes_quoted : (p : ReaderPlace) (quote : Quote) (tag : Tag) (name value rest : List ℕ) → p.state ≡ BeforeAttributeName tag → p.line ≤ 2 ^ 64 - 1 → 0 < length name
    → are_in run.AttributeName name ≡ true → are_in (run.Quoted quote) value ≡ true
    → Passes references p (name ++ equals_sign ∷ (sign_of quote ∷ (value ++ sign_of quote ∷ rest))) []
    (here p (AfterAttributeValueQuoted (with_quoted name value tag)) (u64_saturate (p.line + newlines false value))) rest
passes_quoted p quote tag [] value rest e fits some named valued = absurd (omega arith)
passes_quoted p quote tag (x ∷ name) value rest e fits some named valued =
    let n = attribute_byte x (and_parts (is_in run.AttributeName x) (are_in run.AttributeName name) named).0 in
    let named_so = attribute_named_further (map to_ascii_lowercase (x ∷ name)) (with_attribute [] tag) in
    let line = u64_saturate (p.line + newlines false value) in
    again [] (AttributeName (with_attribute [] tag)) (and_right p.after_return (x == 10) n.feed) (first_outcome p tag x e n)
    (passes_join references (name_passed p (with_attribute [] tag) x name (equals_sign ∷ (sign_of quote ∷ (value ++ sign_of quote ∷ rest))) fits named n)
    (passes_join references (opens p quote named_so p.line (value ++ sign_of quote ∷ rest))
    (passes_join references (value_passed p quote named_so value (sign_of quote ∷ rest) fits refl valued)
    (closes p quote (with_quoted (x ∷ name) value tag) line rest))))

-- a machine that took such an attribute
pub took_quoted : (m n : MachineText) (xs name value rest out : List ℕ) (lines : ℕ) → m.at ≡ at.Tag g.BeforeAttributeName → m.line ≤ 2 ^ 64 - 1 → IsQuoted xs name value lines rest
    → n ≡ record m { at = at.Tag g.AfterAttributeValueQuoted; parts = record m.parts { tag = with_quoted name value m.parts.tag }; after_return = false; line = u64_saturate (m.line + lines) }
    → PassesRun m xs out out n rest
took_quoted m n xs name value rest out lines e fits q new = record {
  text = [];
  passes = subst (λ l. Passes references (place_of m) l [] (place_of n) rest) (sym q.split)
      (subst (λ place. Passes references (place_of m) (name ++ equals_sign ∷ (sign_of q.quote ∷ (value ++ sign_of q.quote ∷ rest))) [] place rest)
      (ap (here (place_of m) (AfterAttributeValueQuoted (with_quoted name value m.parts.tag))) (ap (λ l. u64_saturate (m.line + l)) (sym q.counted)) ∙ sym (ap place_of new))
      (passes_quoted (place_of m) q.quote m.parts.tag name value rest (ap (λ at. state_of at m.parts) e) fits q.some q.named q.valued));
  put = sym (append-nil out);
}

-- The rows over a `<` and a name begin a start tag.
use Rattle.std.proofs.Common.{◌≡◌, ℕ, ◌-◌, ◌^◌, ◌<◌, ◌≤◌, Bool, false, true, ◌==◌, ◌&&◌, List, [], ◌∷◌, ◌++◌, length, map, refl, sym, ap, ◌∙◌, subst, arith, append-nil, length-append, slice_index, if◌then◌else◌}
use Rattle.std.proofs.lemmas.Bool.{and_parts}
use Rattle.std.proofs.lemmas.Bool.Decides.{nat_tests}
use Rattle.std.specs.Char.{is_ascii_alphabetic, to_ascii_lowercase}
use Rattle.h5_token.specs.declared.tag.TagKind.{TagKind}
use Rattle.h5_token.specs.declared.tag.TagKind.TheVariants.{StartTag}
use Rattle.h5_tokenizer_input.specs.Lines.{newlines}
use Rattle.h5_tokenizer_input.proofs.LineLaws.{line_none}
use Rattle.h5_tokenizer_spec.specs.declared.kinds.TextKind.TheVariants.{Data}
use Rattle.h5_tokenizer_spec.specs.ReferenceTable.{references}
use Rattle.h5_tokenizer_spec.specs.Construction.{named_further, nameless, new_tag}
use Rattle.h5_tokenizer_spec.specs.Machine.{turn}
use Rattle.h5_tokenizer_spec.specs.Reading.{ReaderPlace, Passes, goes, again, outcome}
use Rattle.h5_tokenizer_spec.specs.States.{Text, TagOpen, TagName}
use Rattle.h5_tokenizer_spec.specs.Signs.{is_name_end}
use Rattle.h5_tokenizer_spec.specs.Tags.{tag_open_state}
use Rattle.h5_tokenizer_spec.specs.Turn.{Reconsumed}
use Rattle.h5_tokenizer_states.specs.MachineText.{MachineText, PassesRun, place_of}
use Rattle.h5_tokenizer_states.specs.Opening.{IsOpening}
use Rattle.h5_tokenizer_states.specs.Parts.{Parts}
use Rattle.h5_tokenizer_states.specs.Runs.{are_in, is_in}
use Rattle.h5_tokenizer_states.specs.StateOf.{state_of}
use Rattle.h5_tokenizer_states.specs.declared.machine_state.MachineState.TheVariants as at
use Rattle.h5_tokenizer_states.specs.declared.machine_state.TextState.TheVariants as text_state
use Rattle.h5_tokenizer_states.specs.declared.machine_state.TagState.TheVariants as g
use Rattle.h5_tokenizer_states.specs.declared.runs.Run.TheVariants as run
use Rattle.h5_tokenizer_states.proofs.PassLaws.{behind_run, run_passed}
use Rattle.h5_tokenizer_states.proofs.RunLaws.{none_of_three}
use Rattle.h5_standard_tokenizer.specs.Weight.{weight}
use Rattle.h5_standard_tokenizer.proofs.WeightLaws.{shorter_is_less}

-- a name is in one line
no_feed : (x : ℕ) → is_name_end x ≡ false → (x == 10) ≡ false
no_feed x h = grind (arith, nat_tests)

in_line : (xs : List ℕ) → are_in run.Name xs ≡ true → newlines false xs ≡ 0
in_line [] h = refl
in_line (x ∷ xs) h =
    let all = and_parts (is_in run.Name x) (are_in run.Name xs) h in
    let n = none_of_three (is_name_end x) (x == 0) (x == 13) all.0 in
    rw (n.2, no_feed x n.0) (in_line xs all.1)

-- in a tag with this name, which has nothing else
abbrev pub in_tag : ReaderPlace → TagKind → List ℕ → ReaderPlace
in_tag p kind name = record p { state = TagName (new_tag kind (map to_ascii_lowercase name)); after_return = false }

pub never : (b : Bool) → (b && false) ≡ false
never true = refl
never false = refl

pub outcome_at : (p : ReaderPlace) (x : ℕ) → p.state ≡ Text Data → outcome references p x ≡ outcome references (record p { state = Text Data }) x
outcome_at p x e = ap (λ s. outcome references (record p { state = s }) x) e

-- the name is passed
pub passes_name : (p : ReaderPlace) (kind : TagKind) (name rest : List ℕ) → 0 < length name → are_in run.Name name ≡ true → p.line ≤ 2 ^ 64 - 1
    → Passes references (record p { state = TagName (new_tag kind []); after_return = false }) (name ++ rest) [] (in_tag p kind name) rest
passes_name p kind name rest some h fits =
    let q : ReaderPlace = record p { state = TagName (new_tag kind []); after_return = false } in
    let parts : Parts = record { tag = new_tag kind []; comment = []; doctype = nameless; buffer = []; seen = []; code = 0 } in
    let there : behind_run q (at.Tag g.TagName) parts name ≡ in_tag p kind name = λ i. record {
      state = TagName (new_tag kind (map to_ascii_lowercase name));
      last = p.last;
      after_return = false;
      line = sym (line_none p.line (newlines false name) fits (in_line name h)) i;
      began = p.began;
    } in
    subst (λ r. Passes references q (name ++ rest) [] r rest) there
    (run_passed references q (at.Tag g.TagName) parts name rest (name ++ rest) refl some refl fits refl h)

letter_not : (x n : ℕ) → n < 65 → is_ascii_alphabetic x ≡ true → (x == n) ≡ false
letter_not x n lt h = grind (arith, nat_tests)

start_row : (x : ℕ) → is_ascii_alphabetic x ≡ true → (tag_open_state x).outcome ≡ Reconsumed [] (TagName (new_tag StartTag []))
start_row x h = rw (letter_not x 33 (omega arith) h, letter_not x 47 (omega arith) h, h) refl

opens : (p : ReaderPlace) (x : ℕ) → is_ascii_alphabetic x ≡ true → outcome references (record p { state = TagOpen; after_return = false }) x ≡ Reconsumed [] (TagName (new_tag StartTag []))
opens p x h = ap (λ (c : Bool). (turn references p.last TagOpen (if c then 10 else x)).outcome) (letter_not x 13 (omega arith) h) ∙ start_row x h

-- the `<` and the name are passed
pub passes_opening : (p : ReaderPlace) (name rest : List ℕ) → p.state ≡ Text Data → p.line ≤ 2 ^ 64 - 1 → 0 < length name → are_in run.Name name ≡ true → is_ascii_alphabetic (slice_index name 0) ≡ true
    → Passes references p (60 ∷ (name ++ rest)) [] (in_tag p StartTag name) rest
passes_opening p [] rest e fits some h letter = absurd (omega arith)
passes_opening p (x ∷ name) rest e fits some h letter =
    goes [] TagOpen (never p.after_return) (outcome_at p 60 e)
    (again [] (TagName (new_tag StartTag [])) refl (opens p x letter) (passes_name p StartTag (x ∷ name) rest some h fits))

-- a machine that passed them
pub took_opening : (m n : MachineText) (xs name behind out : List ℕ) → m.at ≡ at.Text (text_state.Text Data) → m.line ≤ 2 ^ 64 - 1 → IsOpening xs name behind
    → n ≡ record m { at = at.Tag g.TagName; parts = record m.parts { tag = named_further (map to_ascii_lowercase name) (new_tag StartTag []) }; after_return = false } → PassesRun m xs out out n behind
took_opening m n xs name behind out e fits o others = record {
  text = [];
  passes = subst (λ l. Passes references (place_of m) l [] (place_of n) behind) (sym o.split)
      (subst (λ q. Passes references (place_of m) (60 ∷ (name ++ behind)) [] q behind) (sym (ap place_of others))
      (passes_opening (place_of m) name behind (ap (λ a. state_of a m.parts) e) fits o.some o.named o.starts));
  put = sym (append-nil out);
}

-- ---- less is left

pub opening_less : (p q : ReaderPlace) (xs name behind : List ℕ) → IsOpening xs name behind → weight q behind < weight p xs
opening_less p q xs name behind o = shorter_is_less p q xs behind (omega (arith, ap length o.split, length-append name behind))

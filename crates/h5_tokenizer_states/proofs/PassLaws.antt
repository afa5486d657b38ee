-- The law of runs: the bytes of a state's run are passed, one after another, and emit and build what the run adds.
use Rattle.std.proofs.Common.{◌≡◌, ℕ, ◌+◌, ◌-◌, ◌^◌, ◌<◌, ◌≤◌, Bool, true, false, List, [], ◌∷◌, ◌++◌, length, map, take, drop, slice_index, refl, sym, ap, ◌∙◌, subst, arith, append_assoc, ◌==◌, ◌&&◌, if◌then◌else◌, Option, Some, None}
use Rattle.std.proofs.lemmas.Bool.{false≢true, and_parts, and_left}
use Rattle.std.proofs.lemmas.Bool.Decides.{nat_tests}
use Rattle.std.proofs.lemmas.List.{append-nil, take-append-drop}
use Rattle.std.specs.Char.{to_ascii_lowercase, is_ascii_alphabetic}
use Rattle.std.specs.Io.Iter.{u64_saturate}
use Rattle.std.specs.Option.{option_map}
use Rattle.h5_token.specs.TokenText.{DoctypeText}
use Rattle.h5_tokenizer_input.specs.Lines.{newlines}
use Rattle.h5_tokenizer_input.proofs.LineLaws.{line_none}
use Rattle.h5_tokenizer_spec.specs.declared.kinds.Identifier.{Identifier}
use Rattle.h5_tokenizer_spec.specs.declared.kinds.Identifier.TheVariants.{Public, System}
use Rattle.h5_tokenizer_spec.specs.Signs.{null, ampersand, hyphen, less_than_sign, equals_sign, greater_than_sign, right_square_bracket, is_blank, is_name_end, is_alphanumeric, sign_of}
use Rattle.h5_tokenizer_spec.specs.Construction.{Tag, Attribute, attribute_named_further, value_further, identifier_further}
use Rattle.h5_tokenizer_spec.specs.Turn.{Consumed}
use Rattle.h5_tokenizer_spec.specs.References.{Reference}
use Rattle.h5_tokenizer_spec.specs.ReferenceTable.{references}
use Rattle.h5_tokenizer_spec.specs.Machine.{turn}
use Rattle.h5_tokenizer_spec.specs.Reading.{ReaderPlace, Passes, passed, goes, outcome, behind, beginning, line_after, is_dropped, is_all_emitted}
use Rattle.h5_tokenizer_states.specs.Parts.{Parts}
use Rattle.h5_tokenizer_states.specs.MachineText.{MachineText, place_of, PassesRun}
use Rattle.h5_tokenizer_states.specs.StateOf.{state_of, text_state_of}
use Rattle.h5_tokenizer_states.specs.declared.machine_state.MachineState.{MachineState}
use Rattle.h5_tokenizer_states.specs.declared.machine_state.MachineState.TheVariants as at
use Rattle.h5_tokenizer_states.specs.declared.machine_state.TextState.{TextState}
use Rattle.h5_tokenizer_states.specs.declared.machine_state.TextState.TheVariants as t
use Rattle.h5_tokenizer_states.specs.declared.machine_state.TagState.{TagState}
use Rattle.h5_tokenizer_states.specs.declared.machine_state.TagState.TheVariants as g
use Rattle.h5_tokenizer_states.specs.declared.machine_state.CommentState.{CommentState}
use Rattle.h5_tokenizer_states.specs.declared.machine_state.CommentState.TheVariants as c
use Rattle.h5_tokenizer_states.specs.declared.machine_state.DoctypeState.{DoctypeState}
use Rattle.h5_tokenizer_states.specs.declared.machine_state.DoctypeState.TheVariants as d
use Rattle.h5_tokenizer_states.specs.declared.machine_state.ReferenceState.{ReferenceState}
use Rattle.h5_tokenizer_states.specs.declared.machine_state.ReferenceState.TheVariants as r
use Rattle.h5_tokenizer_states.specs.declared.machine_state.ReturnTo.{ReturnTo}
use Rattle.h5_tokenizer_states.specs.declared.machine_state.ReturnTo.TheVariants as to
use Rattle.h5_tokenizer_states.specs.declared.runs.Run.{Run}
use Rattle.h5_tokenizer_states.specs.declared.runs.Run.TheVariants as run
use Rattle.h5_tokenizer_states.specs.Runs.{is_in, are_in, run_of, run_of_text_state, run_of_doctype, at_behind, text_behind, doctype_behind, parts_behind, buffer_behind, tag_behind, doctype_text_behind, tag_flushed, put_by, text_put, text_flushed, place_behind_run}
use Rattle.h5_tokenizer_states.proofs.AsciiLaws.{wide_not}
use Rattle.h5_tokenizer_states.proofs.CutLaws.{wide_in}
use Rattle.h5_tokenizer_states.proofs.RunLaws.{adds, none_of_two, none_of_three, none_of_four, none_of_five}

-- a run goes on with the run of the state after its first byte
text_stays : (state : TextState) (x : ℕ) → is_in (run_of_text_state state) x ≡ true → is_in (run_of_text_state (text_behind state)) x ≡ true
text_stays (t.ScriptDataEscapedDash depth) x h = wide_in run.Dashes x refl h
text_stays (t.ScriptDataEscapedDashDash depth) x h = wide_in run.Dashes x refl h
text_stays state x h = h

doctype_stays : (state : DoctypeState) (x : ℕ) → is_in (run_of_doctype state) x ≡ true → is_in (run_of_doctype (doctype_behind state)) x ≡ true
doctype_stays d.BeforeDoctypeName x h = wide_in run.DoctypeName x refl h
doctype_stays state x h = h

stays : (at : MachineState) (x : ℕ) → is_in (run_of at) x ≡ true → is_in (run_of (at_behind at)) x ≡ true
stays (at.Text state) x h = text_stays state x h
stays (at.Tag state) x h = h
stays (at.Comment state) x h = h
stays (at.Doctype state) x h = doctype_stays state x h
stays (at.Reference state return_to) x h = h

all_stay : (at : MachineState) (xs : List ℕ) → are_in (run_of at) xs ≡ true → are_in (run_of (at_behind at)) xs ≡ true
all_stay at [] h = refl
all_stay at (x ∷ xs) h = let p = and_parts (is_in (run_of at) x) (are_in (run_of at) xs) h in rw (stays at x p.0, all_stay at xs p.1) refl

-- what runs add, one after another
option_twice : {A : Type 0} (o : Option A) (f g h : A → A) → ((a : A) → g (f a) ≡ h a) → option_map g (option_map f o) ≡ option_map h o
option_twice None f g h e = refl
option_twice (Some a) f g h e = ap (λ b. Some b) (e a)

attribute_twice : (xs ys : List ℕ) (tag : Tag) → attribute_named_further ys (attribute_named_further xs tag) ≡ attribute_named_further (xs ++ ys) tag
attribute_twice xs ys tag =
    ap (λ o. record tag { current = o })
    (option_twice tag.current (λ (a : Attribute). record a { name = a.name ++ xs }) (λ (a : Attribute). record a { name = a.name ++ ys }) (λ (a : Attribute). record a { name = a.name ++ (xs ++ ys) }) (λ (a : Attribute). ap (λ l. record a { name = l }) (append_assoc a.name xs ys)))

value_twice : (xs ys : List ℕ) (tag : Tag) → value_further ys (value_further xs tag) ≡ value_further (xs ++ ys) tag
value_twice xs ys tag =
    ap (λ o. record tag { current = o })
    (option_twice tag.current (λ (a : Attribute). record a { value = a.value ++ xs }) (λ (a : Attribute). record a { value = a.value ++ ys }) (λ (a : Attribute). record a { value = a.value ++ (xs ++ ys) }) (λ (a : Attribute). ap (λ l. record a { value = l }) (append_assoc a.value xs ys)))

further_twice : (xs ys : List ℕ) (o : Option (List ℕ)) → option_map (λ l. l ++ ys) (option_map (λ l. l ++ xs) o) ≡ option_map (λ l. l ++ (xs ++ ys)) o
further_twice xs ys o = option_twice o (λ l. l ++ xs) (λ l. l ++ ys) (λ l. l ++ (xs ++ ys)) (λ l. append_assoc l xs ys)

identifier_twice : (id : Identifier) (xs ys : List ℕ) (doctype : DoctypeText) → identifier_further id ys (identifier_further id xs doctype) ≡ identifier_further id (xs ++ ys) doctype
identifier_twice Public xs ys doctype = ap (λ o. record doctype { public_id = o }) (further_twice xs ys doctype.public_id)
identifier_twice System xs ys doctype = ap (λ o. record doctype { system_id = o }) (further_twice xs ys doctype.system_id)

buffer_twice : (state : TextState) (x : ℕ) (ys buffer : List ℕ) → buffer_behind (text_behind state) ys (buffer_behind state (x ∷ []) buffer) ≡ buffer_behind state (x ∷ ys) buffer
buffer_twice (t.RawEndTagName kind) x ys buffer = append_assoc buffer (x ∷ []) ys
buffer_twice state x ys buffer = refl

tag_twice : (state : TagState) (x : ℕ) (ys : List ℕ) (tag : Tag) → tag_behind state ys (tag_behind state (x ∷ []) tag) ≡ tag_behind state (x ∷ ys) tag
tag_twice g.TagName x ys tag = ap (λ l. record tag { name = l }) (append_assoc tag.name (to_ascii_lowercase x ∷ []) (map to_ascii_lowercase ys))
tag_twice g.AttributeName x ys tag = attribute_twice (to_ascii_lowercase x ∷ []) (map to_ascii_lowercase ys) tag
tag_twice (g.AttributeValue value) x ys tag = value_twice (x ∷ []) ys tag
tag_twice state x ys tag = refl

doctype_twice : (state : DoctypeState) (x : ℕ) (ys : List ℕ) (doctype : DoctypeText) → doctype_text_behind (doctype_behind state) ys (doctype_text_behind state (x ∷ []) doctype) ≡ doctype_text_behind state (x ∷ ys) doctype
doctype_twice d.DoctypeName x ys doctype = ap (λ o. record doctype { name = o }) (further_twice (to_ascii_lowercase x ∷ []) (map to_ascii_lowercase ys) doctype.name)
doctype_twice (d.DoctypeIdentifier id quote) x ys doctype = identifier_twice id (x ∷ []) ys doctype
doctype_twice state x ys doctype = refl

flushed_twice : (return_to : ReturnTo) (x : ℕ) (ys : List ℕ) (tag : Tag) → tag_flushed return_to ys (tag_flushed return_to (x ∷ []) tag) ≡ tag_flushed return_to (x ∷ ys) tag
flushed_twice to.Data x ys tag = refl
flushed_twice to.Rcdata x ys tag = refl
flushed_twice (to.Value value) x ys tag = value_twice (x ∷ []) ys tag

parts_twice : (at : MachineState) (x : ℕ) (ys : List ℕ) (parts : Parts) → parts_behind (at_behind at) ys (parts_behind at (x ∷ []) parts) ≡ parts_behind at (x ∷ ys) parts
parts_twice (at.Text state) x ys parts = ap (λ l. record parts { buffer = l }) (buffer_twice state x ys parts.buffer)
parts_twice (at.Tag state) x ys parts = ap (λ tag. record parts { tag = tag }) (tag_twice state x ys parts.tag)
parts_twice (at.Comment state) x ys parts = ap (λ l. record parts { comment = l }) (append_assoc parts.comment (x ∷ []) ys)
parts_twice (at.Doctype state) x ys parts = ap (λ doctype. record parts { doctype = doctype }) (doctype_twice state x ys parts.doctype)
parts_twice (at.Reference state return_to) x ys parts = ap (λ tag. record parts { tag = tag }) (flushed_twice return_to x ys parts.tag)

text_put_twice : (state : TextState) (x : ℕ) (ys : List ℕ) → text_put state (x ∷ []) ++ text_put (text_behind state) ys ≡ text_put state (x ∷ ys)
text_put_twice (t.RawEndTagName kind) x ys = refl
text_put_twice state x ys = refl

text_flushed_twice : (return_to : ReturnTo) (x : ℕ) (ys : List ℕ) → text_flushed return_to (x ∷ []) ++ text_flushed return_to ys ≡ text_flushed return_to (x ∷ ys)
text_flushed_twice to.Data x ys = refl
text_flushed_twice to.Rcdata x ys = refl
text_flushed_twice (to.Value value) x ys = refl

put_twice : (at : MachineState) (x : ℕ) (ys : List ℕ) → put_by at (x ∷ []) ++ put_by (at_behind at) ys ≡ put_by at (x ∷ ys)
put_twice (at.Text state) x ys = text_put_twice state x ys
put_twice (at.Tag state) x ys = refl
put_twice (at.Comment state) x ys = refl
put_twice (at.Doctype state) x ys = refl
put_twice (at.Reference state return_to) x ys = text_flushed_twice return_to x ys

text_at_twice : (state : TextState) → text_behind (text_behind state) ≡ text_behind state
text_at_twice (t.Text kind) = refl
text_at_twice state = refl

doctype_at_twice : (state : DoctypeState) → doctype_behind (doctype_behind state) ≡ doctype_behind state
doctype_at_twice d.BeforeDoctypeName = refl
doctype_at_twice state = refl

at_twice : (at : MachineState) → at_behind (at_behind at) ≡ at_behind at
at_twice (at.Text state) = ap (λ state. at.Text state) (text_at_twice state)
at_twice (at.Tag state) = refl
at_twice (at.Comment state) = refl
at_twice (at.Doctype state) = ap (λ state. at.Doctype state) (doctype_at_twice state)
at_twice (at.Reference state return_to) = refl

-- whether all has been emitted depends only on the state
text_emitted : (state : TextState) (a b : List ℕ) → is_all_emitted (text_state_of state a) ≡ is_all_emitted (text_state_of state b)
text_emitted (t.Text kind) a b = refl
text_emitted state a b = refl

tag_emitted : (state : TagState) (a b : Parts) → is_all_emitted (state_of (at.Tag state) a) ≡ is_all_emitted (state_of (at.Tag state) b)
tag_emitted g.TagName a b = refl
tag_emitted state a b = refl

comment_emitted : (state : CommentState) (a b : Parts) → is_all_emitted (state_of (at.Comment state) a) ≡ is_all_emitted (state_of (at.Comment state) b)
comment_emitted c.Comment a b = refl
comment_emitted state a b = refl

doctype_emitted : (state : DoctypeState) (a b : Parts) → is_all_emitted (state_of (at.Doctype state) a) ≡ is_all_emitted (state_of (at.Doctype state) b)
doctype_emitted d.DoctypeName a b = refl
doctype_emitted state a b = refl

ampersand_emitted : (return_to : ReturnTo) (a b : Parts) → is_all_emitted (state_of (at.Reference r.AmbiguousAmpersand return_to) a) ≡ is_all_emitted (state_of (at.Reference r.AmbiguousAmpersand return_to) b)
ampersand_emitted to.Data a b = refl
ampersand_emitted to.Rcdata a b = refl
ampersand_emitted (to.Value value) a b = refl

reference_emitted : (state : ReferenceState) (return_to : ReturnTo) (a b : Parts) → is_all_emitted (state_of (at.Reference state return_to) a) ≡ is_all_emitted (state_of (at.Reference state return_to) b)
reference_emitted r.AmbiguousAmpersand return_to a b = ampersand_emitted return_to a b
reference_emitted state return_to a b = refl

emitted_alike : (at : MachineState) (a b : Parts) → is_all_emitted (state_of at a) ≡ is_all_emitted (state_of at b)
emitted_alike (at.Text state) a b = text_emitted state a.buffer b.buffer
emitted_alike (at.Tag state) a b = tag_emitted state a b
emitted_alike (at.Comment state) a b = comment_emitted state a b
emitted_alike (at.Doctype state) a b = doctype_emitted state a b
emitted_alike (at.Reference state return_to) a b = reference_emitted state return_to a b

-- after a run
abbrev pub behind_run : ReaderPlace → MachineState → Parts → List ℕ → ReaderPlace
behind_run p at parts xs = place_behind_run p (state_of (at_behind at) (parts_behind at xs parts)) (newlines false xs)

counted : (n : Bool) (l m : ℕ) → u64_saturate ((if n then u64_saturate (l + 1) else l) + m) ≡ u64_saturate (l + (if n && true then 1 + m else m))
counted true l m = omega arith
counted false l m = refl

fits_after : (n : Bool) (l : ℕ) → l ≤ 2 ^ 64 - 1 → (if n then u64_saturate (l + 1) else l) ≤ 2 ^ 64 - 1
fits_after true l h = omega arith
fits_after false l h = h

line_step : (p : ReaderPlace) (x : ℕ) (xs : List ℕ) → (x == 13) ≡ false → u64_saturate (line_after p x + newlines false xs) ≡ u64_saturate (p.line + newlines false (x ∷ xs))
line_step p x xs e = rw e (counted (x == 10) p.line (newlines false xs))

line_fits_after : (p : ReaderPlace) (x : ℕ) → p.line ≤ 2 ^ 64 - 1 → line_after p x ≤ 2 ^ 64 - 1
line_fits_after p x h = fits_after _ p.line h

line_last : (p : ReaderPlace) (x : ℕ) → (x == 13) ≡ false → p.line ≤ 2 ^ 64 - 1 → line_after p x ≡ u64_saturate (p.line + newlines false (x ∷ []))
line_last p x e fits = line_none (line_after p x) 0 (line_fits_after p x fits) refl ∙ line_step p x [] e

last_place : (p : ReaderPlace) (at : MachineState) (parts : Parts) (x : ℕ) → (x == 13) ≡ false → p.line ≤ 2 ^ 64 - 1
    → behind x (state_of (at_behind at) (parts_behind at (x ∷ []) parts)) p ≡ behind_run p at parts (x ∷ [])
last_place p at parts x e fits = λ i. record {
  state = state_of (at_behind at) (parts_behind at (x ∷ []) parts);
  last = p.last;
  after_return = e i;
  line = line_last p x e fits i;
  began = beginning (state_of (at_behind at) (parts_behind at (x ∷ []) parts)) (line_last p x e fits i) p;
}

began_twice : (a b : Bool) (l m k : ℕ) → a ≡ b → (if b then l else (if a then m else k)) ≡ (if b then l else k)
began_twice true true l m k e = refl
began_twice false true l m k e = refl
began_twice true false l m k e = absurd (false≢true (sym e))
began_twice false false l m k e = refl

next_place : (p : ReaderPlace) (at : MachineState) (parts : Parts) (x : ℕ) (xs : List ℕ) → (x == 13) ≡ false
    → behind_run (behind x (state_of (at_behind at) (parts_behind at (x ∷ []) parts)) p) (at_behind at) (parts_behind at (x ∷ []) parts) xs ≡ behind_run p at parts (x ∷ xs)
next_place p at parts x xs e =
    let first = state_of (at_behind at) (parts_behind at (x ∷ []) parts) in
    let last = state_of (at_behind at) (parts_behind at (x ∷ xs) parts) in
    let line = u64_saturate (p.line + newlines false (x ∷ xs)) in
    λ i. record {
      state = state_of (at_twice at i) (parts_twice at x xs parts i);
      last = p.last;
      after_return = false;
      line = line_step p x xs e i;
      began = (
          (λ j. beginning (state_of (at_twice at j) (parts_twice at x xs parts j)) (line_step p x xs e j) (behind x first p))
          ∙ began_twice (is_all_emitted first) (is_all_emitted last) line (line_after p x) p.began (emitted_alike (at_behind at) (parts_behind at (x ∷ []) parts) (parts_behind at (x ∷ xs) parts))
          ) i;
    }

letter_kept : (x : ℕ) → is_ascii_alphabetic x ≡ true → (x == 13) ≡ false
letter_kept x h = grind (arith, nat_tests)

alphanumeric_kept : (x : ℕ) → is_alphanumeric x ≡ true → (x == 13) ≡ false
alphanumeric_kept x h = grind (arith, nat_tests)

blank_kept : (x : ℕ) → is_blank x ≡ true → (x == 13) ≡ false
blank_kept x h = grind (arith, nat_tests)

-- a CARRIAGE RETURN is in no run
pub not_return : (run : Run) (x : ℕ) → is_in run x ≡ true → (x == 13) ≡ false
not_return run.Nothing x h = absurd (false≢true h)
not_return run.References x h = (none_of_four (x == less_than_sign) (x == ampersand) (x == null) (x == 13) h).3
not_return run.Tags x h = (none_of_three (x == less_than_sign) (x == null) (x == 13) h).2
not_return run.Plain x h = (none_of_two (x == null) (x == 13) h).1
not_return run.Brackets x h = (none_of_three (x == right_square_bracket) (x == null) (x == 13) h).2
not_return run.Dashes x h = (none_of_four (x == hyphen) (x == less_than_sign) (x == null) (x == 13) h).3
not_return run.Wide x h = wide_not x 13 h refl
not_return run.Letters x h = letter_kept x h
not_return run.Alphanumerics x h = alphanumeric_kept x h
not_return run.Blanks x h = blank_kept x h
not_return run.Name x h = (none_of_three (is_name_end x) (x == null) (x == 13) h).2
not_return run.AttributeName x h = (none_of_four (is_name_end x) (x == equals_sign) (x == null) (x == 13) h).3
not_return (run.Quoted quote) x h = (none_of_four (x == sign_of quote) (x == ampersand) (x == null) (x == 13) h).3
not_return run.Unquoted x h = (none_of_five (is_blank x) (x == ampersand) (x == greater_than_sign) (x == null) (x == 13) h).4
not_return run.Bogus x h = (none_of_three (x == greater_than_sign) (x == null) (x == 13) h).2
not_return run.DoctypeName x h = (none_of_four (is_blank x) (x == greater_than_sign) (x == null) (x == 13) h).3
not_return (run.Identifier quote) x h = (none_of_four (x == sign_of quote) (x == greater_than_sign) (x == null) (x == 13) h).3

told_so : (table : List Reference) (p q r : ReaderPlace) (xs text more ys : List ℕ) → Passes table p xs text q ys → text ≡ more → q ≡ r → Passes table p xs more r ys
told_so table p q r xs text more ys h e f = subst (λ l. Passes table p xs l r ys) e (subst (λ o. Passes table p xs text o ys) f h)

outcome_of_run : (table : List Reference) (p : ReaderPlace) (at : MachineState) (parts : Parts) (x : ℕ) → p.state ≡ state_of at parts → is_in (run_of at) x ≡ true
    → outcome table p x ≡ Consumed (put_by at (x ∷ [])) (state_of (at_behind at) (parts_behind at (x ∷ []) parts))
outcome_of_run table p at parts x e h =
    ap (λ (b : Bool). (turn table p.last p.state (if b then 10 else x)).outcome) (not_return (run_of at) x h)
    ∙ ap (λ s. (turn table p.last s x).outcome) e ∙ adds table p.last at parts x h

passes_run : (table : List Reference) (p : ReaderPlace) (at : MachineState) (parts : Parts) (x : ℕ) (xs ys : List ℕ) → p.state ≡ state_of at parts → p.line ≤ 2 ^ 64 - 1 → is_dropped p x ≡ false
    → are_in (run_of at) (x ∷ xs) ≡ true → Passes table p (x ∷ (xs ++ ys)) (put_by at (x ∷ xs)) (behind_run p at parts (x ∷ xs)) ys
passes_run table p at parts x [] ys e fits kept h =
    let here = (and_parts (is_in (run_of at) x) true h).0 in
    let state = state_of (at_behind at) (parts_behind at (x ∷ []) parts) in
    told_so table p (behind x state p) (behind_run p at parts (x ∷ [])) (x ∷ ys) (put_by at (x ∷ []) ++ []) (put_by at (x ∷ [])) ys
    (goes (put_by at (x ∷ [])) state kept (outcome_of_run table p at parts x e here) passed) (append-nil (put_by at (x ∷ []))) (last_place p at parts x (not_return (run_of at) x here) fits)
passes_run table p at parts x (y ∷ xs) ys e fits kept h =
    let all = and_parts (is_in (run_of at) x) (are_in (run_of at) (y ∷ xs)) h in
    let ret = not_return (run_of at) x all.0 in
    let more = parts_behind at (x ∷ []) parts in
    let state = state_of (at_behind at) more in
    told_so table p (behind_run (behind x state p) (at_behind at) more (y ∷ xs)) (behind_run p at parts (x ∷ (y ∷ xs))) (x ∷ (y ∷ (xs ++ ys)))
    (put_by at (x ∷ []) ++ put_by (at_behind at) (y ∷ xs)) (put_by at (x ∷ (y ∷ xs))) ys
    (goes (put_by at (x ∷ [])) state kept (outcome_of_run table p at parts x e all.0)
    (passes_run table (behind x state p) (at_behind at) more y xs ys refl (line_fits_after p x fits) (and_left (x == 13) (y == 10) ret) (all_stay at (y ∷ xs) all.1)))
    (put_twice at x (y ∷ xs)) (next_place p at parts x (y ∷ xs) ret)

-- bytes of a run are passed
pub run_passed : (table : List Reference) (p : ReaderPlace) (at : MachineState) (parts : Parts) (front ys xs : List ℕ) → xs ≡ front ++ ys → 0 < length front → p.state ≡ state_of at parts → p.line ≤ 2 ^ 64 - 1
    → is_dropped p (slice_index xs 0) ≡ false → are_in (run_of at) front ≡ true → Passes table p xs (put_by at front) (behind_run p at parts front) ys
run_passed table p at parts [] ys xs split some e fits kept h = absurd (omega arith)
run_passed table p at parts (x ∷ front) ys xs split some e fits kept h =
    subst (λ l. Passes table p l (put_by at (x ∷ front)) (behind_run p at parts (x ∷ front)) ys) (sym split) (passes_run table p at parts x front ys e fits (rw split at kept) h)

-- a machine that took no run
pub took_nothing : (m : MachineText) (xs old : List ℕ) → PassesRun m xs old old m xs
took_nothing m xs old = record { text = []; passes = passed; put = sym (append-nil old) }

-- a machine that took the first k bytes, which are in its run
pub took_run : (m mid n : MachineText) (xs ys front old new : List ℕ) (k lines : ℕ) → front ≡ take k xs → ys ≡ drop k xs → 0 < length front → is_dropped (place_of m) (slice_index xs 0) ≡ false
    → are_in (run_of m.at) (take k xs) ≡ true → lines ≡ newlines false (take k xs) → mid ≡ record m { parts = parts_behind m.at front m.parts } → new ≡ old ++ put_by m.at front → mid.line ≤ 2 ^ 64 - 1
    → place_of n ≡ place_behind_run (place_of mid) (state_of (at_behind mid.at) mid.parts) lines → PassesRun m xs old new n ys
took_run m mid n xs ys front old new k lines is_front is_rest some kept h counted parts put fits place =
    let split : xs ≡ front ++ ys = sym (take-append-drop k xs) ∙ ap (λ l. l ++ drop k xs) (sym is_front) ∙ ap (λ l. front ++ l) (sym is_rest) in
    let there : behind_run (place_of m) m.at m.parts front ≡ place_of n = sym (
    place ∙ ap (λ (o : MachineText). place_behind_run (place_of o) (state_of (at_behind o.at) o.parts) lines) parts
    ∙ ap (λ l. place_behind_run (place_of m) (state_of (at_behind m.at) (parts_behind m.at front m.parts)) l) (counted ∙ ap (newlines false) (sym is_front))) in
    record {
      text = put_by m.at front;
      passes = subst (λ place. Passes references (place_of m) xs (put_by m.at front) place ys) there
          (run_passed references (place_of m) m.at m.parts front ys xs split some refl (rw parts at fits) kept (rw is_front h));
      put = put;
    }

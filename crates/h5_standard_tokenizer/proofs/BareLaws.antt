-- The rows over a tag with only a name emit that tag.
use Rattle.std.specs.Borrow.{Bor}
use Rattle.std.proofs.Common.{◌≡◌, ℕ, zero, suc, ◌-◌, ◌^◌, ◌<◌, ◌≤◌, Bool, true, false, ◌==◌, List, [], ◌∷◌, ◌++◌, length, map, take, drop, slice_index, refl, sym, ap, ◌∙◌, subst, arith, length-drop, if◌then◌else◌, Result, Ok, Err, Option, Some, None}
use Rattle.std.proofs.lemmas.Bool.Decides.{nat_tests}
use Rattle.std.proofs.lemmas.List.{length-take-le}
use Rattle.std.specs.Char.{is_ascii_alphabetic, to_ascii_lowercase}
use Rattle.h5_token.specs.TokenText.{TokenText}
use Rattle.h5_token.specs.Reply.{Reply}
use Rattle.h5_token.specs.declared.fault.BuildFault.{BuildFault}
use Rattle.h5_token.specs.declared.tag.TagKind.{TagKind}
use Rattle.h5_token.specs.declared.tag.TagKind.TheVariants.{StartTag, EndTag}
use Rattle.h5_markup.specs.Bare.{bare_tag, IsBare, IsBareTag}
use Rattle.h5_markup.specs.Cuts.{is_in}
use Rattle.h5_markup.specs.declared.cut.Class.TheVariants.{NameEnd}
use Rattle.h5_tokenizer_input.specs.declared.stop.Stop.{Stop}
use Rattle.h5_tokenizer_spec.specs.declared.kinds.TextKind.TheVariants.{Data}
use Rattle.h5_tokenizer_spec.specs.ReferenceTable.{references}
use Rattle.h5_tokenizer_spec.specs.Construction.{new_tag, token_of}
use Rattle.h5_tokenizer_spec.specs.Machine.{turn}
use Rattle.h5_tokenizer_spec.specs.Reading.{ReaderPlace, Passes, goes, again, outcome, behind}
use Rattle.h5_tokenizer_spec.specs.States.{Text, TagOpen, EndTagOpen, TagName}
use Rattle.h5_tokenizer_spec.specs.Signs.{is_name_end}
use Rattle.h5_tokenizer_spec.specs.Tags.{end_tag_open_state}
use Rattle.h5_tokenizer_spec.specs.Turn.{Reconsumed}
use Rattle.h5_tokenizer_states.specs.MachineText.{MachineText, place_of}
use Rattle.h5_tokenizer_states.specs.Runs.{are_in}
use Rattle.h5_tokenizer_states.specs.declared.machine_state.MachineState.TheVariants as at
use Rattle.h5_tokenizer_states.specs.declared.machine_state.TextState.TheVariants as text_state
use Rattle.h5_tokenizer_states.specs.declared.runs.Run.TheVariants as run
use Rattle.h5_tokenizer_states.proofs.NameLaws.{name_is_lowered}
use Rattle.h5_standard_tokenizer.specs.Steps.{Holds, HandsOn, Leads, Fails, Makes, IsLess, progress_of}
use Rattle.h5_standard_tokenizer.proofs.HoldLaws.{holds_more, no_text_is_handed_on, token_is_handed_on, leads}
use Rattle.h5_standard_tokenizer.proofs.OpeningLaws.{in_tag, never, outcome_at, passes_name, passes_opening}
use Rattle.h5_standard_tokenizer.proofs.TakeLaws.{turns}
use Rattle.h5_standard_tokenizer.proofs.WeightLaws.{shorter_is_less}

-- properties of a byte of the name
record NameByte (x : ℕ) : Type 0 where
  high : 13 < x
  passed : is_in NameEnd x ≡ false

-- bytes of a name, all of them
abbrev AreNameBytes : List ℕ → Type 0
AreNameBytes [] = Unit {0}
AreNameBytes (x ∷ xs) = NameByte x × AreNameBytes xs

name_bytes : (xs : List ℕ) (n : ℕ) → n ≤ length xs → ((k : ℕ) → k < n → is_in NameEnd (slice_index xs k) ≡ false) → ((k : ℕ) → k < n → 13 < slice_index xs k) → AreNameBytes (take n xs)
name_bytes xs zero le h i = tt
name_bytes [] (suc n) le h i = tt
name_bytes (x ∷ xs) (suc n) le h i =
    (record { high = i 0 (omega arith); passed = h 0 (omega arith) }, name_bytes xs n (omega arith) (λ k lt. h (suc k) (omega arith)) (λ k lt. i (suc k) (omega arith)))

no_nul : (x : ℕ) → 13 < x → (x == 0) ≡ false
no_nul x h = grind (arith, nat_tests)

no_return : (x : ℕ) → 13 < x → (x == 13) ≡ false
no_return x h = grind (arith, nat_tests)

not_ended : (x : ℕ) → is_in NameEnd x ≡ false → is_name_end x ≡ false
not_ended x h = grind (arith, nat_tests)

in_name : (xs : List ℕ) → AreNameBytes xs → are_in run.Name xs ≡ true
in_name [] h = refl
in_name (x ∷ xs) h = rw (not_ended x h.0.passed, no_nul x h.0.high, no_return x h.0.high, in_name xs h.1) refl

end_row : (x : ℕ) → is_ascii_alphabetic x ≡ true → (end_tag_open_state x).outcome ≡ Reconsumed [] (TagName (new_tag EndTag []))
end_row x h = rw h refl

opens_end : (p : ReaderPlace) (x : ℕ) → 13 < x → is_ascii_alphabetic x ≡ true → outcome references (record p { state = EndTagOpen; after_return = false }) x ≡ Reconsumed [] (TagName (new_tag EndTag []))
opens_end p x high h = ap (λ (c : Bool). (turn references p.last EndTagOpen (if c then 10 else x)).outcome) (no_return x high) ∙ end_row x h

-- the whole tag except its end is passed
passes_start : (p : ReaderPlace) (name rest : List ℕ) → p.state ≡ Text Data → p.line ≤ 2 ^ 64 - 1 → 0 < length name → AreNameBytes name → is_ascii_alphabetic (slice_index name 0) ≡ true
    → Passes references p (60 ∷ (name ++ 62 ∷ rest)) [] (in_tag p StartTag name) (62 ∷ rest)
passes_start p name rest e fits some h letter = passes_opening p name (62 ∷ rest) e fits some (in_name name h) letter

passes_end : (p : ReaderPlace) (name rest : List ℕ) → p.state ≡ Text Data → p.line ≤ 2 ^ 64 - 1 → 0 < length name → AreNameBytes name → is_ascii_alphabetic (slice_index name 0) ≡ true
    → Passes references p (60 ∷ (47 ∷ (name ++ 62 ∷ rest))) [] (in_tag p EndTag name) (62 ∷ rest)
passes_end p [] rest e fits some h letter = absurd (omega arith)
passes_end p (x ∷ name) rest e fits some h letter =
    goes [] TagOpen (never p.after_return) (outcome_at p 60 e)
    (goes [] EndTagOpen refl refl
    (again [] (TagName (new_tag EndTag [])) refl (opens_end p x h.0.high letter) (passes_name p EndTag (x ∷ name) (62 ∷ rest) some (in_name (x ∷ name) h) fits)))

-- the positions of such a tag's parts
split_at : (xs : List ℕ) (n x : ℕ) → n < length xs → slice_index xs n ≡ x → xs ≡ take n xs ++ x ∷ drop 1 (drop n xs)
split_at [] n x lt e = absurd (omega arith)
split_at (y ∷ xs) zero x lt e = ap (λ z. z ∷ xs) e
split_at (y ∷ xs) (suc n) x lt e = ap (λ l. y ∷ l) (split_at xs n x (omega arith) e)

behind_one : (xs inner : List ℕ) (x : ℕ) → 0 < length xs → slice_index xs 0 ≡ x → inner ≡ drop 1 xs → xs ≡ x ∷ inner
behind_one [] inner x some e f = absurd (omega arith)
behind_one (y ∷ xs) inner x some e f = λ i. e i ∷ sym f i

behind_two : (xs inner : List ℕ) (x y : ℕ) → 1 < length xs → slice_index xs 0 ≡ x → slice_index xs 1 ≡ y → inner ≡ drop 2 xs → xs ≡ x ∷ (y ∷ inner)
behind_two [] inner x y some e f g = absurd (omega arith)
behind_two (z ∷ xs) inner x y some e f g = λ i. e i ∷ behind_one xs inner y (omega arith) f g i

first_of_front : (xs : List ℕ) (n : ℕ) → 0 < n → n < length xs → slice_index (take n xs) 0 ≡ slice_index xs 0
first_of_front [] n some lt = absurd (omega arith)
first_of_front (x ∷ xs) zero some lt = absurd (omega arith)
first_of_front (x ∷ xs) (suc n) some lt = refl

record Parted (inner name rest : List ℕ) : Type 0 where
  some : 0 < length name
  bytes : AreNameBytes name
  letter : is_ascii_alphabetic (slice_index name 0) ≡ true
  whole : inner ≡ name ++ 62 ∷ rest

parted : (inner name rest : List ℕ) → IsBare inner name rest → Parted inner name rest
parted inner name rest b =
    let n = b.size in
    let lt = b.is_name.within in
    record {
      some = omega (arith, ap length b.front, length-take-le n inner (omega arith), b.is_name.some);
      bytes = subst AreNameBytes (sym b.front) (name_bytes inner n (omega arith) b.is_name.passed b.is_name.high);
      letter = ap (λ l. is_ascii_alphabetic (slice_index l 0)) b.front ∙ ap is_ascii_alphabetic (first_of_front inner n b.is_name.some lt) ∙ b.is_name.starts;
      whole = split_at inner n 62 lt b.is_name.ends ∙ (λ i. sym b.front i ++ 62 ∷ sym b.back i);
    }

passes_bare : (p : ReaderPlace) (xs : List ℕ) (kind : TagKind) (name rest : List ℕ) → p.state ≡ Text Data → p.line ≤ 2 ^ 64 - 1 → IsBareTag xs kind name rest
    → Passes references p xs [] (in_tag p kind name) (62 ∷ rest)
passes_bare p xs StartTag name rest e fits t =
    let b = parted t.inner name rest t.bare in
    let whole : xs ≡ 60 ∷ (name ++ 62 ∷ rest) = behind_one xs t.inner 60 t.opens.0 t.opens.1 t.opens.2 ∙ ap (λ l. 60 ∷ l) b.whole in
    subst (λ l. Passes references p l [] (in_tag p StartTag name) (62 ∷ rest)) (sym whole) (passes_start p name rest e fits b.some b.bytes b.letter)
passes_bare p xs EndTag name rest e fits t =
    let b = parted t.inner name rest t.bare in
    let whole : xs ≡ 60 ∷ (47 ∷ (name ++ 62 ∷ rest)) = behind_two xs t.inner 60 47 t.opens.0 t.opens.1 t.opens.2 t.opens.3 ∙ ap (λ l. 60 ∷ (47 ∷ l)) b.whole in
    subst (λ l. Passes references p l [] (in_tag p EndTag name) (62 ∷ rest)) (sym whole) (passes_end p name rest e fits b.some b.bytes b.letter)

-- what is left is shorter
bare_shorter : (xs : List ℕ) (kind : TagKind) (name rest : List ℕ) → IsBareTag xs kind name rest → length rest < length xs
bare_shorter xs StartTag name rest t =
    omega (arith, t.opens.0, ap length t.opens.2, length-drop 1 xs, ap length t.bare.back, length-drop 1 (drop t.bare.size t.inner), length-drop t.bare.size t.inner, t.bare.is_name.within)
bare_shorter xs EndTag name rest t =
    omega (arith, t.opens.0, ap length t.opens.3, length-drop 2 xs, ap length t.bare.back, length-drop 1 (drop t.bare.size t.inner), length-drop t.bare.size t.inner, t.bare.is_name.within)

-- its token
made_bare : (kind : TagKind) (xs inner name rest : List ℕ) → AreNameBytes name → token_of (new_tag kind (map to_ascii_lowercase name)) ≡ bare_tag kind name
made_bare kind xs inner name rest h = ap (λ l. token_of (new_tag kind l)) (sym (name_is_lowered name (in_name name h)))

name_of_bare : (xs : List ℕ) (kind : TagKind) (name rest : List ℕ) → IsBareTag xs kind name rest → AreNameBytes name
name_of_bare xs kind name rest t = (parted t.inner name rest t.bare).bytes

-- the machine's place after the tag
place_behind : (m n : MachineText) → m.at ≡ at.Text (text_state.Text Data) → n ≡ record m { after_return = false; began = m.line } → (kind : TagKind) (name : List ℕ)
    → behind 62 (Text Data) (in_tag (place_of m) kind name) ≡ place_of n
place_behind m n e f kind name = rw (f, e) refl

-- after such a tag less is left to do
pub bare_less : {H : Type 0} (p q : ReaderPlace) (xs : List ℕ) (kind : TagKind) (name : List ℕ) (behind_it : Bor (List ℕ)) (stopped : Option (Stop H)) → IsBareTag xs kind name behind_it.now
    → IsLess p xs q (Ok (progress_of stopped behind_it))
bare_less p q xs kind name behind_it None h = shorter_is_less p q xs behind_it.now (bare_shorter xs kind name behind_it.now h)
bare_less p q xs kind name behind_it (Some s) h = tt

module _ {M : Type 0} (reply_to : M → TokenText → Reply) (after : M → TokenText → ℕ → M) (foreign : M → Bool) where
  -- the effect of the reply to such a tag
  bare_leads : {H : Type 0} (node : H → ℕ) (p : ReaderPlace) (k : M) (xs : List ℕ) (held : ℕ) (m n : MachineText) (l o : M) (q : ReaderPlace) (rest name behind_it : List ℕ) (kind : TagKind) (token : TokenText) (line : ℕ) (result : Result (Option (Stop H)) BuildFault)
      → m.at ≡ at.Text (text_state.Text Data) → m.line ≤ 2 ^ 64 - 1 → IsBareTag rest kind name behind_it → n ≡ record m { after_return = false; began = m.line } → token ≡ bare_tag kind name → line ≡ m.began
      → Holds reply_to after foreign p k xs [] held (place_of m) l rest → HandsOn reply_to after node (place_of n) l token line q o result → Leads reply_to after foreign node p k xs q behind_it o result
  bare_leads node p k xs held m n l o q rest name behind_it kind token line result in_data fits t new made told h e =
      let passes = passes_bare (place_of m) rest kind name behind_it (rw in_data refl) fits t in
      let reads = no_text_is_handed_on reply_to after foreign (holds_more reply_to after foreign h passes) in
      let handed = token_is_handed_on reply_to after foreign {token = token_of (new_tag kind (map to_ascii_lowercase name))} {state = Text Data} reads refl refl in
      let same : token ≡ token_of (new_tag kind (map to_ascii_lowercase name)) = made ∙ sym (made_bare kind rest t.inner name behind_it (name_of_bare rest kind name behind_it t)) in
      leads reply_to after foreign node (behind 62 (Text Data) (in_tag (place_of m) kind name)) q o result handed
      (subst (λ r. HandsOn reply_to after node r l (token_of (new_tag kind (map to_ascii_lowercase name))) m.began q o result) (sym (place_behind m n in_data new kind name))
      (subst (λ t. HandsOn reply_to after node (place_of n) l t m.began q o result) same
      (subst (λ i. HandsOn reply_to after node (place_of n) l token i q o result) told e)))

  -- no text is held
  held_none : (p : ReaderPlace) (k : M) (xs text : List ℕ) (held : ℕ) (q : ReaderPlace) (l : M) (rest : List ℕ) → text ≡ [] → Holds reply_to after foreign p k xs text held q l rest → Holds reply_to after foreign p k xs [] held q l rest
  held_none p k xs text held q l rest e h = subst (λ t. Holds reply_to after foreign p k xs t held q l rest) e h

  pub bare_fails : {H : Type 0} (node : H → ℕ) (p : ReaderPlace) (k : M) (xs text : List ℕ) (held : ℕ) (m n : MachineText) (l o : M) (q : ReaderPlace) (rest name behind_it : List ℕ) (kind : TagKind) (token : TokenText) (line : ℕ) (f : BuildFault)
      → m.at ≡ at.Text (text_state.Text Data) → m.line ≤ 2 ^ 64 - 1 → IsBareTag rest kind name behind_it → n ≡ record m { after_return = false; began = m.line } → token ≡ bare_tag kind name → line ≡ m.began → text ≡ []
      → Holds reply_to after foreign p k xs text held (place_of m) l rest → HandsOn reply_to after node (place_of n) l token line q o (Err f) → Fails reply_to after foreign p k xs o f
  bare_fails node p k xs text held m n l o q rest name behind_it kind token line f in_data fits t new made told none h e =
      bare_leads node p k xs held m n l o q rest name behind_it kind token line (Err f) in_data fits t new made told (held_none p k xs text held (place_of m) l rest none h) e

  pub bare_turns : {H : Type 0} (node : H → ℕ) (p : ReaderPlace) (k : M) (xs text new_text : List ℕ) (held : ℕ) (m n : MachineText) (l o : M) (q : ReaderPlace) (rest name : List ℕ) (behind_it : Bor (List ℕ)) (kind : TagKind) (token : TokenText) (line began : ℕ) (stopped : Option (Stop H))
      → m.at ≡ at.Text (text_state.Text Data) → m.line ≤ 2 ^ 64 - 1 → IsBareTag rest kind name behind_it.now → n ≡ record m { after_return = false; began = m.line } → token ≡ bare_tag kind name → line ≡ m.began → text ≡ [] → new_text ≡ text
      → began ≡ q.began → Holds reply_to after foreign p k xs text held (place_of m) l rest → HandsOn reply_to after node (place_of n) l token line q o (Ok stopped)
      → Makes reply_to after foreign node p k xs new_text began q o (Ok (progress_of stopped behind_it))
  bare_turns node p k xs text new_text held m n l o q rest name behind_it kind token line began stopped in_data fits t new made told none same is_began h e =
      turns reply_to after foreign node p k xs new_text began q o stopped behind_it (same ∙ none) is_began
      (bare_leads node p k xs held m n l o q rest name behind_it.now kind token line (Ok stopped) in_data fits t new made told (held_none p k xs text held (place_of m) l rest none h) e)

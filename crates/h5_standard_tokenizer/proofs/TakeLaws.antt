-- What the machine does with a byte, and with a run, as reading.
use Rattle.std.specs.Borrow.{Bor}
use Rattle.std.proofs.lemmas.Bool.{and_parts, cases_lt, eqb-true}
use Rattle.std.proofs.Common.{◌≡◌, ◌⊎◌, ⊎_elim, inl, inr, ℕ, ◌<◌, ◌≤◌, ◌==◌, ap, arith, drop, slice_index, Bool, true, false, List, [], ◌∷◌, refl, sym, subst, append-nil, ◌∙◌, Result, Ok, Err, Option, Some, None, if◌then◌else◌}
use Rattle.h5_token.specs.TokenText.{TokenText}
use Rattle.h5_token.specs.Reply.{Reply}
use Rattle.h5_token.specs.declared.fault.BuildFault.{BuildFault}
use Rattle.h5_tokenizer_input.specs.declared.stop.Stop.{Stop}
use Rattle.h5_tokenizer_spec.specs.declared.kinds.TextKind.TheVariants.{CdataSection}
use Rattle.h5_tokenizer_spec.specs.ReferenceTable.{references}
use Rattle.h5_tokenizer_spec.specs.States.{Text}
use Rattle.h5_tokenizer_spec.specs.Reading.{ReaderPlace, Passes, passed, drops, goes, again, outcome, is_dropped, behind, in_state}
use Rattle.h5_tokenizer_spec.specs.declared.errors.ParseError.TheVariants.{CdataInHtmlContent}
use Rattle.h5_tokenizer_spec.specs.Lines.{normal}
use Rattle.h5_tokenizer_spec.specs.Machine.{turn}
use Rattle.h5_tokenizer_spec.specs.Turn.{Outcome, Consumed, Emitted, Asks}
use Rattle.h5_tokenizer_states.specs.OutcomeOf.{made_of}
use Rattle.h5_tokenizer_states.specs.StateOf.{state_of}
use Rattle.h5_tokenizer_states.specs.Wide.{takes_wide, IsReconsumed}
use Rattle.h5_tokenizer_states.proofs.WideLaws.{wide_is_reconsumed}
use Rattle.h5_tokenizer_states.specs.MachineText.{MachineText, place_of, Consumes, Drops, Reconsumes, Completes, Wonders, PassesRun, IsQuiet}
use Rattle.h5_tokenizer_states.specs.declared.transition.CurrentToken.{CurrentToken}
use Rattle.h5_standard_tokenizer.specs.Weight.{weight}
use Rattle.h5_standard_tokenizer.specs.Steps.{ReadsOn, Holds, HandsOn, Fails, Leads, Makes, IsLess, progress_of}
use Rattle.h5_standard_tokenizer.specs.declared.steps.Progress.{Progress}
use Rattle.h5_standard_tokenizer.specs.declared.steps.Progress.TheVariants as progress
use Rattle.h5_standard_tokenizer.proofs.WeightLaws.{passes_is_no_more, reconsumed_is_less}
use Rattle.h5_standard_tokenizer.proofs.HoldLaws.{holds_more, holds_none, empty_is_handed_on, token_is_handed_on, node_is_asked_for, leads}

passes_to : {p q r : ReaderPlace} {xs text more ys : List ℕ} → r ≡ q → more ≡ text → Passes references p xs text q ys → Passes references p xs more r ys
passes_to {p} {q} {r} {xs} {text} {more} {ys} e f h = subst (λ s. Passes references p xs more s ys) (sym e) (subst (λ t. Passes references p xs t q ys) (sym f) h)

consumed_passes : {m n : MachineText} {x : ℕ} {old new : List ℕ} (ys : List ℕ) (c : Consumes m x old new n) → Passes references (place_of m) (x ∷ ys) c.text (place_of n) ys
consumed_passes ys c = passes_to c.place (sym (append-nil c.text)) (goes c.text c.state c.not_dropped c.outcome passed)

dropped_passes : {m n : MachineText} {x : ℕ} {old new : List ℕ} (ys : List ℕ) → Drops m x old new n → Passes references (place_of m) (x ∷ ys) [] (place_of n) ys
dropped_passes ys c = passes_to c.place refl (drops c.dropped passed)

reconsumed_passes : {m n : MachineText} {x : ℕ} {old new : List ℕ} (ys : List ℕ) (c : Reconsumes m x old new n) → Passes references (place_of m) (x ∷ ys) c.text (place_of n) (x ∷ ys)
reconsumed_passes ys c = passes_to c.place (sym (append-nil c.text)) (again c.text c.state c.not_dropped c.outcome passed)

reconsumed_weighs_less : {m n : MachineText} {x : ℕ} {old new : List ℕ} (ys : List ℕ) → Reconsumes m x old new n → weight (place_of n) (x ∷ ys) < weight (place_of m) (x ∷ ys)
reconsumed_weighs_less {m} {x} ys c = subst (λ q. weight q (x ∷ ys) < weight (place_of m) (x ∷ ys)) (sym c.place) (reconsumed_is_less (place_of m) x ys c.text c.state c.outcome)

-- a byte was taken, or bytes, and then more
pub took_consumed : (m n : MachineText) (x : ℕ) (old new rest behind_it : List ℕ) → rest ≡ x ∷ drop 1 rest → behind_it ≡ drop 1 rest → Consumes m x old new n ⊎ Drops m x old new n → PassesRun m rest old new n behind_it
took_consumed m n x old new rest behind_it front e (inl c) = record {
  text = c.text;
  passes = subst (λ r. Passes references (place_of m) r c.text (place_of n) behind_it) (sym front) (subst (λ r. Passes references (place_of m) (x ∷ drop 1 rest) c.text (place_of n) r) (sym e) (consumed_passes (drop 1 rest) c));
  put = c.put;
}
took_consumed m n x old new rest behind_it front e (inr c) = record {
  text = [];
  passes = subst (λ r. Passes references (place_of m) r [] (place_of n) behind_it) (sym front) (subst (λ r. Passes references (place_of m) (x ∷ drop 1 rest) [] (place_of n) r) (sym e) (dropped_passes (drop 1 rest) c));
  put = c.put ∙ sym (append-nil old);
}

pub took_reconsumed : (m n : MachineText) (x : ℕ) (old new rest : List ℕ) → rest ≡ x ∷ drop 1 rest → Reconsumes m x old new n → PassesRun m rest old new n rest
took_reconsumed m n x old new rest front c = record {
  text = c.text;
  passes = subst (λ r. Passes references (place_of m) r c.text (place_of n) r) (sym front) (reconsumed_passes (drop 1 rest) c);
  put = c.put;
}

pub passes_less : {m n : MachineText} {xs ys old new : List ℕ} → PassesRun m xs old new n ys → weight (place_of n) ys ≤ weight (place_of m) xs
passes_less c = passes_is_no_more c.passes

module _ {M : Type 0} (reply_to : M → TokenText → Reply) (after : M → TokenText → ℕ → M) (foreign : M → Bool) where
  held_so : {p q : ReaderPlace} {k l : M} {xs text more ys : List ℕ} {line : ℕ} → more ≡ text → Holds reply_to after foreign p k xs text line q l ys → Holds reply_to after foreign p k xs more line q l ys
  held_so {p} {q} {k} {l} {xs} {ys} {line} e h = subst (λ t. Holds reply_to after foreign p k xs t line q l ys) (sym e) h

  holds_consumed : {p : ReaderPlace} {k l : M} {xs ys old new : List ℕ} {line x : ℕ} {m n : MachineText} → Consumes m x old new n
      → Holds reply_to after foreign p k xs old line (place_of m) l (x ∷ ys) → Holds reply_to after foreign p k xs new line (place_of n) l ys
  holds_consumed {ys} c h = held_so c.put (holds_more reply_to after foreign h (consumed_passes ys c))

  holds_dropped : {p : ReaderPlace} {k l : M} {xs ys old new : List ℕ} {line x : ℕ} {m n : MachineText} → Drops m x old new n
      → Holds reply_to after foreign p k xs old line (place_of m) l (x ∷ ys) → Holds reply_to after foreign p k xs new line (place_of n) l ys
  holds_dropped {ys} {old} c h = held_so (c.put ∙ sym (append-nil old)) (holds_more reply_to after foreign h (dropped_passes ys c))

  holds_reconsumed : {p : ReaderPlace} {k l : M} {xs ys old new : List ℕ} {line x : ℕ} {m n : MachineText} → Reconsumes m x old new n
      → Holds reply_to after foreign p k xs old line (place_of m) l (x ∷ ys) → Holds reply_to after foreign p k xs new line (place_of n) l (x ∷ ys)
  holds_reconsumed {ys} c h = held_so c.put (holds_more reply_to after foreign h (reconsumed_passes ys c))

  pub holds_run : {p : ReaderPlace} {k l : M} {xs ys zs old new : List ℕ} {line : ℕ} {m n : MachineText} → PassesRun m ys old new n zs
      → Holds reply_to after foreign p k xs old line (place_of m) l ys → Holds reply_to after foreign p k xs new line (place_of n) l zs
  holds_run c h = held_so c.put (holds_more reply_to after foreign h c.passes)

  -- a token is passed to the sink when no text is held
  token_leads : {H : Type 0} (node : H → ℕ) {p : ReaderPlace} {k l : M} {xs ys old new : List ℕ} {held x line : ℕ} {m n : MachineText} {construct : CurrentToken} (q : ReaderPlace) (o : M) (result : Result (Option (Stop H)) BuildFault)
      → (c : Completes m x old new n construct line) → IsQuiet (outcome references (place_of m) x) ⊎ (old ≡ []) → Holds reply_to after foreign p k xs old held (place_of m) l (x ∷ ys)
      → HandsOn reply_to after node (place_of n) l (made_of construct n.parts) line q o result → Leads reply_to after foreign node p k xs q ys o result
  token_leads node q o result c (inl quiet) h e = absurd (subst IsQuiet c.outcome quiet)
  token_leads node {l} {x} {m} {n} {construct} q o result c (inr none) h e =
      let handed = token_is_handed_on reply_to after foreign (empty_is_handed_on reply_to after foreign none h) c.not_dropped c.outcome in
      leads reply_to after foreign node (behind x (Text c.kind) (place_of m)) q o result handed
      (subst (λ r. HandsOn reply_to after node r l (made_of construct n.parts) (place_of m).began q o result) c.place
      (subst (λ i. HandsOn reply_to after node (place_of n) l (made_of construct n.parts) i q o result) c.line e))

  -- the adjusted current node is checked when no text is held
  question_leads : {p : ReaderPlace} {k l : M} {xs ys old new : List ℕ} {held x : ℕ} {m n : MachineText} (q : ReaderPlace) (there : Bool) → Wonders m x old new n
      → IsQuiet (outcome references (place_of m) x) ⊎ (old ≡ []) → Holds reply_to after foreign p k xs old held (place_of m) l (x ∷ ys)
      → there ≡ foreign l → q ≡ (if there then in_state (Text CdataSection) (place_of n) else place_of n) → ReadsOn reply_to after foreign p k xs q l ys
  question_leads q there c (inl quiet) h e f = absurd (subst IsQuiet c.outcome quiet)
  question_leads {p} {k} {l} {xs} {ys} {x} {m} {n} q true c (inr none) h e f =
      let asked = node_is_asked_for reply_to after foreign (empty_is_handed_on reply_to after foreign none h) c.not_dropped c.outcome in
      subst (λ r. ReadsOn reply_to after foreign p k xs r l ys) (sym (f ∙ ap (in_state (Text CdataSection)) c.place))
      (subst (λ b. ReadsOn reply_to after foreign p k xs (behind x (if b then Text CdataSection else c.elsewhere) (place_of m)) l ys) (sym e) asked)
  question_leads {p} {k} {l} {xs} {ys} {x} {m} {n} q false c (inr none) h e f =
      let asked = node_is_asked_for reply_to after foreign (empty_is_handed_on reply_to after foreign none h) c.not_dropped c.outcome in
      subst (λ r. ReadsOn reply_to after foreign p k xs r l ys) (sym (f ∙ c.place))
      (subst (λ b. ReadsOn reply_to after foreign p k xs (behind x (if b then Text CdataSection else c.elsewhere) (place_of m)) l ys) (sym e) asked)

  -- everything was passed to the sink
  pub none_held : {p q : ReaderPlace} {k n : M} {xs ys text : List ℕ} {line : ℕ} → text ≡ [] → line ≡ q.began → ReadsOn reply_to after foreign p k xs q n ys
      → Holds reply_to after foreign p k xs text line q n ys
  none_held {p} {q} {k} {n} {xs} {ys} e f h = held_so e (subst (λ i. Holds reply_to after foreign p k xs [] i q n ys) (sym f) (holds_none reply_to after foreign h))

  -- a step goes on or stops, as the reply says
  pub turns : {H : Type 0} (node : H → ℕ) (p : ReaderPlace) (k : M) (xs text : List ℕ) (line : ℕ) (q : ReaderPlace) (n : M) (stopped : Option (Stop H)) (rest : Bor (List ℕ))
      → text ≡ [] → line ≡ q.began → Leads reply_to after foreign node p k xs q rest.now n (Ok stopped)
      → Makes reply_to after foreign node p k xs text line q n (Ok (progress_of stopped rest))
  turns node p k xs text line q n None rest e f h = none_held e f h
  turns node p k xs text line q n (Some s) rest e f h = h

  -- What is held, before the first byte of a suffix.
  at_front : (p : ReaderPlace) (k : M) (xs text : List ℕ) (line : ℕ) (q : ReaderPlace) (l : M) (x : ℕ) (rest : List ℕ) → rest ≡ x ∷ drop 1 rest
      → Holds reply_to after foreign p k xs text line q l rest → Holds reply_to after foreign p k xs text line q l (x ∷ drop 1 rest)
  at_front p k xs text line q l x rest front h = subst (λ r. Holds reply_to after foreign p k xs text line q l r) front h

  pub goes_reconsumed : (p : ReaderPlace) (k : M) (xs : List ℕ) (old new : List ℕ) (line : ℕ) (m n : MachineText) (l : M) (x : ℕ) (rest : List ℕ) → rest ≡ x ∷ drop 1 rest
      → Reconsumes m x old new n → Holds reply_to after foreign p k xs old line (place_of m) l rest → Holds reply_to after foreign p k xs new line (place_of n) l rest
  goes_reconsumed p k xs old new line m n l x rest front c h =
      subst (λ r. Holds reply_to after foreign p k xs new line (place_of n) l r) (sym front) (holds_reconsumed c (at_front p k xs old line (place_of m) l x rest front h))

  pub goes_consumed : (p : ReaderPlace) (k : M) (xs : List ℕ) (old new : List ℕ) (line : ℕ) (m n : MachineText) (l : M) (x : ℕ) (rest behind_it : List ℕ) → rest ≡ x ∷ drop 1 rest → behind_it ≡ drop 1 rest
      → Consumes m x old new n ⊎ Drops m x old new n → Holds reply_to after foreign p k xs old line (place_of m) l rest → Holds reply_to after foreign p k xs new line (place_of n) l behind_it
  goes_consumed p k xs old new line m n l x rest behind_it front e (inl c) h =
      subst (λ r. Holds reply_to after foreign p k xs new line (place_of n) l r) (sym e) (holds_consumed c (at_front p k xs old line (place_of m) l x rest front h))
  goes_consumed p k xs old new line m n l x rest behind_it front e (inr c) h =
      subst (λ r. Holds reply_to after foreign p k xs new line (place_of n) l r) (sym e) (holds_dropped c (at_front p k xs old line (place_of m) l x rest front h))

  -- no text was held, so none is
  held_none : (m n : MachineText) (x : ℕ) (old new : List ℕ) → new ≡ old → (IsQuiet (outcome references (place_of m) x) → ⊥) → IsQuiet (outcome references (place_of m) x) ⊎ (old ≡ []) → new ≡ []
  held_none m n x old new put loud (inl quiet) = absurd (loud quiet)
  held_none m n x old new put loud (inr none) = put ∙ none

  pub token_fails : {H : Type 0} (node : H → ℕ) (p : ReaderPlace) (k : M) (xs old new : List ℕ) (held : ℕ) (m n : MachineText) (l o : M) (q : ReaderPlace) (x line : ℕ) (rest : List ℕ) (construct : CurrentToken) (f : BuildFault)
      → rest ≡ x ∷ drop 1 rest → (c : Completes m x old new n construct line) → (is_dropped (place_of m) x ≡ false → IsQuiet (outcome references (place_of m) x) ⊎ (old ≡ []))
      → Holds reply_to after foreign p k xs old held (place_of m) l rest
      → HandsOn reply_to after node (place_of n) l (made_of construct n.parts) line q o (Err f) → Fails reply_to after foreign p k xs o f
  token_fails node p k xs old new held m n l o q x line rest construct f front c quiet h e =
      token_leads node q o (Err f) c (quiet c.not_dropped) (at_front p k xs old held (place_of m) l x rest front h) e

  pub token_turns : {H : Type 0} (node : H → ℕ) (p : ReaderPlace) (k : M) (xs old new : List ℕ) (held : ℕ) (m n : MachineText) (l o : M) (q : ReaderPlace) (x line began : ℕ) (rest : List ℕ) (behind_it : Bor (List ℕ)) (construct : CurrentToken) (stopped : Option (Stop H))
      → rest ≡ x ∷ drop 1 rest → behind_it.now ≡ drop 1 rest → (c : Completes m x old new n construct line) → (is_dropped (place_of m) x ≡ false → IsQuiet (outcome references (place_of m) x) ⊎ (old ≡ []))
      → began ≡ q.began → Holds reply_to after foreign p k xs old held (place_of m) l rest
      → HandsOn reply_to after node (place_of n) l (made_of construct n.parts) line q o (Ok stopped)
      → Makes reply_to after foreign node p k xs new began q o (Ok (progress_of stopped behind_it))
  token_turns node p k xs old new held m n l o q x line began rest behind_it construct stopped front e c quiet f h handed =
      turns node p k xs new began q o stopped behind_it
      (held_none m n x old new c.put (λ loud. subst IsQuiet c.outcome loud) (quiet c.not_dropped)) f
      (subst (λ r. Leads reply_to after foreign node p k xs q r o (Ok stopped)) (sym e)
      (token_leads node q o (Ok stopped) c (quiet c.not_dropped) (at_front p k xs old held (place_of m) l x rest front h) handed))

  pub question_turns : (p : ReaderPlace) (k : M) (xs old new : List ℕ) (held : ℕ) (m n : MachineText) (l : M) (q : ReaderPlace) (x began : ℕ) (rest behind_it : List ℕ) (there : Bool)
      → rest ≡ x ∷ drop 1 rest → behind_it ≡ drop 1 rest → (c : Wonders m x old new n) → (is_dropped (place_of m) x ≡ false → IsQuiet (outcome references (place_of m) x) ⊎ (old ≡ []))
      → there ≡ foreign l → q ≡ (if there then in_state (Text CdataSection) (place_of n) else place_of n) → began ≡ q.began
      → Holds reply_to after foreign p k xs old held (place_of m) l rest → Holds reply_to after foreign p k xs new began q l behind_it
  question_turns p k xs old new held m n l q x began rest behind_it there front e c quiet b f i h =
      held_so (held_none m n x old new c.put (λ loud. subst IsQuiet c.outcome loud) (quiet c.not_dropped))
      (subst (λ j. Holds reply_to after foreign p k xs [] j q l behind_it) (sym i)
      (holds_none reply_to after foreign
      (subst (λ r. ReadsOn reply_to after foreign p k xs q l r) (sym e) (question_leads q there c (quiet c.not_dropped) (at_front p k xs old held (place_of m) l x rest front h) b f))))

pub reconsumed_is_less_at : (m n : MachineText) (x : ℕ) (old new rest : List ℕ) → rest ≡ x ∷ drop 1 rest → Reconsumes m x old new n → weight (place_of n) rest < weight (place_of m) rest
reconsumed_is_less_at m n x old new rest front c = subst (λ r. weight (place_of n) r < weight (place_of m) r) (sym front) (reconsumed_weighs_less (drop 1 rest) c)

-- a byte that isn't reconsumed is ASCII
pub normal_wide : (x : ℕ) → 128 ≤ x → normal x ≡ x
normal_wide x w = grind arith

ascii_by : (wide : Bool) (m : MachineText) (x : ℕ) (d : Outcome) → takes_wide m.at ≡ wide → (takes_wide m.at ≡ true → x < 128) → outcome references (place_of m) x ≡ d → (IsReconsumed d → ⊥) → 128 ≤ x → x < 128
ascii_by true m x d h narrow e not w = narrow h
ascii_by false m x d h narrow e not w =
    let same = ap (λ y. (turn references m.last (state_of m.at m.parts) y).outcome) (normal_wide x w) in
    absurd (not (subst IsReconsumed (sym same ∙ e) (wide_is_reconsumed m.last m.at m.parts x h w)))

taken_is_ascii : (m : MachineText) (x : ℕ) (d : Outcome) → (takes_wide m.at ≡ true → x < 128) → outcome references (place_of m) x ≡ d → (IsReconsumed d → ⊥) → x < 128
taken_is_ascii m x d narrow e not = ⊎_elim (λ lt. lt) (λ le. ascii_by (takes_wide m.at) m x d refl narrow e not le) (cases_lt x 128)

pub consumed_is_ascii : (m n : MachineText) (x : ℕ) (old new : List ℕ) → (takes_wide m.at ≡ true → x < 128) → Consumes m x old new n ⊎ Drops m x old new n → x < 128
consumed_is_ascii m n x old new narrow (inl c) = taken_is_ascii m x (Consumed c.text c.state) narrow c.outcome (λ h. h)
consumed_is_ascii m n x old new narrow (inr c) = omega (arith, eqb-true x 10 (and_parts m.after_return (x == 10) c.dropped).1)

pub completed_is_ascii : (m n : MachineText) (x : ℕ) (old new : List ℕ) (construct : CurrentToken) (line : ℕ) → (takes_wide m.at ≡ true → x < 128) → Completes m x old new n construct line → x < 128
completed_is_ascii m n x old new construct line narrow c = taken_is_ascii m x (Emitted (made_of construct n.parts) (Text c.kind)) narrow c.outcome (λ h. h)

pub wondered_is_ascii : (m n : MachineText) (x : ℕ) (old new : List ℕ) → (takes_wide m.at ≡ true → x < 128) → Wonders m x old new n → x < 128
wondered_is_ascii m n x old new narrow c = taken_is_ascii m x (Asks (Text CdataSection) CdataInHtmlContent c.elsewhere) narrow c.outcome (λ h. h)

pub front_is_ascii : (x : ℕ) (rest : List ℕ) → rest ≡ x ∷ drop 1 rest → x < 128 → slice_index rest 0 < 128
front_is_ascii x rest front small = rw front small

pub less_behind_run : {H : Type 0} (m n : MachineText) (xs ys old new : List ℕ) (q : ReaderPlace) (result : Result (Progress H) BuildFault) → PassesRun m xs old new n ys
    → IsLess (place_of n) ys q result → IsLess (place_of m) xs q result
less_behind_run m n xs ys old new q (Ok (progress.GoesOn rest)) c h = omega (arith, h, passes_is_no_more c.passes)
less_behind_run m n xs ys old new q (Ok (progress.Stops s rest)) c h = tt
less_behind_run m n xs ys old new q (Err f) c h = tt
